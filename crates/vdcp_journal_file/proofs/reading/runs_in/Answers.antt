use Rattle.std.proofs.Common.{ℕ, ap, append-nil, ◌≡◌, ◌+◌, ◌<◌, ◌^◌, Bool, List, [], ◌∷◌, ◌++◌, arith, length, length-append, refl, subst, sym, ◌∙◌}
use Rattle.std.specs.Prelude.{None, Option, Some}
use Rattle.vdcp_auto.specs.declared.exchange.Heard.{Heard}
use Rattle.vdcp_auto.specs.declared.list_call.ListCall.{ListCall}
use Rattle.vdcp_journal.specs.ListCalls.{list_calls_of}
use Rattle.vdcp_journal.specs.Runs.{Run, ended_in, ended_runs, last_run, leaves, run_after, runs_of}
use Rattle.vdcp_journal.specs.Thinned.{heard_after}
use Rattle.vdcp_journal.specs.declared.faults.JournalReadFault.TheVariants as unread
use Rattle.vdcp_journal.specs.declared.row.Row.{Row}
use Rattle.vdcp_journal_file.proofs.RowSteps.{calls_more, found_next, heard_more, last_of, shows_more, some_rows}
use Rattle.vdcp_journal_file.proofs.reading.runs_in.Goals as goal
use Rattle.vdcp_journal_file.proofs.reading.runs_in.Goals.{in-Some+in_ok-runs-in-Some, in-None+in_ok-run-in-None}
use Rattle.vdcp_journal_file.specs.Resuming.{RunShows, no_journal}

pub loop-read-init : goal.loop-read-init
loop-read-init g c = (
  [],
  refl,
  λ file took. took,
  c.new-run.ensures (last_run []) refl refl refl,
  (refl, refl, c.new-calls.ensures.items),
  rw c.new-runs.ensures.items tt,
  refl,
)

pub next_row-requires : goal.next_row-requires
next_row-requires g c = (c.loop-read.invariant.2 c.requires.begun.0 c.requires.begun.1).reading

pub returns-in-Ok-None-clause-found : goal.returns-in-Ok-None-clause-found
returns-in-Ok-None-clause-found g c = λ file took.
    let rows : List Row = c.loop-read.invariant.0 in
    let stays = c.runs_follow_one_another.ensures.stays rows in
    record {
      journal = record { time = c.loop-read.rows.time; heading = c.loop-read.rows.heading; rows = rows };
      reads = rw c.in-Ok-None.field-0-is at (c.in-Ok-None.ensures.all file rows (c.loop-read.invariant.2 file took));
      read_is = c.loop-read.invariant.6;
      show = c.in_ok-runs-in-Ok-None.ensures.ended _ _ (runs_of rows)
          (rw (c.in_ok-with_run-in-Ok-None.ensures.runs, c.runs_follow_one_another.ensures.all rows)
          (shows_more _ c.args.heading.now (ended_in rows) c.loop-read.runs.items (last_run rows) c.end-found.result.0
          c.loop-read.invariant.5
          (subst (λ (b : Bool). RunShows (g.S.Source.items c.args.source.now) c.args.heading.now (record (last_run rows) { left = b })
          None c.end-found.result.0) (sym stays)
          (c.end-found.ensures.shows c.args.heading.now _ (last_run rows) c.loop-read.invariant.3))));
      goes_on = c.end-found.ensures.goes_on c.args.heading.now _ (last_run rows) c.loop-read.invariant.3 stays;
      noted_is = c.loop-read.invariant.4.0;
      heard_is = c.loop-read.invariant.4.1;
      calls_are = c.loop-read.invariant.4.2;
    }

pub returns-in-Err-clause-refused : goal.returns-in-Err-clause-refused
returns-in-Err-clause-refused g c = λ file took wanted.
    no_journal c.in-Err.fault (c.in-Err.ensures.refused file c.loop-read.invariant.0 (c.loop-read.invariant.2 file took)) c.read_refusal.ensures

pub loop-read-preserved : goal.loop-read-preserved
loop-read-preserved g c =
    let rows : List Row = c.loop-read.invariant.0 in
    let row : Row = c.in-Ok-Some.row in
    let run : Run = last_run rows in
    let few : c.loop-read.read + 1 < 2 ^ 64 = omega arith in
    let count : run.begin + length run.rows ≡ c.loop-read.read =
    c.runs_follow_one_another.ensures.counts rows ∙ c.loop-read.invariant.1 in
    let next = c.runs_follow_one_another.ensures.goes_on rows row in
    let ends = c.runs_follow_one_another.ensures.ends rows row in (
      rows ++ row ∷ [],
      omega (arith, length-append rows (row ∷ []), c.loop-read.invariant.1),
      λ file took. rw c.in-Ok-Some.field-0-is at (c.in-Ok-Some.ensures.row file rows (c.loop-read.invariant.2 file took)),
      elim c.match-begins_at.branch [
        | in-Some+in_ok-runs-in-Some w ↦ rw w.run-is (found_next (λ s. g.S.Source.items s.now) c.args.heading.now _ rows row _ (Some _) next
            (sym c.begins_at.ensures ∙ w.in-Some.is)
            (w.new-run-in-Some.ensures (run_after (Some _) row run) refl refl (omega (arith, count))))
        | in-None+in_ok-run-in-None w ↦ rw w.run-is (found_next (λ s. g.S.Source.items s.now) c.args.heading.now _ rows row _ None next
            (sym c.begins_at.ensures ∙ w.in-None.is)
            (w.in_ok-run-in-None.ensures c.args.heading.now _ run (omega (arith, count)) c.loop-read.invariant.3))
      ],
      (
        sym (last_of rows row),
        c.heard_after-heard.ensures ∙ ap (λ (h : Option Heard). heard_after h row.note) c.loop-read.invariant.4.1
            ∙ sym (heard_more rows row),
        c.in_ok-add_call.ensures ∙ ap (λ (l : List ListCall). l ++ list_calls_of row.note) c.loop-read.invariant.4.2
            ∙ sym (calls_more rows row),
      ),
      elim c.match-begins_at.branch [
        | in-Some+in_ok-runs-in-Some w ↦ rw (
          w.runs-is,
          ends ∙ ap (λ (o : Option ℕ). ended_in rows ++ ended_runs o (leaves row.note) run) (sym c.begins_at.ensures ∙ w.in-Some.is),
          w.in_ok-runs-in-Some.ensures.runs,
          sym w.leaves.ensures,
        ) (shows_more _ c.args.heading.now (ended_in rows) c.loop-read.runs.items _ w.end-found-in-Some.result.0 c.loop-read.invariant.5
            (w.end-found-in-Some.ensures.shows c.args.heading.now _ run c.loop-read.invariant.3))
        | in-None+in_ok-run-in-None w ↦ rw (
          w.runs-is,
          ends ∙ ap (λ (o : Option ℕ). ended_in rows ++ ended_runs o (leaves row.note) run) (sym c.begins_at.ensures ∙ w.in-None.is)
              ∙ append-nil (ended_in rows),
        ) c.loop-read.invariant.5
      ],
      c.next_row.ensures.heading ∙ c.loop-read.invariant.6,
    )

pub returns-clause-refused : goal.returns-clause-refused
returns-clause-refused g c = λ file took wanted. no_journal unread.Device (some_rows file) refl
