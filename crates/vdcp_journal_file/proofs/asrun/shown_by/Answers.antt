use Rattle.std.proofs.Common.{◌≡◌, List, subst, sym, ◌∙◌}
use Rattle.std.specs.Prelude.{IfSome}
use Rattle.vdcp_auto.specs.declared.list_call.ListCall.{ListCall}
use Rattle.vdcp_journal.specs.Runs.{Run, runs_of}
use Rattle.vdcp_journal.specs.declared.row.Heading.{Heading}
use Rattle.vdcp_journal_file.proofs.Shown.{parted, shows_all, shows_first, shows_next}
use Rattle.vdcp_journal_file.proofs.asrun.shown_by.Goals as goal
use Rattle.vdcp_journal_file.specs.Resuming.{RunsShow}
use Rattle.vdcp_journal_file.specs.Showing.{AreShown, ShowsSoFar}

pub loop-rest-init : goal.loop-rest-init
loop-rest-init g c =
    let found = c.in_ok-found.ensures.found _ c.in-Ok.ensures.begun in
    let same : c.in-Ok.rows.heading ≡ found.journal.heading = sym found.read_is in (
      found.journal,
      found.reads,
      subst (λ (h : Heading). IfSome c.args.digest (λ known. h.digest ≡ known)) same c.in_ok-expect.ensures.digest,
      runs_of found.journal.rows,
      rw c.as_slice-rest.ensures.value (subst (λ (h : Heading). RunsShow (g.S.Source.items c.args.events.now) h (runs_of found.journal.rows)
          c.in_ok-found.found.runs.items) same found.show),
      c.as_slice-calls.ensures.value ∙ found.calls_are,
      shows_first c.args.settings _ found.journal.heading c.as_slice-calls.result.now (runs_of found.journal.rows) c.in_ok-shown.shown c.in_ok-shown.ensures.text
          c.in_ok-shown.ensures.told c.in_ok-shown.ensures.unsure,
    )

pub add_run-requires : goal.add_run-requires
add_run-requires g c =
    let (journal, reads, of_list, rest, shows, calls_are, so_far) = c.loop-rest.invariant in
    let (run, runs, is, on) = parted _ journal.heading rest c.loop-rest.rest.now c.run-item.result shows c.in-len1-up.len_at_least
    c.run-item.is in
    (journal.heading, run, runs, on)

pub loop-rest-preserved : goal.loop-rest-preserved
loop-rest-preserved g c =
    let (journal, reads, of_list, rest, shows, calls_are, so_far) = c.loop-rest.invariant in
    let (run, runs, is, on) = parted _ journal.heading rest c.loop-rest.rest.now c.run-item.result shows c.in-len1-up.len_at_least
    c.run-item.is in (
      journal,
      reads,
      of_list,
      runs,
      on.1,
      calls_are,
      shows_next c.args.settings _ journal.heading c.as_slice-calls.result.now (runs_of journal.rows) run runs c.loop-rest.shown _
          (subst (λ (rs : List Run). ShowsSoFar c.args.settings (g.S.Source.items c.args.events.now) journal.heading
          c.as_slice-calls.result.now (runs_of journal.rows) rs c.loop-rest.shown) is so_far)
          (c.in_ok-add_run.ensures journal.heading run runs on),
    )

pub returns : goal.returns
returns g c =
    let (journal, reads, of_list, rest, shows, calls_are, so_far) = c.loop-rest.invariant in
    record {
      journal = journal;
      reads = reads;
      of_list = of_list;
      show = subst (λ (l : List ListCall). AreShown c.args.settings (g.S.Source.items c.args.events.now) journal.heading l
          (runs_of journal.rows) c.loop-rest.shown.text.items c.loop-rest.shown.told.items) calls_are
          (shows_all c.args.settings _ journal.heading c.as_slice-calls.result.now (runs_of journal.rows) rest c.loop-rest.rest.now
          c.loop-rest.shown so_far c.in_default.len_below shows);
    }
