use Rattle.std.proofs.Common.{ℕ, ◌≡◌, ◌-◌, List, [], ◌∷◌, ◌++◌, ap, ap₂, append_assoc, append-nil, map, refl, subst, sym, take, ◌∙◌}
use Rattle.std.proofs.lemmas.List.{reverse-append}
use Rattle.std.specs.Option.{option_or}
use Rattle.std.specs.Prelude.{Option, Some}
use Rattle.vdcp_journal.specs.Airings.{end_in, ended_by}
use Rattle.vdcp_journal.specs.Runs.{Run}
use Rattle.vdcp_journal.specs.declared.row.Row.{Row}
use Rattle.vdcp_journal_file.proofs.RowSteps.{behind_is, shows_ended, shows_fewer, shows_none}
use Rattle.vdcp_journal_file.proofs.reading.with_ends.Goals as goal
use Rattle.vdcp_journal_file.specs.Resuming.{EachShowsAlone, RunsShow, rows_behind}
use Rattle.vdcp_journal_file.specs.declared.reading.RunAirings.{RunAirings}

pub loop-run-preserved : goal.loop-run-preserved
loop-run-preserved c = λ items heading all alone.
    let (front, rest, is, shows, ends, next_is, end_is) = c.loop-run.invariant items heading all alone in
    let last : RunAirings = c.in-Some.run' in
    let (before, run, front_is, others, shown) = shows_fewer items heading front c.pop.new.self.items last
    (subst (λ (l : List RunAirings). EachShowsAlone items heading front l) c.in-Some.ensures.items shows) in
    let behind = behind_is items heading run last rest c.loop-run.next c.loop-run.end c.end_behind-behind.result shown next_is
    end_is c.end_behind-behind.ensures.none c.end_behind-behind.ensures.behind in (
      before,
      run ∷ rest,
      is ∙ ap (λ (rs : List Run). rs ++ rest) front_is ∙ append_assoc before (run ∷ []) rest,
      others,
      rw (c.in_ok-ended.ensures.runs, reverse-append c.loop-run.ended.items (record last { airings = c.end_all.new.airings } ∷ [])) (
        shows_ended items heading run (end_in (rows_behind run rest)) last _ shown
            (c.end_all.ensures ∙ ap (λ (e : Option Row). map (ended_by e) last.airings.items) behind) refl,
        ends,
      ),
      ap Some shown.from_is,
      c.or-end.ensures ∙ ap₂ option_or shown.first_end_is behind,
    )

pub returns-clause-ended : goal.returns-clause-ended
returns-clause-ended c = λ items heading all alone.
    let (front, rest, is, shows, ends, next_is, end_is) = c.loop-run.invariant items heading all alone in
    let empty : c.loop-run.runs.items ≡ [] = c.in_default.ensures.items ∙ append-nil c.pop.new.self.items ∙ c.in_default.ensures.rest
    ∙ ap (λ (n : ℕ). take (n - 1) c.loop-run.runs.items) c.in_default.ensures.cases.0 in
    let none = shows_none items heading front (subst (λ (l : List RunAirings). EachShowsAlone items heading front l) empty shows) in
    subst (λ (rs : List Run). RunsShow items heading rs c.reverse.new.self.items)
    (sym (is ∙ ap (λ (rs : List Run). rs ++ rest) none)) (rw c.reverse.ensures.items ends)
