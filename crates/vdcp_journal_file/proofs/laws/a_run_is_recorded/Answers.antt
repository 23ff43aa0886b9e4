use Rattle.std.proofs.Common.{◌≡◌, List, [], ◌∷◌, ◌++◌, ap, refl, subst, ◌∙◌}
use Rattle.std.specs.Prelude.{Option}
use Rattle.vdcp_drive.specs.Hooked.{MayKeep}
use Rattle.vdcp_drive.specs.Keeping.{KeepsRun}
use Rattle.vdcp_drive.specs.Leaves.{steps_in}
use Rattle.vdcp_drive.specs.Steps.{Chain, Step, keeps}
use Rattle.vdcp_drive.specs.Traces.{kept_in}
use Rattle.vdcp_drive.specs.declared.hooks.Kept.{Kept}
use Rattle.vdcp_journal_file.proofs.Chains.{rows_at, run_is_recorded, waits_at}
use Rattle.vdcp_journal_file.proofs.Hooked.{all_kept, keeps_by_one, keeps_none, notes_happen}
use Rattle.vdcp_journal_file.proofs.laws.a_run_is_recorded.Goals as goal
use Rattle.vdcp_journal_file.specs.Recorded.{Loses, Notes, recorder_rules}
use Rattle.vdcp_journal_file.specs.Recording.{Recording}

kept_both : (xs ys : List Step) → kept_in (xs ++ ys) ≡ kept_in xs ++ kept_in ys
kept_both [] ys = refl
kept_both (keeps r ∷ xs) ys = ap (λ (l : List Kept). r ∷ l) (kept_both xs ys)
kept_both (x ∷ xs) ys = kept_both xs ys

pub returns-clause-recorded : goal.returns-clause-recorded
returns-clause-recorded g c plan unit count a b old new answer h before is few =
    let safe = g.F.Disk.safe in
    let told = g.W.Wire.told in
    let fold = g.E.Ear.fold in
    let notes = kept_in (steps_in h.run) in
    let keeps = c.what_a_run_keeps.ensures plan unit count a b old new answer h in
    let kept = keeps_by_one (Notes safe) (Loses safe) told fold plan unit a b old.wire new.wire answer before old.keep
    new.keep h.run.events notes is keeps in (
      kept.0,
      kept.1,
      run_is_recorded safe told fold plan unit a b old.wire new.wire answer before kept.0 h.run.events notes few kept.2,
    )

pub returns-clause-unrecorded : goal.returns-clause-unrecorded
returns-clause-unrecorded g c plan unit count a b old new answer h is =
    let safe = g.F.Disk.safe in
    let keeps = c.what_a_run_keeps.ensures plan unit count a b old new answer h in
    keeps_none (Notes safe) (Loses safe) answer (kept_in (steps_in h.run)) old.keep new.keep is keeps.noted

pub returns-clause-moments : goal.returns-clause-moments
returns-clause-moments g c some old moment happened kept before is may =
    let safe = g.F.Disk.safe in
    let all = all_kept (Notes safe) (kept_in some) before moment.keep
    (subst (λ (o : Option (Recording _)). Chain (MayKeep (Notes safe)) (kept_in some) o moment.keep) is
    (notes_happen (recorder_rules g.W.Wire.does safe) (λ state next before after is. is) some old moment kept happened)) in
    let rows = rows_at safe (kept_in some) before all.0 may all.2 in
    (all.0, rows.0, all.1, rows.1)

pub returns-clause-waits : goal.returns-clause-waits
returns-clause-waits g c plan unit count a b old new moment answer some more h is_steps happened kept idle before is may =
    let safe = g.F.Disk.safe in
    let told = g.W.Wire.told in
    let fold = g.E.Ear.fold in
    let all = all_kept (Notes safe) (kept_in some) before moment.keep
    (subst (λ (o : Option (Recording _)). Chain (MayKeep (Notes safe)) (kept_in some) o moment.keep) is
    (notes_happen (recorder_rules g.W.Wire.does safe) (λ state next before after is. is) some old moment kept happened)) in
    let run = keeps_by_one (Notes safe) (Loses safe) told fold plan unit a b old.wire new.wire answer before old.keep
    new.keep h.run.events (kept_in (steps_in h.run)) is (c.what_a_run_keeps.ensures plan unit count a b old new answer h) in
    let w = waits_at safe told fold plan unit a b old.wire new.wire answer before run.0 all.0 h.run.events (kept_in some)
    (kept_in more) may idle
    (subst (KeepsRun (Notes safe) (Loses safe) told fold plan unit a b old.wire new.wire answer before run.0 h.run.events)
    (ap kept_in is_steps ∙ kept_both some more) run.2) all.2 in
    (all.0, w.0, all.1, w.1, w.2)
