use Rattle.std.proofs.Common.{refl, subst}
use Rattle.std.proofs.lemmas.Result.{IfOk-weaker}
use Rattle.std.specs.Prelude.{Some}
use Rattle.vdcp_run.proofs.Begun.{begun_new, begun_older, both}
use Rattle.vdcp_run.proofs.begin.begin_kept.Goals as goal
use Rattle.vdcp_run.specs.Asking.{start_of}
use Rattle.vdcp_journal_file.specs.Resuming.{JournalShows}
use Rattle.vdcp_run.specs.Run.{IsAgain}
use Rattle.vdcp_run.specs.declared.settings.RunJournal.TheVariants as journals

pub returns-in-New-clause-begun : goal.returns-in-New-clause-begun
returns-in-New-clause-begun g c =
    rw c.in-New.is
    (IfOk-weaker c.begin_new.result _ _ (λ r e. begun_new (λ s. g.S.Source.items s.now) c.args.source c.args.settings
    (Some (journals.New c.in-New.name)) r.0.controller r.0.recorder e.0 c.requires.some c.requires.few c.requires.listed
    ((refl, refl, refl), e.1)) (both c.begin_new.result _ _ c.begin_new.ensures.controller c.begin_new.ensures.from))

pub returns-in-Ok-clause-begun : goal.returns-in-Ok-clause-begun
returns-in-Ok-clause-begun g c =
    rw c.in-Older.is
    (begun_older (g.S.Source.items c.args.source.now) c.args.settings c.in-Older.name c.in_ok-heading.heading
    (start_of (λ s. g.S.Source.items s.now) c.in-Ok.begun.controller) c.in-Ok.begun.recorder c.requires.some
    c.in_ok-heading.ensures.heading c.in-Ok.ensures.resumed)

pub returns-in-Again-clause-begun : goal.returns-in-Again-clause-begun
returns-in-Again-clause-begun g c =
    let again : IsAgain c.args.journal = rw c.in-Again.is tt in c.begin_after.ensures.begun again

pub returns-in-Left-clause-begun : goal.returns-in-Left-clause-begun
returns-in-Left-clause-begun g c =
    let again : IsAgain c.args.journal = rw c.in-Left.is tt in c.begin_after-in-Left.ensures.begun again

pub returns-in-Again-clause-refused : goal.returns-in-Again-clause-refused
returns-in-Again-clause-refused g c =
    let again : IsAgain c.args.journal = rw c.in-Again.is tt in c.begin_after.ensures.refused again

pub returns-in-Left-clause-refused : goal.returns-in-Left-clause-refused
returns-in-Left-clause-refused g c =
    let again : IsAgain c.args.journal = rw c.in-Left.is tt in c.begin_after-in-Left.ensures.refused again

pub returns-in-New-clause-calls : goal.returns-in-New-clause-calls
returns-in-New-clause-calls g c = rw c.in-New.is c.begin_new.ensures.calls

pub returns-in-Ok-clause-calls : goal.returns-in-Ok-clause-calls
returns-in-Ok-clause-calls g c =
    let items = g.S.Source.items c.args.source.now in
    let begun = c.in-Ok.begun in
    let shown = c.in-Ok.ensures.shows in
    rw c.in-Older.is (
      shown.0,
      begun.runs.items,
      subst (λ heading. JournalShows items heading shown.0 begun.runs.items begun.calls.items)
          c.in_ok-heading.ensures.heading shown.1,
    )

pub returns-in-Again-clause-calls : goal.returns-in-Again-clause-calls
returns-in-Again-clause-calls g c =
    let again : IsAgain c.args.journal = rw c.in-Again.is tt in c.begin_after.ensures.calls again

pub returns-in-Left-clause-calls : goal.returns-in-Left-clause-calls
returns-in-Left-clause-calls g c =
    let again : IsAgain c.args.journal = rw c.in-Left.is tt in c.begin_after-in-Left.ensures.calls again
