use Rattle.std.proofs.Common.{refl, subst}
use Rattle.vdcp_journal_file.proofs.RowSteps.{runs_on, stands_so, stood_so}
use Rattle.vdcp_journal_file.proofs.reading.resumed.Goals as goal
use Rattle.vdcp_journal_file.specs.Resuming.{IsMadeOrRefused}

pub returns-in-Ok-clause-goes_on : goal.returns-in-Ok-clause-goes_on
returns-in-Ok-clause-goes_on g c = λ heading list run unsettled is found.
    let made = subst (IsMadeOrRefused (λ s. g.S.Source.items s.now) heading list run) c.in-Ok.is is in (
      runs_on (λ s. g.S.Source.items s.now) heading list run c.in-Ok.run' _ _ _ c.what_is_told_is_lawful.ensures.lawful made
          c.resume-resumed.ensures.controller c.resume-resumed.ensures.«open» found,
      stood_so (λ s. g.S.Source.items s.now) heading list run c.in-Ok.run' _ _ made c.resume-resumed.ensures.controller
          c.resume-resumed.ensures.stood c.resume-resumed.ensures.can_stand,
    )

pub returns-in-Ok-clause-ends : goal.returns-in-Ok-clause-ends
returns-in-Ok-clause-ends g c = λ heading list run is.
    let made = subst (IsMadeOrRefused (λ s. g.S.Source.items s.now) heading list run) c.in-Ok.is is in
    stands_so (λ s. g.S.Source.items s.now) heading list run _ _ _ _ _
    (runs_on (λ s. g.S.Source.items s.now) heading list run c.in-Ok.run' _ _ _ c.what_is_told_is_lawful.ensures.lawful made
    c.resume-resumed.ensures.controller c.resume-resumed.ensures.«open» refl)
    c.first_left.ensures.first c.first_left.ensures.within c.outcome.ensures

pub returns-in-Err-clause-goes_on : goal.returns-in-Err-clause-goes_on
returns-in-Err-clause-goes_on g c = λ heading list run unsettled is found.
    subst (IsMadeOrRefused (λ s. g.S.Source.items s.now) heading list run) c.in-Err.is is

pub returns-in-Err-clause-ends : goal.returns-in-Err-clause-ends
returns-in-Err-clause-ends g c = λ heading list run is.
    subst (IsMadeOrRefused (λ s. g.S.Source.items s.now) heading list run) c.in-Err.is is
