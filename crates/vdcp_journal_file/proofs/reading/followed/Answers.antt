use Rattle.std.proofs.Common.{length, subst}
use Rattle.vdcp_journal_file.proofs.RowSteps.{first_to_fall, refused_on}
use Rattle.vdcp_journal_file.proofs.reading.followed.Goals as goal
use Rattle.vdcp_journal_file.specs.Resuming.{IsMadeOrRefused, falls, plan_begun}

pub returns-in-Ok-follow : goal.returns-in-Ok-follow
returns-in-Ok-follow g c = λ heading list run number is.
    let made = subst (IsMadeOrRefused (λ s. g.S.Source.items s.now) heading list run) c.in-Ok.is is in
    (made.0, made.1, made.2, c.in-Ok-follow.ensures.stands _ _ _ made.3)

pub returns-in-Err-follow : goal.returns-in-Err-follow
returns-in-Err-follow g c = λ heading list run number is.
    let made = subst (IsMadeOrRefused (λ s. g.S.Source.items s.now) heading list run) c.in-Ok.is is in
    falls (length run.rows) c.in-Err-follow.fault
    (first_to_fall (plan_begun heading list run) run.rows c.args.row.now c.in-Err-follow.fault made.3.stand
    (c.in-Err-follow.ensures.falls _ _ _ made.3) c.in-Err-follow.ensures.fault)
    (let wrong = c.standing_fault.ensures in cc)

pub returns-in-Err : goal.returns-in-Err
returns-in-Err g c = λ heading list run number is.
    refused_on list heading run c.args.row.now c.in-Err.why
    (subst (IsMadeOrRefused (λ s. g.S.Source.items s.now) heading list run) c.in-Err.is is)
