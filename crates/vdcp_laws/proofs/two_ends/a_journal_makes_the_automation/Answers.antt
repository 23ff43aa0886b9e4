use Rattle.std.proofs.Common.{◌∙◌}
use Rattle.vdcp_laws.proofs.Killed.{made, played_noted}
use Rattle.vdcp_laws.proofs.Logging.{rows_show}
use Rattle.vdcp_laws.proofs.Noted.{noted_at}
use Rattle.vdcp_laws.proofs.two_ends.a_journal_makes_the_automation.Goals as goal

pub returns-clause-makes : goal.returns-clause-makes
returns-clause-makes c = λ plan port asked e all rows can j noted thin.
    let rows_of = made (c.two_ends_are_a_late_channel.ensures.ends plan port asked e can j) all noted in
    c.a_thinned_journal_makes_the_same.ensures.makes plan all rows thin rows_of.0 ∙ rows_of.1

pub returns-clause-told : goal.returns-clause-told
returns-clause-told c = λ plan port asked e all rows can j noted thin.
    c.a_thinned_journal_makes_the_same.ensures.told plan all rows thin
    (made (c.two_ends_are_a_late_channel.ensures.ends plan port asked e can j) all noted).0

pub returns-clause-shows : goal.returns-clause-shows
returns-clause-shows c = rows_show

pub returns-clause-announced : goal.returns-clause-announced
returns-clause-announced c = played_noted

pub returns-clause-kept : goal.returns-clause-kept
returns-clause-kept c = noted_at
