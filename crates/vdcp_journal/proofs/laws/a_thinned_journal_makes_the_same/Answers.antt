use Rattle.vdcp_journal.proofs.Saying.{says}
use Rattle.vdcp_journal.proofs.Thinning.{airs_same, counts_same, makes, tells}
use Rattle.vdcp_journal.proofs.laws.a_thinned_journal_makes_the_same.Goals as goal

pub returns-clause-makes : goal.returns-clause-makes
returns-clause-makes c = makes

pub returns-clause-told : goal.returns-clause-told
returns-clause-told c = tells

pub returns-clause-counts : goal.returns-clause-counts
returns-clause-counts c =
    counts_same c.a_log_grows.ensures.«open» c.a_log_grows.ensures.settled c.a_log_grows.ensures.airing

pub returns-clause-airs : goal.returns-clause-airs
returns-clause-airs c =
    airs_same c.a_log_grows.ensures.«open» c.a_log_grows.ensures.settled c.a_log_grows.ensures.airing

pub returns-clause-says : goal.returns-clause-says
returns-clause-says c = says
