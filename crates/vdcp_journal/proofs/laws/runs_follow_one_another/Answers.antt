use Rattle.std.proofs.Common.{arith, refl}
use Rattle.vdcp_journal.proofs.RunSteps.{all_runs, counted, ended_more, last_more, stays}
use Rattle.vdcp_journal.proofs.laws.runs_follow_one_another.Goals as goal
use Rattle.vdcp_journal.specs.Runs.{first_run}

pub returns-clause-all : goal.returns-clause-all
returns-clause-all c = λ rows. all_runs first_run rows

pub returns-clause-goes_on : goal.returns-clause-goes_on
returns-clause-goes_on c = λ rows row. last_more first_run rows row

pub returns-clause-ends : goal.returns-clause-ends
returns-clause-ends c = λ rows row. ended_more first_run rows row

pub returns-clause-stays : goal.returns-clause-stays
returns-clause-stays c = λ rows. stays first_run rows refl

pub returns-clause-counts : goal.returns-clause-counts
returns-clause-counts c = λ rows. omega (arith, counted first_run rows)
