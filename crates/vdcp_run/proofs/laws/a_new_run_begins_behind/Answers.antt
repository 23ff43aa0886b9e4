use Rattle.vdcp_run.proofs.LeftOut.{begins_behind}
use Rattle.vdcp_run.proofs.KeptLine.{left_so}
use Rattle.vdcp_run.proofs.laws.a_new_run_begins_behind.Goals as goal

pub returns-clause-behind : goal.returns-clause-behind
returns-clause-behind g c before next items wire left end name came e again = begins_behind g.row.S.Denot before next items wire left end name came e again

pub returns-clause-left : goal.returns-clause-left
returns-clause-left g c before next count end name e again = left_so before next count end name e again
