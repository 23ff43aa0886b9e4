use Rattle.std.proofs.Common.{rules}
use Rattle.vdcp_offline.proofs.SimRan.{ran}
use Rattle.vdcp_offline.proofs.sim.run_script.Goals as goal

pub returns-clause-ran : goal.returns-clause-ran
returns-clause-ran g c = search (rules, ran)
