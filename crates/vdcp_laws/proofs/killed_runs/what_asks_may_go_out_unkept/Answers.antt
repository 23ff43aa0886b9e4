use Rattle.vdcp_laws.proofs.Held.{stayed, went}
use Rattle.vdcp_laws.proofs.killed_runs.what_asks_may_go_out_unkept.Goals as goal

pub returns-clause-went : goal.returns-clause-went
returns-clause-went c = went

pub returns-clause-stayed : goal.returns-clause-stayed
returns-clause-stayed c = stayed
