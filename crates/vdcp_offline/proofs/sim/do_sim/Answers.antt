use Rattle.vdcp_offline.proofs.CheckLemmas.{gave_up}
use Rattle.vdcp_offline.proofs.SimRefusals.{refused_with_1}
use Rattle.vdcp_offline.proofs.sim.do_sim.Goals as goal

pub returns-in-Err : goal.returns-in-Err
returns-in-Err g c =
    gave_up _ _ _ _ _ _ _ c.in-Err.failure c.report.result c.report.ensures.status c.in-Err.ensures.statuses
    (refused_with_1 _ _ _ _ _ _ _ _ c.in-Err.failure c.report.result c.in-Err.ensures.unsimulated c.report.ensures.status
    c.report.ensures.told) c.in-Err.ensures.silent
