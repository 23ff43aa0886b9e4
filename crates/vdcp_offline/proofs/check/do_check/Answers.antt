use Rattle.vdcp_offline.proofs.CheckLemmas.{gave_up, refused_by}
use Rattle.vdcp_offline.proofs.check.do_check.Goals as goal

pub returns-in-Err : goal.returns-in-Err
returns-in-Err g c =
    gave_up _ _ _ _ _ _ _ c.in-Err.failure c.report.result c.report.ensures.status c.in-Err.ensures.statuses
    (refused_by _ _ _ _ _ _ _ c.in-Err.failure c.report.result c.in-Err.ensures.unchecked c.report.ensures.status
    c.report.ensures.told) c.in-Err.ensures.silent
