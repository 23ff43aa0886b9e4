use Rattle.vdcp_world.proofs.LateLine.Joining.{joins, reached_late}
use Rattle.vdcp_world.proofs.laws.a_line_of_one_burst_keeps_order.Goals as goal

pub returns-clause-event : goal.returns-clause-event
returns-clause-event c = joins

pub returns-clause-reached : goal.returns-clause-reached
returns-clause-reached c = reached_late
