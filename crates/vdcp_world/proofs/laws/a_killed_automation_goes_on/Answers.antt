use Rattle.vdcp_world.proofs.LateLine.GoingOn.{goes_on}
use Rattle.vdcp_world.proofs.LateLine.Happened.{events_reached}
use Rattle.vdcp_world.proofs.laws.a_killed_automation_goes_on.Goals as goal

pub returns-clause-reached : goal.returns-clause-reached
returns-clause-reached c = goes_on

pub returns-clause-event : goal.returns-clause-event
returns-clause-event c = events_reached
