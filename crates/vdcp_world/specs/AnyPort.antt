-- A run that begins at a port in whatever state.
use Rattle.std.specs.Prelude.{◌≡◌, ◌⊎◌, ◌<◌, [], length}
use Rattle.vdcp_port.specs.Clock.{ClockedPort}
use Rattle.vdcp_port.specs.Port.{empty}
use Rattle.vdcp_auto.specs.Plan.{Plan}
use Rattle.vdcp_world.specs.LateLine.LateChannel.{CanStart}

-- The port is of the list's number. In plain mode something may be cued there, if the list has an event.
pub record CanRun (plan : Plan) (port : ClockedPort) : Type 0 where
  pub can_start : CanStart plan port [] []
  pub numbered : port.state.number ≡ plan.port
  pub cued : (port.state.cued ≡ empty) ⊎ (0 < length plan.list)
