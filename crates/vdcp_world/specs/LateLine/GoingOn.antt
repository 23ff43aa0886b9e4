-- An automation that is killed, and goes on from what was kept of it.
use Rattle.std.specs.Prelude.{None}
use Rattle.vdcp_auto.specs.Course.{logged}
use Rattle.vdcp_auto.specs.Turn.{came_to, ended_by}
use Rattle.vdcp_world.specs.LateLine.LateChannel.{LateChannel}
use Rattle.vdcp_world.specs.LateLine.LateEvent.{LateEvent, Tick, Ask}

-- the controller gives out no command, and nothing is asked beside it
abbrev pub IsNoTick : LateEvent → Type 0
IsNoTick Tick = ⊥
IsNoTick (Ask question) = ⊥
IsNoTick _ = Unit {0}

-- the automation goes on as it was when the last of what is kept of it happened, and what it awaited then has timed
-- out; both queues, the port and what went to air are as they are now
abbrev pub gone_on : LateChannel → LateChannel → LateChannel
gone_on kept now =
    record now {
      state = came_to kept.plan None kept.state;
      log = logged kept.log (ended_by kept.plan None kept.state);
    }
