-- How the port is left if the controller has ended Done or Stopped.
use Rattle.std.specs.Prelude.{◌≡◌, None}
use Rattle.vdcp_port.specs.Port.{PortState, empty}
use Rattle.vdcp_port.specs.declared.access.Access.TheVariants.{Closed}
use Rattle.vdcp_auto.specs.declared.outcome.Outcome.{Outcome}
use Rattle.vdcp_auto.specs.declared.outcome.Outcome.TheVariants as outcome
use Rattle.vdcp_auto.specs.declared.phase.Mode.{Mode}
use Rattle.vdcp_auto.specs.declared.phase.Mode.TheVariants.{Plain, Confirming}

-- nothing is cued or being cued, and nothing plays
pub record AreSlotsEmpty (p : PortState) : Type 0 where
  pub nothing_cued : p.cued ≡ empty
  pub nothing_plays : p.playing ≡ None

-- both slots are empty, and the port is closed
pub record IsAtRest (p : PortState) : Type 0 where
  pub closed : p.access ≡ Closed
  pub nothing_cued : p.cued ≡ empty
  pub nothing_plays : p.playing ≡ None

-- In confirm mode nothing shows that STOP and CLOSE were executed. After Done a status has shown both slots to be
-- empty, but the port may still be open; after Stopped anything may be cued and may play.
abbrev pub LeavesPort : Mode → PortState → Outcome → Type 0
LeavesPort Plain p outcome.Done = IsAtRest p
LeavesPort Plain p outcome.Stopped = IsAtRest p
LeavesPort Plain p _ = Unit {0}
LeavesPort Confirming p outcome.Done = AreSlotsEmpty p
LeavesPort Confirming p _ = Unit {0}
