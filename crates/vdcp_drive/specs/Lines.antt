-- What a driver answers to what came.
use Rattle.std.specs.Prelude.{Bool, true, false, Option, Some, None, Result, Ok, Err}
use Rattle.vdcp_auto.specs.declared.outcome.Outcome.{Outcome}
use Rattle.vdcp_drive.specs.declared.hooks.BrokenOff.{BrokenOff}
use Rattle.vdcp_drive.specs.declared.hooks.BrokenOff.TheVariants as fault
use Rattle.vdcp_drive.specs.declared.line.Line.{Line}
use Rattle.vdcp_drive.specs.declared.line.Line.TheVariants as line
use Rattle.vdcp_drive.specs.declared.line.Ran.{Ran}
use Rattle.vdcp_drive.specs.declared.line.Ran.TheVariants as ran
use Rattle.vdcp_wire.specs.Wires.{Arrival, bytes, silence, close}

-- to one listen
abbrev pub line_of : Arrival → Line
line_of (bytes piece) = line.More
line_of silence = line.Ended
line_of close = line.Closed

-- that the controller has ended goes before any other answer
abbrev pub ran_unless_ended : Option Outcome → Ran → Ran
ran_unless_ended (Some outcome) other = ran.Ended
ran_unless_ended None other = other

-- of a run that this listen ends
abbrev pub ran_of : Line → Ran
ran_of line.More = ran.Spent
ran_of line.Ended = ran.Spent
ran_of line.Closed = ran.Closed

-- the wire failed
abbrev pub is_broken : {A : Type 0} → Result A BrokenOff → Bool
is_broken (Ok a) = false
is_broken (Err fault.Device) = true
is_broken (Err fault.Unkept) = false
is_broken (Err fault.Left) = false
