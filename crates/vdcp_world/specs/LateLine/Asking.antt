-- What an automation may ask the port beside its controller, and where.
use Rattle.std.specs.Option.{option_and_then}
use Rattle.std.specs.Prelude.{Option, None, Some}
use Rattle.vdcp_words.specs.declared.command.Command.{Command}
use Rattle.vdcp_auto.specs.Plan.{Plan}
use Rattle.vdcp_auto.specs.State.{Stage, Ready, Awaiting, Ended}
use Rattle.vdcp_auto.specs.Table.{command_in}
use Rattle.vdcp_auto.specs.declared.phase.Phase.{Phase}
use Rattle.vdcp_auto.specs.declared.phase.Phase.TheVariants as phase

-- is the port open; is it selected; in which state is it?
pub data Question : Type 0 where
  Open : Question
  Select : Question
  State : Question

-- A question is a command that a phase of the same stretch of the pipe sends: this one. None where it may not be asked: in
-- Cue a state would tell of the cue before.
abbrev pub asked_by : Question → Phase → Option Phase
asked_by Open phase.Open = Some phase.Open
asked_by Select phase.Open = Some phase.Select
asked_by State phase.Open = Some phase.Seen
asked_by State phase.Select = Some phase.Seen
asked_by State phase.Seen = Some phase.Seen
asked_by State (phase.Wait k) = Some (phase.Wait k)
asked_by State (phase.Play k) = Some (phase.Probe k)
asked_by State (phase.Probe k) = Some (phase.Probe k)
asked_by State phase.Drain = Some phase.Drain
asked_by _ _ = None

-- what is asked, if the controller is at this stage: something only while it awaits nothing
abbrev pub asked_in : Plan → Question → Stage → Option Command
asked_in plan q (Ready p) = option_and_then (command_in plan.list plan.port) (asked_by q p)
asked_in plan q (Awaiting p) = None
asked_in plan q (Ended outcome) = None
