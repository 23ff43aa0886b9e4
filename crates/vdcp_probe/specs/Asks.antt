-- What the steps of a row send.
use Rattle.std.specs.Prelude.{ℕ, ◌+◌, ◌-◌, ◌%◌, List, [], ◌∷◌, ◌++◌, length, min, nat_eq, slice_index, take, if◌then◌else◌}
use Rattle.vdcp_frame.specs.Message.{framed, spelling}
use Rattle.vdcp_probe.specs.declared.naming.Naming.{Naming}
use Rattle.vdcp_probe.specs.declared.row.Ask.{Ask}
use Rattle.vdcp_probe.specs.declared.row.Ask.TheVariants as asks
use Rattle.vdcp_probe.specs.declared.row.Clip.{Clip}
use Rattle.vdcp_probe.specs.declared.row.Clip.TheVariants.{First, Second, Unknown}
use Rattle.vdcp_probe.specs.declared.row.Number.{Number}
use Rattle.vdcp_probe.specs.declared.row.Number.TheVariants.{Own, Other}
use Rattle.vdcp_probe.specs.declared.row.Step.{Step}
use Rattle.vdcp_probe.specs.declared.row.Step.TheVariants as steps
use Rattle.vdcp_value.specs.declared.clip_id.ClipId.{ClipId}
use Rattle.vdcp_words.specs.Commands.{command_message}
use Rattle.vdcp_words.specs.declared.command.Command.{Command}
use Rattle.vdcp_words.specs.declared.command.Command.TheVariants as command

-- the number after a port's, and the unit after a unit
abbrev pub other_number : ℕ → ℕ
other_number port = if nat_eq port 255 then 0 else port + 1

abbrev pub other_unit : ℕ → ℕ
other_unit unit = if nat_eq unit 15 then 0 else unit + 1

abbrev pub number_of : Naming → Number → ℕ
number_of n Own = n.port
number_of n Other = other_number n.port

abbrev pub clip_of : Naming → Clip → ClipId
clip_of n First = n.first
clip_of n Second = n.second
clip_of n Unknown = n.unknown

-- the command of an Ask
abbrev pub command_for : Naming → Ask → Command
command_for n (asks.Open number) = command.Open (number_of n number) 1
command_for n (asks.Close number) = command.Close (number_of n number)
command_for n (asks.Select number) = command.Select (number_of n number)
command_for n (asks.Cue clip) = command.PlayCue (clip_of n clip)
command_for n (asks.CuePart clip start duration) = command.CueData (clip_of n clip) start duration
command_for n asks.Play = command.Play
command_for n asks.Stop = command.Stop
command_for n (asks.Status bitmap) = command.Status bitmap
command_for n asks.Active = command.ActiveId
command_for n (asks.Exists clip) = command.IdRequest (clip_of n clip)
command_for n (asks.Size clip) = command.IdSize (clip_of n clip)

-- its bytes to a unit
abbrev pub ask_bytes : ℕ → Naming → Ask → List ℕ
ask_bytes unit n ask = spelling (command_message unit (command_for n ask))

-- without the last byte, and with another one in its place
abbrev pub cut : List ℕ → List ℕ
cut bytes = take (length bytes - 1) bytes

abbrev pub damaged : List ℕ → List ℕ
damaged bytes = cut bytes ++ ((slice_index bytes (length bytes - 1) + 1) % 256) ∷ []

-- what a step adds to the burst
abbrev pub step_bytes : Naming → Step → List ℕ
step_bytes n (steps.Ask ask) = ask_bytes n.unit n ask
step_bytes n (steps.Elsewhere ask) = ask_bytes (other_unit n.unit) n ask
step_bytes n (steps.Cut ask) = cut (ask_bytes n.unit n ask)
step_bytes n (steps.Damaged ask) = damaged (ask_bytes n.unit n ask)
step_bytes n (steps.Framed kind code rest) = spelling (framed (kind % 16) n.unit code (take (min (length rest.now) 253) rest.now))
step_bytes n (steps.Bytes bytes) = bytes.now
step_bytes n steps.Send = []
step_bytes n (steps.Await awaited) = []

-- STATUS, which asks for the state byte
abbrev pub status_bytes : Naming → List ℕ
status_bytes n = ask_bytes n.unit n (asks.Status 1)
