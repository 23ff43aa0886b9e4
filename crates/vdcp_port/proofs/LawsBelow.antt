-- What the lemmas take from the laws of the crates below: a function that calls these laws hands them over.
use Rattle.std.proofs.Common.{ℕ, ◌≡◌, List, length}
use Rattle.std.specs.Prelude.{Ok}
use Rattle.vdcp_value.specs.Bytes.{AreBytes}
use Rattle.vdcp_value.specs.Ids.{id_bytes}
use Rattle.vdcp_value.specs.Timecodes.{bcd_of}
use Rattle.vdcp_value.specs.declared.clip_id.ClipId.{ClipId}
use Rattle.vdcp_value.specs.declared.timecode.Timecode.{Timecode}
use Rattle.vdcp_frame.specs.Burst.{messages_of, end_of}
use Rattle.vdcp_frame.specs.Message.{Content, AreOctets}
use Rattle.vdcp_frame.specs.Reading.{End, Reads}
use Rattle.vdcp_words.specs.Commands.{command_message, IsWritableCommand}
use Rattle.vdcp_words.specs.Computed.{command_of}
use Rattle.vdcp_words.specs.declared.command.Command.{Command}

-- a time code is written as four bytes
abbrev pub FourBytes : Type 0
FourBytes = (timecode : Timecode) → AreBytes 4 (bcd_of timecode)

-- an ID as eight, and n bytes are n numbers
pub record ValueBytes : Type 0 where
  pub four : FourBytes
  pub eight : (id : ClipId) → AreBytes 8 (id_bytes id)
  pub counted : (n : ℕ) (bytes : List ℕ) → AreBytes n bytes → length bytes ≡ n

-- a burst of bytes has the computed reading
abbrev pub SomeReading : Type 0
SomeReading = (burst : List ℕ) → AreOctets burst → Reads burst (messages_of burst) (end_of burst)

-- and no other
abbrev pub OneReading : Type 0
OneReading =
    (burst : List ℕ) (ms : List Content) (end : End) → AreOctets burst → Reads burst ms end
    → (ms ≡ messages_of burst) × (end ≡ end_of burst)

-- the message of a command reads as it
abbrev pub ReadBack : Type 0
ReadBack = (unit : ℕ) (command : Command) → IsWritableCommand command
    → command_of (command_message unit command) ≡ Ok command
