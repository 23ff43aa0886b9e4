-- The table of commands: the message of each, and what a message is read as.
use Rattle.std.specs.Prelude.{ℕ, ◌≡◌, ◌≢◌, ◌<◌, [], ◌∷◌, ◌++◌, length, Result, Ok, Err}
use Rattle.vdcp_value.specs.Bytes.{AreBytes}
use Rattle.vdcp_value.specs.Ids.{id_bytes}
use Rattle.vdcp_frame.specs.Message.{Content}
use Rattle.vdcp_words.specs.declared.command.Command.{Command}
use Rattle.vdcp_words.specs.declared.command.Command.TheVariants.{Open, Close, Select, PlayCue, CueData, Play, Stop, Status, ActiveId, IdRequest, IdSize}
use Rattle.vdcp_words.specs.declared.fault.WordFault.{WordFault}
use Rattle.vdcp_words.specs.declared.fault.WordFault.TheVariants.{NotCommand, Unknown, Length}
use Rattle.vdcp_words.specs.Messages.{Form, form, framed_form, unit_of, rest_of, IsReceipt, IsFramed, SameCode}

-- the type, the code and the data of each command
abbrev pub command_form : Command → Form
command_form Stop = form 1 0x00 []
command_form Play = form 1 0x01 []
command_form (Close port) = form 2 0x21 (port ∷ [])
command_form (Select port) = form 2 0x22 (port ∷ [])
command_form (PlayCue id) = form 2 0x24 (id_bytes id)
command_form (CueData id start duration) = form 2 0x25 (id_bytes id ++ start ++ duration)
command_form (Open port lock) = form 3 0x01 (port ∷ lock ∷ [])
command_form (Status bitmap) = form 3 0x05 (bitmap ∷ [])
command_form ActiveId = form 3 0x07 []
command_form (IdSize id) = form 3 0x14 (id_bytes id)
command_form (IdRequest id) = form 3 0x16 (id_bytes id)

-- the message that carries a command to a unit
abbrev pub command_message : ℕ → Command → Content
command_message unit command = framed_form unit (command_form command)

-- the command's numbers are bytes, and its time codes four of them
abbrev pub IsWritableCommand : Command → Type 0
IsWritableCommand Stop = Unit {0}
IsWritableCommand Play = Unit {0}
IsWritableCommand (Close port) = port < 256
IsWritableCommand (Select port) = port < 256
IsWritableCommand (PlayCue id) = Unit {0}
IsWritableCommand (CueData id start duration) = AreBytes 4 start × AreBytes 4 duration
IsWritableCommand (Open port lock) = (port < 256) × (lock < 256)
IsWritableCommand (Status bitmap) = bitmap < 256
IsWritableCommand ActiveId = Unit {0}
IsWritableCommand (IdSize id) = Unit {0}
IsWritableCommand (IdRequest id) = Unit {0}

-- the message is this command's, to whatever unit
pub record IsCommand (message : Content) (command : Command) : Type 0 where
  pub writable : IsWritableCommand command
  pub says : message ≡ command_message (unit_of message) command

-- no command has the message's type and code
pub record IsUnknownCommand (message : Content) : Type 0 where
  pub is_framed : IsFramed message
  pub no_code : (command : Command) → SameCode message (command_message 0 command) → ⊥

-- a command has the message's type and code, but another number of data bytes
pub record HasOtherLength (message : Content) : Type 0 where
  pub command : Command
  pub writable : IsWritableCommand command
  pub code : SameCode message (command_message 0 command)
  pub other : length (rest_of message) ≢ length (rest_of (command_message 0 command))

-- what a message is read as: a command, or why it is none
abbrev pub ReadsCommand : Content → Result Command WordFault → Type 0
ReadsCommand message (Ok command) = IsCommand message command
ReadsCommand message (Err NotCommand) = IsReceipt message
ReadsCommand message (Err Unknown) = IsUnknownCommand message
ReadsCommand message (Err Length) = HasOtherLength message
