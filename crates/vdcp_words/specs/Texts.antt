-- The texts of commands and replies.
use Rattle.std.specs.Prelude.{ℕ, true, false, List, ◌++◌, codes, Some, None}
use Rattle.std.specs.List.{flat_map}
use Rattle.vdcp_value.specs.IdText.{hex_pair}
use Rattle.vdcp_value.specs.Ids.{text_of_id}
use Rattle.vdcp_words.specs.declared.command.Command.{Command}
use Rattle.vdcp_words.specs.declared.command.Command.TheVariants.{Open, Close, Select, PlayCue, CueData, Play, Stop, Status, ActiveId, IdRequest, IdSize}
use Rattle.vdcp_words.specs.declared.reply.Reply.{Reply}
use Rattle.vdcp_words.specs.declared.reply.Reply.TheVariants.{Ack, Nak, Opened, State, Active, Present, Size}

-- two lower-case hexadecimal digits for each byte
abbrev pub hex_text : List ℕ → List ℕ
hex_text bytes = flat_map hex_pair bytes

-- the text of each command
abbrev pub command_text : Command → List ℕ
command_text (Open port lock) = codes "open " ++ hex_pair port ++ codes " " ++ hex_pair lock
command_text (Close port) = codes "close " ++ hex_pair port
command_text (Select port) = codes "select " ++ hex_pair port
command_text (PlayCue id) = codes "cue " ++ text_of_id id
command_text (CueData id start duration) =
    codes "cue-data " ++ text_of_id id ++ codes " " ++ hex_text start ++ codes " " ++ hex_text duration
command_text Play = codes "play"
command_text Stop = codes "stop"
command_text (Status bitmap) = codes "status " ++ hex_pair bitmap
command_text ActiveId = codes "active"
command_text (IdRequest id) = codes "exists " ++ text_of_id id
command_text (IdSize id) = codes "size " ++ text_of_id id

-- the text of each reply that is heard
abbrev pub reply_text : Reply → List ℕ
reply_text Ack = codes "ack"
reply_text (Nak byte) = codes "nak " ++ hex_pair byte
reply_text (Opened true) = codes "granted"
reply_text (Opened false) = codes "denied"
reply_text (State bitmap (Some state)) = codes "state " ++ hex_pair state
reply_text (State bitmap None) = codes "state none"
reply_text (Active None) = codes "active none"
reply_text (Active (Some id)) = codes "active " ++ text_of_id id
reply_text (Present true) = codes "present"
reply_text (Present false) = codes "absent"
reply_text (Size time) = codes "size " ++ hex_text time
