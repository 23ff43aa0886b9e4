-- What a command is, and which replies answer it.
use Rattle.std.specs.Prelude.{Bool, true, false, Option, None, Some}
use Rattle.vdcp_value.specs.declared.clip_id.ClipId.{ClipId}
use Rattle.vdcp_value.specs.declared.part.Item.{Item}
use Rattle.vdcp_value.specs.declared.part.Part.{Part}
use Rattle.vdcp_words.specs.declared.command.Command.{Command}
use Rattle.vdcp_words.specs.declared.command.Command.TheVariants as command
use Rattle.vdcp_words.specs.declared.reply.Reply.{Reply}
use Rattle.vdcp_words.specs.declared.reply.Reply.TheVariants as reply
use Rattle.vdcp_auto.specs.Replies.{is_ack}

abbrev pub cue_for : ClipId → Option Part → Command
cue_for id None = command.PlayCue id
cue_for id (Some part) = command.CueData id part.start part.duration

-- the command that cues an item
abbrev pub cue_of : Item → Command
cue_of item = cue_for item.id item.part

abbrev pub is_cue_command : Command → Bool
is_cue_command (command.PlayCue id) = true
is_cue_command (command.CueData id start duration) = true
is_cue_command _ = false

abbrev pub is_play_command : Command → Bool
is_play_command command.Play = true
is_play_command _ = false

abbrev pub is_stop_command : Command → Bool
is_stop_command command.Stop = true
is_stop_command _ = false

abbrev pub is_close_command : Command → Bool
is_close_command (command.Close port) = true
is_close_command _ = false

abbrev pub is_open_command : Command → Bool
is_open_command (command.Open port lock) = true
is_open_command _ = false

abbrev pub is_status_command : Command → Bool
is_status_command (command.Status groups) = true
is_status_command _ = false

-- a request for a reply of its own, OPEN among them; the others are answered by ACK
abbrev pub is_sense : Command → Bool
is_sense (command.Open port lock) = true
is_sense (command.Close port) = false
is_sense (command.Select port) = false
is_sense (command.PlayCue id) = false
is_sense (command.CueData id start duration) = false
is_sense command.Play = false
is_sense command.Stop = false
is_sense (command.Status groups) = true
is_sense command.ActiveId = true
is_sense (command.IdRequest id) = true
is_sense (command.IdSize id) = true

abbrev pub is_opened : Reply → Bool
is_opened (reply.Opened granted) = true
is_opened _ = false

-- a state reply with a state byte
abbrev pub is_state : Reply → Bool
is_state (reply.State groups (Some byte)) = true
is_state _ = false

abbrev pub is_active : Reply → Bool
is_active (reply.Active id) = true
is_active _ = false

abbrev pub is_presence : Reply → Bool
is_presence (reply.Present present) = true
is_presence _ = false

abbrev pub is_size : Reply → Bool
is_size (reply.Size length) = true
is_size _ = false

-- the reply is of the kind that the command asks for
abbrev pub fits : Command → Reply → Bool
fits (command.Open port lock) r = is_opened r
fits (command.Close port) r = is_ack r
fits (command.Select port) r = is_ack r
fits (command.PlayCue id) r = is_ack r
fits (command.CueData id start duration) r = is_ack r
fits command.Play r = is_ack r
fits command.Stop r = is_ack r
fits (command.Status groups) r = is_state r
fits command.ActiveId r = is_active r
fits (command.IdRequest id) r = is_presence r
fits (command.IdSize id) r = is_size r
