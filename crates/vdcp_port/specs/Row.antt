-- The port's table: what a port answers to a message, and how it changes.
use Rattle.std.specs.Prelude.{ℕ, true, false, ◌&&◌, nat_eq, List, Option, None, Some, option_map, if◌then◌else◌}
use Rattle.vdcp_value.specs.Timecodes.{bcd_of}
use Rattle.vdcp_value.specs.declared.clip_id.ClipId.{ClipId}
use Rattle.vdcp_value.specs.declared.part.Item.{Item}
use Rattle.vdcp_value.specs.declared.timecode.Timecode.{Timecode}
use Rattle.vdcp_frame.specs.Message.{Content}
use Rattle.vdcp_words.specs.Replies.{has_bit_0}
use Rattle.vdcp_words.specs.declared.command.Command.{Command}
use Rattle.vdcp_words.specs.declared.command.Command.TheVariants.{Open, Close, Select, PlayCue, CueData, Play, Stop, Status, ActiveId, IdRequest, IdSize}
use Rattle.vdcp_words.specs.declared.reply.Reply.{Reply}
use Rattle.vdcp_words.specs.declared.reply.Reply.TheVariants as reply
use Rattle.vdcp_port.specs.declared.access.Access.TheVariants as access
use Rattle.vdcp_port.specs.declared.asked.Asked.{Asked}
use Rattle.vdcp_port.specs.declared.asked.Asked.TheVariants as asked
use Rattle.vdcp_port.specs.Asked.{asked_of}
use Rattle.vdcp_port.specs.Clips.{length_of, is_known, is_playable, whole, part_of}
use Rattle.vdcp_port.specs.Port.{Cued, empty, cueing, done, PortState, is_open, is_selected, opened, state_byte}

-- what a message does to a port
pub data Change : Type 0 where
  keeps : Change
  opens : Change
  closes : Change
  selects : Change
  cues : (item : Item) → Change
  airs : (item : Item) → Change
  stops : Change

-- the answer or none, and the change
pub record Row : Type 0 where
  pub answer : Option Reply
  pub change : Change

abbrev pub row : Reply → Change → Row
row answer change = record { answer = Some answer; change = change }

abbrev pub unanswered : Row
unanswered = record { answer = None; change = keeps }

abbrev pub refused : Row
refused = row (reply.Nak 0x01) keeps

-- of the bitmap bit 0 is answered, and with it goes the state byte
abbrev pub state_reply : ℕ → ℕ → Reply
state_reply bitmap byte = if has_bit_0 bitmap then reply.State 1 (Some byte) else reply.State 0 None

abbrev pub play_row : Cued → Row
play_row empty = row reply.Ack keeps
play_row (cueing item) = row reply.Ack keeps
play_row (done item) = row reply.Ack (airs item)

abbrev pub size_row : Option Timecode → Row
size_row None = refused
size_row (Some length) = row (reply.Size (bcd_of length)) keeps

-- PLAY CUE and CUE WITH DATA
abbrev pub cue_row : List (ClipId × Timecode) → PortState → Item → Row
cue_row clips p item = if is_selected p && is_playable clips item then row reply.Ack (cues item) else refused

-- the table, a line for each command
abbrev pub command_row : List (ClipId × Timecode) → PortState → Command → Row
command_row clips p (Open number lock) =
    if nat_eq number p.number then row (reply.Opened true) opens else row (reply.Opened false) keeps
command_row clips p (Close number) = if nat_eq number p.number then row reply.Ack closes else refused
command_row clips p (Select number) = if nat_eq number p.number && is_open p then row reply.Ack selects else refused
command_row clips p (PlayCue id) = cue_row clips p (whole id)
command_row clips p (CueData id start duration) = cue_row clips p (part_of id start duration)
command_row clips p Play = if is_selected p then play_row p.cued else refused
command_row clips p Stop = if is_selected p then row reply.Ack stops else refused
command_row clips p (Status bitmap) = if is_selected p then row (state_reply bitmap (state_byte p)) keeps else refused
command_row clips p ActiveId =
    if is_selected p then row (reply.Active (option_map (λ item. item.id) p.playing)) keeps else refused
command_row clips p (IdRequest id) = row (reply.Present (is_known clips id)) keeps
command_row clips p (IdSize id) = size_row (length_of clips id)

-- and for what is no command, or is for another unit
abbrev pub asked_row : List (ClipId × Timecode) → PortState → Asked → Row
asked_row clips p asked.Nothing = unanswered
asked_row clips p asked.NoCommand = refused
asked_row clips p (asked.Command command) = command_row clips p command

-- the row of a message
abbrev pub message_row : List (ClipId × Timecode) → PortState → Content → Row
message_row clips p message = asked_row clips p (asked_of p.unit message)

-- the port that a change leaves
abbrev pub changed : Change → PortState → PortState
changed keeps p = p
changed opens p = record p { access = opened p.access }
changed closes p = record p { access = access.Closed; cued = empty; playing = None }
changed selects p = record p { access = access.Selected }
changed (cues item) p = record p { cued = cueing item }
changed (airs item) p = record p { cued = empty; playing = Some item }
changed stops p = record p { cued = empty; playing = None }

-- the item that goes to air
abbrev pub on_air : Change → Option Item
on_air keeps = None
on_air opens = None
on_air closes = None
on_air selects = None
on_air (cues item) = None
on_air (airs item) = Some item
on_air stops = None
