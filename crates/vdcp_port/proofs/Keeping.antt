-- What a port holds stays playable, and its counts run if something is waited for.
use Rattle.std.proofs.Common.{◌≡◌, ◌&&◌, Bool, true, false, nat_eq, nat_lt, arith, refl, List, subst}
use Rattle.std.specs.Prelude.{Option, None, Some, IsTrue, if◌then◌else◌}
use Rattle.vdcp_value.specs.declared.clip_id.ClipId.{ClipId}
use Rattle.vdcp_value.specs.declared.part.Item.{Item}
use Rattle.vdcp_value.specs.declared.timecode.Timecode.{Timecode}
use Rattle.vdcp_frame.specs.Message.{Content}
use Rattle.vdcp_words.specs.declared.command.Command.{Command}
use Rattle.vdcp_words.specs.declared.command.Command.TheVariants.{Open, Close, Select, PlayCue, CueData, Play, Stop, Status, ActiveId, IdRequest, IdSize}
use Rattle.vdcp_words.specs.declared.reply.Reply.TheVariants as reply
use Rattle.vdcp_port.specs.declared.asked.Asked.{Asked}
use Rattle.vdcp_port.specs.declared.asked.Asked.TheVariants as asked
use Rattle.vdcp_port.specs.Asked.{asked_of}
use Rattle.vdcp_port.specs.Clips.{length_of, is_playable, frames_on_air, whole, part_of}
use Rattle.vdcp_port.specs.Clock.{ClockedPort, row_at, after_change, after_message}
use Rattle.vdcp_port.specs.Kept.{IsPlayableCue, IsKept}
use Rattle.vdcp_port.specs.Port.{Cued, empty, cueing, done, PortState, is_open, is_selected}
use Rattle.vdcp_port.specs.Row.{Row, Change, row, refused, keeps, opens, closes, selects, cues, airs, stops, play_row, size_row, command_row, asked_row}

-- an item is cued only if it is playable, and airs only if it is cued
abbrev IsDue : List (ClipId × Timecode) → PortState → Change → Type 0
IsDue clips p (cues item) = IsTrue (is_playable clips item)
IsDue clips p (airs item) = p.cued ≡ done item
IsDue clips p _ = Unit {0}

due_if : (clips : List (ClipId × Timecode)) (p : PortState) (b : Bool) (r : Row) → (b ≡ true → IsDue clips p r.change)
    → IsDue clips p (if b then r else refused).change
due_if clips p true r h = h refl
due_if clips p false r h = tt

due_open : (clips : List (ClipId × Timecode)) (p : PortState) (b : Bool)
    → IsDue clips p (if b then row (reply.Opened true) opens else row (reply.Opened false) keeps).change
due_open clips p true = tt
due_open clips p false = tt

due_play : (clips : List (ClipId × Timecode)) (p : PortState) (cued : Cued) → p.cued ≡ cued
    → IsDue clips p (play_row cued).change
due_play clips p empty e = tt
due_play clips p (cueing item) e = tt
due_play clips p (done item) e = e

due_size : (clips : List (ClipId × Timecode)) (p : PortState) (length : Option Timecode)
    → IsDue clips p (size_row length).change
due_size clips p None = tt
due_size clips p (Some length) = tt

second : (a b : Bool) → (a && b) ≡ true → IsTrue b
second a b e = grind (arith, e)

command_due : (clips : List (ClipId × Timecode)) (p : PortState) (command : Command)
    → IsDue clips p (command_row clips p command).change
command_due clips p (Open number lock) = due_open clips p (nat_eq number p.number)
command_due clips p (Close number) = due_if clips p (nat_eq number p.number) (row reply.Ack closes) (λ _. tt)
command_due clips p (Select number) =
    due_if clips p (nat_eq number p.number && is_open p) (row reply.Ack selects) (λ _. tt)
command_due clips p (PlayCue id) =
    due_if clips p (is_selected p && is_playable clips (whole id)) (row reply.Ack (cues (whole id)))
    (second (is_selected p) (is_playable clips (whole id)))
command_due clips p (CueData id start duration) =
    let item = part_of id start duration in
    due_if clips p (is_selected p && is_playable clips item) (row reply.Ack (cues item))
    (second (is_selected p) (is_playable clips item))
command_due clips p Play = due_if clips p (is_selected p) (play_row p.cued) (λ _. due_play clips p p.cued refl)
command_due clips p Stop = due_if clips p (is_selected p) (row reply.Ack stops) (λ _. tt)
command_due clips p (Status bitmap) = due_if clips p (is_selected p) _ (λ _. tt)
command_due clips p ActiveId = due_if clips p (is_selected p) _ (λ _. tt)
command_due clips p (IdRequest id) = tt
command_due clips p (IdSize id) = due_size clips p (length_of clips id)

asked_due : (clips : List (ClipId × Timecode)) (p : PortState) (a : Asked) → IsDue clips p (asked_row clips p a).change
asked_due clips p asked.Nothing = tt
asked_due clips p asked.NoCommand = tt
asked_due clips p (asked.Command command) = command_due clips p command

some_on_air : (clips : List (ClipId × Timecode)) (item : Item) → nat_lt 0 (frames_on_air clips item) ≡ true
some_on_air clips item = grind arith

keeps_kept : (change : Change) (p : ClockedPort) → IsDue p.clips p.state change → IsKept p
    → IsKept (after_change change p)
keeps_kept keeps p due k = k
keeps_kept opens p due k =
    record {
      cue_takes = k.cue_takes;
      cued = k.cued;
      playing = k.playing;
      cue_count = k.cue_count;
      playing_count = k.playing_count;
    }
keeps_kept closes p due k =
    record { cue_takes = k.cue_takes; cued = tt; playing = tt; cue_count = refl; playing_count = refl }
keeps_kept selects p due k =
    record {
      cue_takes = k.cue_takes;
      cued = k.cued;
      playing = k.playing;
      cue_count = k.cue_count;
      playing_count = k.playing_count;
    }
keeps_kept (cues item) p due k =
    record {
      cue_takes = k.cue_takes;
      cued = due;
      playing = k.playing;
      cue_count = k.cue_takes;
      playing_count = k.playing_count;
    }
keeps_kept (airs item) p due k = record {
  cue_takes = k.cue_takes;
  cued = tt;
  playing = subst (IsPlayableCue p.clips) due k.cued;
  cue_count = refl;
  playing_count = some_on_air p.clips item;
}
keeps_kept stops p due k =
    record { cue_takes = k.cue_takes; cued = tt; playing = tt; cue_count = refl; playing_count = refl }

pub message_kept : (p : ClockedPort) (m : Content) → IsKept p → IsKept (after_message p m)
message_kept p m k = keeps_kept (row_at p m).change p (asked_due p.clips p.state (asked_of p.state.unit m)) k
