-- The frame counts beside a port's slots, and the port with its catalogue and these.
use Rattle.std.specs.Prelude.{ℕ, zero, suc, ◌≡◌, ◌-◌, Bool, nat_eq, List, Option, Some, if◌then◌else◌}
use Rattle.vdcp_value.specs.declared.clip_id.ClipId.{ClipId}
use Rattle.vdcp_value.specs.declared.part.Item.{Item}
use Rattle.vdcp_value.specs.declared.timecode.Timecode.{Timecode}
use Rattle.vdcp_frame.specs.Message.{Content}
use Rattle.vdcp_words.specs.declared.reply.Reply.{Reply}
use Rattle.vdcp_port.specs.Clips.{frames_on_air}
use Rattle.vdcp_port.specs.Port.{PortState, new_state, ready_state, ended_state}
use Rattle.vdcp_port.specs.Row.{Row, Change, keeps, opens, closes, selects, cues, airs, stops, message_row, changed, on_air}

-- the frames until the cue is done, and those until the clip ends; 0 if nothing is waited for
pub record Counts : Type 0 where
  pub cue : ℕ
  pub playing : ℕ

abbrev pub no_counts : Counts
no_counts = record { cue = 0; playing = 0 }

-- the clips of its catalogue; how many frames a cue takes; its state and its counts
pub record ClockedPort : Type 0 where
  pub clips : List (ClipId × Timecode)
  pub cue_frames : ℕ
  pub state : PortState
  pub counts : Counts

-- closed, unselected and empty
abbrev pub new_port : List (ClipId × Timecode) → ℕ → ℕ → ℕ → ClockedPort
new_port clips unit number cue_frames =
    record { clips = clips; cue_frames = cue_frames; state = new_state unit number; counts = no_counts }

-- a cue starts its count, and what goes to air starts the other one
abbrev pub counts_after : List (ClipId × Timecode) → ℕ → Change → Counts → Counts
counts_after clips cue_frames keeps c = c
counts_after clips cue_frames opens c = c
counts_after clips cue_frames closes c = no_counts
counts_after clips cue_frames selects c = c
counts_after clips cue_frames (cues item) c = record c { cue = cue_frames }
counts_after clips cue_frames (airs item) c = record { cue = 0; playing = frames_on_air clips item }
counts_after clips cue_frames stops c = no_counts

abbrev pub row_at : ClockedPort → Content → Row
row_at p message = message_row p.clips p.state message

-- the answer to a message, the port that it leaves, and what goes to air
abbrev pub answer_to : ClockedPort → Content → Option Reply
answer_to p message = (row_at p message).answer

abbrev pub after_change : Change → ClockedPort → ClockedPort
after_change change p =
    record p { state = changed change p.state; counts = counts_after p.clips p.cue_frames change p.counts }

abbrev pub after_message : ClockedPort → Content → ClockedPort
after_message p message = after_change (row_at p message).change p

abbrev pub aired_by : ClockedPort → Content → Option Item
aired_by p message = on_air (row_at p message).change

-- the cue is done; the clip has ended
abbrev pub after_ready : ClockedPort → ClockedPort
after_ready p = record p { state = ready_state p.state; counts = record { cue = 0; playing = p.counts.playing } }

abbrev pub after_ended : ClockedPort → ClockedPort
after_ended p = record p { state = ended_state p.state; counts = record { cue = p.counts.cue; playing = 0 } }

-- whether the next frame is the last one of the cue, and of the clip
abbrev pub completes_cue : ClockedPort → Bool
completes_cue p = nat_eq p.counts.cue 1

abbrev pub ends_clip : ClockedPort → Bool
ends_clip p = nat_eq p.counts.playing 1

-- a frame lowers each count above 0 by one
abbrev pub counted_down : ClockedPort → ClockedPort
counted_down p = record p { counts = record { cue = p.counts.cue - 1; playing = p.counts.playing - 1 } }

-- the cue that comes to its last frame is done, and then the clip that does so has ended
abbrev pub after_frame : ClockedPort → ClockedPort
after_frame p =
    let counted : ClockedPort = counted_down p in
    let cued : ClockedPort = if completes_cue p then after_ready counted else counted in
    if ends_clip p then after_ended cued else cued

-- a call that answers, airs and leaves what the row says
pub record MeetsRow (row : Row) (p : ClockedPort) (reply : Reply) (item : Option Item)
    (next : ClockedPort) : Type 0 where
  pub answers : row.answer ≡ Some reply
  pub airs : item ≡ on_air row.change
  pub leaves : next ≡ after_change row.change p

-- n frames later
abbrev pub after_frames : ℕ → ClockedPort → ClockedPort
after_frames zero p = p
after_frames (suc n) p = after_frames n (after_frame p)
