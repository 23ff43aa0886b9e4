-- What a port holds at any time.
use Rattle.std.specs.Prelude.{◌≡◌, nat_lt, is_some, IsTrue, List, Option, None, Some}
use Rattle.vdcp_value.specs.declared.clip_id.ClipId.{ClipId}
use Rattle.vdcp_value.specs.declared.part.Item.{Item}
use Rattle.vdcp_value.specs.declared.timecode.Timecode.{Timecode}
use Rattle.vdcp_port.specs.Clips.{is_playable}
use Rattle.vdcp_port.specs.Clock.{ClockedPort}
use Rattle.vdcp_port.specs.Port.{Cued, PortState, empty, cueing, done, is_cueing}

-- what is cued, and what plays, is known and fits its clip
abbrev pub IsPlayableCue : List (ClipId × Timecode) → Cued → Type 0
IsPlayableCue clips empty = Unit {0}
IsPlayableCue clips (cueing item) = IsTrue (is_playable clips item)
IsPlayableCue clips (done item) = IsTrue (is_playable clips item)

abbrev pub IsPlayableClip : List (ClipId × Timecode) → Option Item → Type 0
IsPlayableClip clips None = Unit {0}
IsPlayableClip clips (Some item) = IsTrue (is_playable clips item)

-- the slots hold playable items; the one that cues has a count above 0, and so has the one that plays
pub record IsKept (p : ClockedPort) : Type 0 where
  pub cue_takes : IsTrue (nat_lt 0 p.cue_frames)
  pub cued : IsPlayableCue p.clips p.state.cued
  pub playing : IsPlayableClip p.clips p.state.playing
  pub cue_count : nat_lt 0 p.counts.cue ≡ is_cueing p.state.cued
  pub playing_count : nat_lt 0 p.counts.playing ≡ is_some p.state.playing

-- the port with an item in its cued slot, the count at its start, and all else as it was
abbrev pub cueing_from_now : ClockedPort → Item → ClockedPort
cueing_from_now p item = record p {
  state = record p.state { cued = cueing item };
  counts = record { cue = p.cue_frames; playing = p.counts.playing };
}

-- the port with the cue's count at its start, and all else as it was
abbrev pub counting_from_now : ClockedPort → ClockedPort
counting_from_now p = record p { counts = record { cue = p.cue_frames; playing = p.counts.playing } }

-- what is cued and what plays is as at another port
abbrev pub HasSlotsOf : PortState → PortState → Type 0
HasSlotsOf p q = (q.cued ≡ p.cued) × (q.playing ≡ p.playing)
