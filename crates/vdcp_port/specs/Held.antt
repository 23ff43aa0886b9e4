-- A port's state as plain data.
use Rattle.std.specs.Prelude.{ℕ, ◌≡◌, ◌<◌, ◌≤◌, IsTrue, List, Option, None, Some, nat_eq, if◌then◌else◌}
use Rattle.vdcp_value.specs.declared.clip_id.ClipId.{ClipId}
use Rattle.vdcp_value.specs.declared.timecode.Timecode.{Timecode}
use Rattle.vdcp_port.specs.declared.airing.Cue.{Cue}
use Rattle.vdcp_port.specs.declared.airing.Clip.{Clip}
use Rattle.vdcp_port.specs.declared.kept.Kept.{Kept}
use Rattle.vdcp_port.specs.Clips.{is_playable, frames_on_air}
use Rattle.vdcp_port.specs.Clock.{ClockedPort}
use Rattle.vdcp_port.specs.Port.{Cued, empty, cueing, done}
use Rattle.vdcp_port.specs.Seen.{seen_clip, clip_left, IsSoundClip}

abbrev pub cued_in : Option Clip → Cued
cued_in None = empty
cued_in (Some clip) = if nat_eq clip.left 0 then done clip.item else cueing clip.item

abbrev pub CanCue : List (ClipId × Timecode) → Option Clip → Type 0
CanCue clips None = Unit {0}
CanCue clips (Some clip) = IsTrue (is_playable clips clip.item)

abbrev pub IsCueOf : List (ClipId × Timecode) → Option Clip → Option Cue → Type 0
IsCueOf clips None cue = cue ≡ None
IsCueOf clips (Some clip) cue =
    IsTrue (is_playable clips clip.item)
    × (cue ≡ Some (record { item = clip.item; left = clip.left; frames = frames_on_air clips clip.item }))

-- the port over these clips that stands so
abbrev pub port_of : List (ClipId × Timecode) → Kept → ClockedPort
port_of clips k =
    record {
      clips = clips;
      cue_frames = k.cue_frames;
      state = record { unit = k.unit; number = k.number; access = k.access; cued = cued_in k.cued; playing = seen_clip k.playing };
      counts = record { cue = clip_left k.cued; playing = clip_left k.playing };
    }

-- a port over these clips can stand so
pub record CanKeep (clips : List (ClipId × Timecode)) (k : Kept) : Type 0 where
  pub unit_fits : k.unit ≤ 15
  pub cue_takes : 0 < k.cue_frames
  pub at_most : k.cue_frames ≤ 1000
  pub cued : CanCue clips k.cued
  pub playing : IsSoundClip clips k.playing
