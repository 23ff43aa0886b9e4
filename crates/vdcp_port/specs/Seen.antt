-- What a port holds, seen as its state and its counts.
use Rattle.std.specs.Prelude.{ℕ, ◌≡◌, ◌<◌, ◌≤◌, nat_eq, IsTrue, List, Option, None, Some, if◌then◌else◌}
use Rattle.vdcp_value.specs.declared.clip_id.ClipId.{ClipId}
use Rattle.vdcp_value.specs.declared.part.Item.{Item}
use Rattle.vdcp_value.specs.declared.timecode.Timecode.{Timecode}
use Rattle.vdcp_port.specs.declared.access.Access.{Access}
use Rattle.vdcp_port.specs.declared.airing.Cue.{Cue}
use Rattle.vdcp_port.specs.declared.airing.Clip.{Clip}
use Rattle.vdcp_port.specs.Clips.{is_playable, frames_on_air}
use Rattle.vdcp_port.specs.Clock.{Counts}
use Rattle.vdcp_port.specs.Port.{Cued, empty, cueing, done, PortState}

abbrev pub seen_cue : Option Cue → Cued
seen_cue None = empty
seen_cue (Some cue) = if nat_eq cue.left 0 then done cue.item else cueing cue.item

abbrev pub seen_clip : Option Clip → Option Item
seen_clip None = None
seen_clip (Some clip) = Some clip.item

abbrev pub cue_left : Option Cue → ℕ
cue_left None = 0
cue_left (Some cue) = cue.left

abbrev pub clip_left : Option Clip → ℕ
clip_left None = 0
clip_left (Some clip) = clip.left

abbrev pub seen_state : ℕ → ℕ → Access → Option Cue → Option Clip → PortState
seen_state unit number access cue clip =
    record { unit = unit; number = number; access = access; cued = seen_cue cue; playing = seen_clip clip }

abbrev pub seen_counts : Option Cue → Option Clip → Counts
seen_counts cue clip = record { cue = cue_left cue; playing = clip_left clip }

-- the cued item is playable, and its frames are known
abbrev pub IsSoundCue : List (ClipId × Timecode) → Option Cue → Type 0
IsSoundCue clips None = Unit {0}
IsSoundCue clips (Some cue) = IsTrue (is_playable clips cue.item) × (cue.frames ≡ frames_on_air clips cue.item)

-- what plays is playable, and has a frame to go
abbrev pub IsSoundClip : List (ClipId × Timecode) → Option Clip → Type 0
IsSoundClip clips None = Unit {0}
IsSoundClip clips (Some clip) = IsTrue (is_playable clips clip.item) × (0 < clip.left)

pub record IsSound (clips : List (ClipId × Timecode)) (cue_frames unit : ℕ) (cue : Option Cue)
    (clip : Option Clip) : Type 0 where
  pub unit_fits : unit ≤ 15
  pub cue_takes : 0 < cue_frames
  pub at_most : cue_frames ≤ 1000
  pub cued : IsSoundCue clips cue
  pub playing : IsSoundClip clips clip
