-- What the clips of a catalogue are, and which items can be cued of them.
use Rattle.std.specs.Map.{lookup}
use Rattle.std.specs.Prelude.{ℕ, Bool, true, false, max, List, Option, None, Some, is_some}
use Rattle.vdcp_value.specs.Ids.{is_same_id}
use Rattle.vdcp_value.specs.Bcd.{frames_in}
use Rattle.vdcp_value.specs.Parts.{part_fits}
use Rattle.vdcp_value.specs.Timecodes.{frames_of, rate_of}
use Rattle.vdcp_value.specs.declared.clip_id.ClipId.{ClipId}
use Rattle.vdcp_value.specs.declared.part.Item.{Item}
use Rattle.vdcp_value.specs.declared.part.Part.{Part}
use Rattle.vdcp_value.specs.declared.timecode.Timecode.{Timecode}

-- the length of a clip, if these are the clips with their lengths: that of the first with its ID
abbrev pub length_of : List (ClipId × Timecode) → ClipId → Option Timecode
length_of clips id = lookup (is_same_id id) clips

-- these clips have one of that ID
abbrev pub is_known : List (ClipId × Timecode) → ClipId → Bool
is_known clips id = is_some (length_of clips id)

-- a whole clip, and a part of it
abbrev pub whole : ClipId → Item
whole id = record { id = id; part = None }

abbrev pub part_of : ClipId → List ℕ → List ℕ → Item
part_of id start duration = record { id = id; part = Some (record { start = start; duration = duration }) }

-- whether a clip of this length, or a part of it, can be cued; an unknown clip can't
abbrev pub can_cue : Option Timecode → Option Part → Bool
can_cue None part = false
can_cue (Some clip) None = true
can_cue (Some clip) (Some part) = part_fits part clip

-- the clip is known, and the part, if the item has one, fits it
abbrev pub is_playable : List (ClipId × Timecode) → Item → Bool
is_playable clips item = can_cue (length_of clips item.id) item.part

-- how many frames it has
abbrev pub frames_to_play : Option Timecode → Option Part → ℕ
frames_to_play None part = 0
frames_to_play (Some clip) None = frames_of clip
frames_to_play (Some clip) (Some part) = frames_in (rate_of clip) part.duration

-- how many frames an item plays: those of its clip's length or of its part's duration, but one at least
abbrev pub frames_on_air : List (ClipId × Timecode) → Item → ℕ
frames_on_air clips item = max 1 (frames_to_play (length_of clips item.id) item.part)
