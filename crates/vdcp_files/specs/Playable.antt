-- What a check of a playlist against a catalogue finds, and what it prints.
use Rattle.std.specs.List.{list_all}
use Rattle.std.specs.Prelude.{ℕ, suc, Bool, List, [], ◌∷◌, ◌++◌, codes, decimal, length, Option, None, Some, if◌then◌else◌}
use Rattle.vdcp_text.specs.Text.{line}
use Rattle.vdcp_files.specs.declared.playable.EventFault.{EventFault}
use Rattle.vdcp_files.specs.declared.playable.EventFault.TheVariants.{Missing, Outside}
use Rattle.vdcp_port.specs.Clips.{is_playable, length_of}
use Rattle.vdcp_value.specs.Ids.{text_of_id}
use Rattle.vdcp_value.specs.Parts.{part_fits}
use Rattle.vdcp_value.specs.declared.clip_id.ClipId.{ClipId}
use Rattle.vdcp_value.specs.declared.part.Item.{Item}
use Rattle.vdcp_value.specs.declared.part.Part.{Part}
use Rattle.vdcp_value.specs.declared.timecode.Timecode.{Timecode}

-- why a part of a clip of this length, or the whole, can't be played, if it can't; no length: the clip is unknown
abbrev pub fault_in : Option Timecode → Option Part → Option EventFault
fault_in None part = Some Missing
fault_in (Some clip) None = None
fault_in (Some clip) (Some part) = if part_fits part clip then None else Some Outside

-- why an item can't be played with these clips, if it can't
abbrev pub fault_of : List (ClipId × Timecode) → Item → Option EventFault
fault_of clips item = fault_in (length_of clips item.id) item.part

abbrev pub fault_text : EventFault → List ℕ
fault_text Missing = codes "missing"
fault_text Outside = codes "outside"

-- the line of event k, if it can't be played
abbrev pub event_text : ℕ → ClipId → Option EventFault → List ℕ
event_text k id None = []
event_text k id (Some fault) = line (fault_text fault ++ codes " " ++ decimal k ++ codes " " ++ text_of_id id)

-- the lines of the events that can't be played, counted from k on
abbrev pub events_text : List (ClipId × Timecode) → ℕ → List Item → List ℕ
events_text clips k [] = []
events_text clips k (item ∷ items) = event_text k item.id (fault_of clips item) ++ events_text clips (suc k) items

-- what a check of these events against these clips prints
abbrev pub check_text : List (ClipId × Timecode) → List Item → List ℕ
check_text clips items =
    line (codes "events " ++ decimal (length items))
    ++ line (codes "clips " ++ decimal (length clips))
    ++ events_text clips 0 items

-- every event can be played: the port can cue its item
abbrev pub are_playable : List (ClipId × Timecode) → List Item → Bool
are_playable clips items = list_all (is_playable clips) items
