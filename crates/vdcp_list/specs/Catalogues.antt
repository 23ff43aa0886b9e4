-- The clips that the rows of a catalogue give, and which row is refused.
use Rattle.std.specs.List.{IsDistinct}
use Rattle.std.specs.Prelude.{ℕ, ◌≤◌, ◌≡◌, ◌≢◌, Option, Some, List, [], ◌∷◌, All, Contains, map, length, slice_get}
use Rattle.vdcp_list.specs.Reading.{IsRowsFault}
use Rattle.vdcp_list.specs.Rows.{FileRow, HasId, HasRows, most_rows}
use Rattle.vdcp_list.specs.declared.faults.ListFault.{ListFault}
use Rattle.vdcp_value.specs.declared.faults.RowFault.TheVariants.{Columns, Id, Time, Twice}
use Rattle.vdcp_value.specs.declared.faults.RowFault.{RowFault}
use Rattle.vdcp_value.specs.Ids.{is_same_id, text_of_id}
use Rattle.vdcp_value.specs.Timecodes.{frames_of, rate_of, text_of}
use Rattle.vdcp_value.specs.declared.clip_id.ClipId.{ClipId}
use Rattle.vdcp_value.specs.declared.rate.Rate.{Rate}
use Rattle.vdcp_value.specs.declared.timecode.Timecode.{Timecode}

-- the row of a clip: its ID and its length
abbrev pub clip_row : ClipId × Timecode → FileRow
clip_row clip = text_of_id clip.0 ∷ text_of clip.1 ∷ []

-- a length that a catalogue can give: one frame at least, at its rate
abbrev pub CanLast : Rate → Timecode → Type 0
CanLast rate time = (rate_of time ≡ rate) × (1 ≤ frames_of time)

abbrev pub ids_of : List (ClipId × Timecode) → List ClipId
ids_of clips = map (λ clip. clip.0) clips

-- these rows give these clips, no ID twice
pub record Gives (rate : Rate) (rows : List FileRow) (clips : List (ClipId × Timecode)) : Type 0 where
  pub rows_are : rows ≡ map clip_row clips
  pub can_last : All (λ clip. CanLast rate clip.1) clips
  pub once : IsDistinct is_same_id (ids_of clips)

-- the rows are a catalogue of these clips
pub record IsCatalogue (rate : Rate) (rows : List FileRow) (clips : List (ClipId × Timecode)) : Type 0 where
  pub few : length rows ≤ most_rows
  pub given : Gives rate rows clips

-- no clip that a catalogue can give has this row
abbrev pub IsNoClip : Rate → FileRow → Type 0
IsNoClip rate row = (clip : ClipId × Timecode) → CanLast rate clip.1 → clip_row clip ≢ row

-- the clip's ID stands in one of these rows
abbrev pub StandsIn : List FileRow → ClipId → Type 0
StandsIn rows id = Contains (map (λ row. slice_get row 0) rows) (Some (text_of_id id))

-- why a row of a catalogue is refused after those before it: the first that applies
abbrev pub IsClipFault : Rate → List FileRow → FileRow → RowFault → Type 0
IsClipFault rate before row Columns = length row ≢ 2
IsClipFault rate before row Id = (length row ≡ 2) × ¬ HasId row
IsClipFault rate before row Time = (length row ≡ 2) × HasId row × IsNoClip rate row
IsClipFault rate before row Twice =
    (clip : ClipId × Timecode) × (clip_row clip ≡ row) × CanLast rate clip.1 × StandsIn before clip.0
IsClipFault rate before row fault = ⊥

-- these rows give clips
abbrev pub GiveClips : Rate → List FileRow → Type 0
GiveClips rate rows = (clips : List (ClipId × Timecode)) × Gives rate rows clips

-- why the rows are no catalogue
abbrev pub IsCatalogueFault : Rate → List FileRow → ListFault → Type 0
IsCatalogueFault rate rows fault = IsRowsFault (GiveClips rate) (IsClipFault rate) rows fault

-- a file is a catalogue of these clips
abbrev pub IsCatalogueOf : Rate → Option (List ℕ) → List (ClipId × Timecode) → Type 0
IsCatalogueOf rate file clips = HasRows file (λ rows. IsCatalogue rate rows clips)

-- why a file is no catalogue
abbrev pub IsCatalogueFaultOf : Rate → Option (List ℕ) → ListFault → Type 0
IsCatalogueFaultOf rate file fault = HasRows file (λ rows. IsCatalogueFault rate rows fault)
