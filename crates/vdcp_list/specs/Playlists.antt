-- The items that the rows of a playlist name, and which row is refused.
use Rattle.std.specs.Prelude.{ℕ, ◌≤◌, ◌≡◌, ◌≢◌, ◌==◌, ◌&&◌, ◌||◌, ⊤, Bool, true, false, IsTrue, IsFalse, List, [], ◌∷◌, ◌++◌, All, map, length, Option, None, Some}
use Rattle.vdcp_list.specs.Reading.{IsRowsFault}
use Rattle.vdcp_list.specs.Rows.{FileRow, HasId, HasRows, most_rows}
use Rattle.vdcp_list.specs.declared.faults.ListFault.{ListFault}
use Rattle.vdcp_value.specs.declared.faults.RowFault.TheVariants.{Columns, Id, Time}
use Rattle.vdcp_value.specs.declared.faults.RowFault.{RowFault}
use Rattle.vdcp_value.specs.Bcd.{is_time, label_of_bcd, frames_in}
use Rattle.vdcp_value.specs.Ids.{text_of_id}
use Rattle.vdcp_value.specs.LabelText.{label_text}
use Rattle.vdcp_value.specs.Parts.{IsPart}
use Rattle.vdcp_value.specs.declared.part.Item.{Item}
use Rattle.vdcp_value.specs.declared.part.Part.{Part}
use Rattle.vdcp_value.specs.declared.rate.Rate.{Rate}

-- the text of the time code that four bytes write
abbrev pub time_text : Rate → List ℕ → List ℕ
time_text rate bytes = label_text rate (label_of_bcd bytes)

-- start and duration, both empty for a whole clip
abbrev pub part_fields : Rate → Option Part → FileRow
part_fields rate None = [] ∷ [] ∷ []
part_fields rate (Some part) = time_text rate part.start ∷ time_text rate part.duration ∷ []

-- an item's row, without and with the fields of a part
abbrev pub item_row : Rate → Bool → Item → FileRow
item_row rate false item = text_of_id item.id ∷ []
item_row rate true item = text_of_id item.id ∷ part_fields rate item.part

-- the labels of a part are lawful at a rate
abbrev pub is_lawful_part : Rate → Part → Bool
is_lawful_part rate part = is_time rate part.start && is_time rate part.duration

-- what a playlist can name: a whole clip or, in rows with the fields, a lawful part of one frame at least
abbrev pub CanName : Rate → Bool → Option Part → Type 0
CanName rate with_parts None = ⊤
CanName rate with_parts (Some part) =
    IsTrue with_parts × IsPart part × IsTrue (is_lawful_part rate part) × (1 ≤ frames_in rate part.duration)

-- these rows, which are of one kind, name these items
pub record Names (rate : Rate) (with_parts : Bool) (rows : List FileRow) (items : List Item) : Type 0 where
  pub rows_are : rows ≡ map (item_row rate with_parts) items
  pub can_name : All (λ item. CanName rate with_parts item.part) items

-- how many fields the first row has, which all others have too
abbrev pub columns_of : List FileRow → ℕ
columns_of [] = 0
columns_of (row ∷ more) = length row

abbrev pub has_parts : ℕ → Bool
has_parts columns = columns == 3

-- one field or three, as in the first row
abbrev pub is_of_columns : ℕ → FileRow → Bool
is_of_columns columns row = (length row == columns) && ((columns == 1) || (columns == 3))

-- the rows are a playlist of these items
pub record IsPlaylist (rate : Rate) (rows : List FileRow) (items : List Item) : Type 0 where
  pub few : length rows ≤ most_rows
  pub named : Names rate (has_parts (columns_of rows)) rows items

-- why a row of a playlist is refused: the first that applies
abbrev pub IsItemFault : Rate → ℕ → FileRow → RowFault → Type 0
IsItemFault rate columns row Columns = IsFalse (is_of_columns columns row)
IsItemFault rate columns row Id = IsTrue (is_of_columns columns row) × ¬ HasId row
IsItemFault rate columns row Time =
    IsTrue (is_of_columns columns row) × HasId row
    × ((item : Item) → CanName rate (has_parts columns) item.part → item_row rate (has_parts columns) item ≢ row)
IsItemFault rate columns row fault = ⊥

-- these rows name items
abbrev pub NameItems : Rate → List FileRow → Type 0
NameItems rate rows = (items : List Item) × Names rate (has_parts (columns_of rows)) rows items

-- why a row is refused after those before it
abbrev pub IsNextFault : Rate → List FileRow → FileRow → RowFault → Type 0
IsNextFault rate before row fault = IsItemFault rate (columns_of (before ++ row ∷ [])) row fault

-- why the rows are no playlist
abbrev pub IsPlaylistFault : Rate → List FileRow → ListFault → Type 0
IsPlaylistFault rate rows fault = IsRowsFault (NameItems rate) (IsNextFault rate) rows fault

-- a file is a playlist of these items
abbrev pub IsListOf : Rate → Option (List ℕ) → List Item → Type 0
IsListOf rate file items = HasRows file (λ rows. IsPlaylist rate rows items)

-- why a file is no playlist
abbrev pub IsListFaultOf : Rate → Option (List ℕ) → ListFault → Type 0
IsListFaultOf rate file fault = HasRows file (λ rows. IsPlaylistFault rate rows fault)
