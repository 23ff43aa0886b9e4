-- The rows that a reader has left, and what a read takes of them.
use Rattle.csv.specs.Reading.{default_config, is_flexible, reader_config, reader_state, reader_trim, Ready, source_of}
use Rattle.csv.specs.declared.error.ErrorKind.TheVariants as kinds
use Rattle.csv.specs.declared.error.ErrorKind.{ErrorKind}
use Rattle.csv.specs.declared.reader.Reader.{Reader}
use Rattle.csv.specs.declared.reader.Trim.TheVariants as trim
use Rattle.std.specs.Prelude.{ℕ, ◌+◌, ◌-◌, ◌<◌, ◌≤◌, ◌≡◌, ◌⊎◌, ⊤, Bool, true, false, List, [], ◌∷◌, ◌++◌, Option, None, Some, length, option_map, slice_get, take}
use Rattle.vdcp_list.specs.Rows.{FileRow, most_rows, rows_from}
use Rattle.vdcp_list.specs.declared.faults.ListFault.TheVariants.{Memory, Read, Row}
use Rattle.vdcp_list.specs.declared.faults.ListFault.{ListFault}
use Rattle.vdcp_value.specs.declared.faults.RowFault.TheVariants.{Long, TooMany}
use Rattle.vdcp_value.specs.declared.faults.RowFault.{RowFault}
use Rattle.vdcp_list.specs.declared.bounded.Bounded.{Bounded}

-- the reader gives rows of any length, as they stand, and none is a header
pub record IsSet {R : Type 0} (reader : Reader R) : Type 0 where
  pub config : reader_config reader ≡ default_config
  pub trims : reader_trim reader ≡ trim.None
  pub flexible : is_flexible reader ≡ true
  pub ready : Ready reader

-- the rows that a reader has left, if its bytes are known
abbrev pub rows_left : {R : Type 0} → (R → Option (List ℕ)) → Reader (Bounded R) → Option (List FileRow)
rows_left remaining reader = option_map (rows_from (reader_state reader)) (source_of (λ b. remaining b.source) reader)

-- a read took the first row of those left, or there was none; of bytes that aren't known it says nothing
abbrev pub TakesRow : Option (List FileRow) → Option (List FileRow) → Bool → FileRow → Type 0
TakesRow None left found row = ⊤
TakesRow (Some rows) left false row = rows ≡ []
TakesRow (Some rows) left true row = (more : List FileRow) × (left ≡ Some more) × (rows ≡ row ∷ more)

-- of all rows these were read, and the others are left; of rows that aren't known it says nothing
abbrev pub IsFront : Option (List FileRow) → Option (List FileRow) → List FileRow → Type 0
IsFront None left front = ⊤
IsFront (Some rows) left front = (more : List FileRow) × (left ≡ Some more) × (rows ≡ front ++ more)

-- a fault of the reading: a row that is too long, or the reader or memory failed
abbrev pub IsReadFault : ListFault → Type 0
IsReadFault (Row k Long) = ⊤
IsReadFault (Row k fault) = ⊥
IsReadFault Memory = ⊤
IsReadFault Read = ⊤

-- a fault of this row, of which this holds
abbrev pub IsOfRow : ℕ → (RowFault → Type 0) → ListFault → Type 0
IsOfRow k Is fault = (wrong : RowFault) × (fault ≡ Row k wrong) × Is wrong

-- row k, counted from 1, is refused, after rows that are fine
pub record RefusesRow (IsFine : List FileRow → Type 0) (Refuses : List FileRow → FileRow → RowFault → Type 0)
    (rows : List FileRow) (k : ℕ) (fault : ListFault) : Type 0 where
  pub counted : 1 ≤ k
  pub within : k ≤ most_rows
  pub fine : IsFine (take (k - 1) rows)
  pub row : FileRow
  pub next : slice_get rows (k - 1) ≡ Some row
  pub refused : IsOfRow k (Refuses (take (k - 1) rows) row) fault

-- the first row past the limit is refused, after rows that are fine
pub record HasTooMany (IsFine : List FileRow → Type 0) (rows : List FileRow) (fault : ListFault) : Type 0 where
  pub fault_is : fault ≡ Row (most_rows + 1) TooMany
  pub many : most_rows < length rows
  pub fine : IsFine (take most_rows rows)

-- why rows aren't fine: they are tested one after another, each after those before it, and the first refusal counts
abbrev pub IsRowsFault : (List FileRow → Type 0) → (List FileRow → FileRow → RowFault → Type 0) → List FileRow
    → ListFault → Type 0
IsRowsFault IsFine Refuses rows fault =
    IsReadFault fault ⊎ (HasTooMany IsFine rows fault ⊎ ((k : ℕ) × RefusesRow IsFine Refuses rows k fault))

-- which fault an error of csv is: the others but Io don't come, since rows may have any length and are read as bytes
abbrev pub fault_of_kind : ErrorKind → ListFault
fault_of_kind kinds.OutOfMemory = Memory
fault_of_kind (kinds.Io error) = Read
fault_of_kind (kinds.Utf8 place error) = Read
fault_of_kind (kinds.UnequalLengths place expected found) = Read
fault_of_kind (kinds.Serialize text) = Read
fault_of_kind (kinds.Deserialize place error) = Read
