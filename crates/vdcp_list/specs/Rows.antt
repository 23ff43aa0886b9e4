-- The rows of a file.
use Rattle.csv.specs.Reading.{default_config, records_from, strip_bom}
use Rattle.csv.specs.declared.parser.State.TheVariants.{StartRecord}
use Rattle.csv.specs.declared.parser.State.{State}
use Rattle.std.specs.Prelude.{ℕ, ◌+◌, ◌≡◌, ⊤, List, length, slice_get, Option, None, Some}
use Rattle.vdcp_value.specs.Ids.{text_of_id}
use Rattle.vdcp_value.specs.declared.clip_id.ClipId.{ClipId}

-- a row of a file: its fields, each a list of bytes
abbrev pub FileRow : Type 0
FileRow = List (List ℕ)

-- a file: its bytes, if they are known
abbrev pub FileBytes : Type 0
FileBytes = Option (List ℕ)

-- the rows that csv reads from a state of its reader on
abbrev pub rows_from : State → List ℕ → List FileRow
rows_from state bytes = records_from default_config (length bytes + 1) state bytes

-- the rows that csv reads from a file: commas, double quotes, no header row, blank lines left out
abbrev pub rows_of : List ℕ → List FileRow
rows_of bytes = rows_from StartRecord (strip_bom bytes)

-- the rows are those of a file, if its bytes are known
abbrev pub AreRowsOf : Option (List ℕ) → List FileRow → Type 0
AreRowsOf None rows = ⊤
AreRowsOf (Some bytes) rows = rows ≡ rows_of bytes

-- a file has rows of which this holds: they are its own, if its bytes are known
abbrev pub HasRows : Option (List ℕ) → (List FileRow → Type 0) → Type 0
HasRows file Holds = (rows : List FileRow) × AreRowsOf file rows × Holds rows

-- how many rows a file has at most
abbrev pub most_rows : ℕ
most_rows = 10_000

-- an ID's text is the row's first field
abbrev pub HasId : FileRow → Type 0
HasId row = (id : ClipId) × (slice_get row 0 ≡ Some (text_of_id id))
