-- What the rows of a vector file are found to be, and what is printed of them.
use Rattle.std.specs.Borrow.{Bor}
use Rattle.std.specs.Io.KnownBytes.{Appends, Keeps}
use Rattle.std.specs.Cmp.Lexicographic.{pointwise}
use Rattle.std.specs.List.{flat_map}
use Rattle.std.specs.Prelude.{ℕ, suc, ◌+◌, ◌<◌, ◌==◌, ◌≤◌, ◌≡◌, ◌⊎◌, nat_eq, string_bytes, if◌then◌else◌, decimal, Option, List, [], ◌∷◌, ◌++◌, codes, length, map, Result, Ok, Err}
use Rattle.hex.specs.Hex.{decode_of}
use Rattle.hex.specs.declared.error.FromHexError.{FromHexError}
use Rattle.vdcp_text.specs.Failure.{failure_line}
use Rattle.vdcp_text.specs.Text.{end_text, line, message_text}
use Rattle.vdcp_text.specs.declared.failure.Failure.{Failure}
use Rattle.vdcp_text.specs.declared.failure.Failure.TheVariants.{Memory, Read, Row as RefusedRow}
use Rattle.vdcp_value.specs.declared.faults.RowFault.TheVariants.{Long, TooMany}
use Rattle.vdcp_offline.specs.declared.vectors.Tally.{Tally}
use Rattle.vdcp_offline.specs.declared.vectors.Verdict.{Verdict}
use Rattle.vdcp_offline.specs.declared.vectors.Verdict.TheVariants.{Right, Other, Columns, Hex}
use Rattle.vdcp_frame.specs.Burst.{messages_of, end_of}
use Rattle.vdcp_frame.specs.Message.{Content}
use Rattle.vdcp_list.specs.Rows.{AreRowsOf, FileRow, HasRows, most_rows}

-- the lines of messages, each followed by `; `
abbrev pub joined_text : List Content → List ℕ
joined_text ms = flat_map (λ m. message_text m ++ codes "; ") ms

-- the reading of a burst as one text, its lines joined by `; `
abbrev pub joined_reading : List ℕ → List ℕ
joined_reading burst = joined_text (messages_of burst) ++ end_text (end_of burst)

-- what a row is found to be
pub data Finding : Type 0 where
  right : Finding
  columns : Finding
  hex : Finding
  got : (reading : List ℕ) → Finding

-- what a burst of this reading is found to be, if another may be expected
abbrev pub finding_of_reading : List ℕ → List ℕ → Finding
finding_of_reading reading expected = if pointwise nat_eq reading expected then right else got reading

-- what is found of a burst's digits, by what they decode to, and its expected reading
abbrev pub finding_of_burst : Result (List ℕ) FromHexError → List ℕ → Finding
finding_of_burst (Ok burst) expected = finding_of_reading (joined_reading burst) expected
finding_of_burst (Err fault) expected = hex

-- what a row is found to be: its fields are counted first
abbrev pub finding_of_row : FileRow → Finding
finding_of_row [] = columns
finding_of_row (digits ∷ []) = columns
finding_of_row (digits ∷ expected ∷ []) = finding_of_burst (decode_of digits) expected
finding_of_row (digits ∷ expected ∷ third ∷ rest) = columns

abbrev pub findings_of : List FileRow → List Finding
findings_of rows = map finding_of_row rows

-- the finding that a value of the code stands for
abbrev pub finding_of : Verdict → Finding
finding_of Right = right
finding_of Columns = columns
finding_of Hex = hex
finding_of (Other reading) = got reading.now

-- the line of row k, if it isn't right
abbrev pub finding_text : ℕ → Finding → List ℕ
finding_text k right = []
finding_text k columns = line (codes "row " ++ decimal k ++ codes ": columns")
finding_text k hex = line (codes "row " ++ decimal k ++ codes ": hex")
finding_text k (got reading) = line (codes "row " ++ decimal k ++ codes ": got " ++ reading)

-- the lines of the rows that aren't right, counted from k on
abbrev pub findings_text : ℕ → List Finding → List ℕ
findings_text k [] = []
findings_text k (finding ∷ findings) = finding_text k finding ++ findings_text (suc k) findings

-- how many of the rows aren't right
abbrev pub bad_count : List Finding → ℕ
bad_count [] = 0
bad_count (right ∷ findings) = bad_count findings
bad_count (columns ∷ findings) = suc (bad_count findings)
bad_count (hex ∷ findings) = suc (bad_count findings)
bad_count (got reading ∷ findings) = suc (bad_count findings)

-- the last line, with the number of rows and of bad ones
abbrev pub count_text : ℕ → ℕ → List ℕ
count_text rows bad =
    if bad == 0
    then codes "vectors " ++ decimal rows ++ codes " ok"
    else codes "vectors " ++ decimal rows ++ codes " bad " ++ decimal bad

-- what is printed of rows that are found to be these
abbrev pub vectors_text : List Finding → List ℕ
vectors_text findings = findings_text 1 findings ++ line (count_text (length findings) (bad_count findings))

-- a file's rows were tested: a writer gained what is printed of them, and this is the number of bad ones
pub record AreTested (file old new : Option (List ℕ)) (bad : ℕ) : Type 0 where
  pub rows : List FileRow
  pub are_rows : AreRowsOf file rows
  pub few : length rows ≤ most_rows
  pub gained : Appends old new (vectors_text (findings_of rows))
  pub bad_are : bad ≡ bad_count (findings_of rows)

-- the tally of rows that are found to be these
pub record IsTally (findings : List Finding) (tally : Tally) : Type 0 where
  pub rows_are : tally.rows ≡ length findings
  pub bad_are : tally.bad ≡ bad_count findings
  pub lines_are : string_bytes tally.lines ≡ findings_text 1 findings

-- the tally of a file's rows
pub record IsTallyOf (file : Option (List ℕ)) (tally : Tally) : Type 0 where
  pub rows : List FileRow
  pub are_rows : AreRowsOf file rows
  pub few : length rows ≤ most_rows
  pub tallied : IsTally (findings_of rows) tally

-- a file has more rows than may be tested
abbrev pub HasTooMany : Option (List ℕ) → Type 0
HasTooMany file = HasRows file (λ rows. most_rows < length rows)

-- the failure of a file of this name that has more
abbrev pub too_many : Bor (List ℕ) → Failure
too_many name = RefusedRow name (most_rows + 1) TooMany

-- the failure of a file of this name of which this row is too long
abbrev pub too_long : Bor (List ℕ) → ℕ → Failure
too_long name row = RefusedRow name row Long

-- why the rows of a file of this name aren't tested
abbrev pub IsUntested : Bor (List ℕ) → Option (List ℕ) → Failure → Type 0
IsUntested name file failure =
    (failure ≡ Memory) ⊎ (failure ≡ Read name) ⊎ ((row : ℕ) × (failure ≡ too_long name row))
    ⊎ ((failure ≡ too_many name) × HasTooMany file)

-- a file of this name is refused, since a row is too long or there are too many: one writer gained the line that
-- reports it, and the other nothing
abbrev pub RefusesRows : Bor (List ℕ) → Option (List ℕ) → (out out' err err' : Option (List ℕ)) → Type 0
RefusesRows name file out out' err err' =
    ((row : ℕ) × Keeps out out' × Appends err err' (failure_line (too_long name row)))
    ⊎ (HasTooMany file × Keeps out out' × Appends err err' (failure_line (too_many name)))
