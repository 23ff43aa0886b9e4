-- Which journal lines are, and which of them is refused.
use Rattle.hex.specs.Hex.{encode_lower}
use Rattle.std.specs.Prelude.{◌≡◌, ◌≢◌, ℕ, ◌+◌, ◌<◌, ◌≤◌, ◌^◌, ◌⊎◌, ⊤, Option, Some, List, [], ◌∷◌, codes, decimal, drop, length, option_map, take, slice_get}
use Rattle.vdcp_journal.specs.Reading.{AreWritable, IsWritableHeading, IsWritableNote}
use Rattle.vdcp_journal.specs.Rows.{Fields, heading_fields, journal_fields, mode_text, note_fields, row_fields}
use Rattle.vdcp_journal.specs.Times.{moment_text}
use Rattle.vdcp_journal.specs.declared.faults.JournalReadFault.TheVariants as refused
use Rattle.vdcp_journal.specs.declared.faults.JournalReadFault.{JournalReadFault}
use Rattle.vdcp_journal.specs.declared.faults.JournalRowFault.TheVariants as wrong
use Rattle.vdcp_journal.specs.declared.faults.JournalRowFault.{JournalRowFault}
use Rattle.vdcp_journal.specs.declared.moment.Moment.{Moment}
use Rattle.vdcp_journal.specs.declared.read.JournalRows.{JournalRows}
use Rattle.vdcp_journal.specs.declared.row.Heading.{Heading}
use Rattle.vdcp_journal.specs.declared.row.Note.{Note}
use Rattle.vdcp_journal.specs.declared.row.Row.{Row}
use Rattle.vdcp_auto.specs.declared.phase.Mode.{Mode}
use Rattle.vdcp_list.specs.Reading.{IsFront, IsSet, rows_left}
use Rattle.vdcp_list.specs.Rows.{FileBytes, HasRows, rows_of}
use Rattle.vdcp_value.specs.Bytes.{AreBytes}

-- a heading that can be written, of a server at unit 0 to 15
pub record IsHeading (fields : Fields) (time : Moment) (heading : Heading) : Type 0 where
  pub writable : IsWritableHeading heading
  pub unit : heading.unit ≤ 15
  pub fields_are : heading_fields time heading ≡ fields

-- no moment's text stands in the first field
abbrev pub HasNoTime : Fields → Type 0
HasNoTime fields = (moment : Moment) → slice_get fields 0 ≢ Some (moment_text moment)

-- why fields are no heading's
abbrev pub IsHeadingFault : Fields → JournalRowFault → Type 0
IsHeadingFault fields wrong.Fields = length fields ≢ 7
IsHeadingFault fields wrong.Time = HasNoTime fields
IsHeadingFault fields wrong.Word = slice_get fields 1 ≢ Some (codes "list")
IsHeadingFault fields wrong.Digest =
    (digest : List ℕ) → AreBytes 32 digest → slice_get fields 2 ≢ Some (encode_lower digest)
IsHeadingFault fields wrong.Mode = (mode : Mode) → slice_get fields 3 ≢ Some (mode_text mode)
IsHeadingFault fields wrong.Number = (unit port limit : ℕ) → unit ≤ 15 → port < 256 → limit < 2 ^ 32 →
    drop 4 fields ≢ decimal unit ∷ decimal port ∷ decimal limit ∷ []
IsHeadingFault fields _ = ⊥

-- the fields are those of a row, in a journal of the server at this unit
abbrev pub IsRow : ℕ → Fields → Row → Type 0
IsRow unit fields row = IsWritableNote row.note × (row_fields unit row ≡ fields)

-- no note has these fields
abbrev pub HasNoNote : ℕ → Fields → Type 0
HasNoNote unit fields = (n : Note) → IsWritableNote n → note_fields unit n ≢ drop 1 fields

-- which fault tells of a row with this word that is no note's
abbrev pub IsFaultOfWord : List ℕ → JournalRowFault → Type 0
IsFaultOfWord word wrong.Command = word ≡ codes "sent"
IsFaultOfWord word wrong.Reply = word ≡ codes "heard"
IsFaultOfWord word wrong.Outcome = word ≡ codes "end"
IsFaultOfWord word wrong.Event = (word ≡ codes "from") ⊎ ((word ≡ codes "left") ⊎ (word ≡ codes "skip"))
IsFaultOfWord word wrong.Detail = (word ≡ codes "silence") ⊎ ((word ≡ codes "take") ⊎ ((word ≡ codes "stop")
    ⊎ ((word ≡ codes "hold") ⊎ (word ≡ codes "go"))))
IsFaultOfWord word wrong.Word = (unit : ℕ) (n : Note) → slice_get (note_fields unit n) 0 ≢ Some word
IsFaultOfWord word _ = ⊥

-- no note has these fields, and the fault is that of their word
pub record IsNoteFault (unit : ℕ) (fields : Fields) (fault : JournalRowFault) : Type 0 where
  pub none : HasNoNote unit fields
  pub word : List ℕ
  pub second : slice_get fields 1 ≡ Some word
  pub of_word : IsFaultOfWord word fault

-- why fields are no row's
abbrev pub IsRowFault : ℕ → Fields → JournalRowFault → Type 0
IsRowFault unit fields wrong.Fields = length fields ≢ 4
IsRowFault unit fields wrong.Time = HasNoTime fields
IsRowFault unit fields fault = IsNoteFault unit fields fault

-- lines are the rows of a journal
pub record AreLinesOf (lines : List Fields) (time : Moment) (heading : Heading) (rows : List Row) : Type 0 where
  pub writable_heading : IsWritableHeading heading
  pub unit : heading.unit ≤ 15
  pub writable : AreWritable rows
  pub lines_are : lines ≡ journal_fields time heading rows

-- line k, counted from 0, is the first that isn't a row of the journal that the lines before it are
pub record IsBadLine (lines : List Fields) (k : ℕ) (fault : JournalRowFault) : Type 0 where
  pub time : Moment
  pub heading : Heading
  pub rows : List Row
  pub before : AreLinesOf (take k lines) time heading rows
  pub fields : Fields
  pub next : slice_get lines k ≡ Some fields
  pub wrong : IsRowFault heading.unit fields fault

-- why lines are no journal's. Of memory and of the device, and of one that is too long, lines say nothing
abbrev pub IsLinesFault : List Fields → JournalReadFault → Type 0
IsLinesFault lines refused.Empty = lines ≡ []
IsLinesFault lines (refused.Heading fault) =
    (fields : Fields) × (slice_get lines 0 ≡ Some fields) × IsHeadingFault fields fault
IsLinesFault lines (refused.Row k fault) = (before : ℕ) × (k ≡ before + 1) × IsBadLine lines before fault
IsLinesFault lines (refused.Long k) = ⊤
IsLinesFault lines refused.Memory = ⊤
IsLinesFault lines refused.Device = ⊤

-- a journal: when it was begun, what it is of, and its rows, the heading apart
pub record Journal : Type 0 where
  pub time : Moment
  pub heading : Heading
  pub rows : List Row

-- the lines of a file, if its bytes are known, read as CSV, are the rows of a journal
abbrev pub IsJournal : FileBytes → Journal → Type 0
IsJournal file journal = HasRows file (λ lines. AreLinesOf lines journal.time journal.heading journal.rows)

-- why they are none
abbrev pub IsJournalFault : FileBytes → JournalReadFault → Type 0
IsJournalFault file fault = HasRows file (λ lines. IsLinesFault lines fault)

-- the rows of a journal are being read: neither the end nor a fault has come
pub record IsReading {R : Type 0} (journal : JournalRows R) : Type 0 where
  pub set : IsSet journal.lines
  pub unit : journal.heading.unit ≤ 15

-- these rows were taken of a file, if its bytes are known: the lines that were read are the heading and they, and the
-- others are left
pub record TookRows {R : Type 0} (remaining : R → Option (List ℕ)) (file : Option (List ℕ)) (journal : JournalRows R)
    (rows : List Row) : Type 0 where
  pub reading : IsReading journal
  pub lines : List Fields
  pub front : IsFront (option_map rows_of file) (rows_left remaining journal.lines) lines
  pub lines_are : AreLinesOf lines journal.time journal.heading rows
  pub number : journal.number ≡ length lines
