-- What is read of a journal's bytes.
use Rattle.std.specs.Prelude.{ℕ, ◌<◌, ◌^◌, ◌==◌, ⊤, List, [], ◌∷◌, ◌++◌, Option, if◌then◌else◌, option_map, slice_range}
use Rattle.vdcp_auto.specs.declared.exchange.Heard.TheVariants as heard
use Rattle.vdcp_auto.specs.declared.list_call.ListCall.TheVariants.{Skip}
use Rattle.vdcp_auto.specs.declared.outcome.Outcome.{Outcome}
use Rattle.vdcp_auto.specs.declared.outcome.Outcome.TheVariants.{Missing, Refused, Foreign, Strange}
use Rattle.vdcp_journal.specs.declared.row.Heading.{Heading}
use Rattle.vdcp_journal.specs.declared.row.Note.{Note}
use Rattle.vdcp_journal.specs.declared.row.Note.TheVariants as note
use Rattle.vdcp_journal.specs.declared.row.Row.{Row}
use Rattle.vdcp_journal.specs.declared.whole.WholeLines.{WholeLines}
use Rattle.vdcp_value.specs.Bytes.{AreBytes}
use Rattle.vdcp_words.specs.Commands.{IsWritableCommand}
use Rattle.vdcp_words.specs.Replies.{IsWritableReply}

-- a byte before the whole lines after it
abbrev pub line_before : ℕ → List ℕ → List ℕ
line_before byte [] = if byte == 10 then byte ∷ [] else []
line_before byte (next ∷ more) = byte ∷ next ∷ more

-- the text without what follows its last line feed
abbrev pub whole_lines : List ℕ → List ℕ
whole_lines [] = []
whole_lines (byte ∷ more) = line_before byte (whole_lines more)

-- what is held of whole lines, and isn't given yet
abbrev pub line_held : {R : Type 0} → WholeLines R → List ℕ
line_held lines = slice_range lines.held.items lines.given lines.whole

-- what is held after them: the beginning of a line, or lines that aren't found yet
abbrev pub begun_held : {R : Type 0} → WholeLines R → List ℕ
begun_held lines = slice_range lines.held.items lines.whole lines.filled

-- the whole lines that are left, if the bytes that their reader has are known
abbrev pub lines_left : {R : Type 0} → (R → Option (List ℕ)) → WholeLines R → Option (List ℕ)
lines_left remaining lines =
    option_map (λ more. line_held lines ++ whole_lines (begun_held lines ++ more)) (remaining lines.reader)

-- the event's number is one of the machine's
abbrev pub IsWritableOutcome : Outcome → Type 0
IsWritableOutcome (Missing k) = k < 2 ^ 64
IsWritableOutcome (Refused k) = k < 2 ^ 64
IsWritableOutcome (Foreign k) = k < 2 ^ 64
IsWritableOutcome (Strange k) = k < 2 ^ 64
IsWritableOutcome outcome = ⊤

-- the numbers are bytes, and a state has a state byte exactly if its bitmap asks for one, as in each that is heard
abbrev pub IsWritableNote : Note → Type 0
IsWritableNote (note.Sent c) = IsWritableCommand c
IsWritableNote (note.Heard (heard.Reply r)) = IsWritableReply r
IsWritableNote (note.List (Skip first end)) = (first < 2 ^ 64) × (end < 2 ^ 64)
IsWritableNote (note.End outcome) = IsWritableOutcome outcome
IsWritableNote (note.From k) = k < 2 ^ 64
IsWritableNote (note.Left k) = k < 2 ^ 64
IsWritableNote n = ⊤

abbrev pub AreWritable : List Row → Type 0
AreWritable [] = ⊤
AreWritable (row ∷ rows) = IsWritableNote row.note × AreWritable rows

-- a digest of 32 bytes, a unit and a port of one byte each, a limit of four
pub record IsWritableHeading (heading : Heading) : Type 0 where
  pub digest : AreBytes 32 heading.digest
  pub unit : heading.unit < 256
  pub port : heading.port < 256
  pub limit : heading.limit < 2 ^ 32
