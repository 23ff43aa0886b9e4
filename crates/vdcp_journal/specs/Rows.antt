-- The rows of a journal, as fields and as text.
use Rattle.csv.specs.Writing.{default_writer, row_text}
use Rattle.hex.specs.Hex.{encode_lower}
use Rattle.std.specs.Prelude.{ℕ, ◌≡◌, List, [], ◌∷◌, ◌++◌, codes, decimal, map}
use Rattle.std.specs.List.{flat_map}
use Rattle.vdcp_auto.specs.declared.exchange.Heard.TheVariants as heard
use Rattle.vdcp_auto.specs.declared.list_call.ListCall.{ListCall}
use Rattle.vdcp_auto.specs.declared.list_call.ListCall.TheVariants.{Hold, Go, Skip}
use Rattle.vdcp_auto.specs.declared.outcome.Outcome.{Outcome}
use Rattle.vdcp_auto.specs.declared.outcome.Outcome.TheVariants.{Done, Stopped, Lost, Denied, Missing, Refused, Foreign, Strange}
use Rattle.vdcp_auto.specs.declared.phase.Mode.{Mode}
use Rattle.vdcp_auto.specs.declared.phase.Mode.TheVariants.{Plain, Confirming}
use Rattle.vdcp_frame.specs.Message.{spelling}
use Rattle.vdcp_journal.specs.Times.{moment_text}
use Rattle.vdcp_journal.specs.declared.moment.Moment.{Moment}
use Rattle.vdcp_journal.specs.declared.row.Heading.{Heading}
use Rattle.vdcp_journal.specs.declared.row.Note.{Note}
use Rattle.vdcp_journal.specs.declared.row.Note.TheVariants as note
use Rattle.vdcp_journal.specs.declared.row.Row.{Row}
use Rattle.vdcp_words.specs.Commands.{command_message}
use Rattle.vdcp_words.specs.Replies.{reply_message}
use Rattle.vdcp_words.specs.Texts.{command_text, reply_text}

-- the fields of a row, each a text
abbrev pub Fields : Type 0
Fields = List (List ℕ)

-- how the controller ended, and the number of the event if it is of one
abbrev pub outcome_fields : Outcome → Fields
outcome_fields Done = codes "done" ∷ [] ∷ []
outcome_fields Stopped = codes "stopped" ∷ [] ∷ []
outcome_fields Lost = codes "lost" ∷ [] ∷ []
outcome_fields Denied = codes "denied" ∷ [] ∷ []
outcome_fields (Missing k) = codes "missing" ∷ decimal k ∷ []
outcome_fields (Refused k) = codes "refused" ∷ decimal k ∷ []
outcome_fields (Foreign k) = codes "foreign" ∷ decimal k ∷ []
outcome_fields (Strange k) = codes "strange" ∷ decimal k ∷ []

-- what the operator said of the list; and the event with which what is left out begins, and the one with which the list goes on
abbrev pub call_fields : ListCall → Fields
call_fields Hold = codes "hold" ∷ [] ∷ [] ∷ []
call_fields Go = codes "go" ∷ [] ∷ [] ∷ []
call_fields (Skip first end) = codes "skip" ∷ decimal first ∷ decimal end ∷ []

-- what is noted, its text for people, and its bytes on the line in lower-case hexadecimal digits
abbrev pub note_fields : ℕ → Note → Fields
note_fields unit (note.Sent c) = codes "sent" ∷ command_text c ∷ encode_lower (spelling (command_message unit c)) ∷ []
note_fields unit (note.Heard (heard.Reply r)) =
    codes "heard" ∷ reply_text r ∷ encode_lower (spelling (reply_message unit r)) ∷ []
note_fields unit (note.Heard heard.Other) = codes "heard" ∷ codes "other" ∷ [] ∷ []
note_fields unit note.Silence = codes "silence" ∷ [] ∷ [] ∷ []
note_fields unit note.Take = codes "take" ∷ [] ∷ [] ∷ []
note_fields unit note.Stop = codes "stop" ∷ [] ∷ [] ∷ []
note_fields unit (note.List c) = call_fields c
note_fields unit (note.End outcome) = codes "end" ∷ outcome_fields outcome
note_fields unit (note.From k) = codes "from" ∷ decimal k ∷ [] ∷ []
note_fields unit (note.Left k) = codes "left" ∷ decimal k ∷ [] ∷ []

-- these bytes carry the note's command to the unit, if it is of a command
abbrev pub AreBytesOf : ℕ → List ℕ → Note → Type 0
AreBytesOf unit bytes (note.Sent c) = bytes ≡ spelling (command_message unit c)
AreBytesOf unit bytes _ = Unit {0}

abbrev pub row_fields : ℕ → Row → Fields
row_fields unit row = moment_text row.time ∷ note_fields unit row.note

abbrev pub mode_text : Mode → List ℕ
mode_text Plain = codes "plain"
mode_text Confirming = codes "confirm"

-- when the journal was begun, and what it is of
abbrev pub heading_fields : Moment → Heading → Fields
heading_fields time heading =
    moment_text time ∷ codes "list" ∷ encode_lower heading.digest ∷ mode_text heading.mode
    ∷ decimal heading.unit ∷ decimal heading.port ∷ decimal heading.limit ∷ []

-- a row as CSV: commas, quotes only if needed, a line feed
abbrev pub fields_text : Fields → List ℕ
fields_text fields = row_text default_writer fields

abbrev pub rows_text : ℕ → List Row → List ℕ
rows_text unit rows = flat_map (λ row. fields_text (row_fields unit row)) rows

-- a journal: the heading, and then rows
abbrev pub journal_text : Moment → Heading → List Row → List ℕ
journal_text time heading rows = fields_text (heading_fields time heading) ++ rows_text heading.unit rows

-- the fields of its rows
abbrev pub journal_fields : Moment → Heading → List Row → List Fields
journal_fields time heading rows = heading_fields time heading ∷ map (row_fields heading.unit) rows
