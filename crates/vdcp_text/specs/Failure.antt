-- The line that reports a failure, and its exit status.
use Rattle.std.specs.Prelude.{ℕ, List, ◌++◌, codes, decimal}
use Rattle.vdcp_text.specs.Text.{line, shown_name}
use Rattle.vdcp_text.specs.declared.failure.Failure.{Failure}
use Rattle.vdcp_text.specs.declared.failure.Failure.TheVariants.{Hex, Word, Arguments, Text, Open, Read, Row, ScriptLine, TooManyEvents, NotText, Empty, Write, IsList, Exists, InUse, JournalRow, NotTheList, MayHaveAired, NoEvent, Memory, Writer}
use Rattle.vdcp_text.specs.declared.failure.Failure.TheVariants.{Address, Connect, NotEmpty, Bind, LineFailed, LineClosed, Unanswered, Spent}
use Rattle.vdcp_text.specs.declared.failure.Words.{Words}
use Rattle.vdcp_text.specs.declared.failure.Words.TheVariants.{Plain, File, Place, Event}
use Rattle.vdcp_text.specs.declared.failure.JournalFault.{JournalFault}
use Rattle.vdcp_text.specs.declared.failure.JournalFault.TheVariants as journal
use Rattle.vdcp_text.specs.declared.failure.ScriptLineFault.{ScriptLineFault}
use Rattle.vdcp_text.specs.declared.failure.ScriptLineFault.TheVariants as lines
use Rattle.vdcp_value.specs.declared.faults.RowFault.{RowFault}
use Rattle.vdcp_value.specs.declared.faults.RowFault.TheVariants as rows

-- the exit status of a failure
abbrev pub status_of : Failure → ℕ
status_of Hex = 1
status_of Word = 1
status_of Arguments = 1
status_of Text = 2
status_of (Open name) = 3
status_of (Read name) = 3
status_of (Row name row fault) = 1
status_of (ScriptLine name number fault) = 1
status_of (TooManyEvents name) = 1
status_of (NotText name) = 1
status_of (Empty name) = 1
status_of (Write name) = 3
status_of (IsList name) = 3
status_of (Exists name) = 3
status_of (InUse name) = 3
status_of (JournalRow name row fault) = 1
status_of (NotTheList name) = 1
status_of (MayHaveAired event) = 1
status_of (NoEvent event) = 1
status_of Address = 2
status_of Connect = 3
status_of NotEmpty = 1
status_of Bind = 3
status_of LineFailed = 3
status_of LineClosed = 3
status_of Unanswered = 3
status_of Spent = 3
status_of Memory = 3
status_of Writer = 3

abbrev pub row_fault_text : RowFault → List ℕ
row_fault_text rows.Columns = codes "columns"
row_fault_text rows.Id = codes "id"
row_fault_text rows.Time = codes "time"
row_fault_text rows.Twice = codes "twice"
row_fault_text rows.TooMany = codes "too many"
row_fault_text rows.Long = codes "long"

abbrev pub script_line_fault_text : ScriptLineFault → List ℕ
script_line_fault_text lines.Word = codes "word"
script_line_fault_text lines.Number = codes "number"
script_line_fault_text lines.Hex = codes "hex"
script_line_fault_text lines.Long = codes "long"

abbrev pub journal_fault_text : JournalFault → List ℕ
journal_fault_text journal.Empty = codes "empty"
journal_fault_text journal.Columns = codes "columns"
journal_fault_text journal.Time = codes "time"
journal_fault_text journal.Word = codes "word"
journal_fault_text journal.Digest = codes "digest"
journal_fault_text journal.Mode = codes "mode"
journal_fault_text journal.Number = codes "number"
journal_fault_text journal.List = codes "list"
journal_fault_text journal.Unit = codes "unit"
journal_fault_text journal.Port = codes "port"
journal_fault_text journal.Limit = codes "limit"
journal_fault_text journal.Command = codes "command"
journal_fault_text journal.Reply = codes "reply"
journal_fault_text journal.Detail = codes "detail"
journal_fault_text journal.Unawaited = codes "unawaited"
journal_fault_text journal.Event = codes "event"
journal_fault_text journal.Outcome = codes "outcome"
journal_fault_text journal.Long = codes "long"

-- the words of a failure; those of a failed writer are never printed
abbrev pub failure_text : Failure → List ℕ
failure_text Hex = codes "hex"
failure_text Word = codes "word"
failure_text Arguments = codes "arguments"
failure_text Text = codes "text"
failure_text (Open name) = shown_name name.now ++ codes ": cannot open"
failure_text (Read name) = shown_name name.now ++ codes ": read"
failure_text (Row name row fault) = shown_name name.now ++ codes ": row " ++ decimal row ++ codes ": " ++ row_fault_text fault
failure_text (ScriptLine name number fault) =
    shown_name name.now ++ codes ": line " ++ decimal number ++ codes ": " ++ script_line_fault_text fault
failure_text (TooManyEvents name) = shown_name name.now ++ codes ": too many"
failure_text (NotText name) = shown_name name.now ++ codes ": text"
failure_text (Empty name) = shown_name name.now ++ codes ": empty"
failure_text (Write name) = shown_name name.now ++ codes ": write"
failure_text (IsList name) = shown_name name.now ++ codes ": exists as the list"
failure_text (Exists name) = shown_name name.now ++ codes ": exists"
failure_text (InUse name) = shown_name name.now ++ codes ": in use"
failure_text (JournalRow name row fault) =
    shown_name name.now ++ codes ": row " ++ decimal row ++ codes ": " ++ journal_fault_text fault
failure_text (NotTheList name) = shown_name name.now ++ codes ": not the journal's list"
failure_text (MayHaveAired event) = codes "event " ++ decimal event ++ codes " may have aired"
failure_text (NoEvent event) = codes "no event " ++ decimal event
failure_text Address = codes "address"
failure_text Connect = codes "cannot connect"
failure_text NotEmpty = codes "port not empty"
failure_text Bind = codes "cannot bind"
failure_text LineFailed = codes "line failed"
failure_text LineClosed = codes "line closed"
failure_text Unanswered = codes "never answered"
failure_text Spent = codes "spent"
failure_text Memory = codes "memory"
failure_text Writer = codes "write"

-- the same, of the words apart
abbrev pub words_text : Words → List ℕ
words_text (Plain words) = words.now
words_text (File name words) = shown_name name.now ++ words.now
words_text (Place name place number fault) =
    shown_name name.now ++ place.now ++ decimal number ++ codes ": " ++ fault.now
words_text (Event before event after) = before.now ++ decimal event ++ after.now

-- the line that reports a failure
abbrev pub failure_line : Failure → List ℕ
failure_line failure = line (codes "vdcp: " ++ failure_text failure)
