-- Which event the commands of a journal's rows are about.
use Rattle.std.specs.Prelude.{ℕ, ◌+◌, ◌-◌, ◌^◌, Bool, true, false, min}
use Rattle.vdcp_journal.specs.declared.row.Note.{Note}
use Rattle.vdcp_journal.specs.declared.row.Note.TheVariants as note
use Rattle.vdcp_words.specs.declared.command.Command.TheVariants as command

-- after a note: the one that a run begins with; or the next one, once it was asked which clip plays and then whether another
-- one is there
abbrev pub event_after : ℕ → Bool → Note → ℕ
event_after event checked (note.From k) = k
event_after event checked (note.Left k) = k
event_after event true (note.Sent (command.IdRequest id)) = min (event + 1) (2 ^ 64 - 1)
event_after event checked n = event

-- it was asked which clip plays, and the next event follows
abbrev pub checked_after : Bool → Note → Bool
checked_after checked (note.From k) = false
checked_after checked (note.Left k) = false
checked_after checked (note.Sent command.ActiveId) = true
checked_after checked (note.Sent (command.IdRequest id)) = false
checked_after checked n = checked
