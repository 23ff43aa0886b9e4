-- What a recorder has written to its journal, and what it has still to write.
use Rattle.std.specs.Borrow.{Bor}
use Rattle.std.specs.Io.KnownBytes.{Appends}
use Rattle.std.specs.Prelude.{ℕ, ◌≡◌, ◌⊎◌, ◌==◌, ◌&&◌, Bool, false, if◌then◌else◌, List, [], ◌∷◌, ◌++◌, Option, IfSome, None, Some}
use Rattle.vdcp_auto.specs.Replies.{is_done, is_playing}
use Rattle.vdcp_auto.specs.declared.exchange.Heard.{Heard}
use Rattle.vdcp_auto.specs.declared.exchange.Heard.TheVariants as heard
use Rattle.vdcp_auto.specs.declared.outcome.Outcome.{Outcome}
use Rattle.vdcp_list.specs.Asrun.{AppendsBeginning}
use Rattle.vdcp_journal.specs.Rows.{AreBytesOf, rows_text}
use Rattle.vdcp_journal.specs.Thinned.{asks_state}
use Rattle.vdcp_journal.specs.declared.moment.Moment.{Moment}
use Rattle.vdcp_journal.specs.declared.row.Note.{Note}
use Rattle.vdcp_journal.specs.declared.row.Note.TheVariants as note
use Rattle.vdcp_journal.specs.declared.row.Row.{Row}
use Rattle.vdcp_journal_file.specs.declared.pending.HeldBytes.{HeldBytes}
use Rattle.vdcp_journal_file.specs.declared.pending.Pending.{Pending}
use Rattle.vdcp_journal_file.specs.declared.pending.Pending.TheVariants as pending
use Rattle.vdcp_journal_file.specs.declared.pending.RecordFault.{RecordFault}
use Rattle.vdcp_journal_file.specs.declared.pending.RecordFault.TheVariants as fault
use Rattle.vdcp_journal_file.specs.declared.pending.Seen.{Seen}
use Rattle.vdcp_text.specs.declared.failure.Failure.{Failure}
use Rattle.vdcp_text.specs.declared.failure.Failure.TheVariants as failures
use Rattle.vdcp_words.specs.declared.command.Command.{Command}
use Rattle.vdcp_words.specs.declared.command.Command.TheVariants as command
use Rattle.vdcp_words.specs.declared.reply.Reply.TheVariants as reply

-- a recorder: the journal's name, the unit of its server, its file, the note with which the run began if one was kept (its
-- row is in the file), and what is still to be written
pub record Recording (F : Type 0) : Type 0 where
  pub name : Bor (List ℕ)
  pub unit : ℕ
  pub file : F
  pub from : Option Note
  pub pending : Pending

-- the rows that are still to be written
abbrev pub rows_left : Pending → List Row
rows_left pending.Nothing = []
rows_left (pending.End row) = row ∷ []
rows_left (pending.Asked before asks) = asks ∷ []
rows_left (pending.Answered before asks hears) = asks ∷ hears ∷ []
rows_left (pending.Played before asks hears plays) = asks ∷ hears ∷ plays ∷ []
rows_left (pending.Over before asks hears plays row) = asks ∷ hears ∷ plays ∷ row ∷ []
rows_left (pending.Failed fault) = []

-- after the end of an exchange
abbrev pub ended : Pending → Row → Pending
ended pending.Nothing row = pending.End row
ended (pending.End before) row = pending.End row
ended (pending.Asked before asks) row = pending.Answered before asks row
ended (pending.Answered before asks hears) row = pending.Answered before asks row
ended (pending.Played before asks hears plays) row = pending.Over before asks hears plays row
ended (pending.Over before asks hears plays last) row = pending.Over before asks hears plays row
ended (pending.Failed fault) row = pending.Failed fault

-- the bytes that are held are those of the commands whose rows are held back
abbrev pub FitHeldRows : ℕ → HeldBytes → Pending → Type 0
FitHeldRows unit held (pending.Asked before asks) = IfSome held.asks (λ b. AreBytesOf unit b.items asks.note)
FitHeldRows unit held (pending.Answered before asks hears) = IfSome held.asks (λ b. AreBytesOf unit b.items asks.note)
FitHeldRows unit held (pending.Played before asks hears plays) = IfSome held.asks (λ b. AreBytesOf unit b.items asks.note)
    × IfSome held.plays (λ b. AreBytesOf unit b.items plays.note)
FitHeldRows unit held (pending.Over before asks hears plays row) = IfSome held.asks (λ b. AreBytesOf unit b.items asks.note)
    × IfSome held.plays (λ b. AreBytesOf unit b.items plays.note)
FitHeldRows unit held _ = Unit {0}

-- all that was written is safe, unless the file failed
abbrev pub IsSynced : Pending → (safe written : Option (List ℕ)) → Type 0
IsSynced left safe written = ((fault : RecordFault) × (left ≡ pending.Failed fault)) ⊎ (safe ≡ written)

-- a state that was seen: asked and heard
abbrev pub seen_of : Note → Note → Option Seen
seen_of (note.Sent (command.Status asked)) (note.Heard (heard.Reply (reply.State groups (Some state)))) =
    Some (record { asked = asked; groups = groups; state = state })
seen_of _ _ = None

-- its notes
abbrev pub notes_seen : Option Seen → List Note
notes_seen None = []
notes_seen (Some seen) = note.Sent (command.Status seen.asked)
    ∷ note.Heard (heard.Reply (reply.State seen.groups (Some seen.state))) ∷ []

-- the state that was seen last, if that is pending
abbrev pub seen_last : Pending → Option Seen
seen_last (pending.Answered before asks hears) = seen_of asks.note hears.note
seen_last _ = None

-- the state that was seen before, and stands last in the file, if what is pending follows it
abbrev pub seen_before : Pending → Option Seen
seen_before (pending.Asked before asks) = before
seen_before (pending.Answered before asks hears) = before
seen_before (pending.Played before asks hears plays) = Some before
seen_before (pending.Over before asks hears plays row) = Some before
seen_before _ = None

-- the same was seen twice, and is asked again
abbrev pub is_again : Option Seen → Option Seen → Note → Bool
is_again (Some before) (Some last) (note.Sent (command.Status asked)) =
    before.asked == last.asked && before.groups == last.groups && before.state == last.state && asked == before.asked
is_again _ _ _ = false

-- what is pending says nothing new if this goes out next
abbrev pub says_nothing_new : Pending → Note → Bool
says_nothing_new left next = is_again (seen_before left) (seen_last left) next

-- a state with the cue done, while a clip plays, announces a PLAY
abbrev pub announces : Option Seen → Bool
announces None = false
announces (Some seen) =
    is_done (reply.State seen.groups (Some seen.state)) && is_playing (reply.State seen.groups (Some seen.state))

-- a PLAY goes out next, after another state was heard, and one that announces it stands last in the file
abbrev pub is_announced : Pending → Note → Bool
is_announced (pending.Answered before asks hears) (note.Sent command.Play) = announces before
is_announced _ _ = false

-- what is pending with that PLAY
abbrev pub with_play : Pending → Row → Pending
with_play (pending.Answered (Some before) asks hears) row = pending.Played before asks hears row
with_play left row = left

-- The rows that are made safe before a command goes out, or a call is given: all that is pending, and its own. That of a
-- state that is asked is held back, and what says nothing new before it is left out. All is held back if a PLAY goes
-- out that is announced.
abbrev pub rows_due : Pending → Row → List Row
rows_due left row =
    if asks_state row.note then (if says_nothing_new left row.note then [] else rows_left left)
    else (if is_announced left row.note then [] else rows_left left ++ row ∷ [])

-- what is pending then
abbrev pub after_row : Pending → Row → Pending
after_row left row =
    if asks_state row.note then pending.Asked (seen_last left) row
    else (if is_announced left row.note then with_play left row else pending.Nothing)

abbrev pub end_note : Option Heard → Note
end_note None = note.Silence
end_note (Some heard) = note.Heard heard

-- this is still to be written if this command's exchange was timed out, if one was
abbrev pub IsTimedOut : Option Command → Pending → Type 0
IsTimedOut None left = left ≡ pending.Nothing
IsTimedOut (Some command) left =
    (time : Moment) × (left ≡ pending.End (record { time = time; note = note.Silence }))

-- the row that a run begins with, if it has one
abbrev pub from_rows : Moment → Option Note → List Row
from_rows time None = []
from_rows time (Some n) = record { time = time; note = n } ∷ []

-- the row of how the controller ended, if it has ended
abbrev pub outcome_rows : Moment → Option Outcome → List Row
outcome_rows time None = []
outcome_rows time (Some outcome) = record { time = time; note = note.End outcome } ∷ []

-- these rows are safe in the file since
abbrev pub MakesSafe : {F : Type 0} → (F → Option (List ℕ)) → Recording F → Recording F → List Row → Type 0
MakesSafe safe old new rows = Appends (safe old.file) (safe new.file) (rows_text old.unit rows)

-- a beginning of their text is there
abbrev pub MakesBeginning : {F : Type 0} → (F → Option (List ℕ)) → Recording F → Recording F → List Row → Type 0
MakesBeginning safe old new rows = AppendsBeginning (safe old.file) (safe new.file) (rows_text old.unit rows)

-- what was left is safe in the file, and then these rows
abbrev pub Adds : {F : Type 0} → (F → Option (List ℕ)) → Recording F → Recording F → List Row → Type 0
Adds safe old new rows = MakesSafe safe old new (rows_left old.pending ++ rows)

-- a beginning of their text is there
abbrev pub AddsBeginning : {F : Type 0} → (F → Option (List ℕ)) → Recording F → Recording F → List Row → Type 0
AddsBeginning safe old new rows = MakesBeginning safe old new (rows_left old.pending ++ rows)

abbrev pub failure_of : Bor (List ℕ) → RecordFault → Failure
failure_of name fault.Device = failures.Write name
failure_of name fault.Replaced = failures.Write name
failure_of name fault.Memory = failures.Memory

-- the rows aren't written to the journal of this name
abbrev pub IsUnwritten : Bor (List ℕ) → Failure → Type 0
IsUnwritten name failure = (failure ≡ failures.Write name) ⊎ (failure ≡ failures.Memory)

-- why the file of this name can't be had
abbrev pub IsUnopened : Bor (List ℕ) → Failure → Type 0
IsUnopened name failure = (failure ≡ failures.Open name)
    ⊎ ((failure ≡ failures.InUse name) ⊎ (failure ≡ failures.Memory))

-- why a journal of this name isn't begun
abbrev pub IsUnbegun : Bor (List ℕ) → Failure → Type 0
IsUnbegun name failure = (failure ≡ failures.Exists name)
    ⊎ (IsUnopened name failure ⊎ IsUnwritten name failure)

-- the run began with this note, if one was kept, and nothing is left to be written
abbrev pub BeganWith : {F : Type 0} → Option Note → Recording F → Type 0
BeganWith from recorder = (recorder.from ≡ from) × (recorder.pending ≡ pending.Nothing)

-- the file has just these bytes and then the row that the run began with, and all that it has is safe
pub record HasBegun {F : Type 0} (safe written : F → Option (List ℕ)) (bytes : Option (List ℕ)) (recorder : Recording F)
    : Type 0 where
  pub time : Moment
  pub begun : Appends bytes (safe recorder.file) (rows_text recorder.unit (from_rows time recorder.from))
  pub synced : safe recorder.file ≡ written recorder.file
