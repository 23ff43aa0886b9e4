-- What a journal has of the run of an automation that has its exchanges kept there.
use Rattle.std.specs.Io.KnownBytes.{Appends}
use Rattle.std.specs.List.{flat_map}
use Rattle.std.specs.Prelude.{ℕ, ◌≡◌, ◌⊎◌, Bool, true, IsTrue, false, not, List, [], ◌∷◌, ◌++◌, filter, map, Option, None, Some, Result, Ok, Err}
use Rattle.vdcp_auto.specs.Commands.{is_status_command}
use Rattle.vdcp_auto.specs.Plan.{Plan}
use Rattle.vdcp_auto.specs.Turn.{awaited}
use Rattle.vdcp_auto.specs.declared.exchange.Heard.{Heard}
use Rattle.vdcp_drive.specs.Auto.{Auto, Event, arrivals}
use Rattle.vdcp_drive.specs.Ears.{Fold}
use Rattle.vdcp_drive.specs.Hooked.{MayKeep, MayLose}
use Rattle.vdcp_drive.specs.Steps.{Rules, Step, misses}
use Rattle.vdcp_drive.specs.Traces.{bytes_of}
use Rattle.vdcp_drive.specs.declared.hooks.Kept.{Kept}
use Rattle.vdcp_drive.specs.declared.hooks.Kept.TheVariants as kept
use Rattle.vdcp_drive.specs.declared.hooks.BrokenOff.{BrokenOff}
use Rattle.vdcp_drive.specs.declared.hooks.BrokenOff.TheVariants as fault
use Rattle.vdcp_drive.specs.declared.line.Ran.{Ran}
use Rattle.vdcp_drive.specs.declared.hooks.Call.{Call}
use Rattle.vdcp_drive.specs.declared.hooks.Call.TheVariants as call
use Rattle.vdcp_journal.specs.Rows.{rows_text}
use Rattle.vdcp_journal.specs.Thinned.{IsThinned, asks_state, hears_waiting, notes_in}
use Rattle.vdcp_journal.specs.declared.moment.Moment.{Moment}
use Rattle.vdcp_journal.specs.declared.row.Note.{Note}
use Rattle.vdcp_journal.specs.declared.row.Note.TheVariants as note
use Rattle.vdcp_journal.specs.declared.row.Row.{Row}
use Rattle.vdcp_journal_file.specs.Recording.{MakesBeginning, MakesSafe, Recording, after_row, announces, end_note, ended, notes_seen, rows_due, rows_left, seen_before}
use Rattle.vdcp_journal_file.specs.declared.pending.Pending.{Pending}
use Rattle.vdcp_journal_file.specs.declared.pending.Pending.TheVariants as pending
use Rattle.vdcp_journal_file.specs.declared.pending.RecordFault.{RecordFault}
use Rattle.vdcp_wire.specs.Acts.{Act}
use Rattle.vdcp_wire.specs.Wires.{IfTold, Told, has_closed}
use Rattle.vdcp_words.specs.declared.command.Command.{Command}
use Rattle.vdcp_words.specs.declared.command.Command.TheVariants as command

-- the note of a call
abbrev pub call_note : Call → Note
call_note call.Take = note.Take
call_note call.Stop = note.Stop
call_note (call.List c) = note.List c

-- the note of what is kept
abbrev pub note_for : Kept → Note
note_for (kept.Sent command) = note.Sent command
note_for (kept.Heard heard) = note.Heard heard
note_for kept.Silence = note.Silence
note_for (kept.Called c) = call_note c

abbrev pub commands_of_note : Note → List Command
commands_of_note (note.Sent command) = command ∷ []
commands_of_note n = []

-- the commands of rows
abbrev pub commands_of_rows : List Row → List Command
commands_of_rows rows = flat_map (λ row. commands_of_note row.note) rows

-- those of commands that do more than ask for the state
abbrev pub acting : List Command → List Command
acting commands = filter (λ c. not (is_status_command c)) commands

-- something came, or nothing in time
abbrev pub is_end : Note → Bool
is_end (note.Heard h) = true
is_end note.Silence = true
is_end n = false

abbrev pub IsEnd : Row → Type 0
IsEnd row = IsTrue (is_end row.note)

abbrev pub AsksState : Row → Type 0
AsksState row = IsTrue (asks_state row.note)

-- only these are still to be written: a state that is asked, what ended an exchange, and a PLAY that is announced
abbrev pub MayHold : Pending → Type 0
MayHold pending.Nothing = Unit {0}
MayHold (pending.End row) = IsEnd row
MayHold (pending.Asked before asks) = AsksState asks
MayHold (pending.Answered before asks hears) = AsksState asks × IsEnd hears
MayHold (pending.Played before asks hears plays) =
    IsTrue (announces (Some before)) × (plays.note ≡ note.Sent command.Play) × AsksState asks × IsEnd hears
MayHold (pending.Over before asks hears plays row) =
    IsTrue (announces (Some before)) × (plays.note ≡ note.Sent command.Play) × AsksState asks × IsEnd hears × IsEnd row
MayHold (pending.Failed fault) = Unit {0}

-- With these rows and what is left all is told that was noted, but for what says nothing new: of what is left only what may
-- be, and the state that was seen before it stands last.
pub record Waits (noted rows : List Note) (left : Pending) : Type 0 where
  pub holds : MayHold left
  pub front : List Note
  pub stands : rows ≡ front ++ notes_seen (seen_before left)
  pub thinned : IsThinned noted (rows ++ notes_in (rows_left left))

-- in a run in which these were noted, and these rows made safe
abbrev pub WaitsSince : Pending → List Kept → List Row → Pending → Type 0
WaitsSince old notes rows left =
    Waits (notes_seen (seen_before old) ++ (notes_in (rows_left old) ++ map note_for notes))
    (notes_seen (seen_before old) ++ notes_in rows) left

-- these notes end with a state that was heard with the cue done, while a clip plays: a PLAY may go out before its row is safe
pub record Announces (notes : List Note) : Type 0 where
  pub before : List Note
  pub asks : Note
  pub hears : Note
  pub end_so : notes ≡ before ++ (asks ∷ hears ∷ [])
  pub asked : IsTrue (asks_state asks)
  pub waiting : IsTrue (hears_waiting hears)

-- of these commands nothing is still to be written after those notes, or a PLAY that they announce
abbrev pub MayBeLeft : List Note → List Command → Type 0
MayBeLeft notes left = (left ≡ []) ⊎ ((left ≡ command.Play ∷ []) × Announces notes)

abbrev pub NotesEnd : {F : Type 0} → Option Heard → Recording F → Recording F → Type 0
NotesEnd heard old new = (time : Moment)
    × (new ≡ record old { pending = ended old.pending (record { time = time; note = end_note heard }) })

-- Before this goes out or is given, the rows are safe that are due.
abbrev pub KeepsRow : {F : Type 0} → (F → Option (List ℕ)) → Note → Recording F → Recording F → Type 0
KeepsRow safe one old new = (time : Moment)
    × MakesSafe safe old new (rows_due old.pending (record { time = time; note = one }))
    × (new ≡ record old
    { file = new.file; pending = after_row old.pending (record { time = time; note = one }) })

-- it fails to keep it
abbrev pub LosesRow : {F : Type 0} → (F → Option (List ℕ)) → Note → Recording F → Recording F → Type 0
LosesRow safe one old new = (time : Moment) × (fault : RecordFault)
    × MakesBeginning safe old new (rows_due old.pending (record { time = time; note = one }))
    × (new ≡ record old { file = new.file; pending = pending.Failed fault })

-- from one of its states to the next a recorder keeps this: a command; or an end, which is pending then
abbrev pub Notes : {F : Type 0} → (F → Option (List ℕ)) → Kept → Recording F → Recording F → Type 0
Notes safe (kept.Sent command) old new = KeepsRow safe (note.Sent command) old new
Notes safe (kept.Heard heard) old new = NotesEnd (Some heard) old new
Notes safe kept.Silence old new = NotesEnd None old new
Notes safe (kept.Called c) old new = KeepsRow safe (call_note c) old new

abbrev pub Loses : {F : Type 0} → (F → Option (List ℕ)) → Kept → Recording F → Recording F → Type 0
Loses safe one old new = LosesRow safe (note_for one) old new

-- what a run does to its wire, and to the recorder of its hooks, if they have one
abbrev pub recorder_rules : {W F : Type 0} → (Act → W → W → Type 0) → (F → Option (List ℕ)) → Rules W (Option (Recording F))
recorder_rules does safe = record {
  does = does;
  asks = λ _ _ before after. after ≡ before;
  adds = MayKeep (Notes safe);
  loses = MayLose (Loses safe);
}

-- a beginning of the text of these rows, and of one more
abbrev pub IsTorn : ℕ → List Row → List ℕ → Type 0
IsTorn unit rows torn = (one : Row) × (rest : List ℕ) × (torn ++ rest ≡ rows_text unit (rows ++ one ∷ []))

-- what more is in the file than whole rows, and how much of it was noted last: something only if a command couldn't be
-- kept, a beginning of that and of what was noted last
abbrev pub IsTornBy : Result Ran BrokenOff → ℕ → List Row → List ℕ → Type 0
IsTornBy (Ok ran) unit last torn = torn ≡ []
IsTornBy (Err fault.Device) unit last torn = torn ≡ []
IsTornBy (Err fault.Left) unit last torn = torn ≡ []
IsTornBy (Err fault.Unkept) unit last torn = IsTorn unit last torn

-- nothing failed to be kept in these steps
abbrev pub AreKept : List Step → Type 0
AreKept [] = Unit {0}
AreKept (misses r ∷ later) = ⊥
AreKept (one ∷ later) = AreKept later

-- these rows are safe in the file since, with these bytes behind them, and they have each of these commands that does
-- more than ask for the state, but for a PLAY that they announce
pub record HasSafe {F : Type 0} (safe : F → Option (List ℕ)) (old new : Recording F) (commands : List Command)
    (rows : List Row) (torn : List ℕ) : Type 0 where
  pub safe_since : Appends (safe old.file) (safe new.file) (rows_text old.unit rows ++ torn)
  pub left : List Command
  pub kept : acting (commands_of_rows (rows_left old.pending)) ++ acting commands ≡ acting (commands_of_rows rows) ++ left
  pub unkept : MayBeLeft (notes_seen (seen_before old.pending) ++ notes_in rows) left

-- a run of any automation gave this answer, in which this happened and these were noted: the rows have each command of
-- which a byte went out
pub record IsRecorded {E W F : Type 0} (safe : F → Option (List ℕ)) (told : W → Option Told) (fold : Fold E) (plan : Plan)
    (unit : ℕ) (a a' : Auto E) (wire wire' : W) (answer : Result Ran BrokenOff) (old new : Recording F) (events : List Event)
    (notes : List Kept) : Type 0 where
  pub rows : List Row
  -- what was noted after them, and is safe with a later command
  pub last : Pending
  pub torn : List ℕ
  pub torn_by : IsTornBy answer old.unit (rows_left last) torn
  -- what went out since is the bytes of these commands, or a beginning of them
  pub commands : List Command
  pub sends : (t : Told) → told wire ≡ Some t → IfTold (told wire') (λ u. (unsent : List ℕ)
      × (u.sent ++ unsent ≡ t.sent ++ bytes_of unit commands))
  pub has : HasSafe safe old new commands rows torn
  -- so the next run is recorded, too
  pub waits : MayHold new.pending
  pub comes : (t : Told) → told wire ≡ Some t → has_closed t.came ≡ false
      → IfTold (told wire') (λ u. u.came ≡ t.came ++ arrivals events)
  -- if nothing was awaited before, the rows are just what was noted, but for what says nothing new
  pub shows : awaited plan a.state ≡ None → WaitsSince old.pending notes rows last
