-- What the rows of a journal make of a controller, and the log that they show.
use Rattle.std.specs.Prelude.{◌≡◌, ◌⊎◌, ℕ, ◌+◌, ◌*◌, min, ⊤, Bool, true, false, IsTrue, Option, None, Some, is_some, List, [], ◌∷◌, take, slice_get, count_by}
use Rattle.vdcp_auto.specs.Course.{Call, Tick, Receive, Take, Stop, after_call}
use Rattle.vdcp_auto.specs.Plan.{Plan}
use Rattle.vdcp_auto.specs.State.{State}
use Rattle.vdcp_auto.specs.Turn.{came_to, ended_by, given, outcome_of, start}
use Rattle.vdcp_auto.specs.declared.exchange.Exchange.{Exchange}
use Rattle.vdcp_auto.specs.declared.exchange.Heard.{Heard}
use Rattle.vdcp_auto.specs.declared.outcome.Outcome.{Outcome as Ending}
use Rattle.vdcp_auto.specs.declared.outcome.Outcome.TheVariants.{Lost}
use Rattle.vdcp_journal.specs.declared.faults.ResumeFault.{ResumeFault}
use Rattle.vdcp_journal.specs.declared.faults.ResumeFault.TheVariants.{Command, Unawaited, Outcome}
use Rattle.vdcp_journal.specs.declared.row.Note.{Note}
use Rattle.vdcp_journal.specs.declared.row.Note.TheVariants as note
use Rattle.vdcp_journal.specs.declared.row.Row.{Row}
use Rattle.vdcp_words.specs.declared.command.Command.{Command as Asked}

-- the call of a controller that a note tells of; what is said of the list is none, nor is an end or the beginning of another run
abbrev pub call_of : Note → Option Call
call_of (note.Sent c) = Some Tick
call_of (note.Heard h) = Some (Receive (Some h))
call_of note.Silence = Some (Receive None)
call_of note.Take = Some Take
call_of note.Stop = Some Stop
call_of (note.List c) = None
call_of (note.End outcome) = None
call_of (note.From k) = None
call_of (note.Left k) = None

abbrev pub after_call_if : Plan → Option Call → State → State
after_call_if plan None state = state
after_call_if plan (Some call) state = after_call plan call state

-- the controller after the calls that the rows tell of
abbrev pub after_rows : Plan → State → List Row → State
after_rows plan state [] = state
after_rows plan state (row ∷ rows) = after_rows plan (after_call_if plan (call_of row.note) state) rows

-- the note is what the controller does there: a command is the one that it gives, what came ends an exchange,
-- the operator's calls come while it goes on, and an end is the one that it came to. A loss may be gone on from, under a
-- greater limit: `Stands` says where it stands. No controller begins another run
abbrev pub Tells : Plan → State → Note → Type 0
Tells plan state (note.Sent c) = given plan state ≡ Some c
Tells plan state (note.Heard h) = IsTrue (is_some (ended_by plan (Some h) state))
Tells plan state note.Silence = IsTrue (is_some (ended_by plan None state))
Tells plan state note.Take = outcome_of state.stage ≡ None
Tells plan state note.Stop = outcome_of state.stage ≡ None
Tells plan state (note.List c) = outcome_of state.stage ≡ None
Tells plan state (note.End Lost) = ⊤
Tells plan state (note.End outcome) = outcome_of state.stage ≡ Some outcome
Tells plan state (note.From k) = ⊥
Tells plan state (note.Left k) = ⊥

-- each row tells what the controller does there
abbrev pub AreTold : Plan → State → List Row → Type 0
AreTold plan state [] = Unit {0}
AreTold plan state (row ∷ rows) =
    Tells plan state row.note × AreTold plan (after_call_if plan (call_of row.note) state) rows

-- the run was lost
abbrev pub is_loss : Note → Bool
is_loss (note.End Lost) = true
is_loss _ = false

abbrev pub losses : List Row → ℕ
losses rows = count_by (λ row. is_loss row.note) rows

-- the limit of a run that was lost this often: each time it may spend as much more, up to 1,000 in all
abbrev pub limit_after : ℕ → ℕ → ℕ
limit_after limit lost = min 1000 (limit * (lost + 1))

-- the plan under which a run goes on after these rows of it
abbrev pub plan_after : Plan → List Row → Plan
plan_after plan rows = record plan { limit = limit_after plan.limit (losses rows) }

-- the rows, given to the controller that went on then, end it Lost
abbrev pub IsLostAfter : Plan → List Row → Type 0
IsLostAfter plan rows = outcome_of (after_rows (plan_after plan rows) start rows).stage ≡ Some Lost

-- a run may go on: it hasn't ended, or it was lost
abbrev pub MayGoOn : Option Ending → Type 0
MayGoOn outcome = (outcome ≡ None) ⊎ (outcome ≡ Some Lost)

-- a note stands after these rows of a run: it tells what the controller does that went on then, and a loss stands if
-- that was lost
abbrev pub Stands : Plan → List Row → Note → Type 0
Stands plan rows n = Tells (plan_after plan rows) (after_rows (plan_after plan rows) start rows) n
    × (IsTrue (is_loss n) → IsLostAfter plan rows)

-- each row stands where it is
abbrev pub AllStand : Plan → List Row → Type 0
AllStand plan rows = (k : ℕ) (row : Row) → slice_get rows k ≡ Some row → Stands plan (take k rows) row.note

-- the exchange that is open is timed out
abbrev pub timed_out : Plan → State → State
timed_out plan state = came_to plan None state

-- the fault of a note that doesn't stand
abbrev pub fault_of : Note → ResumeFault
fault_of (note.Sent c) = Command
fault_of (note.End outcome) = Outcome
fault_of n = Unawaited

-- row k is the first that doesn't stand
pub record IsResumeFault (plan : Plan) (rows : List Row) (k : ℕ) (fault : ResumeFault) : Type 0 where
  pub row : Row
  pub at_k : slice_get rows k ≡ Some row
  pub before : AllStand plan (take k rows)
  pub falls : ¬ Stands plan (take k rows) row.note
  pub fault_is : fault ≡ fault_of row.note

-- The log that rows show, whatever controller they are of: each command, and what ended its exchange. The
-- command that stands last, with nothing after it, was timed out.

abbrev pub exchange_with : Option Heard → Option Asked → List Exchange → List Exchange
exchange_with came None log = log
exchange_with came (Some c) log = record { command = c; heard = came } ∷ log

-- the command that is open after a note
abbrev pub open_after : Option Asked → Note → Option Asked
open_after asked (note.Sent c) = Some c
open_after asked (note.Heard h) = None
open_after asked note.Silence = None
open_after asked n = asked

-- the exchange that a note ends, if it ends one, before those that come after it
abbrev pub ended_at : Option Asked → Note → List Exchange → List Exchange
ended_at asked (note.Heard h) log = exchange_with (Some h) asked log
ended_at asked note.Silence log = exchange_with None asked log
ended_at asked n log = log

abbrev pub log_from : Option Asked → List Row → List Exchange
log_from asked [] = exchange_with None asked []
log_from asked (row ∷ rows) = ended_at asked row.note (log_from (open_after asked row.note) rows)

abbrev pub log_of : List Row → List Exchange
log_of rows = log_from None rows
