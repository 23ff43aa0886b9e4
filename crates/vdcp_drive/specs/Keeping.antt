-- What is kept in a run.
use Rattle.std.specs.Prelude.{ℕ, ◌≡◌, false, List, ◌++◌, Option, Some, Result, Ok, Err}
use Rattle.vdcp_auto.specs.Plan.{Plan}
use Rattle.vdcp_auto.specs.State.{State}
use Rattle.vdcp_auto.specs.Turn.{ticked}
use Rattle.vdcp_auto.specs.declared.exchange.Exchange.{Exchange}
use Rattle.vdcp_wire.specs.Wires.{IfTold, Told, has_closed}
use Rattle.vdcp_drive.specs.Auto.{Auto, Event, arrivals, log_of}
use Rattle.vdcp_drive.specs.Ears.{Fold}
use Rattle.vdcp_drive.specs.Steps.{Chain}
use Rattle.vdcp_drive.specs.Traces.{awaited_notes, bytes_of, commands_kept, exchanged, kept_of}
use Rattle.vdcp_drive.specs.declared.hooks.Kept.{Kept}
use Rattle.vdcp_drive.specs.declared.hooks.BrokenOff.{BrokenOff}
use Rattle.vdcp_drive.specs.declared.hooks.BrokenOff.TheVariants as fault
use Rattle.vdcp_drive.specs.declared.line.Ran.{Ran}

-- of the exchanges that ended, and of the command that a controller in this state awaits
abbrev pub kept_by : Plan → List Exchange → State → List Kept
kept_by plan log state = kept_of log ++ awaited_notes plan state

-- in a run that gave this answer, in which these exchanges ended, and which left its controller in this state: if the
-- wire failed, also the command that was going out
abbrev pub notes_of : Plan → List Exchange → State → Result Ran BrokenOff → List Kept
notes_of plan log state (Ok ran) = kept_by plan log state
notes_of plan log state (Err fault.Device) = kept_by plan log (ticked state)
notes_of plan log state (Err fault.Unkept) = kept_by plan log state
notes_of plan log state (Err fault.Left) = kept_by plan log state

-- these were noted in a run that gave this answer; then a command or a call more couldn't be kept, if the answer is that
abbrev pub HasKept : {J : Type 0} → (Kept → J → J → Type 0) → (Kept → J → J → Type 0) → Result Ran BrokenOff
    → List Kept → J → J → Type 0
HasKept adds loses (Ok ran) notes old new = Chain adds notes old new
HasKept adds loses (Err fault.Device) notes old new = Chain adds notes old new
HasKept adds loses (Err fault.Left) notes old new = Chain adds notes old new
HasKept {J} adds loses (Err fault.Unkept) notes old new = (next : J) × (one : Kept)
    × Chain adds notes old next × loses one next new

-- what a run of any automation keeps, in which this happened and these were noted: after the command that was awaited
-- before it just what came shows, row by row, beside the calls. So what went out is the bytes of the commands that are
-- kept, or a beginning of these
pub record KeepsRun {E W J : Type 0} (adds loses : Kept → J → J → Type 0)
    (told : W → Option Told) (fold : Fold E) (plan : Plan) (unit : ℕ) (a a' : Auto E) (wire wire' : W)
    (answer : Result Ran BrokenOff) (keep keep' : J) (events : List Event) (notes : List Kept) : Type 0 where
  pub noted : HasKept adds loses answer notes keep keep'
  pub shows : awaited_notes plan a.state ++ exchanged notes ≡ notes_of plan (log_of fold plan unit a events) a'.state answer
  pub sends : (t : Told) → told wire ≡ Some t → IfTold (told wire') (λ u. (unsent : List ℕ)
      × (u.sent ++ unsent ≡ t.sent ++ bytes_of unit (commands_kept notes)))
  pub comes : (t : Told) → told wire ≡ Some t → has_closed t.came ≡ false
      → IfTold (told wire') (λ u. u.came ≡ t.came ++ arrivals events)
