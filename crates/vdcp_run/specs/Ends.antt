-- How the controller of a session ended, by the numbers of the whole list, and how its line did.
use Rattle.std.specs.Prelude.{ℕ, ◌≡◌, ◌+◌, ◌-◌, ◌^◌, ◌&&◌, Bool, true, false, not, if◌then◌else◌, min, nat_eq, Option, None, Some, option_map, Result, Ok, Err}
use Rattle.vdcp_auto.specs.State.{State}
use Rattle.vdcp_auto.specs.Turn.{outcome_of}
use Rattle.vdcp_auto.specs.declared.outcome.Outcome.{Outcome}
use Rattle.vdcp_auto.specs.declared.outcome.Outcome.TheVariants.{Done, Stopped, Lost, Denied, Missing, Refused, Foreign, Strange}
use Rattle.vdcp_auto.specs.declared.phase.Mode.{Mode}
use Rattle.vdcp_auto.specs.declared.phase.Mode.TheVariants.{Plain}
use Rattle.vdcp_drive.specs.declared.hooks.BrokenOff.{BrokenOff}
use Rattle.vdcp_drive.specs.declared.hooks.BrokenOff.TheVariants as fault
use Rattle.vdcp_drive.specs.declared.line.Ran.{Ran}
use Rattle.vdcp_drive.specs.declared.line.Ran.TheVariants as ran
use Rattle.vdcp_run.specs.declared.run_end.LineEnd.{LineEnd}
use Rattle.vdcp_run.specs.declared.run_end.LineEnd.TheVariants as line_end
use Rattle.vdcp_run.specs.declared.run_end.RunEnd.{RunEnd}
use Rattle.vdcp_run.specs.declared.run_end.Signs.{Signs}

-- the event that is this many after the one that the controller began with; no number is above the largest
abbrev pub event_in_list : (from k : ℕ) → ℕ
event_in_list from k = min (from + k) (2 ^ 64 - 1)

abbrev pub outcome_with : ℕ → Outcome → Outcome
outcome_with from Done = Done
outcome_with from Stopped = Stopped
outcome_with from Lost = Lost
outcome_with from Denied = Denied
outcome_with from (Missing k) = Missing (event_in_list from k)
outcome_with from (Refused k) = Refused (event_in_list from k)
outcome_with from (Foreign k) = Foreign (event_in_list from k)
outcome_with from (Strange k) = Strange (event_in_list from k)

-- how a controller ended that began with this event, if it has ended
abbrev pub outcome_in_list : ℕ → Option Outcome → Option Outcome
outcome_in_list from outcome = option_map (outcome_with from) outcome

-- The server doesn't have the clip of the next event, or, in plain mode, refused its cue. (In confirm mode a cue that wasn't seen
-- may be done all the same.)
abbrev pub is_unplayable : Mode → Signs → Option Outcome → Bool
is_unplayable mode signs (Some (Missing k)) = true
is_unplayable Plain signs (Some (Refused k)) = signs.cueing
is_unplayable mode signs outcome = false

-- the controller has ended by that, and nobody stopped it
abbrev pub is_unplayed : Mode → Signs → State → Bool
is_unplayed mode signs state = is_unplayable mode signs (outcome_of state.stage) && not state.stop

-- the next event is left out, if it isn't the next one that isn't
abbrev pub left_out_or : LineEnd → (reported kept : ℕ) → LineEnd
left_out_or line reported kept = if nat_eq kept reported then line else line_end.LeftOut kept

-- How the line ended, by what the driver's run answered, with this event as the next one, and this as the next one that isn't
-- left out. It is left before an event that is; or before a PLAY that is held, and then ends only if the journal can't be written.
-- An event that is left out ends no run if it can't be played.
abbrev pub line_end_of : Result Ran BrokenOff → (unplayed : Bool) → (reported kept : ℕ) → LineEnd
line_end_of (Ok ran.Ended) true reported kept = left_out_or (line_end.Ran ran.Ended) reported kept
line_end_of (Ok r) unplayed reported kept = line_end.Ran r
line_end_of (Err fault.Device) unplayed reported kept = line_end.Failed
line_end_of (Err fault.Unkept) unplayed reported kept = line_end.Unkept
line_end_of (Err fault.Left) unplayed reported kept = left_out_or line_end.Unkept reported kept

-- the outcome and the first event that isn't reported are those of this state, whose controller began with this event
pub record Reports (from : ℕ) (state : State) (end : RunEnd) : Type 0 where
  pub from_is : end.from ≡ from
  pub outcome_is : end.outcome ≡ outcome_in_list from (outcome_of state.stage)
  pub reported_is : end.reported ≡ from + state.settled
  pub unfailed : end.failed ≡ None
