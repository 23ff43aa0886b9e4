-- What the struct of a controller stands for.
use Rattle.std.specs.Prelude.{ℕ, ◌≡◌, List, length}
use Rattle.vdcp_value.specs.declared.part.Item.{Item}
use Rattle.vdcp_auto.specs.declared.phase.Mode.{Mode}
use Rattle.vdcp_auto.specs.declared.phase.Mode.TheVariants.{Plain, Confirming}
use Rattle.vdcp_auto.specs.declared.phase.Phase.{Phase}
use Rattle.vdcp_auto.specs.declared.phase.Phase.TheVariants as phase
use Rattle.vdcp_auto.specs.declared.outcome.Outcome.{Outcome}
use Rattle.vdcp_auto.specs.declared.outcome.Outcome.TheVariants as outcome
use Rattle.vdcp_auto.specs.declared.snapshot.Snapshot.{Snapshot}
use Rattle.vdcp_auto.specs.declared.snapshot.Standing.{Standing}
use Rattle.vdcp_auto.specs.declared.snapshot.Standing.TheVariants as standing
use Rattle.vdcp_auto.specs.Plan.{Plan}
use Rattle.vdcp_auto.specs.Snapshots.{CanStand, state_in}
use Rattle.vdcp_auto.specs.State.{State}
use Rattle.vdcp_c.specs.Commands.{flag_code}
use Rattle.vdcp_c.specs.Lists.{items_of}
use Rattle.vdcp_c.specs.declared.item.vdcp_item.{vdcp_item}
use Rattle.vdcp_c.specs.declared.controller.vdcp_controller.{vdcp_controller}

abbrev pub mode_code : Mode → ℕ
mode_code Plain = 1
mode_code Confirming = 2

abbrev pub phase_code : Phase → ℕ
phase_code phase.Open = 1
phase_code phase.Select = 2
phase_code phase.Seen = 3
phase_code (phase.Exists k) = 4
phase_code (phase.Cue k) = 5
phase_code (phase.Wait k) = 6
phase_code (phase.Play k) = 7
phase_code (phase.Probe k) = 8
phase_code (phase.Check k) = 9
phase_code phase.Drain = 10
phase_code phase.Close = 11
phase_code phase.Halt = 12
phase_code phase.HaltClose = 13

abbrev pub phase_event : Phase → ℕ
phase_event (phase.Exists k) = k
phase_event (phase.Cue k) = k
phase_event (phase.Wait k) = k
phase_event (phase.Play k) = k
phase_event (phase.Probe k) = k
phase_event (phase.Check k) = k
phase_event _ = 0

abbrev pub outcome_code : Outcome → ℕ
outcome_code outcome.Done = 1
outcome_code outcome.Stopped = 2
outcome_code outcome.Lost = 3
outcome_code outcome.Denied = 4
outcome_code (outcome.Missing k) = 5
outcome_code (outcome.Refused k) = 6
outcome_code (outcome.Foreign k) = 7
outcome_code (outcome.Strange k) = 8

abbrev pub outcome_event : Outcome → ℕ
outcome_event (outcome.Missing k) = k
outcome_event (outcome.Refused k) = k
outcome_event (outcome.Foreign k) = k
outcome_event (outcome.Strange k) = k
outcome_event _ = 0

abbrev pub IsStanding : vdcp_controller → Standing → Type 0
IsStanding c (standing.Ready p) = (c.standing ≡ 1) × (c.phase ≡ phase_code p) × (c.event ≡ phase_event p)
IsStanding c (standing.Awaiting p) = (c.standing ≡ 2) × (c.phase ≡ phase_code p) × (c.event ≡ phase_event p)
IsStanding c (standing.Ended o) = (c.standing ≡ 3) × (c.phase ≡ outcome_code o) × (c.event ≡ outcome_event o)

pub record StandsAs (c : vdcp_controller) (s : Snapshot) : Type 0 where
  pub mode : c.mode ≡ mode_code s.mode
  pub port : c.port ≡ s.port
  pub limit : c.limit ≡ s.limit
  pub standing : IsStanding c s.standing
  pub take : c.take ≡ flag_code s.take
  pub stop : c.stop ≡ flag_code s.stop
  pub unanswered : c.unanswered ≡ s.unanswered
  pub settled : c.settled ≡ s.settled
  pub tries : c.tries ≡ s.tries

abbrev pub plan_in : List Item → Snapshot → Plan
plan_in list s = record { mode = s.mode; list = list; port = s.port; limit = s.limit }

-- the struct is a controller of this plan over the rows of a list, and stands so
pub record IsController (c : vdcp_controller) (rows : List vdcp_item) (plan : Plan) (state : State) : Type 0 where
  pub snapshot : Snapshot
  pub stands : StandsAs c snapshot
  pub can : CanStand (length rows) snapshot
  pub plan_is : plan ≡ plan_in (items_of rows) snapshot
  pub state_is : state ≡ state_in snapshot
