-- A controller's state as plain data.
use Rattle.std.specs.Prelude.{ℕ, ◌<◌, ◌≤◌}
use Rattle.vdcp_auto.specs.declared.snapshot.Snapshot.{Snapshot}
use Rattle.vdcp_auto.specs.declared.snapshot.Standing.{Standing}
use Rattle.vdcp_auto.specs.declared.snapshot.Standing.TheVariants as standing
use Rattle.vdcp_auto.specs.Bounds.{IsStageOf}
use Rattle.vdcp_auto.specs.Plan.{View}
use Rattle.vdcp_auto.specs.State.{State, Stage, Ready, Awaiting, Ended}

abbrev pub seen_stage : Standing → Stage
seen_stage (standing.Ready p) = Ready p
seen_stage (standing.Awaiting p) = Awaiting p
seen_stage (standing.Ended outcome) = Ended outcome

abbrev pub state_in : Snapshot → State
state_in s =
    record {
      stage = seen_stage s.standing;
      take = s.take;
      stop = s.stop;
      unanswered = s.unanswered;
      settled = s.settled;
      tries = s.tries;
    }

-- the controller of a source that stands so
abbrev pub view_of : {S : Type 0} → S → Snapshot → View S
view_of source s = record { source = source; mode = s.mode; port = s.port; limit = s.limit; state = state_in s }

-- a controller over n events can stand so
pub record CanStand (n : ℕ) (s : Snapshot) : Type 0 where
  pub some : 1 ≤ s.limit
  pub few : s.limit ≤ 1000
  pub tries : s.tries < s.limit
  pub settled : s.settled ≤ n
  pub stage : IsStageOf n s.limit s.unanswered (seen_stage s.standing)
