-- What is kept of a run that is made anew from its rows, and when that is what the rows make.
use Rattle.std.specs.Prelude.{◌≡◌, ◌≤◌, ℕ, ◌+◌, min, List, Option, None, Some, length}
use Rattle.vdcp_auto.specs.Course.{Call}
use Rattle.vdcp_auto.specs.Plan.{Plan, View, plan_of}
use Rattle.vdcp_auto.specs.Snapshots.{CanStand, state_in, view_of}
use Rattle.vdcp_auto.specs.State.{State}
use Rattle.vdcp_auto.specs.Turn.{start}
use Rattle.vdcp_auto.specs.declared.snapshot.Snapshot.{Snapshot}
use Rattle.vdcp_journal.specs.Resume.{AllStand, AreTold, after_call_if, after_rows, call_of, limit_after, losses, plan_after}
use Rattle.vdcp_journal.specs.declared.row.Note.{Note}
use Rattle.vdcp_journal.specs.declared.row.Row.{Row}
use Rattle.vdcp_value.specs.declared.part.Item.{Item}

-- a run so far, as callers see it
pub record RunView (S : Type 0) : Type 0 where
  pub controller : View S
  -- the controller before the last row that tells of a call, and that row's note
  pub before : Snapshot
  pub last : Option Note
  -- the limit that it was begun with, and how often it was lost
  pub limit : ℕ
  pub lost : ℕ

-- what callers see of its parts
abbrev pub view_in : {S : Type 0} → View S → Snapshot → Option Note → ℕ → ℕ → RunView S
view_in controller before last limit lost =
    record { controller = controller; before = before; last = last; limit = limit; lost = lost }

-- what holds of each run that is made so: it was begun with a limit of 1 to 1,000, its losses are counted up to 1,000, and
-- the controller before its last call can stand so, under a limit that is no greater
pub record CanBeRun {S : Type 0} (items : S → List Item) (run : RunView S) : Type 0 where
  pub some : 1 ≤ run.limit
  pub few : run.limit ≤ 1000
  pub counted : run.lost ≤ 1000
  pub can_stand : CanStand (length (items run.controller.source)) run.before
  pub less : run.before.limit ≤ run.controller.limit
  pub next : run.controller.limit ≤ limit_after run.limit (run.lost + 1)

-- the call that a note tells of, if there is a note that tells of one
abbrev pub call_if : Option Note → Option Call
call_if None = None
call_if (Some n) = call_of n

-- what the last call makes of the controller before it, under a limit
abbrev pub again_under : {S : Type 0} → Plan → ℕ → RunView S → State
again_under plan limit run = after_call_if (record plan { limit = limit }) (call_if run.last) (state_in run.before)

-- the limit under which a run goes on that has these rows
abbrev pub limit_now : Plan → List Row → ℕ
limit_now plan rows = limit_after plan.limit (losses rows)

-- these rows of a run of this plan and source stand, and make this of it: its controller is the one that goes on from them,
-- and under each greater limit it would be what the last call makes of the one before
pub record IsMadeBy {S : Type 0} (items : S → List Item) (plan : Plan) (source : S) (rows : List Row) (run : RunView S)
    : Type 0 where
  pub some : 1 ≤ plan.limit
  pub few : plan.limit ≤ 1000
  pub stand : AllStand plan rows
  pub told : AreTold (plan_after plan rows) start rows
  pub source_is : run.controller.source ≡ source
  pub plan_is : plan_of items run.controller ≡ plan_after plan rows
  pub state_is : run.controller.state ≡ after_rows (plan_after plan rows) start rows
  pub can_stand : CanStand (length plan.list) run.before
  pub mode_is : run.before.mode ≡ plan.mode
  pub port_is : run.before.port ≡ plan.port
  pub begun_with : run.limit ≡ plan.limit
  pub lost_is : run.lost ≡ min 1000 (losses rows)
  pub less : run.before.limit ≤ limit_now plan rows
  pub again : (limit : ℕ) → limit_now plan rows ≤ limit
      → after_rows (record plan { limit = limit }) start rows ≡ again_under plan limit run

-- the controller of a source that stood so once, under another limit, after this call
abbrev pub again_of : {S : Type 0} → (S → List Item) → S → Snapshot → Option Note → ℕ → View S
again_of items source before last limit =
    record {
      source = source;
      mode = before.mode;
      port = before.port;
      limit = limit;
      state = after_call_if
          (record { mode = before.mode; list = items source; port = before.port; limit = limit }) (call_if last)
          (state_in before);
    }

-- a run was lost, and goes on under its next limit
abbrev pub IsRaised : {S : Type 0} → (S → List Item) → RunView S → RunView S → Type 0
IsRaised items old new = new ≡ record old {
  controller = again_of items old.controller.source old.before old.last (limit_after old.limit (old.lost + 1));
  lost = min 1000 (old.lost + 1);
}

-- what is remembered after a note: if it tells of a call, the controller before it
abbrev pub Remembers : {S : Type 0} → (S → List Item) → Option Call → Note → RunView S → RunView S → Type 0
Remembers items None n old new = (new.before ≡ old.before) × (new.last ≡ old.last)
Remembers items (Some call) n old new = (new.last ≡ Some n)
    × (old.controller ≡ view_of old.controller.source new.before)
    × CanStand (length (items old.controller.source)) new.before

-- a run after a note that tells of no loss
pub record IsCalled {S : Type 0} (items : S → List Item) (n : Note) (old new : RunView S) : Type 0 where
  pub controller : new.controller ≡ record old.controller
      { state = after_call_if (plan_of items old.controller) (call_of n) old.controller.state }
  pub begun_with : new.limit ≡ old.limit
  pub lost_is : new.lost ≡ old.lost
  pub remembers : Remembers items (call_of n) n old new
