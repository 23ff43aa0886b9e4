-- The headline of a late channel, said of the two ends.
use Rattle.std.proofs.Common.{arith, ℕ, ◌≡◌, ◌≤◌, List, ◌++◌, length, take, refl, subst}
use Rattle.std.specs.Prelude.{IfSome, IsSome, IsTrue, Option}
use Rattle.vdcp_value.specs.declared.clip_id.ClipId.{ClipId}
use Rattle.vdcp_value.specs.declared.part.Item.{Item}
use Rattle.vdcp_value.specs.declared.timecode.Timecode.{Timecode}
use Rattle.vdcp_words.specs.declared.command.Command.{Command}
use Rattle.vdcp_port.specs.Clock.{ClockedPort}
use Rattle.vdcp_auto.specs.Plan.{Plan}
use Rattle.vdcp_auto.specs.State.{State, Stage}
use Rattle.vdcp_auto.specs.Turn.{outcome_of, tick_in, ticked}
use Rattle.vdcp_auto.specs.declared.exchange.Exchange.{Exchange}
use Rattle.vdcp_auto.specs.declared.outcome.Outcome.{Outcome}
use Rattle.vdcp_world.specs.LateLine.LateChannel.{LateChannel, IsLateReached}
use Rattle.vdcp_world.specs.LateLine.LateHeadline.{LateHeadline, LateMeans, is_late_complete}
use Rattle.vdcp_laws.specs.EndsHeadline.{EndsHeadline}
use Rattle.vdcp_laws.specs.TwoEnds.{AreJoined, CanJoin, Ends, IsLateChannel, aired_now, log_now}

-- laws::two_ends_are_a_late_channel, and vdcp_world::laws::a_late_line_keeps_the_headline
pub record Laws : Type 0 where
  pub ends : (plan : Plan) (port : ClockedPort) (asked : List Command) (e : Ends) → CanJoin plan port asked
      → AreJoined plan port asked e
      → IsLateChannel plan port e
  pub headline : (c : LateChannel) → IsLateReached c → LateHeadline c

of_channel : (c : LateChannel) → LateHeadline c → EndsHeadline c.plan c.port.clips c.state c.log c.aired
of_channel c h =
    record {
      beginning = h.beginning;
      reported = h.reported;
      count = h.count;
      ended = h.ended;
      complete = h.complete;
      to_end = h.to_end;
    }

pub of_ends : (law : Laws) → (plan : Plan) (port : ClockedPort) (asked : List Command) (e : Ends)
    → CanJoin plan port asked → AreJoined plan port asked e
    → EndsHeadline plan port.clips e.automation.state (log_now e) (aired_now e)
of_ends law plan port asked e can j =
    let late = law.ends plan port asked e can j in
    let c : LateChannel = late.channel in
    subst (EndsHeadline plan port.clips e.automation.state (log_now e)) late.aired_is
    (subst (λ (l : List Exchange). EndsHeadline plan port.clips e.automation.state l c.aired) late.log_is
    (subst (λ (t : State). EndsHeadline plan port.clips t c.log c.aired) late.state_is
    (subst (λ (l : List (ClipId × Timecode)). EndsHeadline plan l c.state c.log c.aired) late.clips_are
    (subst (λ (q : Plan). EndsHeadline q c.port.clips c.state c.log c.aired) late.plan_is
    (of_channel c (law.headline c late.reached))))))

-- A tick settles nothing, and ends nothing.

same_settled : (stage : Stage) (s : State) → (tick_in stage s).settled ≡ s.settled
same_settled stage s = grind arith

same_outcome : (stage : Stage) (s : State) → s.stage ≡ stage → outcome_of (tick_in stage s).stage ≡ outcome_of stage
same_outcome stage s is = grind arith

pub before_tick : (plan : Plan) (clips : List (ClipId × Timecode)) (s : State) (log : List Exchange) (aired : List Item)
    → EndsHeadline plan clips (ticked s) log aired → EndsHeadline plan clips s log aired
before_tick plan clips s log aired h =
    let same : (ticked s).settled ≡ s.settled = same_settled s.stage s in record {
      beginning = h.beginning;
      reported = subst (λ (n : ℕ). (last : List Item) × (aired ≡ take n plan.list ++ last) × (length last ≤ 1)) same
          h.reported;
      count = subst (λ (n : ℕ). length (take n plan.list) ≡ n) same h.count;
      ended = subst (λ (o : Option Outcome). IfSome o (LateMeans clips plan aired log)) (same_outcome s.stage s refl)
          h.ended;
      complete = subst (λ (o : Option Outcome). IfSome o (λ (x : Outcome). IsTrue (is_late_complete plan.mode x)
          → aired ≡ take s.settled plan.list)) (same_outcome s.stage s refl)
          (subst (λ (n : ℕ). IfSome (outcome_of (ticked s).stage) (λ (x : Outcome). IsTrue
          (is_late_complete plan.mode x) → aired ≡ take n plan.list)) same h.complete);
      to_end = λ unstopped. let t = h.to_end unstopped in record {
        few = t.few;
        ends = λ enough. subst IsSome (same_outcome s.stage s refl) (t.ends enough);
      };
    }
