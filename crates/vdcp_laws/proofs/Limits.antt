-- What comes to a controller of a greater limit leads where it did, unless it ended the one of the lesser.
use Rattle.std.proofs.Common.{◌≡◌, ℕ, ◌+◌, ◌≤◌, arith, Bool, true, false, ◌&&◌, List, Option, None, Some, refl, length}
use Rattle.std.specs.Prelude.{if◌then◌else◌, nat_le}
use Rattle.vdcp_value.specs.declared.part.Item.{Item}
use Rattle.vdcp_words.specs.declared.reply.Reply.{Reply}
use Rattle.vdcp_auto.specs.Plan.{Plan}
use Rattle.vdcp_auto.specs.State.{Stage, State}
use Rattle.vdcp_auto.specs.Replies.{is_refusal}
use Rattle.vdcp_auto.specs.Table.{on_lost_cue, on_no_answer, on_refusal, on_reply}
use Rattle.vdcp_auto.specs.Turn.{came_to, ended_in, outcome_of, stage_after, transition_on}
use Rattle.vdcp_auto.specs.declared.exchange.Exchange.{Exchange}
use Rattle.vdcp_auto.specs.declared.exchange.Heard.{Heard}
use Rattle.vdcp_auto.specs.declared.outcome.Outcome.TheVariants.{Lost}
use Rattle.vdcp_auto.specs.declared.phase.Mode.{Mode}
use Rattle.vdcp_auto.specs.declared.phase.Phase.{Phase}
use Rattle.vdcp_auto.specs.declared.phase.Phase.TheVariants as phase
use Rattle.vdcp_auto.specs.declared.phase.Transition.{Transition}
use Rattle.vdcp_auto.specs.declared.phase.Transition.TheVariants.{Ends}

abbrev pub raised : ℕ → Plan → Plan
raised limit plan = record plan { limit = limit }

cue_lost : (mode : Mode) (tries k a b : ℕ) → a ≤ b → outcome_of (stage_after (on_lost_cue mode a tries k)) ≡ None
    → on_lost_cue mode b tries k ≡ on_lost_cue mode a tries k
cue_lost mode tries k a b few on = grind arith

spent : (counts : Bool) (n a b : ℕ) (t : Transition) → a ≤ b
    → outcome_of (stage_after (if counts && nat_le a (n + 1) then Ends Lost else t)) ≡ None
    → (if counts && nat_le b (n + 1) then Ends Lost else t) ≡ (if counts && nat_le a (n + 1) then Ends Lost else t)
spent counts n a b t few on = grind arith

replied : (mode : Mode) (list : List Item) (take : Bool) (tries a b : ℕ) (p : Phase) (r : Reply) → a ≤ b
    → outcome_of (stage_after (on_reply mode list a take tries p r)) ≡ None
    → on_reply mode list b take tries p r ≡ on_reply mode list a take tries p r
replied mode list take tries a b (phase.Wait k) r few on = grind (arith, cue_lost)
replied mode list take tries a b other r few on = refl

pub leads : (plan : Plan) (limit : ℕ) (take : Bool) (tries unanswered : ℕ) (counts : Bool) (p : Phase) (answer : Option Reply)
    → plan.limit ≤ limit → outcome_of (stage_after (transition_on plan take tries unanswered counts p answer)) ≡ None
    → transition_on (raised limit plan) take tries unanswered counts p answer ≡ transition_on plan take tries unanswered counts p answer
leads plan limit take tries unanswered counts p (Some r) few on = by (is_refusal r) on where
  by : (b : Bool)
      → outcome_of (stage_after (if b then on_refusal (length plan.list) p else on_reply plan.mode plan.list plan.limit take tries p r)) ≡ None
      → (if b then on_refusal (length plan.list) p else on_reply plan.mode plan.list limit take tries p r)
      ≡ (if b then on_refusal (length plan.list) p else on_reply plan.mode plan.list plan.limit take tries p r)
  by true on = refl
  by false on = replied plan.mode plan.list take tries plan.limit limit p r few on
leads plan limit take tries unanswered counts p None few on =
    spent counts unanswered plan.limit limit (on_no_answer plan.mode p) few on

-- Under a greater limit the same comes of what comes, if that doesn't end the controller.
exchanged : (plan : Plan) (limit : ℕ) (stage : Stage) (e : Exchange) (s : State) → plan.limit ≤ limit
    → outcome_of (ended_in plan stage e s).stage ≡ None → ended_in (raised limit plan) stage e s ≡ ended_in plan stage e s
exchanged plan limit stage e s few on = grind (arith, leads)

pub comes_to : (plan : Plan) (limit : ℕ) (h : Option Heard) (s : State) → plan.limit ≤ limit
    → outcome_of (came_to plan h s).stage ≡ None → came_to (raised limit plan) h s ≡ came_to plan h s
comes_to plan limit h s few on = grind (arith, exchanged)
