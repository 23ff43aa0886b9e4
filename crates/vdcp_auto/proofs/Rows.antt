-- The count of unanswered exchanges in a row, and the end that it brings.
use Rattle.std.proofs.Common.{◌≡◌, ℕ, ◌+◌, ◌<◌, Bool, true, false, cond, ◌&&◌, nat_le, Option, None, Some, List, length, refl, arith}
use Rattle.std.specs.Prelude.{if◌then◌else◌, is_some}
use Rattle.vdcp_value.specs.declared.part.Item.{Item}
use Rattle.vdcp_words.specs.declared.reply.Reply.{Reply}
use Rattle.vdcp_auto.specs.declared.exchange.Exchange.{Exchange}
use Rattle.vdcp_auto.specs.declared.outcome.Outcome.TheVariants.{Done, Stopped, Lost, Denied, Missing, Refused, Foreign, Strange}
use Rattle.vdcp_auto.specs.declared.phase.Mode.{Mode}
use Rattle.vdcp_auto.specs.declared.phase.Phase.{Phase}
use Rattle.vdcp_auto.specs.declared.phase.Transition.{Transition}
use Rattle.vdcp_auto.specs.declared.phase.Transition.TheVariants.{Goes, Settles, Retries, Ends}
use Rattle.vdcp_auto.specs.Replies.{is_refusal}
use Rattle.vdcp_auto.specs.Log.{answer_in, is_counted}
use Rattle.vdcp_auto.specs.Plan.{Plan}
use Rattle.vdcp_auto.specs.Table.{on_lost_cue, on_reply, on_refusal, on_no_answer}
use Rattle.vdcp_auto.specs.Turn.{transition_on, stage_after, unanswered_after}
use Rattle.vdcp_auto.proofs.Memo.{row_after}
use Rattle.vdcp_auto.proofs.Keeps.{RowIs}

-- the transition gives the port up
abbrev is_loss : Transition → Bool
is_loss (Ends Lost) = true
is_loss _ = false

either : (b : Bool) (s t : Transition) → is_loss s ≡ false → is_loss t ≡ false → is_loss (cond b s t) ≡ false
either true s t here there = here
either false s t here there = there

no_loss_cue : (mode : Mode) (limit tries k : ℕ) → is_loss (on_lost_cue mode limit tries k) ≡ false
no_loss_cue mode limit tries k = grind arith

no_loss_reply : (mode : Mode) (list : List Item) (limit : ℕ) (take : Bool) (tries : ℕ) (p : Phase) (r : Reply)
    → is_loss (on_reply mode list limit take tries p r) ≡ false
no_loss_reply mode list limit take tries p r = grind arith

no_loss_refusal : (n : ℕ) (p : Phase) → is_loss (on_refusal n p) ≡ false
no_loss_refusal n p = grind arith

no_loss_no_answer : (mode : Mode) (p : Phase) → is_loss (on_no_answer mode p) ≡ false
no_loss_no_answer mode p = grind arith

row_at : (limit row : ℕ) (t : Transition) → is_loss t ≡ false → row < limit → RowIs limit row row (stage_after t)
row_at limit row (Goes p) known below = (refl, below)
row_at limit row (Settles k) known below = (refl, below)
row_at limit row (Retries k) known below = (refl, below)
row_at limit row (Ends Lost) known below = cc
row_at limit row other known below = below

-- how many in a row, by whether the exchange counts, and whether it is answered
abbrev counted_row : ℕ → Bool → Bool → ℕ
counted_row row counts answered = if counts then (if answered then 0 else row + 1) else row

row_unanswered : (limit row : ℕ) (counts : Bool) (t : Transition) → is_loss t ≡ false → row < limit → (enough : Bool)
    → nat_le limit (row + 1) ≡ enough
    → RowIs limit (counted_row row counts false) (counted_row row counts false)
    (stage_after (cond (counts && enough) (Ends Lost) t))
row_unanswered limit row true t known below true is = grind arith
row_unanswered limit row true t known below false is = row_at limit (row + 1) t known (grind arith)
row_unanswered limit row false t known below enough is = row_at limit row t known below

row_answered : (limit row : ℕ) (counts : Bool) (t : Transition) → is_loss t ≡ false → row < limit
    → RowIs limit (counted_row row counts true) (counted_row row counts true) (stage_after t)
row_answered limit row true t known below = row_at limit 0 t known (omega arith)
row_answered limit row false t known below = row_at limit row t known below

row_on : (plan : Plan) (take : Bool) (tries row : ℕ) (counts : Bool) (p : Phase) (answer : Option Reply)
    → row < plan.limit
    → RowIs plan.limit (counted_row row counts (is_some answer)) (counted_row row counts (is_some answer))
    (stage_after (transition_on plan take tries row counts p answer))
row_on plan take tries row counts p None below =
    row_unanswered plan.limit row counts (on_no_answer plan.mode p) (no_loss_no_answer plan.mode p) below
    (nat_le plan.limit (row + 1)) refl
row_on plan take tries row counts p (Some r) below =
    row_answered plan.limit row counts _ (either (is_refusal r) _ _ (no_loss_refusal (length plan.list) p)
    (no_loss_reply plan.mode plan.list plan.limit take tries p r)) below

pub row_kept : (plan : Plan) (take : Bool) (tries row : ℕ) (p : Phase) (e : Exchange) → row < plan.limit
    → RowIs plan.limit (row_after plan.mode row e) (unanswered_after plan.mode e row)
    (stage_after (transition_on plan take tries row (is_counted plan.mode e) p (answer_in e)))
row_kept plan take tries row p e below = row_on plan take tries row (is_counted plan.mode e) p (answer_in e) below
