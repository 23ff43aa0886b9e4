-- Rows that tell what a controller does tell what one of a greater limit does, as long as it isn't ended by its limit.
use Rattle.std.proofs.Common.{◌≡◌, ◌⊎◌, inl, inr, ℕ, ◌+◌, ◌≤◌, Bool, true, false, ◌&&◌, List, [], ◌∷◌, Option, None, Some, refl, sym, ap, subst, ◌∙◌, arith}
use Rattle.std.specs.Option.{option_map_or}
use Rattle.std.specs.Prelude.{if◌then◌else◌, nat_le, nat_lt}
use Rattle.vdcp_value.specs.declared.part.Item.{Item}
use Rattle.vdcp_words.specs.declared.reply.Reply.{Reply}
use Rattle.vdcp_auto.specs.Course.{Call, Tick, Receive}
use Rattle.vdcp_auto.specs.Log.{answer_in, is_counted}
use Rattle.vdcp_auto.specs.Plan.{Plan}
use Rattle.vdcp_auto.specs.Replies.{is_empty, is_refusal}
use Rattle.vdcp_auto.specs.State.{Stage, Ready, Awaiting, Ended, State}
use Rattle.vdcp_auto.specs.Table.{on_lost_cue, on_no_answer, on_reply}
use Rattle.vdcp_auto.specs.Turn.{ended_by, ended_in, outcome_of, stage_after, state_after, transition_of, transition_on, unanswered_after}
use Rattle.vdcp_auto.specs.declared.exchange.Exchange.{Exchange}
use Rattle.vdcp_auto.specs.declared.outcome.Outcome.{Outcome}
use Rattle.vdcp_auto.specs.declared.outcome.Outcome.TheVariants.{Lost, Refused, Strange}
use Rattle.vdcp_auto.specs.declared.phase.Mode.{Mode}
use Rattle.vdcp_auto.specs.declared.phase.Mode.TheVariants.{Plain, Confirming}
use Rattle.vdcp_auto.specs.declared.phase.Phase.{Phase}
use Rattle.vdcp_auto.specs.declared.phase.Phase.TheVariants as phase
use Rattle.vdcp_auto.specs.declared.phase.Transition.{Transition}
use Rattle.vdcp_auto.specs.declared.phase.Transition.TheVariants.{Goes, Retries, Ends}
use Rattle.vdcp_journal.specs.Resume.{AreTold, MayGoOn, Tells, after_call_if, after_rows, call_of}
use Rattle.vdcp_journal.specs.declared.row.Note.{Note}
use Rattle.vdcp_journal.specs.declared.row.Note.TheVariants as note
use Rattle.vdcp_journal.specs.declared.row.Row.{Row}

abbrev pub raised : ℕ → Plan → Plan
raised limit plan = record plan { limit = limit }

-- the first ends the controller, or the second is the same
abbrev EndsOr : Transition → Transition → Type 0
EndsOr first second = ((outcome : Outcome) × (first ≡ Ends outcome)) ⊎ (second ≡ first)

below : (n a b : ℕ) → a ≤ b → nat_lt n a ≡ true → nat_lt n b ≡ true
below n a b few lt = grind arith

above : (n a b : ℕ) → a ≤ b → nat_le a n ≡ false → nat_le b n ≡ false
above n a b few lt = grind arith

retried : (k : ℕ) (first second : Bool) → (first ≡ true → second ≡ true)
    → EndsOr (if first then Retries k else Ends (Refused k)) (if second then Retries k else Ends (Refused k))
retried k false second more = inl (Refused k, refl)
retried k true second more = inr (ap (λ (b : Bool). if b then Retries k else Ends (Refused k)) (more refl))

cue_lost : (mode : Mode) (tries k a b : ℕ) → a ≤ b → EndsOr (on_lost_cue mode a tries k) (on_lost_cue mode b tries k)
cue_lost Plain tries k a b few = inl (Strange k, refl)
cue_lost Confirming tries k a b few =
    retried k (nat_lt (tries + 1) a) (nat_lt (tries + 1) b) (below (tries + 1) a b few)

if_either : (c : Bool) (x y z : Transition) → EndsOr y z → EndsOr (if c then x else y) (if c then x else z)
if_either true x y z h = inr refl
if_either false x y z h = h

if_or : (c : Bool) (x y z : Transition) → EndsOr x y → EndsOr (if c then x else z) (if c then y else z)
if_or true x y z h = h
if_or false x y z h = inr refl

replied : (mode : Mode) (list : List Item) (take : Bool) (tries a b : ℕ) (p : Phase) (r : Reply) → a ≤ b
    → EndsOr (on_reply mode list a take tries p r) (on_reply mode list b take tries p r)
replied mode list take tries a b (phase.Wait k) r few =
    if_either _ (Goes (phase.Play k)) _ _
    (if_or (is_empty r) (on_lost_cue mode a tries k) (on_lost_cue mode b tries k) (Goes (phase.Wait k))
    (cue_lost mode tries k a b few))
replied mode list take tries a b other r few = inr refl

spent : (first second : Bool) (t : Transition) → (first ≡ false → second ≡ false)
    → EndsOr (if first then Ends Lost else t) (if second then Ends Lost else t)
spent true second t more = inl (Lost, refl)
spent false second t more = inr (ap (λ (b : Bool). if b then Ends Lost else t) (more refl))

counts_less : (counts : Bool) (n a b : ℕ) → a ≤ b → (counts && nat_le a n) ≡ false → (counts && nat_le b n) ≡ false
counts_less true n a b few is = above n a b few is
counts_less false n a b few is = refl

leads : (plan : Plan) (limit : ℕ) (take : Bool) (tries unanswered : ℕ) (counts : Bool) (p : Phase) (answer : Option Reply)
    → plan.limit ≤ limit
    → EndsOr (transition_on plan take tries unanswered counts p answer)
    (transition_on (raised limit plan) take tries unanswered counts p answer)
leads plan limit take tries unanswered counts p (Some r) few =
    if_either (is_refusal r) _ _ _ (replied plan.mode plan.list take tries plan.limit limit p r few)
leads plan limit take tries unanswered counts p None few =
    spent (counts && nat_le plan.limit (unanswered + 1)) (counts && nat_le limit (unanswered + 1))
    (on_no_answer plan.mode p) (counts_less counts (unanswered + 1) plan.limit limit few)

-- a state in which the controller has ended, or the same one
abbrev pub EndedOr : State → State → Type 0
EndedOr first second = ((outcome : Outcome) × (first.stage ≡ Ended outcome)) ⊎ (second ≡ first)

ended_or : (t u : Transition) (n : ℕ) (s : State) → EndsOr t u → EndedOr (state_after t n s) (state_after u n s)
ended_or t u n s (inl (outcome, is)) = inl (outcome, ap stage_after is)
ended_or t u n s (inr is) = inr (ap (λ (x : Transition). state_after x n s) is)

exchanged : (plan : Plan) (limit : ℕ) (stage : Stage) (e : Exchange) (s : State) → plan.limit ≤ limit
    → EndedOr (ended_in plan stage e s) (ended_in (raised limit plan) stage e s)
exchanged plan limit (Ready p) e s few = inr refl
exchanged plan limit (Awaiting p) e s few =
    ended_or (transition_of plan s p e) (transition_of (raised limit plan) s p e)
    (unanswered_after plan.mode e s.unanswered) s
    (leads plan limit s.take s.tries s.unanswered (is_counted plan.mode e) p (answer_in e) few)
exchanged plan limit (Ended outcome) e s few = inr refl

came_if : (plan : Plan) (limit : ℕ) (by : Option Exchange) (s : State) → plan.limit ≤ limit
    → EndedOr (option_map_or (λ e. ended_in plan s.stage e s) by s)
    (option_map_or (λ e. ended_in (raised limit plan) s.stage e s) by s)
came_if plan limit None s few = inr refl
came_if plan limit (Some e) s few = exchanged plan limit s.stage e s few

pub called : (plan : Plan) (limit : ℕ) (call : Option Call) (s : State) → plan.limit ≤ limit
    → EndedOr (after_call_if plan call s) (after_call_if (raised limit plan) call s)
called plan limit (Some (Receive came)) s few = came_if plan limit (ended_by plan came s) s few
called plan limit other s few = inr refl

-- a controller that has ended stays so, and only its end is told

still_ended : (plan : Plan) (call : Option Call) (s : State) (outcome : Outcome) → s.stage ≡ Ended outcome
    → (after_call_if plan call s).stage ≡ Ended outcome
still_ended plan (Some Tick) s outcome is = cc
still_ended plan (Some (Receive came)) s outcome is = cc
still_ended plan other s outcome is = is

ends_so : (plan : Plan) (rows : List Row) (s : State) (outcome : Outcome) → s.stage ≡ Ended outcome
    → (after_rows plan s rows).stage ≡ Ended outcome
ends_so plan [] s outcome is = is
ends_so plan (row ∷ rows) s outcome is =
    ends_so plan rows (after_call_if plan (call_of row.note) s) outcome
    (still_ended plan (call_of row.note) s outcome is)

-- what is told of one that was lost
only_lost : (plan plan' : Plan) (n : Note) (s t : State) → s.stage ≡ Ended Lost → Tells plan s n → Tells plan' t n
only_lost plan plan' (note.End Lost) s t is tells = tt
only_lost plan plan' (note.From k) s t is tells = absurd tells
only_lost plan plan' (note.Left k) s t is tells = absurd tells
only_lost plan plan' other s t is tells = cc

all_lost : (plan plan' : Plan) (rows : List Row) (s t : State) → s.stage ≡ Ended Lost → AreTold plan s rows
    → AreTold plan' t rows
all_lost plan plan' [] s t is told = tt
all_lost plan plan' (row ∷ rows) s t is told = (
  only_lost plan plan' row.note s t is told.0,
  all_lost plan plan' rows (after_call_if plan (call_of row.note) s) (after_call_if plan' (call_of row.note) t)
      (still_ended plan (call_of row.note) s Lost is) told.1,
)

lost_if : (o : Option Outcome) (outcome : Outcome) → o ≡ Some outcome → MayGoOn o → outcome ≡ Lost
lost_if o outcome is (inl none) = cc
lost_if o outcome is (inr lost) = cc

-- no row tells of the limit
told_alike : (plan : Plan) (limit : ℕ) (n : Note) (s : State) → Tells plan s n → Tells (raised limit plan) s n
told_alike plan limit (note.End Lost) s tells = tt
told_alike plan limit (note.From k) s tells = absurd tells
told_alike plan limit (note.Left k) s tells = absurd tells
told_alike plan limit other s tells = tells

after_one : (plan : Plan) (limit : ℕ) (rows : List Row) (s t : State) → AreTold plan s rows
    → MayGoOn (outcome_of (after_rows plan s rows).stage) → EndedOr s t → AreTold (raised limit plan) s rows
    → AreTold (raised limit plan) t rows
after_one plan limit rows s t told goes (inl (outcome, is)) more =
    let lost : outcome ≡ Lost = lost_if (outcome_of (after_rows plan s rows).stage) outcome
    (ap outcome_of (ends_so plan rows s outcome is)) goes in
    all_lost plan (raised limit plan) rows s t (is ∙ ap Ended lost) told
after_one plan limit rows s t told goes (inr same) more =
    subst (λ (x : State). AreTold (raised limit plan) x rows) (sym same) more

pub told_raised : (plan : Plan) (limit : ℕ) (rows : List Row) (s : State) → plan.limit ≤ limit → AreTold plan s rows
    → MayGoOn (outcome_of (after_rows plan s rows).stage) → AreTold (raised limit plan) s rows
told_raised plan limit [] s few told goes = tt
told_raised plan limit (row ∷ rows) s few told goes = (
  told_alike plan limit row.note s told.0,
  after_one plan limit rows (after_call_if plan (call_of row.note) s)
      (after_call_if (raised limit plan) (call_of row.note) s) told.1 goes
      (called plan limit (call_of row.note) s few)
      (told_raised plan limit rows (after_call_if plan (call_of row.note) s) few told.1 goes),
)
