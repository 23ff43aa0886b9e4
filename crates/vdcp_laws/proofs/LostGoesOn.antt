-- A run that was lost goes on under a greater limit.
use Rattle.std.proofs.Common.{◌≡◌, ℕ, ◌+◌, ◌≤◌, ◌<◌, arith, Bool, true, false, not, ◌||◌, ◌&&◌, List, [], ◌∷◌, Option, None, Some, refl, sym, ap, subst, ◌∙◌, length}
use Rattle.std.specs.Option.{option_map_or}
use Rattle.std.specs.Prelude.{if◌then◌else◌, is_some, nat_le, nat_lt, slice_get}
use Rattle.vdcp_value.specs.declared.part.Item.{Item}
use Rattle.vdcp_words.specs.declared.reply.Reply.{Reply}
use Rattle.vdcp_auto.specs.Log.{answer_in, is_counted}
use Rattle.vdcp_auto.specs.Plan.{Plan}
use Rattle.vdcp_auto.specs.Replies.{is_cueing, is_done, is_empty, is_granted, is_playing, is_present, is_refusal}
use Rattle.vdcp_auto.specs.State.{Stage, Ready, Awaiting, Ended, State}
use Rattle.vdcp_auto.specs.Table.{command_in, names_other, next, on_lost_cue, on_no_answer, on_refusal, on_reply}
use Rattle.vdcp_auto.specs.Turn.{awaited, awaited_in, ended_by, ended_in, given_in, outcome_of, stage_after, start, state_after, tick_in, transition_on, unanswered_after}
use Rattle.vdcp_auto.specs.declared.exchange.Exchange.{Exchange}
use Rattle.vdcp_auto.specs.declared.exchange.Heard.{Heard}
use Rattle.vdcp_auto.specs.declared.outcome.Outcome.{Outcome}
use Rattle.vdcp_auto.specs.declared.outcome.Outcome.TheVariants.{Lost, Denied, Missing, Refused, Foreign, Strange}
use Rattle.vdcp_auto.specs.declared.phase.Mode.{Mode}
use Rattle.vdcp_auto.specs.declared.phase.Mode.TheVariants.{Plain, Confirming}
use Rattle.vdcp_auto.specs.declared.phase.Phase.{Phase}
use Rattle.vdcp_auto.specs.declared.phase.Phase.TheVariants as phase
use Rattle.vdcp_auto.specs.declared.phase.Transition.{Transition}
use Rattle.vdcp_auto.specs.declared.phase.Transition.TheVariants.{Goes, Settles, Retries, Ends}
use Rattle.vdcp_journal.specs.Mending.{after_notes}
use Rattle.vdcp_journal.specs.Resume.{AreTold, Tells, after_call_if, after_rows, call_of}
use Rattle.vdcp_journal.specs.Thinned.{notes_in}
use Rattle.vdcp_journal.specs.declared.row.Note.{Note}
use Rattle.vdcp_journal.specs.declared.row.Note.TheVariants as note
use Rattle.vdcp_journal.specs.declared.row.Row.{Row}
use Rattle.vdcp_laws.proofs.Commands.{exchange_is, still}
use Rattle.vdcp_laws.proofs.Journaled.{AllTold, of_rows}
use Rattle.vdcp_laws.proofs.Limits.{leads, raised}
use Rattle.vdcp_laws.proofs.Mended.{notes_told}
use Rattle.vdcp_laws.proofs.RaisedEnds.{awaits_none, ends_none}

-- No reply loses a run.

abbrev loses : Transition → Bool
loses (Ends Lost) = true
loses t = false

either : (b : Bool) (t u : Transition) → loses t ≡ false → loses u ≡ false → loses (if b then t else u) ≡ false
either true t u first second = first
either false t u first second = second

cue_lost : (mode : Mode) (limit tries k : ℕ) → loses (on_lost_cue mode limit tries k) ≡ false
cue_lost Plain limit tries k = refl
cue_lost Confirming limit tries k = either (nat_lt (tries + 1) limit) (Retries k) (Ends (Refused k)) refl refl

replied : (mode : Mode) (list : List Item) (limit : ℕ) (take : Bool) (tries : ℕ) (p : Phase) (r : Reply)
    → loses (on_reply mode list limit take tries p r) ≡ false
replied mode list limit take tries phase.Open r = either (is_granted r) (Goes phase.Select) (Ends Denied) refl refl
replied mode list limit take tries (phase.Exists k) r =
    either (is_present r) (Goes (phase.Cue k)) (Ends (Missing k)) refl refl
replied mode list limit take tries (phase.Wait k) r =
    either (is_done r && (not (is_playing r) || take)) (Goes (phase.Play k))
    (if is_empty r then on_lost_cue mode limit tries k else Goes (phase.Wait k)) refl
    (either (is_empty r) (on_lost_cue mode limit tries k) (Goes (phase.Wait k)) (cue_lost mode limit tries k) refl)
replied mode list limit take tries (phase.Probe k) r =
    either (is_done r) (Goes (phase.Play k)) (if is_empty r then Settles k else Goes (phase.Probe k)) refl
    (either (is_empty r) (Settles k) (Goes (phase.Probe k)) refl refl)
replied mode list limit take tries (phase.Check k) r =
    either (names_other (slice_get list k) r) (Ends (Foreign k)) (Goes (next list (k + 1))) refl refl
replied mode list limit take tries phase.Drain r =
    either (is_cueing r || is_done r) (Ends (Strange (length list))) (if is_playing r then Goes phase.Drain else Goes phase.Close)
    refl (either (is_playing r) (Goes phase.Drain) (Goes phase.Close) refl refl)
replied mode list limit take tries other r = refl

refused : (n : ℕ) (p : Phase) → loses (on_refusal n p) ≡ false
refused n phase.Open = refl
refused n other = refl

-- What a time-out leads to, if it is counted, isn't an end.
unended : (mode : Mode) (list : List Item) (port : ℕ) (p : Phase) (e : Exchange) → command_in list port p ≡ Some e.command
    → is_counted mode e ≡ true → outcome_of (stage_after (on_no_answer mode p)) ≡ None
unended Plain list port p e is counts = grind arith
unended Confirming list port p e is counts = grind arith

-- The second controller is the first, which goes on; or that is lost, and this goes on; or that has ended otherwise.
data Follows (plan : Plan) (s : State) : State → Type 0 where
  on : outcome_of s.stage ≡ None → s.unanswered < plan.limit → Follows plan s s
  lost : {t : State} → s.stage ≡ Ended Lost → outcome_of t.stage ≡ None → Follows plan s t
  over : {t : State} (outcome : Outcome) → s.stage ≡ Ended outcome → loses (Ends outcome) ≡ false → Follows plan s t

module _ (plan : Plan) (limit : ℕ) (some : 1 ≤ plan.limit) (more : plan.limit < limit) where
  -- an exchange leads to a transition, and under the greater limit to another
  led : (t u : Transition) (n : ℕ) (s : State) → (outcome_of (stage_after t) ≡ None → u ≡ t)
      → (outcome_of (stage_after t) ≡ None → n < plan.limit) → (loses t ≡ true → outcome_of (stage_after u) ≡ None)
      → Follows plan (state_after t n s) (state_after u n s)
  led (Ends outcome) u n s same few goes = by (loses (Ends outcome)) refl where
    by : (b : Bool) → loses (Ends outcome) ≡ b → Follows plan (state_after (Ends outcome) n s) (state_after u n s)
    by true is = lost (ap Ended (lost_is outcome is)) (goes is) where
      lost_is : (o : Outcome) → loses (Ends o) ≡ true → o ≡ Lost
      lost_is Lost is = refl
      lost_is o is = cc is
    by false is = over outcome refl is
  led t u n s same few goes = subst (λ (x : Transition). Follows plan (state_after t n s) (state_after x n s)) (sym (same refl))
      (on refl (few refl))

  answered : (s : State) (p : Phase) (e : Exchange) (r : Reply) → s.unanswered < plan.limit → answer_in e ≡ Some r
      → unanswered_after plan.mode e s.unanswered < plan.limit
  answered s p e r few is = grind arith

  silent : (s : State) (p : Phase) (e : Exchange) → s.unanswered < plan.limit → answer_in e ≡ None
      → outcome_of (stage_after (transition_on plan s.take s.tries s.unanswered (is_counted plan.mode e) p None)) ≡ None
      → unanswered_after plan.mode e s.unanswered < plan.limit
  silent s p e few is goes = grind arith

  replies_lose_not : (b : Bool) (s : State) (p : Phase) (r : Reply)
      → loses (if b then on_refusal (length plan.list) p else on_reply plan.mode plan.list plan.limit s.take s.tries p r) ≡ false
  replies_lose_not b s p r = either b _ _ (refused (length plan.list) p) (replied plan.mode plan.list plan.limit s.take s.tries p r)

  still_on : (counts : Bool) (n : ℕ) (t : Transition) → n < plan.limit → (counts ≡ true → outcome_of (stage_after t) ≡ None)
      → loses t ≡ false → loses (if counts && nat_le plan.limit (n + 1) then Ends Lost else t) ≡ true
      → outcome_of (stage_after (if counts && nat_le limit (n + 1) then Ends Lost else t)) ≡ None
  still_on counts n t few goes not is = grind (arith, more)

  silence_loses_not : (mode : Mode) (p : Phase) → loses (on_no_answer mode p) ≡ false
  silence_loses_not mode p = grind arith

  exchanged : (s : State) (p : Phase) (e : Exchange) (answer : Option Reply) → answer_in e ≡ answer → s.unanswered < plan.limit
      → command_in plan.list plan.port p ≡ Some e.command
      → Follows plan (state_after (transition_on plan s.take s.tries s.unanswered (is_counted plan.mode e) p answer)
      (unanswered_after plan.mode e s.unanswered) s)
      (state_after (transition_on (raised limit plan) s.take s.tries s.unanswered (is_counted plan.mode e) p answer)
      (unanswered_after plan.mode e s.unanswered) s)
  exchanged s p e (Some r) is few asked = led _ _ (unanswered_after plan.mode e s.unanswered) s
      (leads plan limit s.take s.tries s.unanswered (is_counted plan.mode e) p (Some r) (omega (arith, more)))
      (λ goes. answered s p e r few is)
      (λ loses. cc (sym loses ∙ replies_lose_not (is_refusal r) s p r))
  exchanged s p e None is few asked = led _ _ (unanswered_after plan.mode e s.unanswered) s
      (leads plan limit s.take s.tries s.unanswered (is_counted plan.mode e) p None (omega (arith, more)))
      (silent s p e few is)
      (still_on (is_counted plan.mode e) s.unanswered (on_no_answer plan.mode p) few
      (unended plan.mode plan.list plan.port p e asked) (silence_loses_not plan.mode p))

  came_at : (s : State) (stage : Stage) (e : Exchange) → s.stage ≡ stage → s.unanswered < plan.limit
      → outcome_of stage ≡ None → awaited_in plan stage ≡ Some e.command
      → Follows plan (ended_in plan stage e s) (ended_in (raised limit plan) stage e s)
  came_at s (Ready p) e at few goes is = cc is
  came_at s (Awaiting p) e at few goes is = exchanged s p e (answer_in e) refl few is
  came_at s (Ended outcome) e at few goes is = cc is

  came : (h : Option Heard) (s : State) (by : Option Exchange) → ended_by plan h s ≡ by → outcome_of s.stage ≡ None
      → s.unanswered < plan.limit → Follows plan (option_map_or (λ e. ended_in plan s.stage e s) by s)
      (option_map_or (λ e. ended_in (raised limit plan) s.stage e s) by s)
  came h s None is goes few = on goes few
  came h s (Some e) is goes few = came_at s s.stage e refl few goes (exchange_is plan.mode h (awaited plan s) e is)

  ticks : (stage : Stage) (s : State) → s.stage ≡ stage → outcome_of stage ≡ None → outcome_of (tick_in stage s).stage ≡ None
  ticks (Ready p) s at goes = refl
  ticks (Awaiting p) s at goes = ap outcome_of at
  ticks (Ended outcome) s at goes = cc goes

  few_ticked : (stage : Stage) (s : State) → s.unanswered < plan.limit → (tick_in stage s).unanswered < plan.limit
  few_ticked (Ready p) s few = few
  few_ticked (Awaiting p) s few = few
  few_ticked (Ended outcome) s few = few

  -- what has ended stays so

  stays : (n : Note) (s : State) (outcome : Outcome) → s.stage ≡ Ended outcome
      → (after_call_if plan (call_of n) s).stage ≡ Ended outcome
  stays (note.Sent c) s outcome is = ap (λ (x : Stage). (tick_in x s).stage) is ∙ is
  stays (note.Heard h) s outcome is = ap (λ (x : State). x.stage) (still plan (Some h) s outcome is) ∙ is
  stays note.Silence s outcome is = ap (λ (x : State). x.stage) (still plan None s outcome is) ∙ is
  stays n s outcome is = is

  stay : (notes : List Note) (s : State) (outcome : Outcome) → s.stage ≡ Ended outcome
      → (after_notes plan s notes).stage ≡ Ended outcome
  stay [] s outcome is = is
  stay (n ∷ notes) s outcome is = stay notes (after_call_if plan (call_of n) s) outcome (stays n s outcome is)

  -- behind a loss only ends are told
  tells_no_more : (n : Note) (s : State) → s.stage ≡ Ended Lost → Tells plan s n → call_of n ≡ None
  tells_no_more (note.Sent c) s is told = cc (sym (ap (given_in plan s.stop) is) ∙ told)
  tells_no_more (note.Heard h) s is told = cc (sym (ap is_some (ends_none plan (Some h) s (awaits_none plan s Lost is))) ∙ told)
  tells_no_more note.Silence s is told = cc (sym (ap is_some (ends_none plan None s (awaits_none plan s Lost is))) ∙ told)
  tells_no_more note.Take s is told = cc (sym (ap outcome_of is) ∙ told)
  tells_no_more note.Stop s is told = cc (sym (ap outcome_of is) ∙ told)
  tells_no_more n s is told = refl

  step : (n : Note) (s t : State) → Tells plan s n → Follows plan s t
      → Follows plan (after_call_if plan (call_of n) s) (after_call_if (raised limit plan) (call_of n) t)
  step n s t told (lost is goes) =
      subst (λ c. Follows plan (after_call_if plan c s) (after_call_if (raised limit plan) c t)) (sym (tells_no_more n s is told))
      (lost is goes)
  step n s t told (over outcome is falls) = over outcome (stays n s outcome is) falls
  step (note.Sent c) s _ told (on goes few) = on (ticks s.stage s refl goes) (few_ticked s.stage s few)
  step (note.Heard h) s _ told (on goes few) = came (Some h) s (ended_by plan (Some h) s) refl goes few
  step note.Silence s _ told (on goes few) = came None s (ended_by plan None s) refl goes few
  step note.Take s _ told (on goes few) = on goes few
  step note.Stop s _ told (on goes few) = on goes few
  step n s _ told (on goes few) = on goes few

  ends : (s t : State) → Follows plan s t → outcome_of s.stage ≡ Some Lost → outcome_of t.stage ≡ None
  ends s _ (on goes few) is = cc (sym goes ∙ is)
  ends s t (lost at goes) is = goes
  ends s t (over outcome at falls) is = not_lost outcome falls (sym (ap outcome_of at) ∙ is) where
    not_lost : (o : Outcome) → loses (Ends o) ≡ false → Some o ≡ Some Lost → outcome_of t.stage ≡ None
    not_lost Lost falls same = cc falls
    not_lost o falls same = cc same

  all : (notes : List Note) (s t : State) → AllTold plan s notes → Follows plan s t
      → Follows plan (after_notes plan s notes) (after_notes (raised limit plan) t notes)
  all [] s t told f = f
  all (n ∷ notes) s t told f =
      all notes (after_call_if plan (call_of n) s) (after_call_if (raised limit plan) (call_of n) t) told.1 (step n s t told.0 f)

  pub goes_on : (rows : List Row) → AreTold plan start rows → outcome_of (after_rows plan start rows).stage ≡ Some Lost
      → outcome_of (after_rows (raised limit plan) start rows).stage ≡ None
  goes_on rows told is =
      let f = all (notes_in rows) start start (notes_told plan start rows told) (on refl (omega (arith, some))) in
      ap (λ (x : State). outcome_of x.stage) (of_rows (raised limit plan) start rows)
      ∙ ends _ _ f (ap (λ (x : State). outcome_of x.stage) (sym (of_rows plan start rows)) ∙ is)
