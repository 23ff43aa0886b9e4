-- Where nothing was unanswered.
use Rattle.std.proofs.Common.{arith, ℕ, ◌≡◌, ◌&&◌, ◌||◌, Bool, true, false, List, [], ◌∷◌, ◌++◌, refl, sym, ap, subst, ◌∙◌}
use Rattle.std.specs.Prelude.{IsSome, Option, None, Some, Result, Ok, Err, if◌then◌else◌}
use Rattle.vdcp_auto.specs.Plan.{Plan}
use Rattle.vdcp_auto.specs.State.{Stage, Ready, Awaiting, Ended, State}
use Rattle.vdcp_auto.specs.Turn.{awaited, awaited_in, given, given_in, outcome_of}
use Rattle.vdcp_auto.specs.Turn as turns
use Rattle.vdcp_wire.specs.Acts.{Act}
use Rattle.vdcp_drive.specs.Auto.{Auto, Event, after}
use Rattle.vdcp_drive.specs.Hearing.{at_once}
use Rattle.vdcp_drive.specs.Leaves.{Ending, HasRun, by_itself, by_hooks, in_keep, in_drop, in_send, in_listen}
use Rattle.vdcp_drive.specs.Reading.{Held}
use Rattle.vdcp_drive.specs.Steps.{Happens, Step, World, acts, asks, keeps, misses, steps_of}
use Rattle.vdcp_drive.specs.Traces.{kept_in}
use Rattle.vdcp_drive.specs.declared.hooks.BrokenOff.{BrokenOff}
use Rattle.vdcp_drive.specs.declared.hooks.BrokenOff.TheVariants as fault
use Rattle.vdcp_drive.specs.declared.hooks.Call.TheVariants as call
use Rattle.vdcp_drive.specs.declared.hooks.Kept.{Kept}
use Rattle.vdcp_drive.specs.declared.hooks.Kept.TheVariants as kept
use Rattle.vdcp_drive.specs.declared.hooks.Next.TheVariants as next
use Rattle.vdcp_drive.specs.declared.line.Ran.{Ran}
use Rattle.vdcp_drive.specs.declared.line.Ran.TheVariants as ran
use Rattle.vdcp_laws.proofs.CarriedRun.{left_by_hooks}
use Rattle.vdcp_laws.proofs.Tallied.{is_silent, tally}
use Rattle.vdcp_run.specs.Asking.{Asker, Inquiring, Start, asker_of, asker_with, asking, is_opening, next_for, signs_asked, waits_in}
use Rattle.vdcp_run.specs.Session.{signs_after, signs_by}
use Rattle.vdcp_run.specs.declared.asking.Purpose.{Purpose}
use Rattle.vdcp_run.specs.declared.asking.Purpose.TheVariants as purpose
use Rattle.vdcp_run.specs.declared.run_end.Signs.{Signs}

-- where nothing was unanswered, nothing timed out

or_false : (a b : Bool) → (a || b) ≡ false → b ≡ false
or_false true b e = cc e
or_false false b e = e

pub calm_by : (rows : List Kept) (signs : Signs) → (signs_by rows signs).unanswered ≡ false
    → (tally is_silent rows ≡ 0) × (signs.unanswered ≡ false)
calm_by [] signs calm = (refl, calm)
calm_by (kept.Sent c ∷ rows) signs calm =
    let r = calm_by rows (signs_after (kept.Sent c) signs) calm in (omega (arith, r.0), r.1)
calm_by (kept.Heard h ∷ rows) signs calm =
    let r = calm_by rows (signs_after (kept.Heard h) signs) calm in (omega (arith, r.0), or_false _ _ r.1)
calm_by (kept.Silence ∷ rows) signs calm = absurd (cc (calm_by rows (signs_after kept.Silence signs) calm).1)
calm_by (kept.Called call.Take ∷ rows) signs calm = let r = calm_by rows signs calm in (omega (arith, r.0), r.1)
calm_by (kept.Called call.Stop ∷ rows) signs calm =
    let r = calm_by rows (signs_after (kept.Called call.Stop) signs) calm in (omega (arith, r.0), r.1)
calm_by (kept.Called (call.List c) ∷ rows) signs calm = let r = calm_by rows signs calm in (omega (arith, r.0), r.1)

module _ {W : Type 0} (does : Act → W → W → Type 0) (plan : Plan) where
  abbrev Calm : World W Inquiring → Type 0
  Calm w = w.keep.signs.unanswered ≡ false

  pub calm_asked : (steps : List Step) (old new : World W Inquiring) → Happens (asking does plan) steps old new → Calm new
      → (tally is_silent (kept_in steps) ≡ 0) × Calm old
  calm_asked [] old new h calm = (refl, ap (λ (w : World W Inquiring). w.keep.signs.unanswered) (sym h) ∙ calm)
  calm_asked (acts a ∷ steps) old new (mid, (one, is), later) calm =
      let r = calm_asked steps mid new later calm in
      (r.0, ap (λ (w : World W Inquiring). w.keep.signs.unanswered) (sym is) ∙ r.1)
  calm_asked (asks s n ∷ steps) old new (mid, (one, is), later) calm =
      let r = calm_asked steps mid new later calm in
      (r.0, ap (λ (i : Inquiring). i.signs.unanswered) (sym one.1) ∙ r.1)
  calm_asked (keeps (kept.Heard h) ∷ steps) old new (mid, (one, is), later) calm =
      let r = calm_asked steps mid new later calm in
      (omega (arith, r.0), or_false _ _ (ap (λ (i : Inquiring). i.signs.unanswered) (sym one) ∙ r.1))
  calm_asked (keeps kept.Silence ∷ steps) old new (mid, (one, is), later) calm =
      absurd (cc (ap (λ (i : Inquiring). i.signs.unanswered) (sym one) ∙ (calm_asked steps mid new later calm).1))
  calm_asked (keeps (kept.Sent c) ∷ steps) old new (mid, (one, is), later) calm =
      let r = calm_asked steps mid new later calm in
      (omega (arith, r.0), ap (λ (i : Inquiring). i.signs.unanswered) (sym one) ∙ r.1)
  calm_asked (keeps (kept.Called c) ∷ steps) old new (mid, (one, is), later) calm =
      let r = calm_asked steps mid new later calm in
      (omega (arith, r.0), ap (λ (i : Inquiring). i.signs.unanswered) (sym one) ∙ r.1)
  calm_asked (misses r ∷ steps) old new (mid, (one, is), later) calm = absurd one

  -- it is left only with a command to give
  left_free : (steps : List Step) (s : State) (old new : World W Inquiring)
      → Happens (asking does plan) (steps ++ asks s next.Leave ∷ []) old new → awaited plan s ≡ None
  left_free [] s old new (mid, (one, is), later) = by s.stage one.0 where
    by : (stage : Stage) → next.Leave ≡ next_for mid.keep (given_in plan s.stop stage) → awaited_in plan stage ≡ None
    by (Ready p) leaves = refl
    by (Awaiting p) leaves = cc
    by (Ended o) leaves = refl
  left_free (one ∷ steps) s old new (mid, first, later) = left_free steps s mid new later

-- an automation that asks awaits nothing at first
pub asker_ready : (ask is_held : Bool) (start : Start) (asker : Asker) → asker_of ask is_held start ≡ Some asker
    → awaited asker.plan asker.state ≡ None
asker_ready ask is_held start asker is = by (waits_in start.plan.mode is_held start.state.stage) is where
  by : (waits : Option (Purpose × ℕ)) → asker_with ask start waits ≡ Some asker → awaited asker.plan asker.state ≡ None
  by (Some w) is = cc
  by None is = asked_first_by (ask && is_opening (given start.plan start.state)) is where
    asked_first_by : (b : Bool) → (if b then Some (record {
      purpose = purpose.Vacancy;
      plan = record start.plan { list = [] };
      state = turns.start;
    }) else None) ≡ Some asker → awaited asker.plan asker.state ≡ None
    asked_first_by true is = cc
    asked_first_by false is = cc

ended_by_itself : (plan : Plan) (unit count : ℕ) (events : List Event) (a a' : Auto Held) (answer : Result Ran BrokenOff)
    (more : List Step) → Ending at_once plan unit count events a answer more a' → answer ≡ Ok ran.Ended → IsSome (outcome_of a'.state.stage)
ended_by_itself plan unit count events a a' answer more (by_itself ran.Ended is to m left) at =
    subst (λ (x : Auto Held). IsSome (outcome_of x.state.stage)) (sym left) to.0
ended_by_itself plan unit count events a a' answer more (by_itself ran.Closed is to m left) at = absurd (cc (sym is ∙ at))
ended_by_itself plan unit count events a a' answer more (by_itself ran.Spent is to m left) at = absurd (cc (sym is ∙ at))
ended_by_itself plan unit count events a a' answer more (by_hooks is g m left) at = absurd (cc (sym is ∙ at))
ended_by_itself plan unit count events a a' answer more (in_keep r is g m left) at = absurd (cc (sym is ∙ at))
ended_by_itself plan unit count events a a' answer more (in_drop c is dropping g m left) at = absurd (cc (sym is ∙ at))
ended_by_itself plan unit count events a a' answer more (in_send c front rest is g parts m left) at = absurd (cc (sym is ∙ at))
ended_by_itself plan unit count events a a' answer more (in_listen is m left) at = absurd (cc (sym is ∙ at))

pub ended_free : (plan : Plan) (unit count : ℕ) (events : List Event) (a a' : Auto Held) (answer : Result Ran BrokenOff)
    (more : List Step) → Ending at_once plan unit count events a answer more a' → answer ≡ Ok ran.Ended → awaited plan a'.state ≡ None
ended_free plan unit count events a a' answer more ending is =
    by a'.state.stage (ended_by_itself plan unit count events a a' answer more ending is)
  where
    by : (stage : Stage) → IsSome (outcome_of stage) → awaited_in plan stage ≡ None
    by (Ended o) some = refl
    by (Ready p) some = cc
    by (Awaiting p) some = cc

pub asked_calm : (answer : Result Ran BrokenOff) (signs : Signs) → (signs_asked answer signs).unanswered ≡ false → signs.unanswered ≡ false
asked_calm answer signs calm = grind arith

-- and at its end, if it had all answers
pub asker_free : {W : Type 0} {does : Act → W → W → Type 0} (asker : Asker) (unit count : ℕ) (a a' : Auto Held) (old new : World W Inquiring)
    (answer : Result Ran BrokenOff) → (h : HasRun (asking does asker.plan) at_once asker.plan unit count a a' old new answer)
    → (signs_asked answer new.keep.signs).unanswered ≡ false → awaited asker.plan a'.state ≡ None
asker_free {W} {does} asker unit count a a' old new answer h calm = by answer refl calm where
  events : List Event
  events = h.run.events

  before : Auto Held
  before = after at_once asker.plan unit a events

  by : (r : Result Ran BrokenOff) → answer ≡ r → (signs_asked r new.keep.signs).unanswered ≡ false → awaited asker.plan a'.state ≡ None
  by (Err fault.Left) is calm =
      let l = left_by_hooks asker.plan unit count events before a' answer h.run.more h.run.ending is in
      ap (λ (x : Auto Held). awaited asker.plan x.state) l.0
      ∙ left_free does asker.plan (steps_of at_once asker.plan unit a events) before.state old new
      (subst (λ (l : List Step). Happens (asking does asker.plan) (steps_of at_once asker.plan unit a events ++ l) old new) l.1 h.happened)
  by (Ok ran.Ended) is calm =
      ended_free asker.plan unit count events before a' answer h.run.more h.run.ending is
  by _ is calm = cc
