-- Where something is asked before the next command, and what.
use Rattle.std.proofs.Common.{ℕ, ◌≡◌, ◌⊎◌, inl, inr, Bool, true, false, All, List, refl, sym, ap, subst, ◌∙◌}
use Rattle.std.specs.Option.{option_map}
use Rattle.std.specs.Prelude.{◌&&◌, if◌then◌else◌, slice_get, Option, None, Some, Result}
use Rattle.vdcp_value.specs.declared.clip_id.ClipId.{ClipId}
use Rattle.vdcp_value.specs.declared.part.Item.{Item}
use Rattle.vdcp_value.specs.declared.part.Part.{Part}
use Rattle.vdcp_auto.specs.Commands.{cue_for, cue_of}
use Rattle.vdcp_auto.specs.Plan.{Plan}
use Rattle.vdcp_auto.specs.State.{Stage, Ready, Awaiting, Ended, State}
use Rattle.vdcp_auto.specs.Table.{command_in}
use Rattle.vdcp_auto.specs.Turn.{given, given_in}
use Rattle.vdcp_auto.specs.declared.phase.Mode.{Mode}
use Rattle.vdcp_auto.specs.declared.phase.Mode.TheVariants.{Confirming}
use Rattle.vdcp_auto.specs.declared.phase.Phase.{Phase}
use Rattle.vdcp_auto.specs.declared.phase.Phase.TheVariants as phase
use Rattle.vdcp_drive.specs.Auto.{Auto}
use Rattle.vdcp_drive.specs.Ears.{Fold}
use Rattle.vdcp_drive.specs.Leaves.{HasRun, steps_in}
use Rattle.vdcp_drive.specs.Steps.{World}
use Rattle.vdcp_drive.specs.Traces.{commands_kept, kept_in}
use Rattle.vdcp_drive.specs.declared.hooks.BrokenOff.{BrokenOff}
use Rattle.vdcp_drive.specs.declared.line.Ran.{Ran}
use Rattle.vdcp_run.specs.Asking.{AreAsked, Asker, Inquiring, IsAsked, Start, asker_of, asker_with, asking, holding, is_opening, opening, probing, waiting, waits_in}
use Rattle.vdcp_run.proofs.Questions.{run_questions, run_waits}
use Rattle.vdcp_run.specs.declared.asking.Purpose.{Purpose}
use Rattle.vdcp_wire.specs.Acts.{Act}
use Rattle.vdcp_words.specs.declared.command.Command.TheVariants as command

-- Where something is asked.

looked_up : (o : Option Item) → is_opening (option_map (λ item. command.IdRequest item.id) o) ≡ true → ⊥
looked_up None is = cc
looked_up (Some item) is = cc

cued : (o : Option Item) → is_opening (option_map cue_of o) ≡ true → ⊥
cued None is = cc
cued (Some item) is = by item.id item.part is where
  by : (id : ClipId) (part : Option Part) → is_opening (Some (cue_for id part)) ≡ true → ⊥
  by id None is = cc
  by id (Some part) is = cc

opening_phase : (list : List Item) (port : ℕ) (p : Phase) → is_opening (command_in list port p) ≡ true → p ≡ phase.Open
opening_phase list port phase.Open is = refl
opening_phase list port (phase.Exists k) is = absurd (looked_up (slice_get list k) is)
opening_phase list port (phase.Cue k) is = absurd (cued (slice_get list k) is)
opening_phase list port p is = cc

opening_at : (plan : Plan) (stop : Bool) (stage : Stage) → is_opening (given_in plan stop stage) ≡ true
    → stage ≡ Ready phase.Open
opening_at plan true (Ready p) is = cc
opening_at plan false (Ready p) is = ap Ready (opening_phase plan.list plan.port p is)
opening_at plan stop (Awaiting p) is = cc
opening_at plan stop (Ended outcome) is = cc

one_of : {A : Type 0} {x y : A} → Some x ≡ Some y → y ≡ x
one_of is = cc

waits_at : (mode : Mode) (holds : Bool) (stage : Stage) (w : Purpose × ℕ) → waits_in mode holds stage ≡ Some w
    → (stage ≡ Ready (phase.Probe w.1)) ⊎ ((stage ≡ Ready (phase.Play w.1)) ⊎ (stage ≡ Ready (phase.Wait w.1)))
waits_at mode holds (Ready (phase.Probe k)) w is = inl (ap (λ (x : Purpose × ℕ). Ready (phase.Probe x.1)) (sym (one_of is)))
waits_at mode true (Ready (phase.Play k)) w is = inr (inl (ap (λ (x : Purpose × ℕ). Ready (phase.Play x.1)) (sym (one_of is))))
waits_at mode true (Ready (phase.Wait k)) w is =
    inr (inr (ap (λ (x : Purpose × ℕ). Ready (phase.Wait x.1)) (sym (one_of is))))
waits_at Confirming false (Ready (phase.Wait k)) w is =
    inr (inr (ap (λ (x : Purpose × ℕ). Ready (phase.Wait x.1)) (sym (one_of is))))
waits_at mode holds stage w is = cc

if_true : {A : Type 0} (a b : Bool) (x y : A) → (if a && b then Some x else None) ≡ Some y → (b ≡ true) × (y ≡ x)
if_true true true x y is = (refl, one_of is)
if_true true false x y is = cc
if_true false b x y is = cc

module _ {W E : Type 0} (does : Act → W → W → Type 0) (fold : Fold E) (ask holds : Bool) (start : Start) (asker : Asker)
    (unit count : ℕ) (a a' : Auto E) (world world' : World W Inquiring) (answer : Result Ran BrokenOff)
    (state : a.state ≡ asker.state) (h : HasRun (asking does asker.plan) fold asker.plan unit count a a' world world' answer) where
  asked_by : (o : Option (Purpose × ℕ)) → waits_in start.plan.mode holds start.state.stage ≡ o → asker_with ask start o ≡ Some asker
      → AreAsked start (commands_kept (kept_in (steps_in h.run)))
  asked_by (Some w) waits is =
      by (waits_at start.plan.mode holds start.state.stage w waits) (run_waits does fold asker.plan unit count w.1 a a' world world' answer
      (ap (λ (s : State). s.stage) state ∙ ap (λ (x : Asker). x.state.stage) (one_of is)) h) where
        by : (start.state.stage ≡ Ready (phase.Probe w.1))
            ⊎ ((start.state.stage ≡ Ready (phase.Play w.1)) ⊎ (start.state.stage ≡ Ready (phase.Wait w.1)))
            → All (λ c. c ≡ command.Status 1) (commands_kept (kept_in (steps_in h.run)))
            → AreAsked start (commands_kept (kept_in (steps_in h.run)))
        by (inl probes) all = probing w.1 probes all
        by (inr (inl holds)) all = holding w.1 holds all
        by (inr (inr waits)) all = waiting w.1 waits all
  asked_by None waits is =
      let r = if_true ask (is_opening (given start.plan start.state)) _ asker is in
      opening (opening_at start.plan start.state.stop start.state.stage r.0)
      (subst (λ (port : ℕ). All (IsAsked port) (commands_kept (kept_in (steps_in h.run))))
      (ap (λ (x : Asker). x.plan.port) r.1)
      (run_questions does fold asker.plan unit count a a' world world' answer h))

  pub are_asked : asker_of ask holds start ≡ Some asker → AreAsked start (commands_kept (kept_in (steps_in h.run)))
  are_asked is = asked_by (waits_in start.plan.mode holds start.state.stage) refl is
