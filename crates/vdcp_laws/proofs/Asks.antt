-- What is asked beside the controller.
use Rattle.std.proofs.Common.{ℕ, ◌≡◌, ◌<◌, lit<, inl, inr, All, List, [], ◌∷◌, refl, sym, ap, ap₂, subst, ◌∙◌, append-nil, append_assoc, Some}
use Rattle.std.proofs.lemmas.List.Elements.{All-head, All-tail}
use Rattle.vdcp_frame.specs.Message.{Fits}
use Rattle.vdcp_words.specs.Commands.{IsWritableCommand}
use Rattle.vdcp_words.specs.declared.command.Command.{Command}
use Rattle.vdcp_words.specs.declared.command.Command.TheVariants as command
use Rattle.vdcp_port.specs.Clock.{ClockedPort}
use Rattle.vdcp_auto.specs.Plan.{Plan}
use Rattle.vdcp_auto.specs.State.{Stage, Ready, State}
use Rattle.vdcp_auto.specs.declared.phase.Phase.TheVariants as phase
use Rattle.vdcp_world.specs.LateLine.Asking.{Question, asked_in}
use Rattle.vdcp_world.specs.LateLine.Asking as question
use Rattle.vdcp_world.specs.LateLine.LateChannel.{LateChannel, IsQuestion, after_late_event}
use Rattle.vdcp_world.specs.LateLine.LateEvent as event
use Rattle.vdcp_laws.specs.Below.{Laws}
use Rattle.vdcp_laws.specs.Kills.{happened}
use Rattle.vdcp_laws.specs.TwoEnds.{AreLed, CanJoin, Ends, asks, sending, went_on}
use Rattle.vdcp_laws.proofs.Joining.{IsBeside, given_fits, goes_down, more_fit}
use Rattle.vdcp_laws.proofs.Queues.{messages_to}
use Rattle.vdcp_laws.proofs.Running.{no_notes}

one_of : {c d : Command} → Some c ≡ Some d → d ≡ c
one_of is = cc

is_question : (plan : Plan) (q : Question) (stage : Stage) (d : Command) → asked_in plan q stage ≡ Some d
    → IsQuestion plan.port d
is_question plan question.Open (Ready phase.Open) d is = inl (one_of is)
is_question plan question.Select (Ready phase.Open) d is = inr (inl (one_of is))
is_question plan question.State (Ready phase.Open) d is = inr (inr (one_of is))
is_question plan question.State (Ready phase.Select) d is = inr (inr (one_of is))
is_question plan question.State (Ready phase.Seen) d is = inr (inr (one_of is))
is_question plan question.State (Ready (phase.Wait k)) d is = inr (inr (one_of is))
is_question plan question.State (Ready (phase.Play k)) d is = inr (inr (one_of is))
is_question plan question.State (Ready (phase.Probe k)) d is = inr (inr (one_of is))
is_question plan question.State (Ready phase.Drain) d is = inr (inr (one_of is))
is_question plan q stage d is = cc

-- it can be written, and goes down

pub writable : (port : ℕ) (c : Command) → port < 256 → IsQuestion port c → IsWritableCommand c
writable port c small (inl is) = subst IsWritableCommand (sym is) (small, lit< tt)
writable port c small (inr (inl is)) = subst IsWritableCommand (sym is) small
writable port c small (inr (inr is)) = subst IsWritableCommand (sym is) (lit< tt)

-- this may be asked beside a controller that is at this stage
abbrev pub MayAsk : Plan → Stage → Command → Type 0
MayAsk plan stage c = (q : Question) × (asked_in plan q stage ≡ Some c)

pub asks_next : (law : Laws) (plan : Plan) (port : ClockedPort) (asked : List Command) (e : Ends) (c : LateChannel)
    (q : Question) (d : Command) → CanJoin plan port asked → asked_in plan q e.automation.state.stage ≡ Some d
    → IsBeside plan port e c → IsBeside plan port (sending (d ∷ []) e) (after_late_event c (event.Ask q))
asks_next law plan port asked e c q d can is b = record {
  run = no_notes (happened b.run (event.Ask q) tt);
  plan_is = b.plan_is;
  unit_is = b.unit_is;
  clips_are = b.clips_are;
  state_is = b.state_is;
  log_is = b.log_is;
  aired_is = b.aired_is;
  held = b.held;
  server_is = b.server_is;
  downwards = goes_down plan port e c b (Some d) (asked_in c.plan q c.state.stage)
      (sym is ∙ sym (ap₂ (λ (p : Plan) (s : State). asked_in p q s.stage) b.plan_is b.state_is)) fits;
  upwards = b.upwards;
  fits = more_fit port.state.unit e.sent (d ∷ []) b.fits fits;
  fewer = b.fewer;
} where
  fits : All Fits (messages_to port.state.unit (d ∷ []))
  fits = given_fits law.written port.state.unit (Some d) can.can_start.unit_fits
      (writable plan.port d can.can_start.port_fits (is_question plan q e.automation.state.stage d is))

-- All of it joins.

pub asks_all : (plan : Plan) (unit : ℕ) (first e : Ends) (more : List Command) → All (MayAsk plan e.automation.state.stage) more
    → AreLed plan unit first e → AreLed plan unit first (sending more e)
asks_all plan unit first e [] all j =
    subst (λ (l : List Command). AreLed plan unit first (record e { sent = l })) (sym (append-nil e.sent)) j
asks_all plan unit first e (c ∷ cs) all j =
    let may = All-head (MayAsk plan e.automation.state.stage) c cs all in
    subst (λ (l : List Command). AreLed plan unit first (record e { sent = l })) (append_assoc e.sent (c ∷ []) cs)
    (asks_all plan unit first (sending (c ∷ []) e) cs (All-tail (MayAsk plan e.automation.state.stage) c cs all)
    (went_on j (asks may.0 c may.1)))

pub opens : (plan : Plan) (c : Command) → IsQuestion plan.port c → MayAsk plan (Ready phase.Open) c
opens plan c (inl is) = (question.Open, ap Some (sym is))
opens plan c (inr (inl is)) = (question.Select, ap Some (sym is))
opens plan c (inr (inr is)) = (question.State, ap Some (sym is))

pub probes : (plan : Plan) (k : ℕ) → MayAsk plan (Ready (phase.Probe k)) (command.Status 1)
probes plan k = (question.State, refl)

pub waits : (plan : Plan) (k : ℕ) → MayAsk plan (Ready (phase.Play k)) (command.Status 1)
waits plan k = (question.State, refl)

pub awaits : (plan : Plan) (k : ℕ) → MayAsk plan (Ready (phase.Wait k)) (command.Status 1)
awaits plan k = (question.State, refl)
