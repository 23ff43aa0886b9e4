-- A good round, from bytes to bytes: what the controller sends, what the port answers, and what is heard.
use Rattle.std.proofs.Common.{ℕ, ◌+◌, ◌≡◌, Bool, true, false, ◌&&◌, nat_le, List, [], ◌∷◌, refl, sym, ap, subst, ◌∙◌, arith, if◌then◌else◌}
use Rattle.std.specs.Option.{option_map_or}
use Rattle.std.specs.Prelude.{Option, None, Some, IfSome}
use Rattle.vdcp_frame.specs.Burst.{messages_of}
use Rattle.vdcp_frame.specs.Message.{Content, spelling}
use Rattle.vdcp_words.specs.Commands.{command_message, IsWritableCommand}
use Rattle.vdcp_words.specs.declared.command.Command.{Command}
use Rattle.vdcp_words.specs.declared.reply.Reply.{Reply}
use Rattle.vdcp_port.specs.Answers.{sent_for, after_burst}
use Rattle.vdcp_port.specs.Clock.{ClockedPort, after_change}
use Rattle.vdcp_port.specs.Row.{command_row}
use Rattle.vdcp_auto.specs.Commands.{is_sense}
use Rattle.vdcp_auto.specs.Heard.{heard_in}
use Rattle.vdcp_auto.specs.Log.{is_counted}
use Rattle.vdcp_auto.specs.Plan.{Plan}
use Rattle.vdcp_auto.specs.Table.{command_in, on_no_answer}
use Rattle.vdcp_auto.specs.Turn.{awaited, awaited_in, given, given_in, ticked, tick_in, sent, phase_to_send, came_to, exchange_of, ended_in, is_end, on_unanswered, transition_of, state_after, unanswered_after}
use Rattle.vdcp_auto.specs.declared.exchange.Exchange.{Exchange}
use Rattle.vdcp_auto.specs.declared.exchange.Heard.{Heard}
use Rattle.vdcp_auto.specs.declared.exchange.Heard.TheVariants as heard
use Rattle.vdcp_auto.specs.declared.outcome.Outcome.TheVariants.{Lost}
use Rattle.vdcp_auto.specs.declared.phase.Mode.{Mode}
use Rattle.vdcp_auto.specs.declared.phase.Mode.TheVariants.{Confirming}
use Rattle.vdcp_auto.specs.declared.phase.Phase.{Phase}
use Rattle.vdcp_auto.specs.State.{Stage, Ready, Awaiting, State}
use Rattle.vdcp_auto.specs.declared.phase.Transition.{Transition}
use Rattle.vdcp_auto.specs.declared.phase.Transition.TheVariants.{Ends}
use Rattle.vdcp_world.specs.Channel.{Channel, after_events, down_behind, up_behind, answered, state_hearing, state_waiting, Make}
use Rattle.vdcp_world.specs.Rounds.{round}
use Rattle.vdcp_world.specs.declared.event.Event.TheVariants as event
use Rattle.vdcp_world.specs.Below.{Below}
use Rattle.vdcp_world.proofs.Claims.{IsKept}
use Rattle.vdcp_world.proofs.OnTheWay.{ReadsCommand}
use Rattle.vdcp_world.proofs.WayLemmas.{reads_command}
use Rattle.vdcp_world.proofs.Reached.{make_change}

-- ---- a command goes down, and its answer comes up

-- nothing is on the way then
pub record Exchanged (c : Channel) (d : Command) (now : Channel) : Type 0 where
  pub answer : Reply
  pub answers : (command_row c.port.clips c.port.state d).answer ≡ Some answer
  pub state : now.state ≡ came_to c.plan (Some (heard.Reply answer)) (ticked c.state)
  pub port : now.port ≡ after_change (command_row c.port.clips c.port.state d).change c.port
  pub down : now.down ≡ []
  pub up : now.up ≡ []

abbrev sent_in : Channel → Option Command → Channel
sent_in c g =
    record c { state = ticked c.state; down = down_behind c.port.state.unit g c.down; up = up_behind g c.up }

pub answers_all : (p : ClockedPort) (down up : List ℕ) (m : Content) → messages_of down ≡ m ∷ []
    → answered p down up ≡ sent_for p down
answers_all p [] up m e = absurd (impossible e)
  where
    impossible : [] ≡ m ∷ [] → ⊥
    impossible e = cc
answers_all p (b ∷ down) up m e = refl

pub exchanged : Below → (c : Channel) (d : Command) → IsKept c → given c.plan c.state ≡ Some d
    → Exchanged c d (after_events c round)
exchanged below c d k g =
    subst (λ (x : Channel). Exchanged c d (after_events x (event.Down ∷ event.Up ∷ []))) (sym (ap (sent_in c) g))
    (record {
      answer = read.answer;
      answers = read.answers;
      state = ap (λ (h : Option Heard). state_hearing c.plan h (ticked c.state)) hears;
      port = read.leaves;
      down = refl;
      up = refl;
    })
  where
    w : IsWritableCommand d
    w = subst (λ (o : Option Command). IfSome o IsWritableCommand) g
        (below.given_written c.plan c.state k.of_bytes k.port_fits)

    bytes : List ℕ
    bytes = spelling (command_message c.port.state.unit d)

    alone : messages_of bytes ≡ command_message c.port.state.unit d ∷ []
    alone = below.alone (command_message c.port.state.unit d)
        (below.command_fits c.port.state.unit d (omega (arith, k.unit_fits)) w)

    read : ReadsCommand c.port bytes d
    read = reads_command below c.port bytes d k.unit_fits w alone

    same_unit : (after_burst c.port bytes).state.unit ≡ c.port.state.unit
    same_unit = ap (λ (p : ClockedPort). p.state.unit) read.leaves
        ∙ ap (λ (m : Make). m.unit) (make_change c.plan (command_row c.port.clips c.port.state d).change c.port)

    hears : heard_in (after_burst c.port bytes).state.unit (answered c.port bytes []) ≡ Some (heard.Reply read.answer)
    hears =
        ap (λ (unit : ℕ). heard_in unit (answered c.port bytes [])) same_unit
        ∙ ap (heard_in c.port.state.unit) (answers_all c.port bytes [] (command_message c.port.state.unit d) alone)
        ∙ read.heard

-- ---- the controller

-- where nothing is awaited, nothing times out
pub waits_still : (plan : Plan) (down up : List ℕ) (state : State) → awaited plan state ≡ None
    → state_waiting plan down up state ≡ state
waits_still plan [] [] state e =
    ap (λ (o : Option Command). option_map_or (λ x. ended_in plan state.stage x state) (exchange_of plan.mode None o)
    state) e
waits_still plan [] (b ∷ up) state e = refl
waits_still plan (b ∷ down) up state e = refl

abbrev pub exchange : Command → Reply → Exchange
exchange d r = record { command = d; heard = Some (heard.Reply r) }

pub ticks_on : (state : State) (q : Phase) → state.stage ≡ Ready q → state.stop ≡ false → ticked state ≡ sent q state
ticks_on state q e none =
    ap (λ (stage : Stage). tick_in stage state) e ∙ ap (λ (stop : Bool). sent (phase_to_send stop q) state) none

pub gives_own : (plan : Plan) (state : State) (q : Phase) → state.stage ≡ Ready q → state.stop ≡ false
    → given plan state ≡ command_in plan.list plan.port q
gives_own plan state q e none =
    ap (λ (stage : Stage). given_in plan state.stop stage) e
    ∙ ap (λ (stop : Bool). command_in plan.list plan.port (phase_to_send stop q)) none

module _ (plan : Plan) where
  -- where a tick and a reply lead, which ends the exchange
  pub turns_on : (state : State) (q : Phase) (d : Command) (r : Reply) → state.stage ≡ Ready q → state.stop ≡ false
      → command_in plan.list plan.port q ≡ Some d → is_end plan.mode d (Some (heard.Reply r)) ≡ true
      → came_to plan (Some (heard.Reply r)) (ticked state) ≡ state_after (transition_of plan (sent q state) q
      (exchange d r)) (unanswered_after plan.mode (exchange d r) state.unanswered) (sent q state)
  turns_on state q d r e none is over =
      ap (came_to plan (Some (heard.Reply r))) (ticks_on state q e none)
      ∙ ap (λ (o : Option Command). of (exchange_of plan.mode (Some (heard.Reply r)) o)) is
      ∙ ap (λ (b : Bool). of (if b then Some (exchange d r) else None)) over
    where
      of : Option Exchange → State
      of o = option_map_or (λ x. ended_in plan (Awaiting q) x (sent q state)) o (sent q state)

  pub hears_still : (h : Option Heard) (state : State) → awaited plan state ≡ None → state_hearing plan h state ≡ state
  hears_still None state e = refl
  hears_still (Some h) state e =
      ap (λ (o : Option Command). option_map_or (λ x. ended_in plan state.stage x state) (exchange_of plan.mode (Some h)
      o) state) e

  -- and the time-out in confirm mode, where it isn't the last one that counts
  pub waits_over : (state : State) (q : Phase) (d : Command) → plan.mode ≡ Confirming → state.stage ≡ Awaiting q
      → command_in plan.list plan.port q ≡ Some d → (is_sense d && nat_le plan.limit (state.unanswered + 1)) ≡ false
      → came_to plan None state ≡ state_after (on_no_answer Confirming q) (unanswered_after plan.mode
      (record { command = d; heard = None }) state.unanswered) state
  waits_over state q d confirms e is spare =
      ap (λ (stage : Stage). option_map_or (λ x. ended_in plan stage x state)
      (exchange_of plan.mode None (awaited_in plan stage)) state) e
      ∙ ap (λ (o : Option Command). of (exchange_of plan.mode None o)) is
      ∙ ap (λ (mode : Mode). of (if is_end mode d None then Some silent else None)) confirms
      ∙ ap (λ (mode : Mode). to (on_unanswered mode plan.limit state.unanswered (is_counted mode silent) q)) confirms
      ∙ ap (λ (b : Bool). to (if b then Ends Lost else on_no_answer Confirming q)) spare
    where
      silent : Exchange
      silent = record { command = d; heard = None }

      of : Option Exchange → State
      of o = option_map_or (λ x. ended_in plan (Awaiting q) x state) o state

      to : Transition → State
      to transition = state_after transition (unanswered_after plan.mode silent state.unanswered) state
