-- The controller's turn: what each call does to a controller.
use Rattle.std.specs.Prelude.{ℕ, ◌+◌, Bool, true, false, not, ◌&&◌, nat_le, if◌then◌else◌, Option, None, Some, List, length}
use Rattle.std.specs.Option.{option_map_or}
use Rattle.vdcp_value.specs.declared.part.Item.{Item}
use Rattle.vdcp_words.specs.declared.command.Command.{Command}
use Rattle.vdcp_words.specs.declared.reply.Reply.{Reply}
use Rattle.vdcp_auto.specs.declared.exchange.Exchange.{Exchange}
use Rattle.vdcp_auto.specs.declared.exchange.Heard.{Heard}
use Rattle.vdcp_auto.specs.declared.exchange.Heard.TheVariants as heard
use Rattle.vdcp_auto.specs.declared.outcome.Outcome.{Outcome}
use Rattle.vdcp_auto.specs.declared.outcome.Outcome.TheVariants.{Lost}
use Rattle.vdcp_auto.specs.declared.phase.Mode.{Mode}
use Rattle.vdcp_auto.specs.declared.phase.Mode.TheVariants.{Plain, Confirming}
use Rattle.vdcp_auto.specs.declared.phase.Phase.{Phase}
use Rattle.vdcp_auto.specs.declared.phase.Phase.TheVariants as phase
use Rattle.vdcp_auto.specs.State.{Stage}
use Rattle.vdcp_auto.specs.State.{Ready, Awaiting, Ended}
use Rattle.vdcp_auto.specs.State.{State}
use Rattle.vdcp_auto.specs.declared.phase.Transition.{Transition}
use Rattle.vdcp_auto.specs.declared.phase.Transition.TheVariants.{Goes, Settles, Retries, Ends}
use Rattle.vdcp_auto.specs.Replies.{is_receipt, is_refusal}
use Rattle.vdcp_auto.specs.Commands.{is_sense}
use Rattle.vdcp_auto.specs.Log.{answer_in, is_answered, is_counted}
use Rattle.vdcp_auto.specs.Plan.{Plan, View}
use Rattle.vdcp_auto.specs.Table.{command_in, on_reply, on_refusal, on_no_answer, can_stop}

-- where each controller begins
abbrev pub start : State
start =
    record {
      stage = Ready phase.Open;
      take = false;
      stop = false;
      unanswered = 0;
      settled = 0;
      tries = 0;
    }

-- a new controller
abbrev pub new_controller : {S : Type 0} → S → Mode → ℕ → ℕ → View S
new_controller source mode port limit =
    record { source = source; mode = mode; port = port; limit = limit; state = start }

-- nothing is awaited, and it hasn't ended
abbrev pub is_ready : Stage → Bool
is_ready (Ready p) = true
is_ready (Awaiting p) = false
is_ready (Ended outcome) = false

-- an answer is awaited
abbrev pub is_awaiting : Stage → Bool
is_awaiting (Ready p) = false
is_awaiting (Awaiting p) = true
is_awaiting (Ended outcome) = false

-- how it ended, if it has
abbrev pub outcome_of : Stage → Option Outcome
outcome_of (Ready p) = None
outcome_of (Awaiting p) = None
outcome_of (Ended outcome) = Some outcome

-- Tick.

-- the wish to stop goes first
abbrev pub phase_to_send : Bool → Phase → Phase
phase_to_send stop p = if stop then phase.Halt else p

-- sending PLAY clears the wish to take
abbrev pub take_after_sending : Phase → Bool → Bool
take_after_sending (phase.Play k) take = false
take_after_sending _ take = take

abbrev pub sent : Phase → State → State
sent p state =
    record {
      stage = Awaiting p;
      take = take_after_sending p state.take;
      stop = false;
      unanswered = state.unanswered;
      settled = state.settled;
      tries = state.tries;
    }

abbrev pub tick_in : Stage → State → State
tick_in (Ready p) state = sent (phase_to_send state.stop p) state
tick_in (Awaiting p) state = state
tick_in (Ended outcome) state = state

-- the controller after a tick, which changes it only if it is ready
abbrev pub ticked : State → State
ticked state = tick_in state.stage state

abbrev pub awaited_in : Plan → Stage → Option Command
awaited_in plan (Ready p) = None
awaited_in plan (Awaiting p) = command_in plan.list plan.port p
awaited_in plan (Ended outcome) = None

-- the command whose answer is awaited
abbrev pub awaited : Plan → State → Option Command
awaited plan state = awaited_in plan state.stage

abbrev pub given_in : Plan → Bool → Stage → Option Command
given_in plan stop (Ready p) = command_in plan.list plan.port (phase_to_send stop p)
given_in plan stop (Awaiting p) = None
given_in plan stop (Ended outcome) = None

-- what a tick gives
abbrev pub given : Plan → State → Option Command
given plan state = given_in plan state.stop state.stage

-- The end of an exchange.

-- whether what came, or silence, ends the exchange of the command. In confirm mode receipts end
-- nothing, and only silence ends the exchange of a command that only a receipt answers
abbrev pub is_end : Mode → Command → Option Heard → Bool
is_end Plain c came = true
is_end Confirming c None = true
is_end Confirming c (Some heard.Other) = is_sense c
is_end Confirming c (Some (heard.Reply r)) = is_sense c && not (is_receipt r)

-- where the reply that answers an exchange leads
abbrev pub on_answer : Mode → List Item → ℕ → Bool → ℕ → Phase → Reply → Transition
on_answer mode list limit take tries p r =
    if is_refusal r then on_refusal (length list) p else on_reply mode list limit take tries p r

-- where an unanswered exchange leads, one more in a row if it counts: the limit goes first
abbrev pub on_unanswered : Mode → ℕ → ℕ → Bool → Phase → Transition
on_unanswered mode limit unanswered counts p =
    if counts && nat_le limit (unanswered + 1) then Ends Lost else on_no_answer mode p

abbrev pub transition_on : Plan → Bool → ℕ → ℕ → Bool → Phase → Option Reply → Transition
transition_on plan take tries unanswered counts p (Some r) =
    on_answer plan.mode plan.list plan.limit take tries p r
transition_on plan take tries unanswered counts p None =
    on_unanswered plan.mode plan.limit unanswered counts p

-- where an exchange leads
abbrev pub transition_of : Plan → State → Phase → Exchange → Transition
transition_of plan state p e =
    transition_on plan state.take state.tries state.unanswered (is_counted plan.mode e) p (answer_in e)

abbrev pub stage_after : Transition → Stage
stage_after (Goes p) = Ready p
stage_after (Settles k) = Ready (phase.Check k)
stage_after (Retries k) = Ready (phase.Cue k)
stage_after (Ends outcome) = Ended outcome

abbrev pub settled_after : Transition → ℕ → ℕ
settled_after (Settles k) n = k + 1
settled_after _ n = n

-- tries are counted since the phase was last Exists
abbrev pub tries_in : Phase → ℕ → ℕ
tries_in (phase.Exists k) n = 0
tries_in _ n = n

abbrev pub tries_after : Transition → ℕ → ℕ
tries_after (Goes p) n = tries_in p n
tries_after (Retries k) n = n + 1
tries_after _ n = n

-- how many in a row are unanswered
abbrev pub unanswered_after : Mode → Exchange → ℕ → ℕ
unanswered_after mode e n = if is_counted mode e then (if is_answered e then 0 else n + 1) else n

abbrev pub state_after : Transition → ℕ → State → State
state_after transition unanswered state =
    record {
      stage = stage_after transition;
      take = state.take;
      stop = state.stop;
      unanswered = unanswered;
      settled = settled_after transition state.settled;
      tries = tries_after transition state.tries;
    }

abbrev pub ended_in : Plan → Stage → Exchange → State → State
ended_in plan (Ready p) e state = state
ended_in plan (Awaiting p) e state =
    state_after (transition_of plan state p e) (unanswered_after plan.mode e state.unanswered) state
ended_in plan (Ended outcome) e state = state

abbrev pub exchange_of : Mode → Option Heard → Option Command → Option Exchange
exchange_of mode came None = None
exchange_of mode came (Some c) =
    if is_end mode c came then Some (record { command = c; heard = came }) else None

-- the exchange that what came, or silence, ends
abbrev pub ended_by : Plan → Option Heard → State → Option Exchange
ended_by plan came state = exchange_of plan.mode came (awaited plan state)

-- the controller after something came, or silence
abbrev pub came_to : Plan → Option Heard → State → State
came_to plan came state =
    option_map_or (λ e. ended_in plan state.stage e state) (ended_by plan came state) state

-- The operator.

abbrev pub taken : State → State
taken state = record state { take = true }

abbrev pub stop_in : Stage → Bool → Bool
stop_in (Ready p) stop = if can_stop p then true else stop
stop_in (Awaiting p) stop = if can_stop p then true else stop
stop_in (Ended outcome) stop = stop

-- the controller after the operator's stop, which counts only if can_stop says so
abbrev pub stopped : State → State
stopped state = record state { stop = stop_in state.stage state.stop }

-- the wishes that it hasn't acted on are forgotten
abbrev pub forgotten : State → State
forgotten state = record state { take = false; stop = false }
