-- What an automation that hears at once awaits, after an exchange's end and a time-out.
use Rattle.std.proofs.Common.{ℕ, ◌≡◌, arith, true, refl, ap, ◌∙◌}
use Rattle.std.specs.Option.{option_map_or}
use Rattle.std.specs.Prelude.{Option, Some, None}
use Rattle.vdcp_frame.specs.Message.{Content}
use Rattle.vdcp_words.specs.declared.command.Command.{Command}
use Rattle.vdcp_auto.specs.Course.{logged}
use Rattle.vdcp_auto.specs.Heard.{heard_as}
use Rattle.vdcp_auto.specs.Plan.{Plan}
use Rattle.vdcp_auto.specs.State.{State, Stage, Ended}
use Rattle.vdcp_auto.specs.Turn as turns
use Rattle.vdcp_auto.specs.Turn.{awaited, awaited_in, given, given_in, ticked, tick_in, came_to, ended_by, ended_in, exchange_of, is_end, outcome_of, taken, transition_of, unanswered_after}
use Rattle.vdcp_auto.specs.declared.exchange.Exchange.{Exchange}
use Rattle.vdcp_auto.specs.declared.exchange.Heard.{Heard}
use Rattle.vdcp_auto.specs.declared.outcome.Outcome.{Outcome}
use Rattle.vdcp_auto.specs.declared.phase.Mode.{Mode}
use Rattle.vdcp_auto.specs.declared.phase.Mode.TheVariants.{Plain, Confirming}
use Rattle.vdcp_auto.specs.declared.phase.Transition.{Transition}
use Rattle.vdcp_laws.specs.Automation.{Prompt, gives, hears}

-- An exchange that ends is of the command that was awaited, and then none is.

awaits_none : (plan : Plan) (transition : Transition) (n : ℕ) (s : State)
    → awaited plan (turns.state_after transition n s) ≡ None
awaits_none plan transition n s = grind arith

abbrev pub left_by : Plan → State → Option Exchange → State
left_by plan s ends = option_map_or (λ e. ended_in plan s.stage e s) ends s

pub awaits_none_in : (plan : Plan) (stage : Stage) (e : Exchange) (s : State) → awaited_in plan stage ≡ Some e.command
    → awaited plan (ended_in plan stage e s) ≡ None
awaits_none_in plan stage e s h = grind (arith, awaits_none)

pub exchange_is : (mode : Mode) (h : Option Heard) (c : Option Command) (e : Exchange) → exchange_of mode h c ≡ Some e
    → c ≡ Some e.command
exchange_is mode h c e is = grind arith

-- After a time-out nothing is awaited.

pub ends_alone : (mode : Mode) (c : Command) → is_end mode c None ≡ true
ends_alone Plain c = refl
ends_alone Confirming c = refl

timed_out_by : (plan : Plan) (s : State) (command : Option Command) → awaited plan s ≡ command
    → awaited plan (came_to plan None s) ≡ None
timed_out_by plan s command is = grind (arith, awaits_none_in)

pub timed_out : (plan : Plan) (s : State) → awaited plan (came_to plan None s) ≡ None
timed_out plan s = timed_out_by plan s (awaited plan s) refl

-- An end stays: what comes then changes nothing.

pub still : (plan : Plan) (h : Option Heard) (s : State) (o : Outcome) → s.stage ≡ Ended o → came_to plan h s ≡ s
still plan h s o is = grind arith

gives_nothing : (plan : Plan) (h : Heard) (s : State) (o : Outcome) → s.stage ≡ Ended o
    → given plan (came_to plan (Some h) (taken s)) ≡ None
gives_nothing plan h s o is =
    ap (given plan) (still plan (Some h) (taken s) o is) ∙ ap (given_in plan s.stop) is

not_ended_in : (plan : Plan) (h : Heard) (s : State) (c : Command) (stage : Stage) → s.stage ≡ stage
    → given plan (came_to plan (Some h) (taken s)) ≡ Some c → outcome_of stage ≡ None
not_ended_in plan h s c stage is gives = grind (arith, gives_nothing)

-- a controller that gives a command after what it hears goes on
pub not_ended : (plan : Plan) (h : Heard) (s : State) (c : Command)
    → given plan (came_to plan (Some h) (taken s)) ≡ Some c → outcome_of s.stage ≡ None
not_ended plan h s c gives = not_ended_in plan h s c s.stage refl gives

-- what a message leaves, whether it was awaited or not
pub record Comes (plan : Plan) (h : Option Heard) (p q : Prompt) : Type 0 where
  pub state_is : q.state ≡ came_to plan h p.state
  pub log_is : q.log ≡ logged p.log (ended_by plan h p.state)

pub hears_comes : (plan : Plan) (unit : ℕ) (m : Content) (p : Prompt)
    → Comes plan (Some (heard_as unit m)) p (hears plan unit m p)
hears_comes plan unit m p = record { state_is = refl; log_is = refl }
