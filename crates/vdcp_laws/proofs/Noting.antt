-- The calls that lead to an automation's controller.
use Rattle.std.proofs.Common.{arith, ℕ, ◌≡◌, Bool, true, false, List, [], ◌∷◌, ◌++◌, sym, ap, subst, append-nil}
use Rattle.std.specs.Option.{option_map_or}
use Rattle.std.specs.Prelude.{Option, None, Some, if◌then◌else◌}
use Rattle.vdcp_frame.specs.Message.{Content}
use Rattle.vdcp_words.specs.declared.command.Command.{Command}
use Rattle.vdcp_port.specs.Clock.{ClockedPort}
use Rattle.vdcp_auto.specs.Course.{Reached, Tick, Receive, Take, Stop, after_call, called, logged}
use Rattle.vdcp_auto.specs.Course as course
use Rattle.vdcp_auto.specs.Heard.{heard_as}
use Rattle.vdcp_auto.specs.Plan.{Plan}
use Rattle.vdcp_auto.specs.State.{State, Stage}
use Rattle.vdcp_auto.specs.Turn.{came_to, ended_by, exchange_of, is_end, is_ready, taken, tick_in, ticked}
use Rattle.vdcp_auto.specs.declared.exchange.Exchange.{Exchange}
use Rattle.vdcp_auto.specs.declared.exchange.Heard.{Heard}
use Rattle.vdcp_auto.specs.declared.phase.Mode.{Mode}
use Rattle.vdcp_laws.specs.Automation.{Prompt, hears, hears_all}
use Rattle.vdcp_drive.specs.Reading.{completed}
use Rattle.vdcp_drive.specs.declared.hooks.Call.TheVariants as call
use Rattle.vdcp_laws.specs.TwoEnds.{AreJoined, begun, went_on, gave, asks, came_up, came_down, waited, passed, paused, shut, calls, resumed, restarted}
use Rattle.vdcp_laws.specs.TwoEnds.{CanJoin, Ends, GoesOn, as_announced, as_noted, log_now}
use Rattle.vdcp_laws.proofs.Commands.{hears_comes}
use Rattle.vdcp_laws.proofs.Queues.{logged_behind}

pub not_ready : (stage : Stage) (s : State) → is_ready stage ≡ false → tick_in stage s ≡ s
not_ready stage s is = grind arith

heard_is_by : (b : Bool) (c : Command) (h : Option Heard) (e : Exchange)
    → (if b then Some (record { command = c; heard = h }) else None) ≡ Some e → h ≡ e.heard
heard_is_by true c h e is = ap (λ (x : Option Exchange). option_map_or (λ (y : Exchange). y.heard) x h) is
heard_is_by false c h e is = cc

pub heard_is : (mode : Mode) (h : Option Heard) (c : Option Command) (e : Exchange) → exchange_of mode h c ≡ Some e
    → h ≡ e.heard
heard_is mode h None e is = cc
heard_is mode h (Some c) e is = heard_is_by (is_end mode c h) c h e is

-- All steps.

-- what ends an exchange
receives_reached : (plan : Plan) (before log : List Exchange) (state : State) (h : Option Heard)
    → Reached plan state (before ++ log)
    → Reached plan (came_to plan h state) (before ++ logged log (ended_by plan h state))
receives_reached plan before log state h r =
    subst (Reached plan (came_to plan h state)) (logged_behind before log (ended_by plan h state))
    (called r (Receive h))

hears_reached : (plan : Plan) (unit : ℕ) (before : List Exchange) (ms : List Content) (p : Prompt)
    → Reached plan p.state (before ++ p.log)
    → Reached plan (hears_all plan unit ms p).state (before ++ (hears_all plan unit ms p).log)
hears_reached plan unit before [] p r = r
hears_reached plan unit before (m ∷ ms) p r =
    let h : Option Heard = Some (heard_as unit m) in
    let q : Prompt = hears plan unit m p in
    let comes = hears_comes plan unit m p in
    hears_reached plan unit before ms q
    (subst (λ (s : State). Reached plan s (before ++ q.log)) (sym comes.state_is)
    (subst (λ (l : List Exchange). Reached plan (came_to plan h p.state) (before ++ l)) (sym comes.log_is)
    (receives_reached plan before p.log p.state h r)))

connects_reached : (plan : Plan) (e : Ends) → Reached plan e.automation.state (log_now e)
    → Reached plan (came_to plan None e.automation.state)
    ((e.log_before ++ logged e.automation.log (ended_by plan None e.automation.state)) ++ [])
connects_reached plan e r =
    subst (Reached plan (came_to plan None e.automation.state))
    (sym (append-nil (e.log_before ++ logged e.automation.log (ended_by plan None e.automation.state))))
    (receives_reached plan e.log_before e.automation.log e.automation.state None r)

goes_reached : (plan : Plan) (e on : Ends) → Reached plan e.automation.state (log_now e) → GoesOn plan e on
    → Reached plan on.automation.state (log_now on)
goes_reached plan e _ r as_noted = r
goes_reached plan e _ r (as_announced h a) =
    called (receives_reached plan e.log_before e.automation.log (taken (ticked e.automation.state)) (Some h)
    (called (called r Tick) Take)) Tick

pub are_reached : (plan : Plan) (port : ClockedPort) (asked : List Command) (e : Ends) → CanJoin plan port asked
    → AreJoined plan port asked e → Reached plan e.automation.state (log_now e)
are_reached plan port asked _ can begun = course.begun can.can_start.some can.can_start.few
are_reached plan port asked _ can (went_on {e} j gave) = called (are_reached plan port asked e can j) Tick
are_reached plan port asked _ can (went_on {e} j (asks question c is)) = are_reached plan port asked e can j
are_reached plan port asked _ can (went_on {e} j (came_up piece rest is)) =
    hears_reached plan port.state.unit e.log_before (completed e.automation.held piece) e.automation
    (are_reached plan port asked e can j)
are_reached plan port asked _ can (went_on {e} j (came_down piece rest is)) = are_reached plan port asked e can j
are_reached plan port asked _ can (went_on {e} j waited) =
    receives_reached plan e.log_before e.automation.log e.automation.state None (are_reached plan port asked e can j)
are_reached plan port asked _ can (went_on {e} j passed) = are_reached plan port asked e can j
are_reached plan port asked _ can (went_on {e} j paused) = are_reached plan port asked e can j
are_reached plan port asked _ can (went_on {e} j shut) = are_reached plan port asked e can j
are_reached plan port asked _ can (went_on {e} j (calls call.Take on)) = called (are_reached plan port asked e can j) Take
are_reached plan port asked _ can (went_on {e} j (calls call.Stop on)) = called (are_reached plan port asked e can j) Stop
are_reached plan port asked _ can (went_on {e} j (calls (call.List c) on)) = are_reached plan port asked e can j
are_reached plan port asked _ can (went_on {e} j (resumed {on} goes)) =
    connects_reached plan on (goes_reached plan e on (are_reached plan port asked e can j) goes)
are_reached plan port asked _ can (went_on {e} j (restarted {on} goes)) =
    connects_reached plan on (goes_reached plan e on (are_reached plan port asked e can j) goes)
