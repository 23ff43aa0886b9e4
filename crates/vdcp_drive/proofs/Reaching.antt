-- A run leads to states that calls of a controller lead to.
use Rattle.std.proofs.Common.{ℕ, ◌≡◌, ◌≢◌, List, length, [], ◌∷◌, ◌++◌, refl, sym, subst, append_assoc, append-nil, arith}
use Rattle.std.specs.Option.{option_to_list}
use Rattle.std.specs.Prelude.{◌↔◌, if◌then◌else◌, Option, Some, None, Result, Ok, Err, IfOk, IsSome}
use Rattle.vdcp_value.specs.declared.part.Item.{Item}
use Rattle.vdcp_auto.specs.Course.{Reached, Tick, Receive, Stop, Take, called, logged}
use Rattle.vdcp_auto.specs.Plan.{Plan, plan_of}
use Rattle.vdcp_auto.specs.State.{State}
use Rattle.vdcp_auto.specs.Turn.{outcome_of, ticked, came_to, ended_by}
use Rattle.vdcp_auto.specs.declared.outcome.Outcome.{Outcome}
use Rattle.vdcp_auto.specs.declared.exchange.Exchange.{Exchange}
use Rattle.vdcp_auto.specs.declared.exchange.Heard.{Heard}
use Rattle.vdcp_wire.specs.Wires.{Arrival}
use Rattle.vdcp_drive.specs.Auto.{Auto, Driving, Event, IsReachedFrom, arrivals, arrives, auto_of, after, calls, ended, gives, heeds, listens, log_of, receives}
use Rattle.vdcp_drive.specs.Ears.{Fold, inputs}
use Rattle.vdcp_drive.specs.Leaves.{Ending, by_itself, by_hooks, in_keep, in_drop, in_send, in_listen, HasRun, IsRun, RunLeaves, RunsTo}
use Rattle.vdcp_drive.specs.Lines.{is_broken}
use Rattle.vdcp_drive.specs.Steps.{Rules, Step}
use Rattle.vdcp_drive.specs.declared.hooks.Call.TheVariants as call
use Rattle.vdcp_drive.specs.declared.hooks.BrokenOff.{BrokenOff}
use Rattle.vdcp_drive.specs.declared.hooks.BrokenOff.TheVariants as fault
use Rattle.vdcp_drive.specs.declared.line.Ran.{Ran}
use Rattle.vdcp_drive.specs.declared.line.Ran.TheVariants as ran

logged_so : (log : List Exchange) (o : Option Exchange) → logged log o ≡ log ++ option_to_list o
logged_so log None = sym (append-nil log)
logged_so log (Some e) = refl

receives_reached : (plan : Plan) (hs : List (Option Heard)) (s : State) (log : List Exchange) → Reached plan s log
    → Reached plan (receives plan hs s) (log ++ ended plan hs s)
receives_reached plan [] s log h = subst (Reached plan s) (sym (append-nil log)) h
receives_reached plan (x ∷ hs) s log h =
    simp append_assoc at (receives_reached plan hs (came_to plan x s) (log ++ option_to_list (ended_by plan x s))
    (rw logged_so at (called h (Receive x))))

run_reached : {E : Type 0} (fold : Fold E) (plan : Plan) (unit : ℕ) (a : Auto E) (events : List Event)
    (log : List Exchange) → Reached plan a.state log
    → Reached plan (after fold plan unit a events).state (log ++ log_of fold plan unit a events)
run_reached fold plan unit a [] log h = subst (Reached plan a.state) (sym (append-nil log)) h
run_reached fold plan unit a (calls call.Take ∷ later) log h = run_reached fold plan unit (heeds call.Take a) later log (called h Take)
run_reached fold plan unit a (calls call.Stop ∷ later) log h = run_reached fold plan unit (heeds call.Stop a) later log (called h Stop)
run_reached fold plan unit a (calls (call.List l) ∷ later) log h = run_reached fold plan unit a later log h
run_reached fold plan unit a (arrives what ∷ later) log h =
    let hs : List (Option Heard) = inputs fold unit what a.ear in
    simp append_assoc at (run_reached fold plan unit (listens fold plan unit what (gives a)) later
    (log ++ ended plan hs (ticked a.state)) (receives_reached plan hs (ticked a.state) log (called h Tick)))

given_led : (plan : Plan) (s t : State) → IsReachedFrom plan s t → IsReachedFrom plan s (ticked t)
given_led plan s t led = λ log reached. let r = led log reached in (r.0, called r.1 Tick)

-- Where a run led, of any automation and over any wire.
pub record Led (plan : Plan) (state state' : State) (answer : Result Ran BrokenOff) : Type 0 where
  pub reached : IsReachedFrom plan state state'
  pub ended_so : IfOk answer (λ r. (r ≡ ran.Ended) ↔ IsSome (outcome_of state'.stage))
  pub unended : (e : BrokenOff) → answer ≡ Err e → e ≢ fault.Device → outcome_of state'.stage ≡ None

ended_by_run : (r : Ran) (o : Option Outcome) (count turns : ℕ) (came : List Arrival) → RunsTo r o count turns came
    → (r ≡ ran.Ended) ↔ IsSome o
ended_by_run ran.Ended o count turns came to = (λ _. to.0, λ _. refl)
ended_by_run ran.Closed None count turns came to = (λ is. cc, λ some. cc)
ended_by_run ran.Closed (Some o) count turns came to = let none = to.0 in cc
ended_by_run ran.Spent None count turns came to = (λ is. cc, λ some. cc)
ended_by_run ran.Spent (Some o) count turns came to = let none = to.0 in cc

-- if the wire failed
failed_led : (plan : Plan) (state state' : State) (answer : Result Ran BrokenOff) → answer ≡ Err fault.Device
    → IsReachedFrom plan state state' → Led plan state state' answer
failed_led plan state state' answer is reached = rw is (record { reached = reached; ended_so = tt; unended = λ e same other. absurd (other cc) })

ends_led : {E : Type 0} (fold : Fold E) (plan : Plan) (unit count : ℕ) (events : List Event) (a b : Auto E)
    (answer : Result Ran BrokenOff) (more : List Step) (a' : Auto E)
    → IsReachedFrom plan a.state b.state → Ending fold plan unit count events b answer more a'
    → Led plan a.state a'.state answer
ends_led fold plan unit count events a b answer more a' led (by_itself r is to none left) = rw (is, left) (record {
  reached = led;
  ended_so = ended_by_run r (outcome_of b.state.stage) count (length events) (arrivals events) to;
  unended = λ e same other. cc;
})
ends_led fold plan unit count events a b answer more a' led (by_hooks is going are stays) =
    rw (is, stays) (record { reached = led; ended_so = tt; unended = λ e same other. going })
ends_led fold plan unit count events a b answer more a' led (in_keep r is going are left) =
    rw (is, left) (record { reached = led; ended_so = tt; unended = λ e same other. going })
ends_led fold plan unit count events a b answer more a' led (in_drop c is first gives_it are left) =
    failed_led plan a.state a'.state answer is (rw left led)
ends_led fold plan unit count events a b answer more a' led (in_send c front rest is gives_it parts are left) =
    failed_led plan a.state a'.state answer is (rw left (given_led plan a.state b.state led))
ends_led fold plan unit count events a b answer more a' led (in_listen is are left) =
    failed_led plan a.state a'.state answer is (rw left (given_led plan a.state b.state led))

pub led_by : {E : Type 0} (fold : Fold E) (plan : Plan) (unit count : ℕ) (a a' : Auto E)
    (answer : Result Ran BrokenOff) → IsRun fold plan unit count a a' answer → Led plan a.state a'.state answer
led_by fold plan unit count a a' answer h =
    ends_led fold plan unit count h.events a (after fold plan unit a h.events) answer h.more a'
    (λ log reached. (log_of fold plan unit a h.events, run_reached fold plan unit a h.events log reached)) h.ending

works_by : (answer : Result Ran BrokenOff) (n : ℕ) → n ≡ (if is_broken answer then 1 else 0)
    → (answer ≢ Err fault.Device → n ≡ 0) × (answer ≡ Err fault.Device → n ≡ 1)
works_by (Ok r) n is = (λ h. is, λ h. cc)
works_by (Err fault.Unkept) n is = (λ h. is, λ h. cc)
works_by (Err fault.Left) n is = (λ h. is, λ h. cc)
works_by (Err fault.Device) n is = (λ h. absurd (h refl), λ h. is)

-- what a run of a driver over a wire that works leaves
pub run_leaves : {S E W J : Type 0} (items : S → List Item) (rules : Rules W J) (fold : Fold E) (failures : W → ℕ)
    (turns : ℕ) (old new : Driving S E W) (k k' : J) (answer : Result Ran BrokenOff) → failures old.wire ≡ 0
    → HasRun rules fold (plan_of items old.controller) old.unit turns (auto_of old) (auto_of new)
    (record { wire = old.wire; keep = k }) (record { wire = new.wire; keep = k' }) answer
    → new.controller ≡ record old.controller { state = new.controller.state } → new.unit ≡ old.unit
    → failures new.wire ≡ (if is_broken answer then 1 else 0)
    → RunLeaves items rules fold failures turns old new k k' answer
run_leaves items rules fold failures turns old new k k' answer works runs controller unit failing =
    let led = led_by fold (plan_of items old.controller) old.unit turns (auto_of old) (auto_of new) answer
    runs.run in
    let n = works_by answer (failures new.wire) failing in record {
      runs = λ _. runs;
      reached = led.reached;
      ended = led.ended_so;
      unended = led.unended;
      controller = controller;
      unit = unit;
      works = n.0;
      device = n.1;
      stays = λ one. absurd (omega (arith, works, one));
    }
