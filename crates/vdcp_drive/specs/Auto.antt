-- What an automation does with what arrives, from whatever it is now.
use Rattle.std.specs.Option.{option_to_list}
use Rattle.std.specs.Prelude.{ℕ, ◌≡◌, List, [], ◌∷◌, ◌++◌, Option, None}
use Rattle.vdcp_auto.specs.Course.{Reached}
use Rattle.vdcp_auto.specs.Plan.{Plan, View}
use Rattle.vdcp_auto.specs.State.{State}
use Rattle.vdcp_auto.specs.Turn.{ticked, came_to, ended_by, outcome_of, stopped, taken}
use Rattle.vdcp_auto.specs.declared.exchange.Exchange.{Exchange}
use Rattle.vdcp_auto.specs.declared.exchange.Heard.{Heard}
use Rattle.vdcp_wire.specs.Wires.{Arrival}
use Rattle.vdcp_drive.specs.Ears.{Fold, inputs, ear_after}
use Rattle.vdcp_drive.specs.declared.hooks.Call.{Call}
use Rattle.vdcp_drive.specs.declared.hooks.Call.TheVariants as call

-- a driver: its controller, the unit address of the server, its ear and its wire
pub record Driving (S E W : Type 0) : Type 0 where
  pub controller : View S
  pub unit : ℕ
  pub ear : E
  pub wire : W

-- what changes in it as it runs
pub record Auto (E : Type 0) : Type 0 where
  pub ear : E
  pub state : State

abbrev pub auto_of : {S E W : Type 0} → Driving S E W → Auto E
auto_of d = record { ear = d.ear; state = d.controller.state }

-- the controller once it heard these, one after another, and the exchanges that this ended
abbrev pub receives : Plan → List (Option Heard) → State → State
receives plan [] state = state
receives plan (came ∷ later) state = receives plan later (came_to plan came state)

abbrev pub ended : Plan → List (Option Heard) → State → List Exchange
ended plan [] state = []
ended plan (came ∷ later) state = option_to_list (ended_by plan came state) ++ ended plan later (came_to plan came state)

-- the next command is given, if none is awaited and the controller hasn't ended
abbrev pub gives : {E : Type 0} → Auto E → Auto E
gives a = record { ear = a.ear; state = ticked a.state }

-- one listen
abbrev pub listens : {E : Type 0} → Fold E → Plan → ℕ → Arrival → Auto E → Auto E
listens fold plan unit what a = record {
  ear = ear_after fold unit what a.ear;
  state = receives plan (inputs fold unit what a.ear) a.state;
}

-- What happens to it: something arrives, or a call is made.
pub data Event : Type 0 where
  arrives : Arrival → Event
  calls : Call → Event

abbrev pub arrivals : List Event → List Arrival
arrivals [] = []
arrivals (arrives what ∷ later) = what ∷ arrivals later
arrivals (calls c ∷ later) = arrivals later

-- a call; one on the list leaves the controller as it is
abbrev pub called : Call → State → State
called call.Take state = taken state
called call.Stop state = stopped state
called (call.List c) state = state

abbrev pub heeds : {E : Type 0} → Call → Auto E → Auto E
heeds c a = record { ear = a.ear; state = called c a.state }

-- all that happened: before each listen the next command is given
abbrev pub after : {E : Type 0} → Fold E → Plan → ℕ → Auto E → List Event → Auto E
after fold plan unit a [] = a
after fold plan unit a (arrives what ∷ later) = after fold plan unit (listens fold plan unit what (gives a)) later
after fold plan unit a (calls c ∷ later) = after fold plan unit (heeds c a) later

-- the exchanges that ended
abbrev pub log_of : {E : Type 0} → Fold E → Plan → ℕ → Auto E → List Event → List Exchange
log_of fold plan unit a [] = []
log_of fold plan unit a (arrives what ∷ later) = ended plan (inputs fold unit what a.ear) (ticked a.state)
    ++ log_of fold plan unit (listens fold plan unit what (gives a)) later
log_of fold plan unit a (calls c ∷ later) = log_of fold plan unit (heeds c a) later

-- calls are made only while the controller goes on
abbrev pub AreMade : {E : Type 0} → Fold E → Plan → ℕ → Auto E → List Event → Type 0
AreMade fold plan unit a [] = Unit {0}
AreMade fold plan unit a (arrives what ∷ later) = AreMade fold plan unit (listens fold plan unit what (gives a)) later
AreMade fold plan unit a (calls c ∷ later) = (outcome_of a.state.stage ≡ None) × AreMade fold plan unit (heeds c a) later

-- whatever log a controller's state was reached with, the later state is reached too, with a log that goes on by
-- the exchanges that ended since
abbrev pub IsReachedFrom : Plan → State → State → Type 0
IsReachedFrom plan before after = (log : List Exchange) → Reached plan before log → (since : List Exchange)
    × Reached plan after (log ++ since)
