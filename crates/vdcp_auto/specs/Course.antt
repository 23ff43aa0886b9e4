-- Whole courses of a controller.
use Rattle.std.specs.Prelude.{◌≤◌, if◌then◌else◌, Option, None, Some, List, [], ◌∷◌, ◌++◌, is_some}
use Rattle.std.specs.Option.{option_to_list}
use Rattle.vdcp_auto.specs.declared.exchange.Exchange.{Exchange}
use Rattle.vdcp_auto.specs.declared.exchange.Heard.{Heard}
use Rattle.vdcp_auto.specs.declared.exchange.Input.{Input}
use Rattle.vdcp_auto.specs.declared.exchange.Input.TheVariants as input
use Rattle.vdcp_auto.specs.State.{State}
use Rattle.vdcp_auto.specs.Plan.{Plan}
use Rattle.vdcp_auto.specs.Turn.{start, ticked, awaited, ended_by, came_to, taken, stopped, forgotten}

-- the exchanges that these inputs end. Before something comes, or silence, the controller is
-- ticked; if it has ended the course is over
abbrev pub course_from : Plan → State → List Input → List Exchange
course_from plan state [] = []
course_from plan state (input.Take ∷ inputs) = course_from plan (taken state) inputs
course_from plan state (input.Stop ∷ inputs) = course_from plan (stopped state) inputs
course_from plan state (input.Heard h ∷ inputs) =
    if is_some (awaited plan (ticked state))
    then option_to_list (ended_by plan (Some h) (ticked state))
    ++ course_from plan (came_to plan (Some h) (ticked state)) inputs
    else []
course_from plan state (input.Silence ∷ inputs) =
    if is_some (awaited plan (ticked state))
    then option_to_list (ended_by plan None (ticked state))
    ++ course_from plan (came_to plan None (ticked state)) inputs
    else []

-- the course of a new controller
abbrev pub course : Plan → List Input → List Exchange
course plan inputs = course_from plan start inputs

-- the controller after one input. Before something comes, or silence, it is ticked
abbrev pub after_input : Plan → State → Input → State
after_input plan state (input.Heard h) = came_to plan (Some h) (ticked state)
after_input plan state input.Silence = came_to plan None (ticked state)
after_input plan state input.Take = taken state
after_input plan state input.Stop = stopped state

-- the exchange that one input ends
abbrev pub ended_by_input : Plan → State → Input → Option Exchange
ended_by_input plan state (input.Heard h) = ended_by plan (Some h) (ticked state)
ended_by_input plan state input.Silence = ended_by plan None (ticked state)
ended_by_input plan state input.Take = None
ended_by_input plan state input.Stop = None

abbrev pub after_inputs_from : Plan → State → List Input → State
after_inputs_from plan state [] = state
after_inputs_from plan state (x ∷ inputs) = after_inputs_from plan (after_input plan state x) inputs

-- the controller that the course of a new one leaves
abbrev pub after_inputs : Plan → List Input → State
after_inputs plan inputs = after_inputs_from plan start inputs

-- a call of a controller that can change it
pub data Call : Type 0 where
  Tick : Call
  -- something comes, or nothing does in time
  Receive : Option Heard → Call
  Take : Call
  Stop : Call
  Forget : Call

-- the controller after the call
abbrev pub after_call : Plan → Call → State → State
after_call plan Tick state = ticked state
after_call plan (Receive came) state = came_to plan came state
after_call plan Take state = taken state
after_call plan Stop state = stopped state
after_call plan Forget state = forgotten state

-- the exchange that the call ends
abbrev pub ended_by_call : Plan → Call → State → Option Exchange
ended_by_call plan Tick state = None
ended_by_call plan (Receive came) state = ended_by plan came state
ended_by_call plan Take state = None
ended_by_call plan Stop state = None
ended_by_call plan Forget state = None

-- the log with the exchange that ended, if one did
abbrev pub logged : List Exchange → Option Exchange → List Exchange
logged log None = log
logged log (Some e) = log ++ e ∷ []

-- whatever calls a new controller had, in whatever order, this is its state now, and the log has what
-- they ended
pub data Reached (plan : Plan) : State → List Exchange → Type 0 where
  begun : 1 ≤ plan.limit → plan.limit ≤ 1000 → Reached plan start []
  called : {state : State} {log : List Exchange} → Reached plan state log → (call : Call)
      → Reached plan (after_call plan call state) (logged log (ended_by_call plan call state))
