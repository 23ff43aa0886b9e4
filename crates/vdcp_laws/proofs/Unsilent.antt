-- A run in which each listen brings bytes is in time.
use Rattle.std.proofs.Common.{arith, ℕ, All, List, [], ◌∷◌, ◌++◌, sym, subst, ◌∙◌}
use Rattle.std.proofs.lemmas.List.Elements.{All-head, All-tail}
use Rattle.std.specs.Prelude.{Result}
use Rattle.vdcp_value.specs.declared.part.Item.{Item}
use Rattle.vdcp_auto.specs.Plan.{Plan}
use Rattle.vdcp_wire.specs.Acts.{Act}
use Rattle.vdcp_wire.specs.Wires.{Arrival}
use Rattle.vdcp_drive.specs.Auto.{Auto, arrivals}
use Rattle.vdcp_drive.specs.Hearing.{at_once}
use Rattle.vdcp_drive.specs.Leaves.{IsRun, steps_in}
use Rattle.vdcp_drive.specs.Reading.{Held}
use Rattle.vdcp_drive.specs.Traces.{acts_in, came_in}
use Rattle.vdcp_drive.specs.Turns.{Turn}
use Rattle.vdcp_drive.specs.declared.hooks.BrokenOff.{BrokenOff}
use Rattle.vdcp_drive.specs.declared.line.Ran.{Ran}
use Rattle.vdcp_laws.specs.Carried.{AreCarried, driver_of}
use Rattle.vdcp_laws.specs.InTime as in_time
use Rattle.vdcp_laws.specs.InTime.{AreInTime, IsInTime, IsPiece}
use Rattle.vdcp_laws.specs.OneConnection.{ends_at}
use Rattle.vdcp_laws.specs.TwoEnds as two
use Rattle.vdcp_laws.specs.TwoEnds.{Ends, Step}
use Rattle.vdcp_laws.proofs.Asked.{Steps, came_of_run}
use Rattle.vdcp_laws.proofs.Carrying.{IsCalm, Leads, side_of}
use Rattle.vdcp_laws.proofs.Leading.{IsQuiet, next_in, side_led}
use Rattle.vdcp_laws.proofs.Servers.{ServedSo}

calm_in_time : {plan : Plan} {unit : ℕ} {e e' : Ends} (step : Step plan unit e e') → IsCalm step → IsInTime step
calm_in_time two.waited calm = absurd calm
calm_in_time (two.asks question c is) calm = calm
calm_in_time (two.resumed goes) calm = calm
calm_in_time (two.restarted goes) calm = calm
calm_in_time other calm = tt

leads : (plan : Plan) (unit : ℕ) → Leads plan unit (AreInTime plan unit)
leads plan unit =
    record { begun = λ e. in_time.begun; on = λ step calm j. in_time.went_on j step (calm_in_time step calm) }

never_quiet : (a : Arrival) → IsPiece a → IsQuiet a → ⊥
never_quiet a is quiet = grind arith

among : (came rest : List Arrival) (a : Arrival) → All IsPiece (came ++ a ∷ rest) → IsPiece a
among [] rest a all = All-head IsPiece a rest all
among (x ∷ came) rest a all = among came rest a (All-tail IsPiece x (came ++ a ∷ rest) all)

pub never_silent : (law : Steps at_once) (plan : Plan) (unit count : ℕ) (e : Ends) (answer : Result Ran BrokenOff) (a' : Auto Held)
    (turns : List Turn) (below : List Act) (aired : List Item)
    → (run : IsRun at_once plan unit count (driver_of e.automation) a' answer) → All IsPiece (arrivals run.events)
    → ServedSo e turns below aired → AreCarried unit e (acts_in (steps_in run)) below
    → AreInTime plan unit e (ends_at plan unit e run.events (e.downs ++ turns))
never_silent law plan unit count e answer a' turns below aired run all served c =
    let list : List Act = acts_in (steps_in run) in
    side_led plan unit (AreInTime plan unit) (leads plan unit) e list _ turns served.heard
    (side_of plan unit count (AreInTime plan unit) (leads plan unit) e answer a' run)
    (λ now autos a front quiet j. absurd (never_quiet a (among (came_in autos) (came_in front.0) a
    (subst (All IsPiece) (sym (came_of_run law plan unit count (driver_of e.automation) a' answer run)
    ∙ next_in list autos front.0 a front.1) all)) quiet)) served.whole served.answers
    (served.carried unit e list c)
