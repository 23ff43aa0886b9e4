-- One run, by what happened in it: where both ends are led.
use Rattle.std.proofs.Common.{ℕ, ◌≡◌, List, [], ◌∷◌, refl}
use Rattle.vdcp_value.specs.declared.part.Item.{Item}
use Rattle.vdcp_port.specs.Clock.{ClockedPort}
use Rattle.vdcp_auto.specs.Plan.{Plan}
use Rattle.vdcp_auto.specs.declared.exchange.Exchange.{Exchange}
use Rattle.vdcp_wire.specs.Wires.{bytes, silence, close}
use Rattle.vdcp_drive.specs.Auto.{Event, arrives, calls}
use Rattle.vdcp_laws.specs.Automation.{led}
use Rattle.vdcp_laws.specs.OneConnection.{ends_by, hears_in}
use Rattle.vdcp_laws.specs.TwoEnds as two
use Rattle.vdcp_laws.specs.TwoEnds.{AreLed, Ends, with_call, with_command}

pub automation_so : (plan : Plan) (unit : ℕ) (e : Ends) (events : List Event)
    → (ends_by plan unit e events).automation ≡ led plan unit e.automation events
automation_so plan unit e [] = refl
automation_so plan unit e (arrives (bytes piece) ∷ later) =
    automation_so plan unit (hears_in plan unit (bytes piece) (with_command plan e)) later
automation_so plan unit e (arrives silence ∷ later) =
    automation_so plan unit (hears_in plan unit silence (with_command plan e)) later
automation_so plan unit e (arrives close ∷ later) =
    automation_so plan unit (hears_in plan unit close (with_command plan e)) later
automation_so plan unit e (calls c ∷ later) = automation_so plan unit (with_call c e) later

-- what happens to the automation leaves these
pub stays : {A : Type 0} (f : ClockedPort → List Exchange → List Item → A) (plan : Plan) (unit : ℕ) (e : Ends)
    (events : List Event) → (let now : Ends = ends_by plan unit e events in f now.port now.log_before now.aired_before)
    ≡ f e.port e.log_before e.aired_before
stays f plan unit e [] = refl
stays f plan unit e (arrives (bytes piece) ∷ later) =
    stays f plan unit (hears_in plan unit (bytes piece) (with_command plan e)) later
stays f plan unit e (arrives silence ∷ later) = stays f plan unit (hears_in plan unit silence (with_command plan e)) later
stays f plan unit e (arrives close ∷ later) = stays f plan unit (hears_in plan unit close (with_command plan e)) later
stays f plan unit e (calls c ∷ later) = stays f plan unit (with_call c e) later

pub led_on : (plan : Plan) (unit : ℕ) (first e e' : Ends) → AreLed plan unit first e → AreLed plan unit e e'
    → AreLed plan unit first e'
led_on plan unit first start _ h two.begun = h
led_on plan unit first start _ h (two.went_on {e} k step) = two.went_on (led_on plan unit first start e h k) step
