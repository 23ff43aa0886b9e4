-- One connection between both ends, by what happens to the automation: what a driver and a server run on.
use Rattle.std.specs.Prelude.{ℕ, List, [], ◌∷◌, None}
use Rattle.vdcp_auto.specs.Plan.{Plan}
use Rattle.vdcp_wire.specs.Wires.{Arrival, bytes, silence, close}
use Rattle.vdcp_drive.specs.Auto.{Event, arrives, calls}
use Rattle.vdcp_drive.specs.Reading.{completed}
use Rattle.vdcp_drive.specs.Turns.{Turn}
use Rattle.vdcp_laws.specs.Automation.{listens}
use Rattle.vdcp_laws.specs.TwoEnds.{Ends, notes_ended, notes_heard, with_automation, with_call, with_command, with_up}

-- something came up to the automation
abbrev pub hears_in : Plan → ℕ → Arrival → Ends → Ends
hears_in plan unit (bytes piece) e = with_up piece (with_automation (listens plan unit (bytes piece) e.automation)
    (notes_heard plan unit (completed e.automation.held piece) e.automation) e)
hears_in plan unit silence e =
    with_automation (listens plan unit silence e.automation) (notes_ended plan None e.automation.state) e
hears_in plan unit close e =
    with_automation (listens plan unit close e.automation) (notes_ended plan None e.automation.state) e

-- all that happened to it: before each listen the next command is given
abbrev pub ends_by : Plan → ℕ → Ends → List Event → Ends
ends_by plan unit e [] = e
ends_by plan unit e (arrives a ∷ later) = ends_by plan unit (hears_in plan unit a (with_command plan e)) later
ends_by plan unit e (calls c ∷ later) = ends_by plan unit (with_call c e) later

-- and these turns to the server; the next command is given
abbrev pub ends_at : Plan → ℕ → Ends → List Event → List Turn → Ends
ends_at plan unit e events downs = record (with_command plan (ends_by plan unit e events)) { downs = downs }
