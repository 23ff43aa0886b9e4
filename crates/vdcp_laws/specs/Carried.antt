-- One connection between both ends, by what the wire of each does, one act after another.
use Rattle.std.specs.Option.{option_to_list}
use Rattle.std.specs.Prelude.{ℕ, ◌≡◌, List, [], ◌∷◌, ◌++◌}
use Rattle.vdcp_auto.specs.Plan.{Plan}
use Rattle.vdcp_auto.specs.Turn.{given}
use Rattle.vdcp_wire.specs.Acts.{Act, sends, brings, fails}
use Rattle.vdcp_wire.specs.Wires.{bytes, silence, close}
use Rattle.vdcp_drive.specs.Auto.{Auto}
use Rattle.vdcp_drive.specs.Reading.{Held}
use Rattle.vdcp_drive.specs.Steps.{given_notes}
use Rattle.vdcp_drive.specs.Traces.{bytes_of, came_in, sent_in}
use Rattle.vdcp_drive.specs.Served.{only}
use Rattle.vdcp_drive.specs.Turns.{Turn, arrivals}
use Rattle.vdcp_drive.specs.declared.hooks.Kept.{Kept}
use Rattle.vdcp_laws.specs.Automation.{Prompt}
use Rattle.vdcp_laws.specs.TwoEnds.{Ends, bytes_in, sent_down, sent_up, with_command}

-- the driver that this automation is
abbrev pub driver_of : Prompt → Auto Held
driver_of p = record { ear = p.held; state = p.state }

-- What the automation's wire and the server's have done since these ends: to each comes, in order and in whatever pieces, a
-- beginning of the bytes that the other has sent by then.
pub data AreCarried (unit : ℕ) (e : Ends) : List Act → List Act → Type 0 where
  begun : AreCarried unit e [] []
  -- the automation's wire
  sent : {autos servers : List Act} → AreCarried unit e autos servers → (b : List ℕ)
      → AreCarried unit e (autos ++ sends b ∷ []) servers
  up : {autos servers : List Act} → AreCarried unit e autos servers → (piece rest : List ℕ)
      → sent_up e ++ sent_in servers ≡ (e.ups ++ bytes_in (came_in autos)) ++ (piece ++ rest)
      → AreCarried unit e (autos ++ brings (bytes piece) ∷ []) servers
  waited : {autos servers : List Act} → AreCarried unit e autos servers
      → AreCarried unit e (autos ++ brings silence ∷ []) servers
  hung_up : {autos servers : List Act} → AreCarried unit e autos servers
      → AreCarried unit e (autos ++ brings close ∷ []) servers
  failed : {autos servers : List Act} → AreCarried unit e autos servers → AreCarried unit e (autos ++ fails ∷ []) servers
  -- the server's wire
  answered : {autos servers : List Act} → AreCarried unit e autos servers → (b : List ℕ)
      → AreCarried unit e autos (servers ++ sends b ∷ [])
  down : {autos servers : List Act} → AreCarried unit e autos servers → (piece rest : List ℕ)
      → sent_down unit e ++ sent_in autos ≡ (bytes_in (arrivals e.downs) ++ bytes_in (came_in servers)) ++ (piece ++ rest)
      → AreCarried unit e autos (servers ++ brings (bytes piece) ∷ [])
  paused : {autos servers : List Act} → AreCarried unit e autos servers
      → AreCarried unit e autos (servers ++ brings silence ∷ [])
  shut : {autos servers : List Act} → AreCarried unit e autos servers
      → AreCarried unit e autos (servers ++ brings close ∷ [])
  broke : {autos servers : List Act} → AreCarried unit e autos servers → AreCarried unit e autos (servers ++ fails ∷ [])

-- a server's turns, with the one in which its wire then failed
abbrev pub all_turns : List Turn → List Act → List Turn
all_turns turns done = turns ++ only (came_in done)

-- A killed automation hadn't kept its next command; or it had, and nothing of it went out, or a beginning. That leaves the
-- ends so, with this in the journal since.
pub data MayGive (plan : Plan) (unit : ℕ) (now : Ends) : List Kept → List Act → Ends → Type 0 where
  nothing : MayGive plan unit now [] [] now
  next : (out : List Act) (unsent : List ℕ) → came_in out ≡ []
      → bytes_of unit (option_to_list (given plan now.automation.state)) ≡ sent_in out ++ unsent
      → MayGive plan unit now (given_notes (given plan now.automation.state)) out (with_command plan now)
