-- What happens to a server, turn by turn.
use Rattle.std.specs.Prelude.{◌≡◌, Bool, true, false, List, [], ◌∷◌, length}
use Rattle.vdcp_wire.specs.Wires.{Arrival, bytes, silence, close}
use Rattle.vdcp_wire.specs.declared.wire.Came.{Came}
use Rattle.vdcp_wire.specs.declared.wire.Came.TheVariants as came
use Rattle.vdcp_drive.specs.Leaves.{AreOctetsIn}
use Rattle.vdcp_drive.specs.declared.server_hooks.Due.{Due}
use Rattle.vdcp_drive.specs.declared.server_hooks.Due.TheVariants as due
use Rattle.vdcp_drive.specs.declared.server_hooks.Turned.{Turned}
use Rattle.vdcp_drive.specs.declared.server_hooks.Turned.TheVariants as turned

-- a listen brings this, or a frame passes, of which the reader isn't told
pub data Turn : Type 0 where
  listen : (what : Arrival) → Turn
  frame : Turn

-- what is due then
abbrev pub due_of : Turn → Due
due_of (listen what) = due.Listen
due_of frame = due.Frame

-- what a turn was, as it is told
abbrev pub came_of : Arrival → Came
came_of (bytes piece) = came.Bytes (length piece)
came_of silence = came.Silence
came_of close = came.Closed

abbrev pub turned_of : Turn → Turned
turned_of (listen what) = turned.Listen (came_of what)
turned_of frame = turned.Frame

abbrev pub closes : Turned → Bool
closes (turned.Listen (came.Bytes count)) = false
closes (turned.Listen came.Silence) = false
closes (turned.Listen came.Closed) = true
closes turned.Frame = false

-- its bytes are bytes
abbrev pub AreOctetsAt : Turn → Type 0
AreOctetsAt (listen what) = AreOctetsIn what
AreOctetsAt frame = Unit {0}

-- frames pass only where something can make them
abbrev pub IsMade : Bool → Turn → Type 0
IsMade can (listen what) = Unit {0}
IsMade can frame = can ≡ true

-- what came
abbrev pub arrivals : List Turn → List Arrival
arrivals [] = []
arrivals (listen what ∷ later) = what ∷ arrivals later
arrivals (frame ∷ later) = arrivals later

-- whether the other end has closed
abbrev pub are_closed : List Turn → Bool
are_closed [] = false
are_closed (listen (bytes piece) ∷ later) = are_closed later
are_closed (listen silence ∷ later) = are_closed later
are_closed (listen close ∷ later) = true
are_closed (frame ∷ later) = are_closed later

-- nothing happens after a close
abbrev pub until_closed : List Turn → List Turn
until_closed [] = []
until_closed (listen (bytes piece) ∷ later) = listen (bytes piece) ∷ until_closed later
until_closed (listen silence ∷ later) = listen silence ∷ until_closed later
until_closed (listen close ∷ later) = listen close ∷ []
until_closed (frame ∷ later) = frame ∷ until_closed later
