-- What a server sends for all that came to it, for one turn more, and at each moment.
use Rattle.std.specs.Prelude.{ℕ, ◌≡◌, List, [], ◌∷◌, ◌++◌, map}
use Rattle.vdcp_value.specs.declared.part.Item.{Item}
use Rattle.vdcp_port.specs.Answers.{aired_on_way, answer_bytes}
use Rattle.vdcp_port.specs.Clock.{ClockedPort}
use Rattle.vdcp_drive.specs.ServerEars.{completes}
use Rattle.vdcp_drive.specs.Serving.{Service, acts_of, begins, hook_steps, items_in, left_by, replies, serves}
use Rattle.vdcp_drive.specs.Traces.{came_in, sent_in}
use Rattle.vdcp_drive.specs.Turns.{Turn, listen, frame, arrivals}
use Rattle.vdcp_drive.specs.declared.hearing.Hearing.TheVariants.{AtSilences}
use Rattle.vdcp_wire.specs.Acts.{Act}
use Rattle.vdcp_wire.specs.Wires.{Arrival, bytes, silence, close}

-- what came, and nothing else happened
abbrev pub only : List Arrival → List Turn
only came = map listen came

-- what a new server with this port that hears at silences sends for all that came, and the items that go to air
abbrev pub served : ClockedPort → List Arrival → List ℕ
served p came = sent_in (acts_of (begins AtSilences p) (only came))

abbrev pub items_served : ClockedPort → List Arrival → List Item
items_served p came = items_in (hook_steps (begins AtSilences p) (only came))

-- One turn more, of any server.

-- what goes out for it, and the items that go to air
abbrev pub sent_at : Turn → Service → List ℕ
sent_at (listen what) s = answer_bytes s.port.state.unit (replies what s)
sent_at frame s = []

abbrev pub aired_at : Turn → Service → List Item
aired_at (listen (bytes piece)) s = aired_on_way s.port (completes s.ear piece)
aired_at (listen silence) s = []
aired_at (listen close) s = []
aired_at frame s = []

pub record HasMore (s : Service) (turns : List Turn) (what : Turn) : Type 0 where
  pub sent : sent_in (acts_of s (turns ++ what ∷ [])) ≡ sent_in (acts_of s turns) ++ sent_at what (left_by s turns)
  pub aired : items_in (hook_steps s (turns ++ what ∷ []))
      ≡ items_in (hook_steps s turns) ++ aired_at what (left_by s turns)
  pub left : left_by s (turns ++ what ∷ []) ≡ serves what (left_by s turns)

-- At each moment of a server's turns.

-- these acts are of the first of these turns, whose answers begin with what went out
pub record IsMoment (s : Service) (turns : List Turn) (some : List Act) : Type 0 where
  pub upto : List Turn
  pub later : List Turn
  pub parts : turns ≡ upto ++ later
  pub came : arrivals upto ≡ came_in some
  pub rest : List ℕ
  pub sent : sent_in (acts_of s upto) ≡ sent_in some ++ rest
