-- What a wire does from one of its states to the next, and what it tells then.
use Rattle.std.specs.Prelude.{ℕ, ◌≡◌, IsTrue, List, [], ◌∷◌, ◌++◌, length, Option, None, Some}
use Rattle.vdcp_wire.specs.Wires.{Arrival, close, Told, came_with, has_closed}

pub data Act : Type 0 where
  -- these bytes go out
  sends : (bytes : List ℕ) → Act
  -- a listen brings this
  brings : (what : Arrival) → Act
  -- what waits is dropped
  drops : Act
  -- a listen or a drop fails
  fails : Act

-- this holds of a beginning of the bytes
pub record OfFront (bytes : List ℕ) (holds : List ℕ → Type 0) : Type 0 where
  pub front : List ℕ
  pub rest : List ℕ
  pub parts : bytes ≡ front ++ rest
  pub is_so : holds front

-- what a wire tells after an act
abbrev pub told_after : Act → Told → Told
told_after (sends bytes) t = record { sent = t.sent ++ bytes; came = t.came; drops = t.drops }
told_after (brings what) t = record { sent = t.sent; came = came_with t.came what; drops = t.drops }
told_after drops t = record { sent = t.sent; came = t.came; drops = t.drops ++ length t.sent ∷ [] }
told_after fails t = t

-- after a close nothing else comes
abbrev pub MayAct : Act → Told → Type 0
MayAct (brings what) t = IsTrue (has_closed t.came) → what ≡ close
MayAct (sends bytes) t = Unit {0}
MayAct drops t = Unit {0}
MayAct fails t = Unit {0}

-- what is told is what was done. A wire that doesn't tell its bytes tells nothing
abbrev pub Tells : Act → Option Told → Option Told → Type 0
Tells act None new = new ≡ None
Tells act (Some t) new = MayAct act t × (new ≡ Some (told_after act t))
