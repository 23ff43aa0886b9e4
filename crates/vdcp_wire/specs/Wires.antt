-- What a wire tells: the bytes that went out, what came, and where waiting bytes were dropped.
use Rattle.std.specs.Prelude.{ℕ, ◌≡◌, ◌≤◌, Bool, true, false, IsTrue, List, [], ◌∷◌, ◌++◌, length, take, Option, Some, None, if◌then◌else◌}
use Rattle.vdcp_wire.specs.declared.wire.Came.{Came}
use Rattle.vdcp_wire.specs.declared.wire.Came.TheVariants as came

-- what one listen answered
pub data Arrival : Type 0 where
  bytes : (piece : List ℕ) → Arrival
  silence : Arrival
  close : Arrival

abbrev pub arrival_of : Came → List ℕ → Arrival
arrival_of (came.Bytes n) buffer = bytes (take n buffer)
arrival_of came.Silence buffer = silence
arrival_of came.Closed buffer = close

-- how many bytes a listen brought
abbrev pub brought : Came → ℕ
brought (came.Bytes n) = n
brought came.Silence = 0
brought came.Closed = 0

-- the bytes lie in the buffer
abbrev pub FitsBuffer : Came → Type 0
FitsBuffer (came.Bytes n) = n ≤ 512
FitsBuffer came.Silence = Unit {0}
FitsBuffer came.Closed = Unit {0}

-- whether a close is among what came
abbrev pub has_closed : List Arrival → Bool
has_closed [] = false
has_closed (bytes piece ∷ later) = has_closed later
has_closed (silence ∷ later) = has_closed later
has_closed (close ∷ later) = true

-- what a wire carried: the bytes that went out; what came until a close, which is the last of it; and, for each drop of
-- waiting bytes, how many bytes had gone out by then. What was dropped isn't among what came
pub record Told : Type 0 where
  pub sent : List ℕ
  pub came : List Arrival
  pub drops : List ℕ

-- of a fresh wire
abbrev pub nothing_told : Told
nothing_told = record { sent = []; came = []; drops = [] }

-- What a call adds. A wire that doesn't tell its bytes tells nothing.

abbrev pub adds_sent : List ℕ → Option Told → Option Told
adds_sent more None = None
adds_sent more (Some t) = Some (record { sent = t.sent ++ more; came = t.came; drops = t.drops })

abbrev pub came_with : List Arrival → Arrival → List Arrival
came_with came a = if has_closed came then came else came ++ a ∷ []

abbrev pub adds_came : Arrival → Option Told → Option Told
adds_came a None = None
adds_came a (Some t) = Some (record { sent = t.sent; came = came_with t.came a; drops = t.drops })

abbrev pub adds_drop : Option Told → Option Told
adds_drop None = None
adds_drop (Some t) = Some (record { sent = t.sent; came = t.came; drops = t.drops ++ length t.sent ∷ [] })

-- after a close nothing else comes
abbrev pub MayCome : Arrival → Option Told → Type 0
MayCome a None = Unit {0}
MayCome a (Some t) = IsTrue (has_closed t.came) → a ≡ close

-- a beginning of the bytes was sent
pub record SendsFront (bytes : List ℕ) (old new : Option Told) : Type 0 where
  pub front : List ℕ
  pub rest : List ℕ
  pub parts : bytes ≡ front ++ rest
  pub told : new ≡ adds_sent front old

-- the wire tells its bytes, and of what it tells this holds
abbrev pub IfTold : Option Told → (Told → Type 0) → Type 0
IfTold told P = (t : Told) × (told ≡ Some t) × P t
