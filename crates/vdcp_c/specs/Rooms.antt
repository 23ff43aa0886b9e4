-- Bytes that are put into a caller's room.
use Rattle.std.specs.Prelude.{ℕ, ℤ, pos, ◌≡◌, ◌≢◌, ◌≤◌, ◌<◌, List, length, take}

-- the bytes fit, and stand at the front of the room, with their number beside
pub record Fits (bytes : List ℕ) (n : ℕ) (new : List ℕ) : Type 0 where
  pub count : n ≡ length bytes
  pub within : n ≤ length new
  pub written : take n new ≡ bytes

-- no room: nothing is written
pub record IsShort (bytes old : List ℕ) (n : ℕ) (new : List ℕ) : Type 0 where
  pub short : length old < length bytes
  pub none : n ≡ 0
  pub kept : new ≡ old

-- what a call answers that puts bytes into a room
abbrev pub IsPut : List ℕ → List ℕ → ℤ → ℕ → List ℕ → Type 0
IsPut bytes old code n new =
    (code ≡ pos 0 → Fits bytes n new) × (code ≢ pos 0 → (code ≡ pos 104) × IsShort bytes old n new)

-- the same from a unit, which is at most 15
abbrev pub IsPutFrom : ℕ → List ℕ → List ℕ → ℤ → ℕ → List ℕ → Type 0
IsPutFrom unit bytes old code n new =
    (unit ≤ 15 → IsPut bytes old code n new)
    × (15 < unit → (code ≡ pos 103) × (n ≡ 0) × (new ≡ old))
