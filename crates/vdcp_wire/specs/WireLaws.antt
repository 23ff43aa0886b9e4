-- Whether a close is among what came, with one more arrival.
use Rattle.std.specs.Prelude.{ℕ, ◌≡◌, true, List, [], ◌∷◌, ◌++◌, refl}
use Rattle.vdcp_wire.specs.Wires.{Arrival, bytes, silence, close, has_closed}

pub closed_bytes : (came : List Arrival) (piece : List ℕ) → has_closed (came ++ bytes piece ∷ []) ≡ has_closed came
closed_bytes [] piece = refl
closed_bytes (bytes b ∷ came) piece = closed_bytes came piece
closed_bytes (silence ∷ came) piece = closed_bytes came piece
closed_bytes (close ∷ came) piece = refl

pub closed_silence : (came : List Arrival) → has_closed (came ++ silence ∷ []) ≡ has_closed came
closed_silence [] = refl
closed_silence (bytes b ∷ came) = closed_silence came
closed_silence (silence ∷ came) = closed_silence came
closed_silence (close ∷ came) = refl

pub closed_close : (came : List Arrival) → has_closed (came ++ close ∷ []) ≡ true
closed_close [] = refl
closed_close (bytes b ∷ came) = closed_close came
closed_close (silence ∷ came) = closed_close came
closed_close (close ∷ came) = refl
