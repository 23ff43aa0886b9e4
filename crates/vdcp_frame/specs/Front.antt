-- What a streaming reader can hold, and the bytes that it looks at in a piece.
use Rattle.std.specs.Prelude.{ℕ, Bool, true, false, ◌≡◌, ◌+◌, ◌<◌, ◌≤◌, List, [], ◌∷◌, ◌++◌, length, take}
use Rattle.vdcp_frame.specs.Head.{Head, part, wrong, found, IsPart}
use Rattle.vdcp_frame.specs.Reading.{IsUnfinished, burst_limit}

-- more has to come before more is known
abbrev pub is_part : Head → Bool
is_part (part needs) = true
is_part (wrong which size) = false
is_part (found m size) = false

-- a burst leaves a reader that took this many bytes and holds these of them
pub record CanHold (taken : ℕ) (held : List ℕ) : Type 0 where
  pub limit : taken ≤ burst_limit
  pub within : length held ≤ taken
  pub unfinished : IsUnfinished held

-- the bytes held, and n bytes of a piece after them: all of it, unless the burst is too long or what is
-- held then is no longer part of a message
pub record IsFront (taken held : ℕ) (piece : List ℕ) (n : ℕ) (front : List ℕ) : Type 0 where
  pub can : CanHold taken (take held front)
  pub size : length front ≡ held + n
  pub within : n ≤ length piece
  pub limit : taken + n ≤ burst_limit
  pub all : (needs : ℕ) → IsPart front needs → taken + n < burst_limit → n ≡ length piece
  pub joined : front ≡ take held front ++ take n piece

-- of the bytes held and a piece, those that show how many bytes to look at: the first two, if there are two
abbrev pub looked_at : List ℕ → List ℕ → List ℕ
looked_at [] (first ∷ second ∷ more) = first ∷ second ∷ []
looked_at [] (first ∷ []) = []
looked_at [] [] = []
looked_at (first ∷ []) (second ∷ more) = first ∷ second ∷ []
looked_at (first ∷ []) [] = first ∷ []
looked_at (first ∷ second ∷ more) piece = first ∷ second ∷ more
