-- How far a streaming reader is.
use Rattle.std.specs.Prelude.{ℕ, Bool, true, false, List}

-- how far a reader is in a burst: how many bytes it took, and which of these it holds, since they
-- begin a message; or after a fault
pub data Progress : Type 0 where
  reading : (taken : ℕ) (held : List ℕ) → Progress
  failed : Progress

abbrev pub is_failed : Progress → Bool
is_failed (reading taken held) = false
is_failed failed = true
