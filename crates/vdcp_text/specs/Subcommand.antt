-- How a subcommand ends that prints what it makes of its files or of a word.
use Rattle.std.specs.Io.KnownBytes.{Keeps}
use Rattle.std.specs.Prelude.{ℕ, ◌≡◌, ◌⊎◌, ◌<◌, Bool, true, false, List, Option}

-- The status is 0 if it printed what it does for good data, 1 if it printed what it does for bad data or refused a file
-- or the word, and 3 if it couldn't; standard error, the other writer, gained a line only if it gave up. It prints nothing
-- unless these are whole.
pub record IsSubcommand (Prints : Bool → Option (List ℕ) → Option (List ℕ) → Type 0)
    (Refuses : Option (List ℕ) → Option (List ℕ) → Option (List ℕ) → Option (List ℕ) → Type 0) (AreWhole : Type 0)
    (out out' err err' : Option (List ℕ)) (status : ℕ) : Type 0 where
  pub good : status ≡ 0 → Prints true out out' × Keeps err err'
  pub bad : status ≡ 1 → (Prints false out out' × Keeps err err') ⊎ Refuses out out' err err'
  pub silent : Keeps out out' ⊎ AreWhole
  pub statuses : (status < 2) ⊎ (status ≡ 3)

-- what is counted as bad is as it should be: none if all is good, and else some
abbrev pub Counted : (ℕ → Type 0) → Bool → Type 0
Counted Is true = Is 0
Counted Is false = (bad : ℕ) × (0 < bad) × Is bad
