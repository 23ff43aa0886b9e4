-- What was written of some bytes, piece by piece.
use Rattle.std.proofs.Common.{ℕ, ◌+◌, ◌-◌, ◌≤◌, List, length, take, drop, sym, subst, arith, take-add}
use Rattle.std.proofs.KnownBytes.{Appends-trans}
use Rattle.std.proofs.lemmas.List.{length-drop, take_rest}
use Rattle.std.specs.Io.KnownBytes.{Appends}
use Rattle.std.specs.Prelude.{Option}

-- one more piece of what is left
pub taken_more : (a b c : Option (List ℕ)) (bytes : List ℕ) (n m : ℕ) → Appends a b (take n bytes)
    → Appends b c (take m (take (length bytes - n) (drop n bytes)))
    → Appends a c (take (n + m) bytes)
taken_more a b c bytes n m p q =
    subst (λ all. Appends a c all) (sym (take-add n m bytes))
    (Appends-trans a b c (take n bytes) (take m (drop n bytes)) p (rw (take_rest bytes n) at q))

pub more_within : (bytes : List ℕ) (n m : ℕ) → n ≤ length bytes → m ≤ length (take (length bytes - n) (drop n bytes))
    → n + m ≤ length bytes
more_within bytes n m p q =
    let left : m ≤ length (drop n bytes) = rw (take_rest bytes n) at q in
    omega (arith, p, left, length-drop n bytes)
