-- Lists of a given number of bytes: their length, and each of them below 256.
use Rattle.std.proofs.Common.{ℕ, List, length, [], ◌∷◌, ◌<◌, ◌≡◌, refl, true, All, get_or, arith, nat_lt, nat_eq, ◌&&◌, Bool}
use Rattle.std.proofs.lemmas.List.Elements.{All-get_or, All-from_get_or, All-head, All-tail}
use Rattle.std.proofs.lemmas.List.Folds.{list_all_at}
use Rattle.std.specs.List.{list_all}
use Rattle.vdcp_value.specs.Bytes.{AreBytes}

-- both parts of a conjunction that holds
pub both_hold : (a b : Bool) → (a && b) ≡ true → (a ≡ true) × (b ≡ true)
both_hold a b e = (grind (arith, e), grind (arith, e))

below_at : (bytes : List ℕ) (k : ℕ) → list_all (λ byte. nat_lt byte 256) bytes ≡ true → k < length bytes →
    get_or bytes k 0 < 256
below_at bytes k e below = grind (arith, e, list_all_at (λ byte. nat_lt byte 256) bytes k 0 below)

-- a list of n bytes has n numbers
pub length_of_bytes : (n : ℕ) (bytes : List ℕ) → AreBytes n bytes → length bytes ≡ n
length_of_bytes n bytes h =
    grind (arith, (both_hold (nat_eq (length bytes) n) (list_all (λ byte. nat_lt byte 256) bytes) h).0)

-- and each of them is below 256
pub bytes_below : (n : ℕ) (bytes : List ℕ) → AreBytes n bytes → All (λ byte. byte < 256) bytes
bytes_below n bytes h =
    All-from_get_or (λ byte. byte < 256) bytes 0
    (λ k below. below_at bytes k (both_hold (nat_eq (length bytes) n) (list_all (λ byte. nat_lt byte 256) bytes) h).1
    below)

pub byte_below : (n k : ℕ) (bytes : List ℕ) → AreBytes n bytes → k < n → get_or bytes k 0 < 256
byte_below n k bytes h below =
    All-get_or (λ byte. byte < 256) bytes k 0 (omega (arith, length_of_bytes n bytes h)) (bytes_below n bytes h)

-- and a list of n numbers below 256 is n bytes
pub are_bytes_of : (n : ℕ) (bytes : List ℕ) → length bytes ≡ n → All (λ byte. byte < 256) bytes → AreBytes n bytes
are_bytes_of n bytes size fits =
    let counted : nat_eq (length bytes) n ≡ true = grind (arith, size) in
    rw counted (all_bytes bytes fits)
  where
    all_bytes : (bytes : List ℕ) → All (λ byte. byte < 256) bytes → list_all (λ byte. nat_lt byte 256) bytes ≡ true
    all_bytes [] fits = refl
    all_bytes (byte ∷ more) fits =
        let h = All-head (λ b. b < 256) byte more fits in
        let here : nat_lt byte 256 ≡ true = grind (arith, h) in
        rw here (all_bytes more (All-tail (λ b. b < 256) byte more fits))
