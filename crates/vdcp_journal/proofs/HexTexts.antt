-- What hexadecimal digits of some bytes are read as.
use Rattle.hex.proofs.HexLemmas.{decode_sized-encode_lower, length-encode_with}
use Rattle.hex.specs.Hex.{IsBytes, decode_sized, encode_lower, encode_with, lower_digits}
use Rattle.hex.specs.declared.error.FromHexError.{FromHexError}
use Rattle.std.proofs.Common.{◌≡◌, ℕ, ◌*◌, ◌/◌, ◌<◌, ◌≤◌, zero, suc, All, Bool, true, false, List, [], ◌∷◌, length, slice_index_or, take, refl, sym, ap, subst, ◌∙◌, arith, true≢false}
use Rattle.std.proofs.lemmas.List.{length-take-le}
use Rattle.std.proofs.lemmas.List.Elements.{All-head, All-tail}
use Rattle.std.specs.Cmp.Lexicographic.{bytes_decides, pointwise}
use Rattle.std.specs.Prelude.{MatchResult, Result, Ok, Err, nat_eq, not}
use Rattle.std.specs.Result.{is_err}
use Rattle.vdcp_frame.specs.Message.{Content, ack, spelling}

pub are_bytes : (xs : List ℕ) → All (λ b. b < 256) xs → IsBytes xs
are_bytes [] h i = omega arith
are_bytes (x ∷ xs) h zero = All-head (λ b. b < 256) x xs h
are_bytes (x ∷ xs) h (suc i) = are_bytes xs (All-tail (λ b. b < 256) x xs h) i

-- what the decoder says of room for these bytes
abbrev pub Decodes : List ℕ → ℕ → Result (Unit {0}) FromHexError → List ℕ → Type 0
Decodes text n result new =
    MatchResult (decode_sized text n) (λ bytes. (result ≡ Ok tt) × (new ≡ bytes)) (λ e. result ≡ Err e)

pub read_back : (named text : List ℕ) (n : ℕ) (result : Result (Unit {0}) FromHexError) (new : List ℕ)
    → All (λ b. b < 256) named
    → length named ≡ n → encode_lower named ≡ text → Decodes text n result new → (result ≡ Ok tt) × (new ≡ named)
read_back named text n result new below size e h =
    subst (λ r. MatchResult r (λ bytes. (result ≡ Ok tt) × (new ≡ bytes)) (λ e. result ≡ Err e))
    (ap (λ t. decode_sized t n) (sym e) ∙ decode_sized-encode_lower named n size (are_bytes named below)) h

pub no_error : (result : Result (Unit {0}) FromHexError) → result ≡ Ok tt → is_err result ≡ true → ⊥
no_error result ok err = true≢false (sym err ∙ ap is_err ok)

-- the digits are two for each byte
pub half : (named text : List ℕ) → encode_lower named ≡ text → length text ≡ 2 * length named
half named text e = ap length (sym e) ∙ length-encode_with lower_digits named

pub room_for : (named text room : List ℕ) → encode_lower named ≡ text → length named ≤ length room
    → length named ≡ length (take (length text / 2) room)
room_for named text room e short =
    let h = half named text e in
    let halved : length text / 2 ≡ length named = omega (arith, h) in
    sym (length-take-le (length text / 2) room (omega (arith, halved, short)) ∙ halved)

-- texts that differ
pub differ : (a b : List ℕ) (r : Bool) → r ≡ true → r ≡ not (pointwise nat_eq a b) → a ≡ b → ⊥
differ a b r set is same = true≢false (sym set ∙ is ∙ ap not ((bytes_decides a b).1 same))

-- a message has a byte at least
pub spelt_some : (m : Content) → length (encode_lower (spelling m)) ≡ 0 → ⊥
unfolding encode_with
spelt_some ack e = absurd (omega (arith, e))
spelt_some other e = absurd (omega (arith, e))

was_true : (b : Bool) → not b ≡ false → b ≡ true
was_true true e = refl
was_true false e = cc e

-- texts that don't differ
pub same_unless : (a b : List ℕ) (r : Bool) → r ≡ false → r ≡ not (pointwise nat_eq a b) → a ≡ b
same_unless a b r off is = (bytes_decides a b).0 (was_true (pointwise nat_eq a b) (sym is ∙ off))

pub all_below : (xs : List ℕ) → ((i : ℕ) → slice_index_or xs i 0 < 256) → All (λ b. b < 256) xs
all_below [] h k d below = absurd (omega (arith, below))
all_below (x ∷ xs) h zero d below = h 0
all_below (x ∷ xs) h (suc k) d below = all_below xs (λ i. h (suc i)) k d (omega (arith, below))
