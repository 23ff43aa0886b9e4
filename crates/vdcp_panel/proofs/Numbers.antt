-- What bytes write a number.
use Rattle.std.proofs.Common.{◌≡◌, ◌<◌, ◌^◌, ◌&&◌, ℕ, Bool, true, false, None, Some, List, refl, sym, ap, ◌∙◌}
use Rattle.std.proofs.lemmas.Bool.{and_from, and_parts, lt-ltb, ltb-true, not-false, true≢false}
use Rattle.std.proofs.lemmas.Fmt.{decimal_is_IsNumeral}
use Rattle.std.specs.Cmp.Lexicographic.{bytes_decides}
use Rattle.std.specs.Prelude.{bytes_eq, decimal, if◌then◌else◌, nat_lt, not}
use Rattle.std.specs.Str.Parse.{digits_value}
use Rattle.vdcp_panel.specs.Numbers.{number_in}

abbrev writes : List ℕ → ℕ → Bool
writes digits n = nat_lt n (2 ^ 64) && bytes_eq digits (decimal n)

writes_own : (digits : List ℕ) (n : ℕ) → n < 2 ^ 64 → decimal n ≡ digits → writes digits n ≡ true
writes_own digits n small is =
    and_from (nat_lt n (2 ^ 64)) (bytes_eq digits (decimal n)) (lt-ltb n (2 ^ 64) small)
    ((bytes_decides digits (decimal n)).1 (sym is))

pub reads_number : (digits : List ℕ) (n : ℕ) → n < 2 ^ 64 → decimal n ≡ digits → Some n ≡ number_in digits
reads_number digits n small is =
    let value : digits_value 10 digits ≡ n =
    ap (digits_value 10) (sym is) ∙ (decimal_is_IsNumeral n small).1 in
    sym (ap (λ m. if writes digits m then Some m else None) value
    ∙ ap (λ b. if b then Some n else None) (writes_own digits n small is))

no_number_if : (digits : List ℕ) (n : ℕ) (b : Bool) → writes digits n ≡ b
    → ((m : ℕ) → m < 2 ^ 64 → decimal m ≡ digits → ⊥) → None ≡ (if b then Some n else None)
no_number_if digits n true is none =
    let parts = and_parts (nat_lt n (2 ^ 64)) (bytes_eq digits (decimal n)) is in
    absurd (none n (ltb-true n (2 ^ 64) parts.0) (sym ((bytes_decides digits (decimal n)).0 parts.1)))
no_number_if digits n false is none = refl

pub reads_none : (digits : List ℕ) → ((m : ℕ) → m < 2 ^ 64 → decimal m ≡ digits → ⊥) → None ≡ number_in digits
reads_none digits none =
    no_number_if digits (digits_value 10 digits) (writes digits (digits_value 10 digits)) refl none

-- what a test whether texts differ has told
pub differ : (a b : List ℕ) (r : Bool) → r ≡ true → r ≡ not (bytes_eq a b) → a ≡ b → ⊥
differ a b r set is same = true≢false (sym set ∙ is ∙ ap not ((bytes_decides a b).1 same))

pub same_unless : (a b : List ℕ) (r : Bool) → r ≡ false → r ≡ not (bytes_eq a b) → a ≡ b
same_unless a b r off is = (bytes_decides a b).0 (not-false (bytes_eq a b) (sym is ∙ off))
