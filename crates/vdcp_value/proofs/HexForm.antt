-- The hexadecimal form of some bytes is theirs alone.
use Rattle.std.proofs.Common.{ℕ, List, [], ◌∷◌, ◌*◌, ◌/◌, ◌%◌, ◌<◌, ◌≡◌, Bool, true, nat_eq, nat_lt, length, drop, get_or, arith, refl, sym, ap, ap₂, ◌∙◌}
use Rattle.std.specs.List.{flat_map, list_all}
use Rattle.vdcp_value.proofs.Bytes.{both_hold}
use Rattle.vdcp_value.specs.Bytes.{AreBytes}
use Rattle.vdcp_value.specs.IdText.{hex_digit, hex_pair, hex_form, is_hex_digit, is_hex_long}

-- each byte is below 256
abbrev pub all_below : List ℕ → Bool
all_below bytes = list_all (λ byte. nat_lt byte 256) bytes

pub all_below_of : (n : ℕ) (bytes : List ℕ) → AreBytes n bytes → all_below bytes ≡ true
all_below_of n bytes h = (both_hold (nat_eq (length bytes) n) (all_below bytes) h).1

pub below_is : (byte : ℕ) → nat_lt byte 256 ≡ true → byte < 256
below_is byte e = grind (arith, e)

-- a digit of a half is a digit, and no other half's
pub digit_is_hex : (n : ℕ) → n < 16 → is_hex_digit (hex_digit n) ≡ true
digit_is_hex n below = grind arith

one_half : (m n : ℕ) → m < 16 → n < 16 → hex_digit m ≡ hex_digit n → m ≡ n
one_half m n below below' e = grind (arith, e)

one_byte : (m n : ℕ) → m < 256 → n < 256 → hex_digit (m / 16) ≡ hex_digit (n / 16) →
    hex_digit (m % 16) ≡ hex_digit (n % 16) → m ≡ n
one_byte m n below below' high low =
    let h = one_half (m / 16) (n / 16) (omega arith) (omega arith) high in
    let l = one_half (m % 16) (n % 16) (omega arith) (omega arith) low in
    omega (arith, h, l)

pub length_of_pairs : (bytes : List ℕ) → length (flat_map hex_pair bytes) ≡ 2 * length bytes
length_of_pairs [] = refl
length_of_pairs (byte ∷ more) = omega (arith, length_of_pairs more)

pub pairs_are_hex : (bytes : List ℕ) → all_below bytes ≡ true → list_all is_hex_digit (flat_map hex_pair bytes) ≡ true
pairs_are_hex [] below = refl
pairs_are_hex (byte ∷ more) below =
    let h = both_hold (nat_lt byte 256) (all_below more) below in
    let small : byte < 256 = below_is byte h.0 in
    rw (digit_is_hex (byte / 16) (omega arith), digit_is_hex (byte % 16) (omega arith)) (pairs_are_hex more h.1)

one_pairs : (a b : List ℕ) → all_below a ≡ true → all_below b ≡ true → flat_map hex_pair a ≡ flat_map hex_pair b → a ≡ b
one_pairs [] [] p q e = refl
one_pairs [] (y ∷ ys) p q e = cc
one_pairs (x ∷ xs) [] p q e = cc
one_pairs (x ∷ xs) (y ∷ ys) p q e =
    let h = both_hold (nat_lt x 256) (all_below xs) p in
    let k = both_hold (nat_lt y 256) (all_below ys) q in
    let head : x ≡ y =
    one_byte x y (below_is x h.0) (below_is y k.0) (ap (λ t. get_or t 0 0) e) (ap (λ t. get_or t 1 0) e) in
    let tail : xs ≡ ys = one_pairs xs ys h.1 k.1 (ap (drop 2) e) in
    ap₂ (λ z zs. z ∷ zs) head tail

-- the other form is of one list of bytes
pub one_hex_form : (a b : List ℕ) → all_below a ≡ true → all_below b ≡ true → hex_form a ≡ hex_form b → a ≡ b
one_hex_form a b p q e = one_pairs a b p q (ap (drop 2) e)

pub hex_form_long : (bytes : List ℕ) → length bytes ≡ 8 → is_hex_long (hex_form bytes) ≡ true
hex_form_long bytes eight = grind (arith, eight, length_of_pairs bytes)

-- what the digits of eight bytes after 0x are
pub hex_read : (text bytes : List ℕ) → is_hex_long text ≡ true → flat_map hex_pair bytes ≡ drop 2 text →
    text ≡ hex_form bytes
hex_read (a ∷ b ∷ more) bytes long e =
    let first : a ≡ 48 = grind (arith, long) in
    let second : b ≡ 120 = grind (arith, long) in
    ap₂ (λ x y. x ∷ y ∷ more) first second ∙ ap (λ t. 48 ∷ 120 ∷ t) (sym e)
hex_read (a ∷ []) bytes long e = absurd (grind (arith, long))
hex_read [] bytes long e = absurd (grind (arith, long))
