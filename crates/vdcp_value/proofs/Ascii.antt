-- The texts of IDs and time codes are ASCII, and how long they are.
use Rattle.std.proofs.Common.{ℕ, zero, suc, List, [], ◌∷◌, ◌++◌, ◌+◌, ◌/◌, ◌%◌, ◌<◌, ◌≤◌, ◌≡◌, true, length, arith, refl, sym, ap, subst, inl, inr, if◌then◌else◌, nat_lt, lit<}
use Rattle.std.specs.List.{flat_map, list_all}
use Rattle.std.specs.Str.{IsAscii}
use Rattle.vdcp_value.proofs.Bytes.{both_hold}
use Rattle.vdcp_value.proofs.Day.{both_ways}
use Rattle.vdcp_value.proofs.HexForm.{all_below_of, below_is, length_of_pairs, all_below}
use Rattle.vdcp_value.proofs.IdText.{plain_parts}
use Rattle.vdcp_value.proofs.Ids.{length_of_id}
use Rattle.vdcp_value.specs.IdText.{hex_digit, hex_form, hex_pair, is_plain, is_plain_byte, text_of_bytes, without_end_spaces}
use Rattle.vdcp_value.specs.Ids.{id_bytes, text_of_id}
use Rattle.vdcp_value.specs.LabelText.{two_digits, frames_mark}
use Rattle.vdcp_value.specs.Timecodes.{rate_of, label_of, text_of}
use Rattle.vdcp_value.proofs.Bcd.{lawful_two_digits}
use Rattle.vdcp_value.specs.declared.clip_id.ClipId.{ClipId}
use Rattle.vdcp_value.specs.declared.rate.Rate.TheVariants.{F24, F25, F30, D30}
use Rattle.vdcp_value.specs.declared.rate.Rate.{Rate}
use Rattle.vdcp_value.specs.declared.timecode.Timecode.{Timecode}

nil_ascii : IsAscii []
nil_ascii i = omega arith

pub cons_ascii : (x : ℕ) (xs : List ℕ) → x < 128 → IsAscii xs → IsAscii (x ∷ xs)
cons_ascii x xs small more zero = small
cons_ascii x xs small more (suc i) = more i

plain_ascii : (xs : List ℕ) → list_all is_plain_byte xs ≡ true → IsAscii xs
plain_ascii [] e = nil_ascii
plain_ascii (x ∷ xs) e =
    let h = both_hold (is_plain_byte x) (list_all is_plain_byte xs) e in
    cons_ascii x xs (small x h.0) (plain_ascii xs h.1)
  where
    small : (x : ℕ) → is_plain_byte x ≡ true → x < 128
    small x e = grind (arith, e)

digit_small : (n : ℕ) → n < 16 → hex_digit n < 128
digit_small n below = grind arith

pairs_ascii : (bytes : List ℕ) → all_below bytes ≡ true → IsAscii (flat_map hex_pair bytes)
pairs_ascii [] e = nil_ascii
pairs_ascii (byte ∷ more) e =
    let h = both_hold (nat_lt byte 256) (all_below more) e in
    let small : byte < 256 = below_is byte h.0 in
    cons_ascii (hex_digit (byte / 16)) (hex_digit (byte % 16) ∷ flat_map hex_pair more)
    (digit_small (byte / 16) (omega arith))
    (cons_ascii (hex_digit (byte % 16)) (flat_map hex_pair more) (digit_small (byte % 16) (omega arith))
    (pairs_ascii more h.1))

hex_form_ascii : (bytes : List ℕ) → all_below bytes ≡ true → IsAscii (hex_form bytes)
hex_form_ascii bytes e =
    cons_ascii 48 (120 ∷ flat_map hex_pair bytes) (lit< tt)
    (cons_ascii 120 (flat_map hex_pair bytes) (lit< tt) (pairs_ascii bytes e))

-- the text of an ID is ASCII, of 1 to 18 bytes
pub id_text_ascii : (id : ClipId) → IsAscii (text_of_id id)
id_text_ascii id =
    let bytes = id_bytes id in
    elim (both_ways (is_plain (without_end_spaces bytes))) [
      | inl e ↦
          let same : without_end_spaces bytes ≡ text_of_bytes bytes =
          ap (λ b. if b then without_end_spaces bytes else hex_form bytes) (sym e) in
          subst IsAscii same (plain_ascii (without_end_spaces bytes) (plain_parts (without_end_spaces bytes) e).bytes)
      | inr e ↦
          let same : hex_form bytes ≡ text_of_bytes bytes =
          ap (λ b. if b then without_end_spaces bytes else hex_form bytes) (sym e) in
          subst IsAscii same (hex_form_ascii bytes (all_below_of 8 bytes id.eight))
    ]

pub id_text_long : (id : ClipId) → (1 ≤ length (text_of_id id)) × (length (text_of_id id) ≤ 18)
id_text_long id =
    let bytes = id_bytes id in
    elim (both_ways (is_plain (without_end_spaces bytes))) [
      | inl e ↦
          let same : length (without_end_spaces bytes) ≡ length (text_of_bytes bytes) =
          ap (λ b. length (if b then without_end_spaces bytes else hex_form bytes)) (sym e) in
          let parts = plain_parts (without_end_spaces bytes) e in
          (omega (arith, same, parts.some), omega (arith, same, parts.short))
      | inr e ↦
          let same : length (hex_form bytes) ≡ length (text_of_bytes bytes) =
          ap (λ b. length (if b then without_end_spaces bytes else hex_form bytes)) (sym e) in
          let eighteen : length (hex_form bytes) ≡ 18 = omega (arith, length_of_pairs bytes, length_of_id id) in
          (omega (arith, same, eighteen), omega (arith, same, eighteen))
    ]

mark_small : (rate : Rate) → frames_mark rate < 128
mark_small F24 = lit< tt
mark_small F25 = lit< tt
mark_small F30 = lit< tt
mark_small D30 = lit< tt

digits_ascii : (n : ℕ) (xs : List ℕ) → n < 100 → IsAscii xs → IsAscii (two_digits n ++ xs)
digits_ascii n xs below more =
    cons_ascii (48 + n / 10) ((48 + n % 10) ∷ xs) (omega arith) (cons_ascii (48 + n % 10) xs (omega arith) more)

-- the text of a time code is ASCII, of eleven bytes
pub timecode_text_ascii : (timecode : Timecode) → IsAscii (text_of timecode)
timecode_text_ascii timecode =
    let e = lawful_two_digits (rate_of timecode) (label_of timecode) timecode.lawful in
    let label = label_of timecode in
    let frames = frames_mark (rate_of timecode) ∷ two_digits label.frames in
    let seconds = two_digits label.seconds ++ frames in
    let minutes = two_digits label.minutes ++ 58 ∷ seconds in
    digits_ascii label.hours (58 ∷ minutes) (grind (arith, e))
    (cons_ascii 58 minutes (lit< tt)
    (digits_ascii label.minutes (58 ∷ seconds) (grind (arith, e))
    (cons_ascii 58 seconds (lit< tt)
    (digits_ascii label.seconds frames (grind (arith, e))
    (cons_ascii (frames_mark (rate_of timecode)) (two_digits label.frames) (mark_small (rate_of timecode))
    (digits_ascii label.frames [] (grind (arith, e)) nil_ascii))))))

pub timecode_text_long : (timecode : Timecode) → length (text_of timecode) ≡ 11
timecode_text_long timecode = refl
