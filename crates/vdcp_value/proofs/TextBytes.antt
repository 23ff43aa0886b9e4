-- The bytes that the text of an ID stands for are the ID's.
use Rattle.std.proofs.Common.{◌≡◌, ℕ, ◌+◌, ◌*◌, ◌/◌, ◌%◌, ◌<◌, ◌≤◌, true, false, List, [], ◌∷◌, length, drop, inl, inr, refl, ap, ap₂, ◌∙◌, arith, nat_lt, if◌then◌else◌}
use Rattle.std.specs.List.{flat_map}
use Rattle.vdcp_value.proofs.Bytes.{length_of_bytes, both_hold}
use Rattle.vdcp_value.proofs.HexForm.{all_below, all_below_of, below_is, hex_form_long}
use Rattle.vdcp_value.proofs.IdText.{plain_parts}
use Rattle.vdcp_value.proofs.Ids.{id_of-bytes}
use Rattle.vdcp_value.specs.Bytes.{AreBytes}
use Rattle.vdcp_value.specs.IdText.{bytes_of_digits, bytes_of_text, digit_number, hex_digit, hex_pair, is_hex_long, padded, IsTextOf}
use Rattle.vdcp_value.specs.Ids.{id_bytes, id_of, id_of_text}
use Rattle.vdcp_value.specs.declared.clip_id.ClipId.{ClipId}

digit_number-hex_digit : (n : ℕ) → n < 16 → digit_number (hex_digit n) ≡ n
digit_number-hex_digit n below = grind arith

one_byte : (byte : ℕ) → byte < 256 → 16 * digit_number (hex_digit (byte / 16)) + digit_number (hex_digit (byte % 16))
    ≡ byte
one_byte byte below =
    let high = digit_number-hex_digit (byte / 16) (omega arith) in
    let low = digit_number-hex_digit (byte % 16) (omega arith) in
    rw (high, low) (omega arith)

bytes_of_digits-pairs : (bytes : List ℕ) → all_below bytes ≡ true → bytes_of_digits (flat_map hex_pair bytes) ≡ bytes
bytes_of_digits-pairs [] e = refl
bytes_of_digits-pairs (byte ∷ more) e =
    let h = both_hold (nat_lt byte 256) (all_below more) e in
    ap₂ (λ x xs. x ∷ xs) (one_byte byte (below_is byte h.0)) (bytes_of_digits-pairs more h.1)

not_hex : (text : List ℕ) → length text ≤ 8 → is_hex_long text ≡ false
not_hex text short = grind arith

bytes_of_text-is : (text bytes : List ℕ) → AreBytes 8 bytes → IsTextOf text bytes → bytes_of_text text ≡ bytes
bytes_of_text-is text bytes eight (inl h) =
    let short = (plain_parts text h.0).short in
    let no_hex : is_hex_long text ≡ false = not_hex text short in
    ap (λ b. if b then bytes_of_digits (drop 2 text) else padded text) no_hex ∙ h.1
bytes_of_text-is text bytes eight (inr h) =
    let hex : is_hex_long text ≡ true = ap is_hex_long h.1 ∙ hex_form_long bytes (length_of_bytes 8 bytes eight) in
    ap (λ b. if b then bytes_of_digits (drop 2 text) else padded text) hex
    ∙ ap (λ t. bytes_of_digits (drop 2 t)) h.1
    ∙ bytes_of_digits-pairs bytes (all_below_of 8 bytes eight)

-- so the text says the ID
pub text_says : (id : ClipId) (text : List ℕ) → IsTextOf text (id_bytes id) → id_of_text text ≡ id
text_says id text h = ap id_of (bytes_of_text-is text (id_bytes id) id.eight h) ∙ id_of-bytes id
