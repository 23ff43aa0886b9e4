-- An ID's text is no other's, and a text that is refused is no ID's.
use Rattle.std.proofs.Common.{ℕ, List, ◌-◌, ◌≤◌, ◌≡◌, inl, inr, true, length, drop, arith, sym, ap, ◌∙◌, subst, true≢false, Ok, Err, Result, IfOk, IfErr}
use Rattle.std.specs.List.{list_all}
use Rattle.std.proofs.lemmas.List.Folds.{list_all_at}
use Rattle.vdcp_value.proofs.Bytes.{length_of_bytes}
use Rattle.vdcp_value.proofs.HexForm.{all_below_of, one_hex_form, hex_form_long, pairs_are_hex, length_of_pairs}
use Rattle.vdcp_value.proofs.IdText.{plain_parts, one_text, text_is_text}
use Rattle.vdcp_value.proofs.Ids.{same_id, length_of_id}
use Rattle.vdcp_value.specs.Bytes.{AreBytes}
use Rattle.vdcp_value.specs.IdText.{IsTextOf, IsPlainForm, HasPlain, IsIdFault, is_plain_byte, hex_form, is_hex_long, is_hex_digit}
use Rattle.vdcp_value.specs.Ids.{id_bytes, text_of_id}
use Rattle.vdcp_value.specs.declared.clip_id.ClipId.{ClipId}
use Rattle.vdcp_value.specs.declared.faults.IdFault.TheVariants.{Empty, TooLong, BadByte, EdgeSpace, BadHex, HasPlainForm}
use Rattle.vdcp_value.specs.declared.faults.IdFault.{IdFault}

-- how long the two forms are
short_form : (text bytes : List ℕ) → IsPlainForm text bytes → length text ≤ 8
short_form text bytes form = (plain_parts text form.0).short

long_form : (text bytes : List ℕ) → length bytes ≡ 8 → text ≡ hex_form bytes → length text ≡ 18
long_form text bytes eight e = ap length e ∙ omega (arith, length_of_pairs bytes)

long_length : (text : List ℕ) → is_hex_long text ≡ true → length text ≡ 18
long_length text e = grind (arith, e)

-- a text is of one list of eight bytes
pub one_bytes : (text x y : List ℕ) → AreBytes 8 x → AreBytes 8 y → IsTextOf text x → IsTextOf text y → x ≡ y
one_bytes text x y p q (inl a) (inl b) = sym a.1 ∙ b.1
one_bytes text x y p q (inl a) (inr b) =
    absurd (omega (arith, short_form text x a, long_form text y (length_of_bytes 8 y q) b.1))
one_bytes text x y p q (inr a) (inl b) =
    absurd (omega (arith, short_form text y b, long_form text x (length_of_bytes 8 x p) a.1))
one_bytes text x y p q (inr a) (inr b) = one_hex_form x y (all_below_of 8 x p) (all_below_of 8 y q) (sym a.1 ∙ b.1)

-- and so of one ID
pub one_id : (text : List ℕ) (a b : ClipId) → IsTextOf text (id_bytes a) → IsTextOf text (id_bytes b) → a ≡ b
one_id text a b p q = same_id a b (one_bytes text (id_bytes a) (id_bytes b) a.eight b.eight p q)

-- an ID's text, and no other one
pub text_of_id_is : (id : ClipId) → IsTextOf (text_of_id id) (id_bytes id)
text_of_id_is id = text_is_text (id_bytes id) (length_of_id id)

pub one_text_of_id : (text : List ℕ) (id : ClipId) → IsTextOf text (id_bytes id) → text ≡ text_of_id id
one_text_of_id text id h = one_text text (id_bytes id) (length_of_id id) h

-- a text that is refused is no ID's
plain_refused : (text bytes : List ℕ) (fault : IdFault) → IsIdFault text fault → IsPlainForm text bytes → ⊥
plain_refused text bytes Empty h form = omega (arith, ap length h, (plain_parts text form.0).some)
plain_refused text bytes TooLong h form = omega (arith, h.1, short_form text bytes form)
plain_refused text bytes (BadByte place) h form =
    true≢false
    (sym (plain_parts text form.0).bytes ∙ list_all_at is_plain_byte text (place - 1) 0 (omega (arith, h.1, h.2)) h.4)
plain_refused text bytes EdgeSpace h form = true≢false (sym h.3 ∙ (plain_parts text form.0).edges)
plain_refused text bytes BadHex h form = omega (arith, short_form text bytes form, long_length text h.0)
plain_refused text bytes HasPlainForm (other, b, e, h) form =
    omega (arith, short_form text bytes form, long_form text other (length_of_bytes 8 other b) e)

hex_refused : (text bytes : List ℕ) (fault : IdFault) → AreBytes 8 bytes → IsIdFault text fault → ¬ HasPlain bytes →
    text ≡ hex_form bytes → ⊥
hex_refused text bytes Empty b h none e = omega (arith, ap length h, long_form text bytes (length_of_bytes 8 bytes b) e)
hex_refused text bytes TooLong b h none e =
    true≢false (sym (hex_form_long bytes (length_of_bytes 8 bytes b)) ∙ ap is_hex_long (sym e) ∙ h.0)
hex_refused text bytes (BadByte place) b h none e =
    omega (arith, h.0, long_form text bytes (length_of_bytes 8 bytes b) e)
hex_refused text bytes EdgeSpace b h none e =
    omega (arith, h.1, long_form text bytes (length_of_bytes 8 bytes b) e)
hex_refused text bytes BadHex b h none e =
    true≢false (sym (pairs_are_hex bytes (all_below_of 8 bytes b))
    ∙ ap (λ t. list_all is_hex_digit (drop 2 t)) (sym e) ∙ h.1)
hex_refused text bytes HasPlainForm b (other, c, f, h) none e =
    let same : other ≡ bytes = one_hex_form other bytes (all_below_of 8 other c) (all_below_of 8 bytes b) (sym f ∙ e) in
    none (subst HasPlain same h)

pub not_both : (text bytes : List ℕ) (fault : IdFault) → AreBytes 8 bytes → IsIdFault text fault →
    IsTextOf text bytes → ⊥
not_both text bytes fault b h (inl form) = plain_refused text bytes fault h form
not_both text bytes fault b h (inr (none, e)) = hex_refused text bytes fault b h none e

-- a reading of a text that gives its ID or its fault
pub only_accepted : (text : List ℕ) (result : Result ClipId IdFault)
    → IfOk result (λ id. IsTextOf text (id_bytes id)) → IfErr result (IsIdFault text)
    → (id : ClipId) → IsTextOf text (id_bytes id) → result ≡ Ok id
only_accepted text (Ok read) h k id t = ap Ok (one_id text read id h t)
only_accepted text (Err fault) h k id t = absurd (not_both text (id_bytes id) fault id.eight k t)
