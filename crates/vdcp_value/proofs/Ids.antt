-- An ID is its eight bytes, and the ID of eight bytes has them.
use Rattle.std.proofs.Common.{ℕ, List, length, ◌≡◌, Bool, true, false, true≢false, refl, sym, ap, ◌∙◌, subst}
use Rattle.std.specs.Prelude.{IsTrue, ◌↔◌}
use Rattle.std.specs.Cmp.{IsEquivalence}
use Rattle.std.specs.Cmp.Lexicographic.{on_texts_equal, same_text}
use Rattle.vdcp_value.proofs.Bytes.{length_of_bytes}
use Rattle.vdcp_value.specs.Bytes.{AreBytes, are_bytes}
use Rattle.vdcp_value.specs.Ids.{id_bytes, id_if, id_of, is_same_id}
use Rattle.vdcp_value.specs.declared.clip_id.ClipId.{ClipId}
use mathlib.Core.Bool.{Bool-set}
use mathlib.Core.HLevel.{is_prop→PathP}

-- an ID has eight bytes
pub length_of_id : (id : ClipId) → length (id_bytes id) ≡ 8
length_of_id id = length_of_bytes 8 (id_bytes id) id.eight

-- IDs of equal bytes are one ID
pub same_id : (a b : ClipId) → id_bytes a ≡ id_bytes b → a ≡ b
same_id a b e =
    λ i. record {
      bytes = e i;
      eight = is_prop→PathP (λ j. are_bytes 8 (e j) ≡ true) (λ j. Bool-set (are_bytes 8 (e j)) true) a.eight b.eight i;
    }

-- IDs that `==` finds equal are one
pub equal_ids : (a b : ClipId) → is_same_id a b ≡ true → a ≡ b
equal_ids a b e = same_id a b (same_text (id_bytes a) (id_bytes b) (sym e))

same_ids : IsEquivalence is_same_id
same_ids = on_texts_equal id_bytes

pub told_ids : (a b : ClipId) → IsTrue (is_same_id a b) ↔ (a ≡ b)
told_ids a b = (equal_ids a b, λ e. subst (λ (id : ClipId). is_same_id a id ≡ true) e (same_ids.refl a))

-- the ID of an ID's bytes, and the bytes of the ID of eight bytes
id_if-is : (id : ClipId) (t : Bool) (bytes : List ℕ) (e : are_bytes 8 bytes ≡ t) → bytes ≡ id_bytes id →
    id_if t bytes e ≡ id
id_if-is id true bytes e same = same_id (record { bytes = bytes; eight = e }) id same
id_if-is id false bytes e same = absurd (true≢false (sym id.eight ∙ ap (are_bytes 8) (sym same) ∙ e))

pub id_of-bytes : (id : ClipId) → id_of (id_bytes id) ≡ id
id_of-bytes id = id_if-is id (are_bytes 8 (id_bytes id)) (id_bytes id) refl refl

id_if-bytes : (t : Bool) (bytes : List ℕ) (e : are_bytes 8 bytes ≡ t) → AreBytes 8 bytes →
    id_bytes (id_if t bytes e) ≡ bytes
id_if-bytes true bytes e eight = refl
id_if-bytes false bytes e eight = absurd (true≢false (sym eight ∙ e))

pub bytes-id_of : (bytes : List ℕ) → AreBytes 8 bytes → id_bytes (id_of bytes) ≡ bytes
bytes-id_of bytes eight = id_if-bytes (are_bytes 8 bytes) bytes refl eight
