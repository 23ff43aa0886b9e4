-- What is seen of an ID: its bytes, its text and whether another is the same; the ID of eight bytes, and of a text.
use Rattle.std.specs.Cmp.Lexicographic.{pointwise}
use Rattle.std.specs.Prelude.{ℕ, ◌≡◌, Bool, true, false, nat_eq, List, [], ◌∷◌, refl}
use Rattle.vdcp_value.specs.Bytes.{are_bytes}
use Rattle.vdcp_value.specs.IdText.{bytes_of_text, text_of_bytes}
use Rattle.vdcp_value.specs.declared.clip_id.ClipId.{ClipId}

-- the eight bytes of an ID
abbrev pub id_bytes : ClipId → List ℕ
id_bytes id = id.bytes

-- the text of an ID
abbrev pub text_of_id : ClipId → List ℕ
text_of_id id = text_of_bytes (id_bytes id)

-- the IDs have the same bytes
abbrev pub is_same_id : ClipId → ClipId → Bool
is_same_id a b = pointwise nat_eq (id_bytes a) (id_bytes b)

-- the ID of eight zeros
abbrev pub zero_id : ClipId
zero_id = record { bytes = 0 ∷ 0 ∷ 0 ∷ 0 ∷ 0 ∷ 0 ∷ 0 ∷ 0 ∷ []; eight = refl }

abbrev pub id_if : (b : Bool) (bytes : List ℕ) → are_bytes 8 bytes ≡ b → ClipId
id_if true bytes e = record { bytes = bytes; eight = e }
id_if false bytes e = zero_id

-- the ID of eight bytes; of anything else the ID of eight zeros
abbrev pub id_of : List ℕ → ClipId
id_of bytes = id_if (are_bytes 8 bytes) bytes refl

-- the ID of a text, if it is the text of one
abbrev pub id_of_text : List ℕ → ClipId
id_of_text text = id_of (bytes_of_text text)
