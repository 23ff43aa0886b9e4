-- Bytes and IDs: how many they are, and that each is below 256.
use Rattle.std.proofs.Common.{◌≡◌, ◌<◌, ℕ, List, length, All}
use Rattle.vdcp_value.specs.Bytes.{AreBytes}
use Rattle.vdcp_value.specs.Ids.{id_bytes}
use Rattle.vdcp_value.specs.declared.clip_id.ClipId.{ClipId}
use Rattle.vdcp_words.specs.LawsBelow.{ValueLaws}

pub length_of_bytes : ValueLaws → (n : ℕ) (bytes : List ℕ) → AreBytes n bytes → length bytes ≡ n
length_of_bytes v n bytes are = ((v.counted n bytes).0 are).0

pub bytes_below : ValueLaws → (n : ℕ) (bytes : List ℕ) → AreBytes n bytes → All (λ byte. byte < 256) bytes
bytes_below v n bytes are = ((v.counted n bytes).0 are).1

pub length_of_id : ValueLaws → (id : ClipId) → length (id_bytes id) ≡ 8
length_of_id v id = length_of_bytes v 8 (id_bytes id) (v.eight id)

pub id_below : ValueLaws → (id : ClipId) → All (λ byte. byte < 256) (id_bytes id)
id_below v id = bytes_below v 8 (id_bytes id) (v.eight id)
