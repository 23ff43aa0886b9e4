-- What the laws of vdcp_value say of IDs, their texts and time codes: the lemmas of this crate take it from a body
-- that calls them.
use Rattle.std.specs.Prelude.{◌≡◌, ◌<◌, ◌↔◌, ℕ, List, length, All, IsTrue}
use Rattle.vdcp_value.specs.Bcd.{frames_in, is_time, label_of_bcd}
use Rattle.vdcp_value.specs.Bytes.{AreBytes}
use Rattle.vdcp_value.specs.IdText.{IsTextOf}
use Rattle.vdcp_value.specs.Ids.{id_bytes, id_of_text, text_of_id}
use Rattle.vdcp_value.specs.Timecodes.{bcd_of, frames_of, label_of, rate_of, text_of}
use Rattle.vdcp_value.specs.declared.clip_id.ClipId.{ClipId}
use Rattle.vdcp_value.specs.declared.rate.Rate.{Rate}
use Rattle.vdcp_value.specs.declared.timecode.Timecode.{Timecode}

pub record IdLaws : Type 0 where
  pub counted : (n : ℕ) (bytes : List ℕ) → AreBytes n bytes ↔ ((length bytes ≡ n) × All (λ byte. byte < 256) bytes)
  pub eight : (id : ClipId) → AreBytes 8 (id_bytes id)
  pub one : (a b : ClipId) → id_bytes a ≡ id_bytes b → a ≡ b

pub record TextLaws : Type 0 where
  pub some : (id : ClipId) → IsTextOf (text_of_id id) (id_bytes id)
  pub says : (id : ClipId) (text : List ℕ) → IsTextOf text (id_bytes id) → id_of_text text ≡ id

pub record TimeLaws : Type 0 where
  pub four : (timecode : Timecode) → AreBytes 4 (bcd_of timecode)
  pub lawful : (timecode : Timecode) → IsTrue (is_time (rate_of timecode) (bcd_of timecode))
  pub label : (timecode : Timecode) → label_of_bcd (bcd_of timecode) ≡ label_of timecode
  pub number : (timecode : Timecode) → frames_in (rate_of timecode) (bcd_of timecode) ≡ frames_of timecode
  pub of_bytes : (rate : Rate) (bytes : List ℕ) → AreBytes 4 bytes → IsTrue (is_time rate bytes)
      → (timecode : Timecode) × (rate_of timecode ≡ rate) × (bcd_of timecode ≡ bytes)

-- what texts say of IDs and of time codes
pub record FieldLaws : Type 0 where
  pub ids : TextLaws
  pub one_id : (a b : ClipId) → text_of_id a ≡ text_of_id b → a ≡ b
  pub times : TimeLaws
  pub one_time : (a b : Timecode) → rate_of a ≡ rate_of b → text_of a ≡ text_of b → a ≡ b
  pub eleven : (time : Timecode) → length (text_of time) ≡ 11
