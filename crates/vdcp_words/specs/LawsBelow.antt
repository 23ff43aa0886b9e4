-- What the laws of the crates below say, in one word each: the lemmas of this crate take it from a body that calls them.
use Rattle.std.specs.Prelude.{◌≡◌, ◌<◌, ◌≤◌, ◌↔◌, ℕ, List, ◌++◌, length, All}
use Rattle.vdcp_frame.specs.Message.{Content, Fits, Spells, spelling}
use Rattle.vdcp_frame.specs.Reading.{End, Reads, SpellsAll, clean}
use Rattle.vdcp_value.specs.Bytes.{AreBytes}
use Rattle.vdcp_value.specs.Ids.{id_bytes, id_of}
use Rattle.vdcp_value.specs.declared.clip_id.ClipId.{ClipId}

-- of bytes and IDs
pub record ValueLaws : Type 0 where
  pub counted : (n : ℕ) (bytes : List ℕ) → AreBytes n bytes ↔ ((length bytes ≡ n) × All (λ byte. byte < 256) bytes)
  pub eight : (id : ClipId) → AreBytes 8 (id_bytes id)
  pub one : (a b : ClipId) → id_bytes a ≡ id_bytes b → a ≡ b
  pub of_bytes : (bytes : List ℕ) → AreBytes 8 bytes → id_bytes (id_of bytes) ≡ bytes

-- of readings
pub record FrameLaws : Type 0 where
  pub spelt : (m : Content) → Fits m → Spells m (spelling m)
  pub only : (burst : List ℕ) (ms ns : List Content) (e f : End) → Reads burst ms e → Reads burst ns f →
      (ms ≡ ns) × (e ≡ f)
  pub first : (ms ns : List Content) (bytes more : List ℕ) (end : End) → SpellsAll ms bytes → length bytes ≤ 4096
      → Reads (bytes ++ more) ns end → (others : List Content) × (ns ≡ ms ++ others)
  pub alone : (ms : List Content) (bytes : List ℕ) → SpellsAll ms bytes → length bytes ≤ 4096 → Reads bytes ms clean
