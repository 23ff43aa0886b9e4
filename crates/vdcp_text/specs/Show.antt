-- What `show` prints of a burst.
use Rattle.std.specs.Prelude.{ℕ, Bool, ◌≡◌, ◌↔◌, IsOkAnd, IsTrue, List, Option}
use Rattle.std.specs.Io.KnownBytes.{Appends}
use Rattle.hex.specs.Hex.{decode_of}
use Rattle.vdcp_frame.specs.Message.{Content}
use Rattle.vdcp_frame.specs.Reading.{End, clean, Reads}
use Rattle.vdcp_text.specs.Text.{reading_text}

-- a writer that had the old bytes and has the new ones gained the text of the burst's reading, which has this end;
-- if meanings are asked for, each message with its own
pub record GainsReading (meanings : Bool) (burst : List ℕ) (old new : Option (List ℕ)) (end : End) : Type 0 where
  pub messages : List Content
  pub reads : Reads burst messages end
  pub gained : Appends old new (reading_text meanings messages end)

-- a writer gained the reading of the burst that these digits spell, which has a clean end or not
abbrev pub IsShown : Bool → List ℕ → Bool → Option (List ℕ) → Option (List ℕ) → Type 0
IsShown meanings digits is_good old new = IsOkAnd (decode_of digits)
    (λ burst. (end : End) × GainsReading meanings burst old new end × (IsTrue is_good ↔ (end ≡ clean)))
