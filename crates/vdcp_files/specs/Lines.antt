-- What is taken of a file's lines.
use Rattle.std.specs.Io.Buffered.{reader_remaining}
use Rattle.std.specs.Io.Iter.{lines_known_bytes}
use Rattle.std.specs.Prelude.{ℕ, ◌≡◌, ⊤, List, [], ◌∷◌, Option, None, Some, String, string_bytes}
use Rattle.std.specs.Str.Lines.{lines}
use Rattle.std.specs.declared.io.buffered.BufReader.{BufReader}
use Rattle.std.specs.declared.io.traits.Lines.{Lines}
use Rattle.vdcp_files.specs.declared.lines.Lined.{Lined}

-- what is left of a file, if its bytes are known
abbrev pub text_left : {R A B : Type 0} → (R → Option (List ℕ)) → Lines (BufReader (Lined R) A) B → Option (List ℕ)
text_left remaining lines = lines_known_bytes (reader_remaining (λ l. remaining l.reader)) lines

-- the first line was taken of a text, or it has none; of one that isn't known it says nothing
abbrev pub TakesLine : {A : Type 0} → Option (List ℕ) → Option (List ℕ) → Option (String A) → Type 0
TakesLine None left line = ⊤
TakesLine (Some text) left None = lines text ≡ []
TakesLine (Some text) left (Some line) =
    (rest : List ℕ) × (left ≡ Some rest) × (lines text ≡ string_bytes line ∷ lines rest)
