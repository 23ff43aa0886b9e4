-- What the rows of a capture say.
use Rattle.hex.specs.Hex.{decode_of}
use Rattle.std.specs.Prelude.{ℕ, ◌≡◌, ◌+◌, ⊤, List, [], ◌∷◌, ◌++◌, codes, map, Ok, Option, None, Some}
use Rattle.std.specs.Str.Lines.{lines}
use Rattle.vdcp_offline.specs.declared.judge.capture.Piece.{Piece}
use Rattle.vdcp_auto.specs.Captures.{captured_in}
use Rattle.vdcp_auto.specs.declared.burst.Way.{Way}
use Rattle.vdcp_auto.specs.declared.capture.Captured.{Captured}
use Rattle.vdcp_auto.specs.declared.capture.Captured.TheVariants.{Silence}
use Rattle.vdcp_text.specs.Text.{way_text}

-- a time, a way and a burst's digits
abbrev pub row_text : List ℕ → Way → List ℕ → List ℕ
row_text time way digits = time ++ 0x2C ∷ (way_text way ++ 0x2C ∷ digits)

-- what a burst says; one of no bytes stands for a silence
abbrev pub said_by : ℕ → Way → List ℕ → List Captured
said_by unit way [] = Silence ∷ []
said_by unit way (byte ∷ more) = captured_in unit way (byte ∷ more)

-- what a line says, of a port with this unit
pub data Says (unit : ℕ) (text : List ℕ) : List Captured → Type 0 where
  blank : text ≡ [] → Says unit text []
  row : (time : List ℕ) (way : Way) (digits burst : List ℕ) → text ≡ row_text time way digits
      → decode_of digits ≡ Ok burst → Says unit text (said_by unit way burst)

-- what was captured, with the number of its line
abbrev pub numbered : ℕ → List Captured → List Piece
numbered number said = map (λ c. record { line = number; captured = c }) said

-- lines say these pieces, one after another; the first one has this number
abbrev pub SayAll : ℕ → ℕ → List (List ℕ) → List Piece → Type 0
SayAll unit number [] pieces = pieces ≡ []
SayAll unit number (text ∷ more) pieces = (said : List Captured) × (rest : List Piece) × Says unit text said
    × SayAll unit (number + 1) more rest × (pieces ≡ numbered number said ++ rest)

-- the text is a capture of these pieces
abbrev pub IsCapture : ℕ → List ℕ → List Piece → Type 0
IsCapture unit text pieces = SayAll unit 1 (lines text) pieces

-- a file is, if its bytes are known
abbrev pub IsCaptureOf : ℕ → Option (List ℕ) → List Piece → Type 0
IsCaptureOf unit None pieces = ⊤
IsCaptureOf unit (Some text) pieces = IsCapture unit text pieces
