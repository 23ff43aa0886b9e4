-- A message, and the bytes that spell it.
use Rattle.std.specs.Prelude.{ℕ, ◌≡◌, ◌+◌, ◌*◌, ◌%◌, ◌-◌, ◌<◌, ◌≤◌, List, [], ◌∷◌, ◌++◌, length, sum, All}
use Rattle.vdcp_frame.specs.declared.message.Message.{Message}
use Rattle.vdcp_frame.specs.declared.message.Message.TheVariants.{Ack, Nak, Framed}

-- a message, without where its data lies in memory
pub data Content : Type 0 where
  ack : Content
  nak : (byte : ℕ) → Content
  framed : (kind unit code : ℕ) (rest : List ℕ) → Content

abbrev pub content_of : Message → Content
content_of Ack = ack
content_of (Nak byte) = nak byte
content_of (Framed kind unit code rest) = framed kind unit code rest.now

abbrev pub AreOctets : List ℕ → Type 0
AreOctets bytes = All (λ b. b < 256) bytes

-- what a message may hold: numbers that fit, and at most 253 bytes of data
pub record FitsFrame (kind unit code : ℕ) (rest : List ℕ) : Type 0 where
  pub kind_fits : kind < 16
  pub unit_fits : unit < 16
  pub code_fits : code < 256
  pub rest_fits : AreOctets rest
  pub rest_size : length rest ≤ 253

abbrev pub Fits : Content → Type 0
Fits ack = Unit {0}
Fits (nak byte) = byte < 256
Fits (framed kind unit code rest) = FitsFrame kind unit code rest

-- STX, the count of the bytes from CMD-1 to the last of the data, CMD-1, CMD-2, the data and the
-- checksum: a byte with which all from CMD-1 on add up to 0 modulo 256
pub record SpellsFrame (kind unit code : ℕ) (rest bytes : List ℕ) : Type 0 where
  pub fits : FitsFrame kind unit code rest
  pub check : ℕ
  pub byte : check < 256
  pub adds_up : (16 * kind + unit + code + sum rest + check) % 256 ≡ 0
  pub spelt : bytes ≡ 2 ∷ (length rest + 2) ∷ (16 * kind + unit) ∷ code ∷ (rest ++ check ∷ [])

-- the bytes are the message's spelling
abbrev pub Spells : Content → List ℕ → Type 0
Spells ack bytes = bytes ≡ 4 ∷ []
Spells (nak byte) bytes = (byte < 256) × (bytes ≡ 5 ∷ byte ∷ [])
Spells (framed kind unit code rest) bytes = SpellsFrame kind unit code rest bytes

-- the byte that brings a sum to 0 modulo 256
abbrev pub check_byte : ℕ → ℕ
check_byte total = (256 - total % 256) % 256

-- a frame with these bytes CMD-1 and CMD-2 and this data
abbrev pub frame_spelling : ℕ → ℕ → List ℕ → List ℕ
frame_spelling address code rest =
    2 ∷ (length rest + 2) ∷ address ∷ code ∷ (rest ++ check_byte (address + code + sum rest) ∷ [])

-- the one list that spells a message which fits
abbrev pub spelling : Content → List ℕ
spelling ack = 4 ∷ []
spelling (nak byte) = 5 ∷ byte ∷ []
spelling (framed kind unit code rest) = frame_spelling (16 * kind + unit) code rest

-- what a caller sees to, since the types say the rest: a type and a unit of four bits, and at most 253 bytes of data
abbrev pub IsWritable : Content → Type 0
IsWritable ack = Unit {0}
IsWritable (nak byte) = Unit {0}
IsWritable (framed kind unit code rest) = (kind < 16) × (unit < 16) × (length rest ≤ 253)
