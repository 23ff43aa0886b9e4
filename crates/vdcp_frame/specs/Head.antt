-- What stands at the front of some bytes.
use Rattle.std.specs.Prelude.{ℕ, zero, suc, ◌≡◌, ◌+◌, ◌/◌, ◌%◌, ◌<◌, ◌≤◌, ◌==◌, List, [], ◌∷◌, ◌++◌, length, take, sum, nat_lt, slice_index, if◌then◌else◌}
use Rattle.vdcp_frame.specs.declared.message.Fault.{Fault}
use Rattle.vdcp_frame.specs.declared.message.Fault.TheVariants.{BadStart, BadCount, BadSum}
use Rattle.vdcp_frame.specs.Message.{Content, ack, nak, framed, AreOctets, Spells}
use Rattle.vdcp_frame.specs.Reading.{HasNoFront, IsUnfinished, IsFirstWrong, fault_of}

-- what stands at the front of some bytes: part of a message, with how many bytes have to come before
-- more is known; the shortest front that begins no spelling; or a message with its length
pub data Head : Type 0 where
  part : (needs : ℕ) → Head
  wrong : (which : Fault) (size : ℕ) → Head
  found : (message : Content) (size : ℕ) → Head

-- the frame with n bytes of data, from its first data byte on
abbrev pub data_head : ℕ → ℕ → ℕ → List ℕ → Head
data_head n x code tail =
    if nat_lt n (length tail)
    then (if (x + code + sum (take n tail) + slice_index tail n) % 256 == 0
    then found (framed (x / 16) (x % 16) code (take n tail)) (n + 5)
    else wrong BadSum (n + 5))
    else part (n + 5)

-- the frame with n bytes of data, from CMD-1 on
abbrev pub body_head : ℕ → List ℕ → Head
body_head n [] = part (n + 5)
body_head n (x ∷ []) = part (n + 5)
body_head n (x ∷ code ∷ tail) = data_head n x code tail

-- a frame from its count on
abbrev pub frame_head : List ℕ → Head
frame_head [] = part 2
frame_head (zero ∷ body) = wrong (BadCount 0) 2
frame_head (suc zero ∷ body) = wrong (BadCount 1) 2
frame_head (suc (suc n) ∷ body) = body_head n body

abbrev pub nak_head : List ℕ → Head
nak_head [] = part 2
nak_head (byte ∷ bytes) = found (nak byte) 2

-- what stands at the front of the bytes
abbrev pub head_of : List ℕ → Head
head_of [] = part 1
head_of (start ∷ bytes) =
    if start == 4 then found ack 1
    else (if start == 5 then nak_head bytes
    else (if start == 2 then frame_head bytes
    else wrong BadStart 1))

-- how many bytes it is about
abbrev pub size_of : Head → ℕ
size_of (part needs) = needs
size_of (wrong which size) = size
size_of (found message size) = size

-- what each head means. As long as fewer bytes have come than are needed, whatever they are, they begin a
-- message and hold no whole one
pub record IsPart (bytes : List ℕ) (needs : ℕ) : Type 0 where
  pub short : length bytes < needs
  pub most : needs ≤ 258
  pub open_yet : (more : List ℕ) → AreOctets more → length (bytes ++ more) < needs → IsUnfinished (bytes ++ more)

pub record IsWrong (bytes : List ℕ) (which : Fault) (size : ℕ) : Type 0 where
  pub first : IsFirstWrong bytes size
  pub no_front : HasNoFront bytes
  pub fault_is : which ≡ fault_of (take size bytes)

pub record IsFound (bytes : List ℕ) (message : Content) (size : ℕ) : Type 0 where
  pub some : 0 < size
  pub within : size ≤ length bytes
  pub spelt : Spells message (take size bytes)

abbrev pub HeadIs : List ℕ → Head → Type 0
HeadIs bytes (part needs) = IsPart bytes needs
HeadIs bytes (wrong which size) = IsWrong bytes which size
HeadIs bytes (found message size) = IsFound bytes message size
