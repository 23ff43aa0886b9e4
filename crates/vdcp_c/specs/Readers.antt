-- What the struct of a reader stands for.
use Rattle.std.specs.Prelude.{ℕ, ℤ, ◌≡◌, ◌≤◌, ◌+◌, List, length, take}
use Rattle.vdcp_frame.specs.Front.{CanHold}
use Rattle.vdcp_frame.specs.Message.{IsWritable}
use Rattle.vdcp_frame.specs.Progress.{Progress, reading, failed}
use Rattle.vdcp_frame.specs.Reader.{Answer, message, more, wrong, Gives, fed}
use Rattle.vdcp_c.specs.Told.{Shows, code_of}
use Rattle.vdcp_c.specs.declared.message.vdcp_message.{vdcp_message}
use Rattle.vdcp_c.specs.declared.reader.vdcp_reader.{vdcp_reader}

-- the struct is a reader that is so far in a burst
abbrev pub IsAt : vdcp_reader → Progress → Type 0
IsAt r (reading taken held) =
    (r.taken ≡ taken) × (r.held ≤ 258) × (take r.held r.bytes ≡ held) × CanHold taken held
IsAt r failed = r.taken ≡ 65535

-- its numbers after a call that took n bytes more
abbrev pub IsMoved : ℕ → ℕ → ℕ → Answer → vdcp_reader → Type 0
IsMoved taken held n more r = (r.taken ≡ taken + n) × (r.held ≡ held + n)
IsMoved taken held n (message m) r = (r.taken ≡ taken + n) × (r.held ≡ 0)
IsMoved taken held n (wrong which place) r = r.taken ≡ 65535

-- a call that takes n bytes of a piece, gives this code and this message, and leaves this reader
pub record IsFed (p : Progress) (piece : List ℕ) (code : ℤ) (n : ℕ) (m : vdcp_message) (new : vdcp_reader) : Type 0 where
  pub answer : Answer
  pub gives : Gives p piece n answer
  pub within : n ≤ length piece
  pub is : code ≡ code_of answer
  pub shows : Shows m answer
  pub leaves : IsAt new (fed p piece n answer)

-- a message of the answer can be written
abbrev pub IsWritableAnswer : Answer → Type 0
IsWritableAnswer more = Unit {0}
IsWritableAnswer (message m) = IsWritable m
IsWritableAnswer (wrong which place) = place ≤ 4097
