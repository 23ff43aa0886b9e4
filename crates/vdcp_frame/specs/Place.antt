-- Where a streaming reader is, with the buffer that has the bytes held.
use Rattle.std.specs.Prelude.{ℕ, ◌+◌, ◌≤◌, List, length, take}
use Rattle.vdcp_frame.specs.declared.reader.Place.{Place}
use Rattle.vdcp_frame.specs.declared.reader.Place.TheVariants as place
use Rattle.vdcp_frame.specs.Front.{CanHold}
use Rattle.vdcp_frame.specs.Progress.{Progress, reading, failed}
use Rattle.vdcp_frame.specs.Reader.{Answer, message, more, wrong}

abbrev pub progress_at : Place → List ℕ → Progress
progress_at (place.Reading taken held) buffer = reading taken (take held buffer)
progress_at place.Failed buffer = failed

-- the bytes held are in the buffer
pub record Holds (taken held : ℕ) (buffer : List ℕ) : Type 0 where
  pub within : held ≤ length buffer
  pub can : CanHold taken (take held buffer)

abbrev pub IsPlace : Place → List ℕ → Type 0
IsPlace (place.Reading taken held) buffer = Holds taken held buffer
IsPlace place.Failed buffer = Unit {0}

-- the place after a call that took n bytes and gave this
abbrev pub place_after : ℕ → ℕ → ℕ → Answer → Place
place_after taken held n (message m) = place.Reading (taken + n) 0
place_after taken held n more = place.Reading (taken + n) (held + n)
place_after taken held n (wrong which at) = place.Failed
