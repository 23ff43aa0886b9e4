-- A label in four packed bytes, the first fault of such bytes, and the frame number that they say.
use Rattle.std.specs.Prelude.{ℕ, ◌+◌, ◌*◌, ◌/◌, ◌%◌, Bool, ◌&&◌, not, nat_lt, List, [], ◌∷◌, Option, Some, None, is_none, slice_index, if◌then◌else◌}
use Rattle.vdcp_value.specs.Day.{frame_number}
use Rattle.vdcp_value.specs.Labels.{frames_per_second, is_dropped}
use Rattle.vdcp_value.specs.declared.faults.Field.TheVariants.{Frames, Seconds, Minutes, Hours}
use Rattle.vdcp_value.specs.declared.faults.TcFault.TheVariants.{NotBcd, OutOfRange, Dropped}
use Rattle.vdcp_value.specs.declared.faults.TcFault.{TcFault}
use Rattle.vdcp_value.specs.declared.label.Label.{Label}
use Rattle.vdcp_value.specs.declared.rate.Rate.{Rate}

-- a byte of two decimal digits: the tens in its upper half, the units in its lower one
abbrev pub is_bcd : ℕ → Bool
is_bcd byte = nat_lt (byte / 16) 10 && nat_lt (byte % 16) 10

abbrev pub bcd_value : ℕ → ℕ
bcd_value byte = 10 * (byte / 16) + byte % 16

abbrev pub bcd_byte : ℕ → ℕ
bcd_byte n = 16 * (n / 10) + n % 10

-- a label in bytes: frames, seconds, minutes, hours
abbrev pub bcd_of_label : Label → List ℕ
bcd_of_label label =
    bcd_byte label.frames ∷ bcd_byte label.seconds ∷ bcd_byte label.minutes ∷ bcd_byte label.hours ∷ []

abbrev pub label_of_bcd : List ℕ → Label
label_of_bcd bytes = record {
  hours = bcd_value (slice_index bytes 3);
  minutes = bcd_value (slice_index bytes 2);
  seconds = bcd_value (slice_index bytes 1);
  frames = bcd_value (slice_index bytes 0);
}

-- the first fault of a label at a rate, if it has one
abbrev pub label_fault : Rate → Label → Option TcFault
label_fault rate label =
    if not (nat_lt label.frames (frames_per_second rate)) then Some (OutOfRange Frames)
    else if not (nat_lt label.seconds 60) then Some (OutOfRange Seconds)
    else if not (nat_lt label.minutes 60) then Some (OutOfRange Minutes)
    else if not (nat_lt label.hours 24) then Some (OutOfRange Hours)
    else if is_dropped rate label then Some Dropped
    else None

-- the first fault of four bytes at a rate, if they have one: places count from 1
abbrev pub bcd_fault : Rate → List ℕ → Option TcFault
bcd_fault rate bytes =
    if not (is_bcd (slice_index bytes 0)) then Some (NotBcd 1)
    else if not (is_bcd (slice_index bytes 1)) then Some (NotBcd 2)
    else if not (is_bcd (slice_index bytes 2)) then Some (NotBcd 3)
    else if not (is_bcd (slice_index bytes 3)) then Some (NotBcd 4)
    else label_fault rate (label_of_bcd bytes)

-- the bytes are those of a lawful label
abbrev pub is_time : Rate → List ℕ → Bool
is_time rate bytes = is_none (bcd_fault rate bytes)

-- the frame number of the label that four bytes write
abbrev pub frames_in : Rate → List ℕ → ℕ
frames_in rate bytes = frame_number rate (label_of_bcd bytes)
