-- Four bytes and the label that they write.
use Rattle.std.proofs.Common.{ℕ, ◌<◌, ◌≡◌, ◌/◌, ◌%◌, Bool, true, false, not, arith, refl, nat_lt, sym, ap, ap₂, ◌∙◌, List, length, is_none, Option, None, Some, [], ◌∷◌, slice_index, if◌then◌else◌}
use Rattle.vdcp_value.proofs.Bytes.{length_of_bytes}
use Rattle.vdcp_value.proofs.Timecodes.{same_timecode}
use Rattle.vdcp_value.specs.Bytes.{AreBytes}
use Rattle.vdcp_value.specs.Bcd.{bcd_byte, bcd_value, is_bcd, bcd_of_label, label_of_bcd, bcd_fault, label_fault, is_time, frames_in}
use Rattle.vdcp_value.specs.LabelText.{has_two_digits}
use Rattle.vdcp_value.specs.Labels.{is_lawful}
use Rattle.vdcp_value.specs.Day.{frame_number}
use Rattle.vdcp_value.specs.Timecodes.{rate_of, label_of, bcd_of, frames_of}
use Rattle.vdcp_value.specs.declared.faults.TcFault.TheVariants.{NotBcd}
use Rattle.vdcp_value.specs.declared.faults.TcFault.{TcFault}
use Rattle.vdcp_value.specs.declared.label.Label.{Label}
use Rattle.vdcp_value.specs.declared.rate.Rate.TheVariants.{F24, F25, F30, D30}
use Rattle.vdcp_value.specs.declared.rate.Rate.{Rate}
use Rattle.vdcp_value.specs.declared.timecode.Timecode.{Timecode}

-- each field of a lawful label has two digits
pub lawful_two_digits : (rate : Rate) (label : Label) → is_lawful rate label ≡ true → has_two_digits label ≡ true
lawful_two_digits F24 label e = grind (arith, e)
lawful_two_digits F25 label e = grind (arith, e)
lawful_two_digits F30 label e = grind (arith, e)
lawful_two_digits D30 label e = grind (arith, e)

value_of_byte : (n : ℕ) → n < 100 → bcd_value (bcd_byte n) ≡ n
value_of_byte n below = omega arith

-- a label of two-digit fields is read back from its bytes
pub label_read_back : (label : Label) → has_two_digits label ≡ true → label_of_bcd (bcd_of_label label) ≡ label
label_read_back label e =
    let h : label.hours < 100 = grind (arith, e) in
    let m : label.minutes < 100 = grind (arith, e) in
    let s : label.seconds < 100 = grind (arith, e) in
    let f : label.frames < 100 = grind (arith, e) in
    λ i. record {
      hours = value_of_byte label.hours h i;
      minutes = value_of_byte label.minutes m i;
      seconds = value_of_byte label.seconds s i;
      frames = value_of_byte label.frames f i;
    }

-- and so is a time code's
pub label_of_own_bcd : (timecode : Timecode) → label_of_bcd (bcd_of timecode) ≡ label_of timecode
label_of_own_bcd timecode =
    label_read_back (label_of timecode) (lawful_two_digits (rate_of timecode) (label_of timecode) timecode.lawful)

-- time codes of one rate and the same bytes are one time code
pub one_bcd : (a b : Timecode) → rate_of a ≡ rate_of b → bcd_of a ≡ bcd_of b → a ≡ b
one_bcd a b r e = same_timecode a b r (sym (label_of_own_bcd a) ∙ ap label_of_bcd e ∙ label_of_own_bcd b)

-- the frame number that a time code's bytes say is its own
pub frames_in_own : (timecode : Timecode) → frames_in (rate_of timecode) (bcd_of timecode) ≡ frames_of timecode
frames_in_own timecode = ap (frame_number (rate_of timecode)) (label_of_own_bcd timecode)

byte_is_bcd : (n : ℕ) → n < 100 → is_bcd (bcd_byte n) ≡ true
byte_is_bcd n below = grind arith

-- four bytes of digits have the fault of their label
digits_fault : (rate : Rate) (a b c d : ℕ) → is_bcd a ≡ true → is_bcd b ≡ true → is_bcd c ≡ true → is_bcd d ≡ true
    → bcd_fault rate (a ∷ b ∷ c ∷ d ∷ []) ≡ label_fault rate (label_of_bcd (a ∷ b ∷ c ∷ d ∷ []))
digits_fault rate a b c d p q r s = rw (p, q, r, s) refl

-- a lawful label has no fault
pub no_fault : (rate : Rate) (label : Label) → is_lawful rate label ≡ true → label_fault rate label ≡ None
no_fault F24 label e = grind (arith, e)
no_fault F25 label e = grind (arith, e)
no_fault F30 label e = grind (arith, e)
no_fault D30 label e = grind (arith, e)

-- and one without a fault is lawful
pub lawful_without : (rate : Rate) (label : Label) → label_fault rate label ≡ None → is_lawful rate label ≡ true
lawful_without F24 label e = grind (arith, e)
lawful_without F25 label e = grind (arith, e)
lawful_without F30 label e = grind (arith, e)
lawful_without D30 label e = grind (arith, e)

-- a time code's bytes have no fault
pub own_bcd : (timecode : Timecode) → bcd_fault (rate_of timecode) (bcd_of timecode) ≡ None
own_bcd timecode =
    let e = lawful_two_digits (rate_of timecode) (label_of timecode) timecode.lawful in
    let label = label_of timecode in
    let h : label.hours < 100 = grind (arith, e) in
    let m : label.minutes < 100 = grind (arith, e) in
    let s : label.seconds < 100 = grind (arith, e) in
    let f : label.frames < 100 = grind (arith, e) in
    digits_fault (rate_of timecode) (bcd_byte label.frames) (bcd_byte label.seconds) (bcd_byte label.minutes)
    (bcd_byte label.hours)
    (byte_is_bcd label.frames f) (byte_is_bcd label.seconds s) (byte_is_bcd label.minutes m) (byte_is_bcd label.hours h)
    ∙ ap (label_fault (rate_of timecode)) (label_of_own_bcd timecode)
    ∙ no_fault (rate_of timecode) (label_of timecode) timecode.lawful

-- so they are the bytes of a lawful label
pub own_is_time : (timecode : Timecode) → is_time (rate_of timecode) (bcd_of timecode) ≡ true
own_is_time timecode = ap is_none (own_bcd timecode)

-- what is known of bytes that were read as a time code
pub read_is_time : (rate : Rate) (bytes : List ℕ) (timecode : Timecode) → rate_of timecode ≡ rate →
    bcd_of timecode ≡ bytes
    → is_time rate bytes ≡ true
read_is_time rate bytes timecode r b = ap₂ is_time (sym r) (sym b) ∙ own_is_time timecode

pub read_frames : (rate : Rate) (bytes : List ℕ) (timecode : Timecode) → rate_of timecode ≡ rate →
    bcd_of timecode ≡ bytes
    → frames_in rate bytes ≡ frames_of timecode
read_frames rate bytes timecode r b = ap₂ frames_in (sym r) (sym b) ∙ frames_in_own timecode

byte_of : (n : ℕ) → n < 100 → nat_lt (bcd_byte n) 256 ≡ true
byte_of n below = grind arith

-- and they are four bytes
pub own_bytes : (timecode : Timecode) → AreBytes 4 (bcd_of timecode)
own_bytes timecode =
    let e = lawful_two_digits (rate_of timecode) (label_of timecode) timecode.lawful in
    let label = label_of timecode in
    let h : label.hours < 100 = grind (arith, e) in
    let m : label.minutes < 100 = grind (arith, e) in
    let s : label.seconds < 100 = grind (arith, e) in
    let f : label.frames < 100 = grind (arith, e) in
    rw (byte_of label.frames f, byte_of label.seconds s, byte_of label.minutes m, byte_of label.hours h) refl

-- ---- lawful bytes

-- what is known of bytes without a fault
pub record Unfaulted (rate : Rate) (bytes : List ℕ) : Type 0 where
  pub frames : is_bcd (slice_index bytes 0) ≡ true
  pub seconds : is_bcd (slice_index bytes 1) ≡ true
  pub minutes : is_bcd (slice_index bytes 2) ≡ true
  pub hours : is_bcd (slice_index bytes 3) ≡ true
  pub label : label_fault rate (label_of_bcd bytes) ≡ None

none_of : (a b c d : Bool) (v w x y : TcFault) (fault : Option TcFault)
    → is_none (if not a then Some v else if not b then Some w else
    if not c then Some x else if not d then Some y else fault) ≡ true
    → (a ≡ true) × (b ≡ true) × (c ≡ true) × (d ≡ true) × (fault ≡ None)
none_of true true true true v w x y None e = (refl, refl, refl, refl, refl)
none_of true true true true v w x y (Some fault) e = cc e
none_of true true true false v w x y fault e = cc e
none_of true true false d v w x y fault e = cc e
none_of true false c d v w x y fault e = cc e
none_of false b c d v w x y fault e = cc e

unfaulted : (rate : Rate) (bytes : List ℕ) → is_time rate bytes ≡ true → Unfaulted rate bytes
unfaulted rate bytes e =
    let h = none_of (is_bcd (slice_index bytes 0)) (is_bcd (slice_index bytes 1)) (is_bcd (slice_index bytes 2))
    (is_bcd (slice_index bytes 3))
    (NotBcd 1) (NotBcd 2) (NotBcd 3) (NotBcd 4) (label_fault rate (label_of_bcd bytes)) e in
    record { frames = h.0; seconds = h.1; minutes = h.2; hours = h.3; label = h.4 }

-- bytes that are lawful say a lawful label
pub lawful_is_time : (rate : Rate) (bytes : List ℕ) → is_time rate bytes ≡ true → is_lawful rate (label_of_bcd bytes)
    ≡ true
lawful_is_time rate bytes e = lawful_without rate (label_of_bcd bytes) (unfaulted rate bytes e).label

byte_of_value : (byte : ℕ) → is_bcd byte ≡ true → bcd_byte (bcd_value byte) ≡ byte
byte_of_value byte e =
    let tens : byte / 16 < 10 = grind (arith, e) in
    let units : byte % 16 < 10 = grind (arith, e) in
    omega (arith, tens, units)

-- bytes of two digits each are those of the label that they write
bytes_read_back : (rate : Rate) (bytes : List ℕ) → length bytes ≡ 4 → Unfaulted rate bytes →
    bcd_of_label (label_of_bcd bytes) ≡ bytes
bytes_read_back rate (f ∷ s ∷ m ∷ h ∷ []) four u =
    rw (byte_of_value f u.frames, byte_of_value s u.seconds, byte_of_value m u.minutes, byte_of_value h u.hours) refl
bytes_read_back rate bytes four u = absurd (omega arith)

-- four lawful bytes are a time code's
pub time_code_of : (rate : Rate) (bytes : List ℕ) → AreBytes 4 bytes → is_time rate bytes ≡ true
    → (timecode : Timecode) × (rate_of timecode ≡ rate) × (bcd_of timecode ≡ bytes)
time_code_of rate bytes four e =
    let u = unfaulted rate bytes e in (
      record { rate = rate; label = label_of_bcd bytes; lawful = lawful_is_time rate bytes e },
      refl,
      bytes_read_back rate bytes (length_of_bytes 4 bytes four) u,
    )
