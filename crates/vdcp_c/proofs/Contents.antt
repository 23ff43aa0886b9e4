-- A message that can be written, and its bytes.
use Rattle.std.proofs.Common.{ℕ, ◌+◌, ◌*◌, ◌≤◌, List, [], ◌∷◌, length, sum, arith, length-append}
use Rattle.vdcp_frame.specs.Message.{Content, ack, nak, framed, Spells, IsWritable, spelling, check_byte}

pub short_spelling : (m : Content) → IsWritable m → length (spelling m) ≤ 258
short_spelling ack w = omega arith
short_spelling (nak byte) w = omega arith
short_spelling (framed kind unit code rest) w =
    omega (arith, w, length-append rest (check_byte (16 * kind + unit + code + sum rest) ∷ []))

-- what is spelt can be written
pub spelt_writable : (m : Content) (bytes : List ℕ) → Spells m bytes → IsWritable m
spelt_writable ack bytes s = tt
spelt_writable (nak byte) bytes s = tt
spelt_writable (framed kind unit code rest) bytes s = (s.fits.kind_fits, s.fits.unit_fits, s.fits.rest_size)
