-- The total so far is the sum of the bytes so far.
use Rattle.std.proofs.Common.{◌≡◌, ◌≤◌, ◌*◌, sum, take}
use Rattle.vdcp_frame.proofs.head.total_of.Given as goal

abbrev pub invariant-loop-byte : goal.invariant-loop-byte
invariant-loop-byte l = (l.total ≡ sum (take l.byte-index l.bytes)) × (l.total ≤ 255 * l.byte-index)
