use Rattle.std.proofs.Common.{◌≡◌, ◌*◌, take}
use Rattle.std.specs.List.{flat_map}
use Rattle.vdcp_value.proofs.id_text.bytes_of_hex.Given as goal
use Rattle.vdcp_value.specs.IdText.{hex_pair}

abbrev pub invariant-loop-k : goal.invariant-loop-k
invariant-loop-k l = flat_map hex_pair (take l.k l.byte-items) ≡ take (2 * l.k) l.digits
