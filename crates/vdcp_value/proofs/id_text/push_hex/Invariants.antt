use Rattle.std.proofs.Common.{◌≡◌, ◌∷◌, ◌+◌, ◌*◌, take, length}
use Rattle.std.specs.List.{flat_map}
use Rattle.vdcp_value.proofs.id_text.push_hex.Given as goal
use Rattle.vdcp_value.specs.IdText.{hex_pair}

abbrev pub invariant-loop-byte : goal.invariant-loop-byte
invariant-loop-byte l =
    (l.text.bytes ≡ 48 ∷ 120 ∷ flat_map hex_pair (take l.byte-index l.bytes))
    × (length l.text.bytes ≡ 2 * l.byte-index + 2)
