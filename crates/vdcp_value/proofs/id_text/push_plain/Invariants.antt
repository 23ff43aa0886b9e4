use Rattle.std.proofs.Common.{◌≡◌, ◌++◌, take}
use Rattle.vdcp_value.proofs.id_text.push_plain.Given as goal

abbrev pub invariant-loop-byte : goal.invariant-loop-byte
invariant-loop-byte l = l.text.bytes ≡ l.fn.text.bytes ++ take l.byte-index l.plain
