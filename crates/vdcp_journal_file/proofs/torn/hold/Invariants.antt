use Rattle.std.proofs.Common.{◌≡◌, take}
use Rattle.vdcp_journal_file.proofs.torn.hold.Given as goal
use Rattle.vdcp_journal_file.specs.Torn.{torn_after}

abbrev pub invariant-loop-byte : goal.invariant-loop-byte
invariant-loop-byte l = l.torn.items ≡ torn_after l.fn.torn.items (take l.byte-index l.bytes)
