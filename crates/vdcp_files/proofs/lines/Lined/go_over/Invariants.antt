-- The reader stays.
use Rattle.std.proofs.Common.{◌≡◌}
use Rattle.vdcp_files.proofs.lines.Lined.go_over.Given as goal

abbrev pub invariant-loop-byte : goal.invariant-loop-byte
invariant-loop-byte g l = l.self.reader ≡ l.initial.self.reader
