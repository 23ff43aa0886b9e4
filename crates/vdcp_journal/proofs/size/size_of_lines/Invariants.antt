-- The bytes that were given are counted.
use Rattle.std.proofs.Common.{◌≡◌, ℕ, List, length}
use Rattle.std.specs.Io.KnownBytes.{Consumes}
use Rattle.std.specs.Prelude.{option_map}
use Rattle.vdcp_journal.proofs.size.size_of_lines.Given as goal
use Rattle.vdcp_journal.specs.Reading.{lines_left, whole_lines}

abbrev pub invariant-loop : goal.invariant-loop
invariant-loop g l = (given : List ℕ) × (length given ≡ l.size)
    × Consumes (option_map whole_lines (g.R.Read.remaining l.fn.reader)) (lines_left g.R.Read.remaining l.lines) given
