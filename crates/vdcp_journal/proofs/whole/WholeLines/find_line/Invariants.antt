-- Each line that was found was given, and the same lines are left.
use Rattle.std.proofs.Common.{◌≡◌, ◌-◌, vec_len}
use Rattle.std.specs.Io.KnownBytes.{Keeps}
use Rattle.vdcp_journal.proofs.whole.WholeLines.find_line.Given as goal
use Rattle.vdcp_journal.specs.Reading.{lines_left}

abbrev pub invariant-loop-place : goal.invariant-loop-place
invariant-loop-place g l = record {
  given : l.self.given ≡ l.self.whole;
  kept : Keeps (lines_left g.R.Read.remaining l.fn.self) (lines_left g.R.Read.remaining l.self);
}

-- the room that is left for a line
abbrev pub decreases-loop-place : goal.decreases-loop-place
decreases-loop-place g l = vec_len l.self.held - (l.self.filled - l.self.whole)
