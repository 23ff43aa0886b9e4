use Rattle.std.proofs.Common.{length}
use Rattle.vdcp_operator.proofs.shown.+older_of.Given as goal

abbrev pub decreases-older_of : goal.decreases-older_of
decreases-older_of l = length l.older.now
