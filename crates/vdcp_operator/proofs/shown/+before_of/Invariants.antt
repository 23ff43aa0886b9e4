use Rattle.std.proofs.Common.{length}
use Rattle.vdcp_operator.proofs.shown.+before_of.Given as goal

abbrev pub decreases-before_of : goal.decreases-before_of
decreases-before_of l = length l.before.now
