use Rattle.std.proofs.Common.{length}
use Rattle.vdcp_operator.proofs.waiting.+will_hold.Given as goal

abbrev pub decreases-will_hold : goal.decreases-will_hold
decreases-will_hold l = length l.calls.now
