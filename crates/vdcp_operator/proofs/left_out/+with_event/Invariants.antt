use Rattle.std.proofs.Common.{length}
use Rattle.vdcp_operator.proofs.left_out.+with_event.Given as goal

abbrev pub decreases-with_event : goal.decreases-with_event
decreases-with_event l = length l.spans.now
