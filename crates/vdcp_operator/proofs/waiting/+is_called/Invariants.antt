use Rattle.std.proofs.Common.{length}
use Rattle.vdcp_operator.proofs.waiting.+is_called.Given as goal

abbrev pub decreases-is_called : goal.decreases-is_called
decreases-is_called l = length l.calls.now
