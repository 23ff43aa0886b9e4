use Rattle.std.proofs.Common.{length}
use Rattle.vdcp_run.proofs.before.+why_left_out.Given as goal

abbrev pub decreases-why_left_out : goal.decreases-why_left_out
decreases-why_left_out l = length l.runs.now
