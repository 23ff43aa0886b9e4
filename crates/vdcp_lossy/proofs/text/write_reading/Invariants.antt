use Rattle.std.proofs.Common.{length}
use Rattle.vdcp_frame.specs.Walk.{coming}
use Rattle.vdcp_lossy.proofs.text.write_reading.Given as goal

abbrev pub decreases-messages : goal.decreases-messages
decreases-messages g l = length (coming l.messages)
