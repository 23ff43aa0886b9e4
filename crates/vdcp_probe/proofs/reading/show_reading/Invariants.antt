-- Each message makes what is left shorter.
use Rattle.std.proofs.Common.{length}
use Rattle.vdcp_frame.specs.Walk.{coming}
use Rattle.vdcp_probe.proofs.reading.show_reading.Given as goal

abbrev pub decreases-messages : goal.decreases-messages
decreases-messages l = length (coming l.messages)
