use Rattle.std.proofs.Common.{length}
use Rattle.vdcp_panel.proofs.peers.+first_due.Given as goal

abbrev pub decreases-first_due : goal.decreases-first_due
decreases-first_due g l = length l.peers.now
