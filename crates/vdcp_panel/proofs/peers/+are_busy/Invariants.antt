use Rattle.std.proofs.Common.{length}
use Rattle.vdcp_panel.proofs.peers.+are_busy.Given as goal

abbrev pub decreases-are_busy : goal.decreases-are_busy
decreases-are_busy g l = length l.peers.now
