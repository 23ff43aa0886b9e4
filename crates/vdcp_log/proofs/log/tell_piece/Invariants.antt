use Rattle.std.proofs.Common.{length}
use Rattle.vdcp_log.proofs.log.tell_piece.Given as goal

abbrev pub decreases-piece : goal.decreases-piece
decreases-piece g l = length l.rest
