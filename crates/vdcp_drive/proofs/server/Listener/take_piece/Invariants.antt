-- What was read of the piece so far is answered.
use Rattle.std.proofs.Common.{◌≡◌, length}
use Rattle.vdcp_drive.proofs.Taking.{IsTaken}
use Rattle.vdcp_drive.proofs.server.Listener.take_piece.Given as goal

abbrev pub invariant-piece : goal.invariant-piece
invariant-piece g l = record {
  works : g.W.Wire.failures l.wire ≡ 0;
  hears : l.self.hearing ≡ l.fn.self.hearing;
  taken : IsTaken g.W.Wire.does l.fn.self.hearing l.fn.self.port l.fn.self.reader l.fn.self.aired l.fn.wire l.fn.piece l.rest
      l.self.port l.self.reader l.self.aired l.wire;
}

abbrev pub decreases-piece : goal.decreases-piece
decreases-piece g l = length l.rest
