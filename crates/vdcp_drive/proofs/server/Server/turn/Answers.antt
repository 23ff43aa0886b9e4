use Rattle.std.proofs.Common.{List, sym, subst}
use Rattle.vdcp_wire.specs.Acts.{Act}
use Rattle.vdcp_drive.specs.Steps.{Chain}
use Rattle.vdcp_drive.specs.ServerEars.{HasRead}
use Rattle.vdcp_drive.specs.Serving.{IsCutShort, Serving}
use Rattle.vdcp_drive.proofs.server.Server.turn.Goals as goal

pub returns-in-Err-clause-serves : goal.returns-in-Err-clause-serves
returns-in-Err-clause-serves g c _ can ear h =
    let n = c.hear.new.self in
    subst (λ (v : Serving _). (x : List Act) × IsCutShort (record { port = v.port; ear = ear }) x n.port n.aired
    × Chain g.W.Wire.does x v.wire c.hear.new.wire) c.self.view_is
    (c.in-Err.ensures.serves can ear (subst (λ (v : Serving _). HasRead v.hearing ear v.reader) (sym c.self.view_is) h))
