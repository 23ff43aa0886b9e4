use Rattle.std.proofs.Common.{rules}
use Rattle.vdcp_wire.proofs.Lapses.{listens}
use Rattle.vdcp_wire.proofs.stream.StreamWireWire.listen.Goals as goal

pub returns-in-Ok : goal.returns-in-Ok
returns-in-Ok g c =
    let so = listens c.in-Ok.came c.args.self.now c.note.new.self c.is_over.new.self.answer in search rules
