use Rattle.std.proofs.Common.{arith, rules}
use Rattle.std.proofs.KnownBytes.{Keeps-trans}
use Rattle.vdcp_wire.proofs.Streaming.{appends_more, front_of}
use Rattle.vdcp_wire.proofs.stream.StreamWireWire.send.Goals as goal

pub writes-preserved : goal.writes-preserved
writes-preserved g c =
    let inv = rw (← c.self.view_is) at c.writes.invariant in record {
      within = search arith;
      appended = appends_more _ (g.S.Duplex.written c.self.inside.stream) _ c.args.bytes.now c.writes.at c.in-Ok.n
          inv.appended c.in-Ok.ensures.bytes;
      apart = Keeps-trans _ (g.S.Duplex.ahead c.self.inside.stream) _ inv.apart c.write_some.ensures.apart;
      connection = inv.connection;
      reads = inv.reads;
      left = inv.left;
      answer = inv.answer;
    }

pub returns-clause-sends_some : goal.returns-clause-sends_some
returns-clause-sends_some g c =
    let front = front_of _ _ c.args.bytes.now c.writes.at c.writes.invariant.appended in search rules
