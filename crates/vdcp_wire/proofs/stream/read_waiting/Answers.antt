use Rattle.std.proofs.KnownBytes.{Keeps-trans}
use Rattle.vdcp_wire.proofs.Streaming.{takes_more}
use Rattle.vdcp_wire.proofs.stream.read_waiting.Goals as goal

pub reads-preserved : goal.reads-preserved
reads-preserved g c = record {
  taken = takes_more _ (g.S.Duplex.ahead c.reads.stream) _ _ _ c.reads.invariant.taken c.read_some.ensures.bytes;
  apart = Keeps-trans _ (g.S.Duplex.written c.reads.stream) _ c.reads.invariant.apart c.read_some.ensures.apart;
}
