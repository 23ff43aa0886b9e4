use Rattle.std.specs.Io.KnownBytes.{Keeps}
use Rattle.vdcp_wire.specs.Streams.{Takes}
use Rattle.vdcp_wire.proofs.stream.read_waiting.Given as goal

abbrev pub invariant-reads : goal.invariant-reads
invariant-reads g l = record {
  taken : Takes (g.S.Duplex.ahead l.fn.stream) (g.S.Duplex.ahead l.stream);
  apart : Keeps (g.S.Duplex.written l.fn.stream) (g.S.Duplex.written l.stream);
}
