use Rattle.std.proofs.Common.{length, ◌≡◌, ◌≤◌, take}
use Rattle.std.specs.Io.KnownBytes.{Appends, Keeps}
use Rattle.vdcp_wire.proofs.stream.StreamWireWire.send.Given as goal

abbrev pub invariant-writes : goal.invariant-writes
invariant-writes g l = record {
  within : l.at ≤ length l.bytes;
  appended : Appends l.fn.self.written l.self.written (take l.at l.bytes);
  apart : Keeps l.fn.self.ahead l.self.ahead;
  connection : l.self.connection ≡ l.fn.self.connection;
  reads : l.self.reads ≡ l.fn.self.reads;
  left : l.self.left ≡ l.fn.self.left;
  answer : l.self.answer ≡ l.fn.self.answer;
}
