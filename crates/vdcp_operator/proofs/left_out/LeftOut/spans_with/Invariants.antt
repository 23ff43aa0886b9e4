-- What is whole, and what is left to be joined, is what all come to.
use Rattle.std.proofs.Common.{◌≡◌, ◌≤◌, ◌++◌, drop, length}
use Rattle.vdcp_operator.proofs.left_out.LeftOut.spans_with.Given as goal
use Rattle.vdcp_operator.specs.LeftOut.{merged}

abbrev pub invariant-loop-k : goal.invariant-loop-k
invariant-loop-k l = record {
  few : length l.spans.items ≤ l.k;
  rest : l.spans.items ++ merged (drop l.k l.self.spans.items) l.whole ≡ merged l.self.spans.items l.fn.more;
}
