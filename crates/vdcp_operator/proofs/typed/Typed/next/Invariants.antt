-- Nothing was said yet.
use Rattle.std.proofs.Common.{[]}
use Rattle.vdcp_operator.proofs.typed.Typed.next.Given as goal
use Rattle.vdcp_operator.specs.Typed.{SaysOn, left}

abbrev pub invariant-bytes : goal.invariant-bytes
invariant-bytes g l =
    SaysOn l.initial.self.line.items (left g.I.Read.remaining l.initial.self.reader) []
    l.self.line.items (left g.I.Read.remaining l.self.reader)
