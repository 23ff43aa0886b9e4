-- What was dropped couldn't be obeyed.
use Rattle.std.proofs.Common.{◌≡◌, length}
use Rattle.vdcp_operator.proofs.hand.Hand.first_call.Given as goal
use Rattle.vdcp_operator.specs.Waiting.{givable}

abbrev pub invariant-refused : goal.invariant-refused
invariant-refused g l = record {
  rest : l.self ≡ record l.initial.self { told = l.self.told; waiting = l.self.waiting };
  left : givable l.self.list.left_out l.ahead l.self.waiting.items
      ≡ givable l.initial.self.list.left_out l.ahead l.initial.self.waiting.items;
}

abbrev pub decreases-refused : goal.decreases-refused
decreases-refused g l = length l.self.waiting.items
