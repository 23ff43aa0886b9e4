-- What is left of the calls leads on to what all lead to.
use Rattle.std.proofs.Common.{◌≡◌, drop}
use Rattle.vdcp_operator.proofs.on_list.OnList.heed_all.Given as goal
use Rattle.vdcp_operator.specs.OnList.{list_by, sparing_each}

abbrev pub invariant-loop-k : goal.invariant-loop-k
invariant-loop-k l =
    list_by (sparing_each l.wanted (drop l.k l.calls)) l.self ≡ list_by (sparing_each l.wanted l.calls) l.fn.self
