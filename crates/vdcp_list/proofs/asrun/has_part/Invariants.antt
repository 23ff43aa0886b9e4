use Rattle.std.proofs.Common.{◌≡◌, false, take}
use Rattle.vdcp_list.proofs.asrun.has_part.Given as goal
use Rattle.vdcp_list.specs.Asrun.{has_part}

abbrev pub invariant-loop-k : goal.invariant-loop-k
invariant-loop-k g l = has_part (take l.k (g.S.Source.items l.source)) ≡ false
