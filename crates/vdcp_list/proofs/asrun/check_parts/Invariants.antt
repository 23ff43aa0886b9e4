use Rattle.std.proofs.Common.{◌≡◌, true, take}
use Rattle.vdcp_list.proofs.asrun.check_parts.Given as goal
use Rattle.vdcp_list.specs.Asrun.{are_lawful, has_part}

abbrev pub invariant-loop-k : goal.invariant-loop-k
invariant-loop-k g l =
    (are_lawful l.rate (take l.k (g.S.Source.items l.source)) ≡ true)
    × (l.with_parts ≡ has_part (take l.k (g.S.Source.items l.source)))
