use Rattle.std.proofs.Common.{◌≡◌, length}
use Rattle.vdcp_lossy.proofs.doing.damaged.Given as goal

-- no byte more, and none fewer
abbrev pub invariant-loop : goal.invariant-loop
invariant-loop l = length l.bytes.items ≡ length l.came
