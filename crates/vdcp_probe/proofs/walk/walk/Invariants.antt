-- The wire hasn't failed.
use Rattle.std.proofs.Common.{◌≡◌}
use Rattle.vdcp_probe.proofs.walk.walk.Given as goal

abbrev pub invariant-loop-k : goal.invariant-loop-k
invariant-loop-k g l = g.W.Wire.failures l.asker.wire ≡ 0
