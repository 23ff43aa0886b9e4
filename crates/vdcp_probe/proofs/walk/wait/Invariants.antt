-- The wire hasn't failed.
use Rattle.std.proofs.Common.{◌≡◌}
use Rattle.vdcp_probe.proofs.walk.wait.Given as goal

abbrev pub invariant-polls : goal.invariant-polls
invariant-polls g l = g.W.Wire.failures l.asker.wire ≡ 0
