-- The wire hasn't failed.
use Rattle.std.proofs.Common.{◌≡◌}
use Rattle.vdcp_probe.proofs.asking.Asker.hear.Given as goal

abbrev pub invariant-listens : goal.invariant-listens
invariant-listens g l = g.W.Wire.failures l.self.wire ≡ 0
