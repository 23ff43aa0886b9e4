-- The wire hasn't failed.
use Rattle.std.proofs.Common.{◌≡◌}
use Rattle.vdcp_probe.proofs.probe.is_kept_again.Given as goal

abbrev pub invariant-tries : goal.invariant-tries
invariant-tries g l = g.T.Wire.failures l.asker.wire ≡ 0
