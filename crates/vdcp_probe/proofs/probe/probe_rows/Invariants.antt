-- The wire hasn't failed.
use Rattle.std.proofs.Common.{◌≡◌}
use Rattle.vdcp_probe.proofs.probe.probe_rows.Given as goal

abbrev pub invariant-loop-k : goal.invariant-loop-k
invariant-loop-k g l = g.T.Wire.failures l.asker.wire ≡ 0
