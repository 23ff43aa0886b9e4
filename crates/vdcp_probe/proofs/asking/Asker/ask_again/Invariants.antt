-- The wire hasn't failed.
use Rattle.std.proofs.Common.{◌≡◌}
use Rattle.vdcp_probe.proofs.asking.Asker.ask_again.Given as goal

abbrev pub invariant-asks : goal.invariant-asks
invariant-asks g l = g.W.Wire.failures l.self.wire ≡ 0
