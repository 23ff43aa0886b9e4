use Rattle.std.proofs.Common.{◌≡◌}
use Rattle.vdcp_lossy.proofs.carry.carry.Given as goal

abbrev pub invariant-bursts : goal.invariant-bursts
invariant-bursts g l = record {
  automation : g.A.Wire.failures l.automation ≡ 0;
  server : g.S.Wire.failures l.server ≡ 0;
}

abbrev pub decreases-bursts : goal.decreases-bursts
decreases-bursts g l = l.session.left
