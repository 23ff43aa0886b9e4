use Rattle.std.proofs.Common.{◌≡◌, ◌<◌, ◌≤◌, ◌⊎◌, true, length}
use Rattle.std.specs.Prelude.{IsNone}
use Rattle.std.specs.Io.KnownBytes.{Keeps}
use Rattle.vdcp_lossy.specs.Carried.{sent_by}
use Rattle.vdcp_lossy.proofs.session.Session.receive.Given as goal

-- if bytes came, some are held, or the burst is too long
abbrev pub invariant-listens : goal.invariant-listens
invariant-listens g l = record {
  works : g.W.Wire.failures l.wire ≡ 0;
  sent : Keeps (sent_by (g.W.Wire.told l.initial.wire)) (sent_by (g.W.Wire.told l.wire));
  left : l.self.left ≤ l.initial.self.left;
  some : IsNone l.began ⊎ (l.is_long ≡ true) ⊎ (0 < length l.burst.items);
}

abbrev pub decreases-listens : goal.decreases-listens
decreases-listens g l = l.self.left
