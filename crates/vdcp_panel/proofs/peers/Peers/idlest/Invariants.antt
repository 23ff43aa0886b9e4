-- Of the connections before this place one of that kind was found, or there is none.
use Rattle.std.proofs.Common.{◌≡◌, ◌≤◌, length}
use Rattle.std.specs.Prelude.{IfSome, None}
use Rattle.vdcp_panel.specs.Turned.{IsKnownAt, IsNoneBefore}
use Rattle.vdcp_panel.proofs.peers.Peers.idlest.Given as goal

abbrev pub invariant-places : goal.invariant-places
invariant-places g l = record {
  within : l.place ≤ length l.self.peers.items;
  there : IfSome l.idlest (λ found. IsKnownAt l.self.peers.items found.0 l.is_known);
  none : l.idlest ≡ None → IsNoneBefore l.self.peers.items l.place l.is_known;
}
