-- The connections before k had their turn, and the others wait for theirs.
use Rattle.std.proofs.Common.{◌≡◌, ◌≤◌, ◌-◌, drop, length, take}
use Rattle.vdcp_panel.specs.Seen.{AnswersAtDesk}
use Rattle.vdcp_panel.specs.Turned.{HaveTurned}
use Rattle.vdcp_panel.proofs.peers.Peers.turn_each.Given as goal

abbrev pub invariant-turns : goal.invariant-turns
invariant-turns g l = record {
  within : l.k ≤ length l.self.peers.items;
  turned : HaveTurned (AnswersAtDesk g.V.View.page_bytes g.V.View.state_bytes g.V.View.about) l.fn.desk (take l.k l.fn.self.peers.items) (take l.k l.self.peers.items) l.desk;
  waits : drop l.k l.self.peers.items ≡ drop l.k l.fn.self.peers.items;
}

abbrev pub decreases-turns : goal.decreases-turns
decreases-turns g l = length l.self.peers.items - l.k
