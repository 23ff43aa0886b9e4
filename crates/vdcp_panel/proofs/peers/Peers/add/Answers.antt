use Rattle.std.proofs.Common.{◌≡◌, ◌∙◌, ap, arith}
use Rattle.std.specs.Prelude.{is_ok}
use Rattle.vdcp_panel.proofs.Keeping.{known_beside}
use Rattle.vdcp_panel.proofs.peers.Peers.add.Goals as goal
use Rattle.vdcp_panel.proofs.peers.Peers.add.Goals.{then-len-ge-MOST_PEERS, else-len-ge-MOST_PEERS}
use Rattle.vdcp_panel.specs.Turned.{known_of}

pub returns : goal.returns
returns g c = record {
  known = λ few.
      let old = c.args.self.now.peers.items in
      let between = c.if-len-ge-MOST_PEERS.self.peers.items in
      let kept : known_of between ≡ known_of old = elim c.if-len-ge-MOST_PEERS.branch [
        | then-len-ge-MOST_PEERS w ↦ rw w.self-is (w.drop_idlest.ensures.known (omega (arith, few, w.if-len-ge-MOST_PEERS.true, c.len.ensures)))
        | else-len-ge-MOST_PEERS w ↦ ap (λ s. known_of s.peers.items) w.self-is
      ] in
      known_beside (is_ok c.push.result) between c.push.new.self.items c.new.result c.push.ensures.items c.new.ensures.unknown
      ∙ kept;
}
