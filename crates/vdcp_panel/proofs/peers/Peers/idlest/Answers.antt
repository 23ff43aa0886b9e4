use Rattle.std.proofs.Common.{◌≡◌, ◌<◌, ◌∙◌, arith, length, sym}
use Rattle.std.specs.Prelude.{None, Some}
use Rattle.vdcp_panel.proofs.Keeping.{alike, found_still, found_there, none_more, unlike}
use Rattle.vdcp_panel.proofs.peers.Peers.idlest.Goals as goal
use Rattle.vdcp_panel.proofs.peers.Peers.idlest.Goals.{then-peer-is_known, else-peer-is_known}

pub places-preserved : goal.places-preserved
places-preserved g c =
    let i = c.places.invariant in
    let peers = c.args.self.now.peers.items in
    let p = c.index-peer.result.now in
    let within : c.places.place < length peers = omega (arith, c.places-test.true, c.len-place-end.ensures) in
    elim c.if-peer-is_known.branch [
      | then-peer-is_known w ↦ record {
        within = omega (arith, within);
        there =
            found_there peers c.args.is_known c.places.idlest c.if-peer-is_known.idlest w.idler.result
            (c.places.place, w.active.result) w.idlest-is i.there (p, within, c.index-peer.ensures, alike p.is_known c.args.is_known w.if-peer-is_known.true)
            w.idler.ensures.one;
        none = λ e. let never : Some w.idler.result ≡ None = sym w.idlest-is ∙ e in cc never;
      }
      | else-peer-is_known w ↦ record {
        within = omega (arith, within);
        there = found_still peers c.args.is_known c.places.idlest c.if-peer-is_known.idlest w.idlest-is i.there;
        none = λ e. none_more peers c.places.place p c.args.is_known within c.index-peer.ensures
            (unlike p.is_known c.args.is_known w.if-peer-is_known.false)
            (i.none (sym w.idlest-is ∙ e));
      }
    ]
