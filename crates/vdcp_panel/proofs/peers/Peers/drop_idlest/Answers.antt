use Rattle.std.proofs.Common.{arith, refl}
use Rattle.vdcp_panel.proofs.Keeping.{all_known, known_stay}
use Rattle.vdcp_panel.proofs.peers.Peers.drop_idlest.Goals as goal

pub returns-in-Some : goal.returns-in-Some
returns-in-Some g c = record {
  known = λ _. rw c.remove.ensures.items (known_stay c.args.self.now.peers.items c.in-Some.place c.in-Some.ensures.there);
}

pub returns-in-Some-idlest : goal.returns-in-Some-idlest
returns-in-Some-idlest g c = record {
  known = λ less. absurd (omega (arith, less, all_known c.args.self.now.peers.items (c.in_default.ensures.none refl)));
}
