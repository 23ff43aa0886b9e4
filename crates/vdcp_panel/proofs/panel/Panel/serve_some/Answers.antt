use Rattle.std.proofs.Common.{ℕ, ◌≡◌, ◌∙◌, Bool, List, ap, arith, inr, refl, subst, sym}
use Rattle.std.specs.Prelude.{◌||◌}
use Rattle.mio.specs.declared.net.stream.TcpStream.{TcpStream}
use Rattle.vdcp_panel.specs.Lasting.{are_busy, first_due}
use Rattle.vdcp_panel.specs.Looks.{rested_after}
use Rattle.vdcp_panel.specs.Seen.{IsGateOf}
use Rattle.vdcp_panel.specs.declared.panel.Names.{Names}
use Rattle.vdcp_panel.specs.declared.panel.Panel.{Panel}
use Rattle.vdcp_panel.specs.declared.peer.Peer.{Peer}
use Rattle.vdcp_panel.proofs.panel.Panel.serve_some.Goals as goal

pub returns-clause-serves : goal.returns-clause-serves
returns-clause-serves g c =
    let names : c.take_some-took.new.self.names ≡ c.args.self.now.names =
    ap (λ (p : Panel). p.names) c.take_some-took.ensures
    ∙ ap (λ (p : Panel). p.names) c.has_work.ensures.rest
    ∙ ap (λ (p : Panel). p.names) c.read_clock-began.ensures.rest in
    inr (record {
      old = c.desk_over-desk.result;
      new = c.turn_each.new.desk;
      gate = subst (λ (n : Names). IsGateOf n c.desk_over-desk.result.gate) names c.desk_over-desk.ensures.gate;
      seen = c.desk_over-desk.ensures.view;
      held = ap (λ v. v.items) (c.desk_over-desk.ensures.calls ∙ c.replace-held.ensures.value);
      left = refl;
      before = _;
      after = _;
      turned = c.turn_each.ensures;
    })

pub returns-clause-looks : goal.returns-clause-looks
returns-clause-looks g c =
    let took : c.take_some-took.new.self.now ≡ c.read_clock-began.new.self.now =
    ap (λ (p : Panel). p.now) c.take_some-took.ensures ∙ ap (λ (p : Panel). p.now) c.has_work.ensures.rest in
    let peers : c.read_clock-ended.new.self.peers.peers.items ≡ c.drop_gone.new.self.peers.items =
    ap (λ (p : Panel). p.peers.peers.items) c.read_clock-ended.ensures.rest in
    inr (record {
      began = c.read_clock-began.result;
      after = omega (arith, c.read_clock-began.ensures.later, c.read_clock-began.ensures.now);
      before = omega (arith, c.read_clock-ended.ensures.later, c.read_clock-began.ensures.now, took);
      turned = c.turn_each.new.self.peers.items;
      peers = peers ∙ c.drop_gone.ensures;
      took = c.take_some-took.result;
      busy =
          ap (λ (p : Panel). p.is_busy) c.read_clock-ended.ensures.rest
          ∙ ap (λ (b : Bool). c.take_some-took.result || b)
          (c.are_busy.ensures ∙ ap (λ (l : List (Peer TcpStream)). are_busy l) (sym peers));
      due =
          ap (λ (p : Panel). p.due) c.read_clock-ended.ensures.rest ∙ c.due-self.ensures
          ∙ ap (λ (l : List (Peer TcpStream)). first_due l) (sym peers);
      next = c.rested_after-self.ensures ∙ ap (λ (n : ℕ). rested_after c.read_clock-began.result n) c.read_clock-ended.ensures.now;
    })
