use Rattle.std.proofs.Common.{◌≡◌, ◌≤◌, ◌-◌, ◌∙◌, ap, length, take, sym, subst, add-one, arith}
use Rattle.std.proofs.lemmas.List.{length-drop, length-set, take_all}
use Rattle.vdcp_panel.proofs.Turning.{one_more, wait_still}
use Rattle.vdcp_panel.proofs.peers.Peers.turn_each.Goals as goal
use Rattle.vdcp_panel.specs.Seen.{AnswersAtDesk}
use Rattle.vdcp_panel.specs.Turned.{HaveTurned}

pub turns-preserved : goal.turns-preserved
turns-preserved g c =
    let i = c.turns.invariant in
    let answers = AnswersAtDesk g.V.View.page_bytes g.V.View.state_bytes g.V.View.about in
    let olds = c.args.self.now.peers.items in
    let nows = c.turns.self.peers.items in
    record {
      within = rw (length-set nows c.turns.k c.turn.new.self) (omega (arith, c.turns-test.true));
      turned =
          rw (add-one c.turns.k)
          (one_more answers c.args.desk.now c.turns.desk c.turn.new.desk olds nows c.turns.k
          c.index_mut.result.now c.turn.new.self (omega (arith, c.turns-test.true)) i.waits c.index_mut.ensures.value
          i.turned c.turn.ensures.turned);
      waits = wait_still olds nows c.turns.k c.turn.new.self i.waits;
    }

pub returns : goal.returns
returns g c =
    let i = c.turns.invariant in
    let answers = AnswersAtDesk g.V.View.page_bytes g.V.View.state_bytes g.V.View.about in
    let olds = c.args.self.now.peers.items in
    let nows = c.turns.self.peers.items in
    let k = c.turns.k in
    let all : length nows ≤ k = omega (arith, c.turns-test.false, i.within) in
    let rest : length nows - k ≡ length olds - k = sym (length-drop k nows) ∙ ap length i.waits ∙ length-drop k olds in
    let same : length olds ≤ k = omega (arith, all, rest) in
    subst (λ ps. HaveTurned answers c.args.desk.now ps nows c.turns.desk) (take_all k olds same)
    (subst (λ qs. HaveTurned answers c.args.desk.now (take k olds) qs c.turns.desk)
    (take_all k nows all) i.turned)
