use Rattle.std.proofs.Common.{sym, subst, ◌∙◌}
use Rattle.vdcp_auto.specs.RuleBook.{CuesItemAt}
use Rattle.vdcp_auto.proofs.Cues.{new_cue, new_cue_from, new_cue_waits, play_stands, settled_cue}
use Rattle.vdcp_auto.proofs.Judged.{done_after, false_is, stands_after}
use Rattle.vdcp_auto.specs.Judging.{stands, is_done}
use Rattle.vdcp_auto.proofs.judge.Judge.cue_after.Goals as goal

pub returns-then-has_settled-clause-stands : goal.returns-then-has_settled-clause-stands
returns-then-has_settled-clause-stands g c log knows which =
    let list = g.S.Source.items c.args.self.now.source in
    false_is (settled_cue c.a_log_grows.ensures.settled c.args.self.now.mode list log c.args.exchange.now
    (sym which ∙ c.if-has_settled.true))

pub returns-then-has_settled-clause-done : goal.returns-then-has_settled-clause-done
returns-then-has_settled-clause-done g c log knows which =
    let list = g.S.Source.items c.args.self.now.source in
    false_is (λ m. settled_cue c.a_log_grows.ensures.settled c.args.self.now.mode list log c.args.exchange.now
    (sym which ∙ c.if-has_settled.true) (play_stands m))

pub returns-then-is_cue-clause-stands : goal.returns-then-is_cue-clause-stands
returns-then-is_cue-clause-stands g c log knows which =
    let list = g.S.Source.items c.args.self.now.source in
    let mode = c.args.self.now.mode in
    let e = c.args.exchange.now in
    let law = c.a_log_grows.ensures.settled in (
      λ t.
          let h = c.new_cue.ensures.stands.0 t in
          new_cue law mode list log e (sym c.if-is_cue.ensures)
          (subst (λ n. CuesItemAt list n e.command) knows.settled h.0) h.1,
      λ s.
          let h = new_cue_from law mode list log e (sym c.if-is_cue.ensures) s in
          c.new_cue.ensures.stands.1 (subst (λ n. CuesItemAt list n e.command) (sym knows.settled) h.0, h.1),
    )

pub returns-then-is_cue-clause-done : goal.returns-then-is_cue-clause-done
returns-then-is_cue-clause-done g c log knows which =
    let list = g.S.Source.items c.args.self.now.source in
    rw c.new_cue.ensures.waits
    (false_is (new_cue_waits c.args.self.now.mode list log c.args.exchange.now (sym c.if-is_cue.ensures)))

pub returns-clause-stands : goal.returns-clause-stands
returns-clause-stands g c log knows which =
    let list = g.S.Source.items c.args.self.now.source in
    let last = c.args.self.now.last_cue in
    stands_after c.a_log_grows.ensures.settled c.args.self.now.mode list log c.args.exchange.now
    (stands last) (stands c.kept_cue.result) (sym c.if-is_cue.ensures) (sym which ∙ c.if-has_settled.false)
    knows.cue_stands c.kept_cue.ensures.stands

pub returns-clause-done : goal.returns-clause-done
returns-clause-done g c log knows which =
    let list = g.S.Source.items c.args.self.now.source in
    let last = c.args.self.now.last_cue in
    done_after c.a_log_grows.ensures.settled c.args.self.now.mode list log c.args.exchange.now
    (stands last) (is_done last) (is_done c.kept_cue.result) (sym c.if-is_cue.ensures)
    (sym which ∙ c.if-has_settled.false) knows.cue_stands knows.may_play c.kept_cue.ensures.done
