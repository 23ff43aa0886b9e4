use Rattle.std.proofs.Common.{◌+◌, sym, ◌∙◌, inl, inr, subst, arith}
use Rattle.std.proofs.lemmas.Bool.{cases_lt, le-leb, lt-leb, ne_eqb}
use Rattle.vdcp_operator.proofs.LeavingOut.{another, no_other, no_other_behind}
use Rattle.vdcp_operator.specs.LeftOut.{IsNextKept}
use Rattle.vdcp_operator.proofs.left_out.LeftOut.has_no_other.Goals as goal

pub returns-then-span-kept : goal.returns-then-span-kept
returns-then-span-kept c =
    le-leb c.args.span.end c.next_kept-kept.result c.if-span-kept.true
    ∙ sym (no_other c.args.self.now c.args.span c.args.event c.next_kept-kept.result c.next_kept-kept.ensures c.if-span-kept.true)

pub returns-then-kept-event : goal.returns-then-kept-event
returns-then-kept-event c =
    let first = subst (λ it. IsNextKept c.args.self.now c.args.span.first it) c.if-kept-event.true c.next_kept-kept.ensures in
    let next = subst (λ it. IsNextKept c.args.self.now (it + 1) c.next_kept.result) c.if-kept-event.true c.next_kept.ensures in
    elim (cases_lt c.next_kept.result c.args.span.end) [
      | inl w ↦ lt-leb c.args.span.end c.next_kept.result w
          ∙ sym (another c.args.self.now c.args.span c.args.event c.next_kept.result (omega (arith, first.from, next.from)) w next.is_kept (λ is. omega (arith, is, next.from)))
      | inr w ↦ le-leb c.args.span.end c.next_kept.result w
          ∙ sym (no_other_behind c.args.self.now c.args.span c.args.event c.next_kept.result first next w)
    ]

pub returns-else-kept-event : goal.returns-else-kept-event
returns-else-kept-event c =
    ne_eqb c.next_kept-kept.result c.args.event c.if-kept-event.false
    ∙ sym (another c.args.self.now c.args.span c.args.event c.next_kept-kept.result c.next_kept-kept.ensures.from c.if-span-kept.false c.next_kept-kept.ensures.is_kept c.if-kept-event.false)
