use Rattle.std.proofs.Common.{◌≡◌, ◌<◌, Some, ap, sym, ◌∙◌, arith, inl, inr}
use Rattle.std.proofs.lemmas.Bool.{cases_lt}
use Rattle.vdcp_operator.proofs.LeavingOut.{first_with, found_has, found_out, has_from, has_parts, none_found}
use Rattle.vdcp_operator.proofs.left_out.LeftOut.next_kept.Goals as goal

pub loop-span-smaller : goal.loop-span-smaller
loop-span-smaller c =
    let found : first_with c.args.self.now.spans.items c.loop-span.kept ≡ Some c.in-Some.span =
    sym (c.with_event.ensures ∙ ap (λ xs. first_with xs c.loop-span.kept) c.as_slice.ensures.value) ∙ c.in-Some.is in
    let later : c.loop-span.kept < c.in-Some.span.end = (has_parts c.in-Some.span c.loop-span.kept (found_has c.args.self.now.spans.items c.loop-span.kept c.in-Some.span found)).1 in
    let typed = rw c.in-Some.is at c.with_event.type_inv in
    omega arith

pub loop-span-preserved : goal.loop-span-preserved
loop-span-preserved c =
    let found : first_with c.args.self.now.spans.items c.loop-span.kept ≡ Some c.in-Some.span =
    sym (c.with_event.ensures ∙ ap (λ xs. first_with xs c.loop-span.kept) c.as_slice.ensures.value) ∙ c.in-Some.is in
    let parts = has_parts c.in-Some.span c.loop-span.kept (found_has c.args.self.now.spans.items c.loop-span.kept c.in-Some.span found) in
    record {
      from = omega (arith, c.loop-span.invariant.from, parts.1);
      passed = λ k from below. elim (cases_lt k c.loop-span.kept) [
        | inl w ↦ c.loop-span.invariant.passed k from w
        | inr w ↦ found_out c.args.self.now.spans.items c.loop-span.kept c.in-Some.span found k (has_from c.in-Some.span k (omega (arith, parts.0, w)) below)
      ];
    }

pub returns : goal.returns
returns c = record {
  from = c.loop-span.invariant.from;
  is_kept =
      none_found c.args.self.now.spans.items c.loop-span.kept
      (sym (c.with_event.ensures ∙ ap (λ xs. first_with xs c.loop-span.kept) c.as_slice.ensures.value) ∙ c.in_default.is);
  passed = c.loop-span.invariant.passed;
}
