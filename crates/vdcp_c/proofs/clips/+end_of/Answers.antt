-- Each step halves the places that are left.
use Rattle.std.proofs.Common.{◌+◌, ◌-◌, ℕ, sym, ap, ◌∙◌, arith}
use Rattle.vdcp_c.specs.Clips.{is_before, keys_of}
use Rattle.vdcp_c.proofs.Places.{goes_up, halves, stays}
use Rattle.vdcp_c.proofs.clips.+end_of.Goals as goal

pub overflow_add-next : goal.overflow_add-next
overflow_add-next t c =
    let h = halves c.args.bits (omega (arith, c.if-bits-eq0.false)) in
    omega (arith, c.power_of_two.ensures, c.requires.within, h.0, h.1)

pub overflow_sub-next : goal.overflow_sub-next
overflow_sub-next t c =
    let h = halves c.args.bits (omega (arith, c.if-bits-eq0.false)) in
    omega (arith, c.power_of_two.ensures, h.1)

pub end_of-requires : goal.end_of-requires
end_of-requires t c =
    let h = halves c.args.bits (omega (arith, c.if-bits-eq0.false)) in (
      omega (arith, c.decreases, c.if-bits-eq0.false),
      (omega (arith, c.requires.bits), omega (arith, c.power_of_two.ensures, c.requires.within, h.0)),
    )

pub end_of-requires-else-is_before : goal.end_of-requires-else-is_before
end_of-requires-else-is_before t c =
    let h = halves c.args.bits (omega (arith, c.if-bits-eq0.false)) in (
      omega (arith, c.decreases, c.if-bits-eq0.false),
      (omega (arith, c.requires.bits), omega (arith, c.requires.within, h.0)),
    )

pub returns-then-is_before : goal.returns-then-is_before
returns-then-is_before t c =
    c.end_of.ensures
    ∙ sym
    (goes_up (is_before (keys_of c.args.rows.now) c.args.key) c.args.bits (c.args.bits - 1) c.args.at
    (c.args.at + c.power_of_two.result) (omega (arith, c.if-bits-eq0.false))
    (ap (λ (n : ℕ). c.args.at + n) c.power_of_two.ensures) (sym c.is_before.ensures ∙ c.if-is_before.true))

pub returns-else-is_before : goal.returns-else-is_before
returns-else-is_before t c =
    c.end_of-else-is_before.ensures
    ∙ sym
    (stays (is_before (keys_of c.args.rows.now) c.args.key) c.args.bits (c.args.bits - 1) c.args.at
    (c.args.at + c.power_of_two.result) (omega (arith, c.if-bits-eq0.false))
    (ap (λ (n : ℕ). c.args.at + n) c.power_of_two.ensures) (sym c.is_before.ensures ∙ c.if-is_before.false))
