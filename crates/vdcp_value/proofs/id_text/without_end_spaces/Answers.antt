use Rattle.std.proofs.Common.{◌-◌, arith, length, sym, ◌∙◌}
use Rattle.vdcp_value.proofs.IdText.{trim-last, trim-none}
use Rattle.vdcp_value.proofs.id_text.without_end_spaces.Goals as goal

pub loop-kept-preserved : goal.loop-kept-preserved
loop-kept-preserved c = trim-last c.loop-kept.kept.now (length c.loop-kept.kept.now - 1) (omega arith) (omega arith)
    ∙ c.loop-kept.invariant

pub returns-in_default-2 : goal.returns-in_default-2
returns-in_default-2 c = sym (trim-none c.loop-kept.kept.now (omega arith) (grind arith)) ∙ c.loop-kept.invariant
