use Rattle.std.proofs.Common.{◌∙◌, ap}
use Rattle.vdcp_auto.specs.Turn.{outcome_of}
use Rattle.vdcp_run.proofs.Driven.{comes_over}
use Rattle.vdcp_run.proofs.asking.run_by.Goals as goal

pub returns-clause-comes : goal.returns-clause-comes
returns-clause-comes g c =
    comes_over g.S.Source.items _ g.E.Ear.fold g.W.Wire.failures c.from.result c.args.turns c.from.ensures c.args.driver
    c.run_with-ran.new.self _ _ c.run_with-ran.result c.run_with-ran.ensures.leaves c.requires.works
    (c.into_parts-ear.result.1, c.into_parts-ear.result.2) c.outcome-outcome.result
    (ap (λ parts. (parts.1, parts.2)) c.into_parts-ear.ensures)
    (c.outcome-outcome.ensures ∙ ap (λ v. outcome_of v.state.stage) c.controller.ensures)
