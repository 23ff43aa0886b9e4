use Rattle.std.proofs.Common.{◌≡◌, subst, sym}
use Rattle.std.proofs.lemmas.Result.{IfOk-weaker}
use Rattle.vdcp_auto.specs.declared.phase.Mode.TheVariants.{Plain}
use Rattle.vdcp_auto.specs.Plan.{Plan, plan_of}
use Rattle.vdcp_auto.specs.RuleBook.{KeepsRules}
use Rattle.vdcp_auto.specs.Course.{course, course_from}
use Rattle.vdcp_auto.proofs.Law.{KeepsRules-course}
use Rattle.vdcp_auto.proofs.rehearsal.rehearse.Goals as goal

pub returns-clause-allowed : goal.returns-clause-allowed
returns-clause-allowed g c =
    let plan : Plan = record {
      mode = Plain;
      list = g.S.Source.items c.args.source;
      port = c.args.port;
      limit = c.args.limit;
    } in
    let inputs = c.args.inputs.now in
    IfOk-weaker c.run.result
    (λ log. log.items ≡ course_from (plan_of g.S.Source.items c.new.result) c.new.result.state inputs)
    (λ log. KeepsRules Plain plan.list log.items)
    (λ log is.
    let same : log.items ≡ course plan inputs = rw c.new.ensures at is in
    subst (KeepsRules Plain plan.list) (sym same) (KeepsRules-course plan inputs c.requires.some c.requires.few))
    c.run.ensures
