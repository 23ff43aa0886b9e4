use Rattle.std.proofs.Common.{refl, rules}
use Rattle.vdcp_offline.proofs.JudgeSteps.{tells_more}
use Rattle.vdcp_offline.proofs.judge.told.Told.add.Goals as goal
use Rattle.vdcp_offline.specs.Findings.{exchanges_of}

pub returns : goal.returns
returns g c = λ settings items findings tells. (
  c.rule_on.result,
  tells_more g.S.Source.items c.a_log_grows.ensures.settled settings items findings _ c.args.self.now _ tells
      (c.rule_on.ensures (exchanges_of findings) tells.knows) refl refl (search rules) (search rules) c.count_forbidden-self.ensures
      c.in_ok-show_forbidden.ensures (rw c.settled-settled.ensures.kept at c.in_ok-show_event.ensures)
      c.add.ensures.source c.add.ensures.mode c.add.ensures.knows,
)
