use Rattle.vdcp_offline.proofs.JudgeSteps.{are_findings}
use Rattle.vdcp_offline.proofs.judge.findings.Found.end.Goals as goal

pub returns : goal.returns
returns g c = λ settings items pieces found.
    let added = rw c.last_exchange.ensures at (c.in_ok-add_ended.ensures settings items found.findings found.tells) in (
      added.0,
      added.2,
      are_findings settings items pieces found.findings added.0 c.args.self.awaited c.args.self.line found.shows added.1
          added.2.ruled added.2.count,
    )
