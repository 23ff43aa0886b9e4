use Rattle.std.proofs.Common.{List, subst}
use Rattle.std.proofs.lemmas.Result.{on_ok_weaker}
use Rattle.vdcp_journal.specs.declared.row.Row.{Row}
use Rattle.vdcp_journal_file.proofs.Chains.{on_err_both}
use Rattle.vdcp_journal_file.proofs.recorder.Recorder.finish.Goals as goal
use Rattle.vdcp_journal_file.specs.Recording.{Adds, AddsBeginning}

pub returns-clause-torn : goal.returns-clause-torn
returns-clause-torn g c =
    on_err_both c.write.result _ _ _ (λ fault p q. (
      c.now-time.result,
      subst (λ (rows : List Row). AddsBeginning g.F.Disk.safe c.args.self.now c.write.new.self rows) c.outcome_row.ensures p,
    )) c.write.ensures.torn c.write.ensures.failed

pub returns-clause-written : goal.returns-clause-written
returns-clause-written g c =
    on_ok_weaker c.write.result (λ p. (
      c.now-time.result,
      subst (λ (rows : List Row). Adds g.F.Disk.safe c.args.self.now c.write.new.self rows) c.outcome_row.ensures p,
    )) c.write.ensures.written
