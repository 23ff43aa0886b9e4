use Rattle.vdcp_journal_file.proofs.RowSteps.{long_so}
use Rattle.vdcp_journal_file.proofs.reading.replay.Goals as goal

pub returns-in-Ok-last_run-clause-replayed : goal.returns-in-Ok-last_run-clause-replayed
returns-in-Ok-last_run-clause-replayed g c = rw c.in-Ok.ensures at c.in-Ok-last_run.ensures.replayed

pub returns-clause-refused : goal.returns-clause-refused
returns-clause-refused g c = (
  c.refusal_of.result,
  c.failure.ensures,
  long_so _ _ _ c.long_line.result _ _ c.refusal_of.ensures.long c.refusal_of.ensures.other
      (rw c.in-Ok.ensures at c.in-Err.ensures.refused),
)
