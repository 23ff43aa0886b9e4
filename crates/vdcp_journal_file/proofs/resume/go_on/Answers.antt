use Rattle.vdcp_journal_file.proofs.resume.go_on.Goals as goal

pub returns-clause-pending : goal.returns-clause-pending
returns-clause-pending g c = rw c.after-recorder.ensures c.pending_after.ensures.pending
