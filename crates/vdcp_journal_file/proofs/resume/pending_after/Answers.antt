use Rattle.std.proofs.Common.{refl}
use Rattle.vdcp_journal_file.proofs.resume.pending_after.Goals as goal

pub returns-in-Some-clause-pending : goal.returns-in-Some-clause-pending
returns-in-Some-clause-pending g = rw g.in-Some.is (g.unclocked.result, refl)

pub returns-in-None-clause-pending : goal.returns-in-None-clause-pending
returns-in-None-clause-pending g = rw g.in-None.is refl
