use Rattle.vdcp_value.proofs.Parts.{fitting}
use Rattle.vdcp_value.proofs.laws.a_part_that_fits_lies_within.Goals as goal

pub returns-clause-start : goal.returns-clause-start
returns-clause-start c = λ part clip fits. (fitting part clip fits).start_is_time

pub returns-clause-duration : goal.returns-clause-duration
returns-clause-duration c = λ part clip fits. (fitting part clip fits).duration_is_time

pub returns-clause-some : goal.returns-clause-some
returns-clause-some c = λ part clip fits. (fitting part clip fits).some

pub returns-clause-within : goal.returns-clause-within
returns-clause-within c = λ part clip fits. (fitting part clip fits).within
