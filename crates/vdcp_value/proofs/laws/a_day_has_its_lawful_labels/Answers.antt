use Rattle.vdcp_value.proofs.FrameNumbers.{length_of_day}
use Rattle.vdcp_value.proofs.Lawful.{listed, listed_lawful}
use Rattle.vdcp_value.proofs.laws.a_day_has_its_lawful_labels.Goals as goal

pub returns-clause-number : goal.returns-clause-number
returns-clause-number c = length_of_day c.args.rate

pub returns-clause-lawful : goal.returns-clause-lawful
returns-clause-lawful c = λ label. (listed c.args.rate label, listed_lawful c.args.rate label)
