use Rattle.vdcp_auto.proofs.Law.{lawful}
use Rattle.vdcp_auto.proofs.laws.reached_is_lawful.Goals as goal

pub returns : goal.returns
returns c = lawful
