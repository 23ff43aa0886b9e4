use Rattle.vdcp_run.proofs.Tries.{one_try}
use Rattle.vdcp_run.proofs.laws.a_run_makes_one_try.Goals as goal

pub returns : goal.returns
returns g c settings last items wire alone tries = one_try settings items last wire alone tries
