use Rattle.vdcp_drive.proofs.Running.{run_goes_on}
use Rattle.vdcp_drive.proofs.laws.a_run_goes_on.Goals as goal

pub returns : goal.returns
returns g c plan unit m n a b a' answer first next =
    let r = run_goes_on g.E.Ear.fold plan unit m n a b a' answer first next in (r.run, r.steps)
