use Rattle.vdcp_drive.proofs.Safety.{run_safe}
use Rattle.vdcp_drive.proofs.laws.what_goes_out_is_kept.Goals as goal

pub returns : goal.returns
returns g c plan unit count a b answer h some cut = run_safe g.E.Ear.fold plan unit count a b answer h some cut
