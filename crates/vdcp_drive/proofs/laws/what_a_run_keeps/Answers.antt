use Rattle.vdcp_drive.proofs.Keeping.{run_keeps}
use Rattle.vdcp_drive.proofs.laws.what_a_run_keeps.Goals as goal

pub returns : goal.returns
returns g c plan unit count a b old new answer h =
    run_keeps _ (λ state next before after is. is) g.W.Wire.told g.met.W.Wire.tells g.E.Ear.fold plan unit count a b old new answer h
