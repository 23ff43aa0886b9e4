use Rattle.vdcp_run.proofs.Askers.{are_asked}
use Rattle.vdcp_run.proofs.laws.only_questions_are_asked.Goals as goal

pub returns : goal.returns
returns g c ask holds start asker unit count a b old new answer is state h =
    are_asked g.W.Wire.does g.E.Ear.fold ask holds start asker unit count a b old new answer state h is
