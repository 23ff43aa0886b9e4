use Rattle.std.proofs.Common.{None, [], refl}
use Rattle.vdcp_auto.specs.Course.{begun}
use Rattle.vdcp_auto.specs.Turn.{start}
use Rattle.vdcp_journal.proofs.Told.{reaches}
use Rattle.vdcp_journal.proofs.laws.what_is_told_is_lawful.Goals as goal

pub returns-clause-reached : goal.returns-clause-reached
returns-clause-reached c = λ plan rows some few told. reaches plan rows start [] None (begun some few) refl told

pub returns-clause-lawful : goal.returns-clause-lawful
returns-clause-lawful c = λ plan rows some few told.
    c.reached_is_lawful.ensures plan _ _ (reaches plan rows start [] None (begun some few) refl told)
