use Rattle.vdcp_drive.specs.HearingLaws.{completed_both, held_both}
use Rattle.vdcp_drive.proofs.Completing.{completes_all}
use Rattle.vdcp_drive.proofs.laws.what_is_spelt_is_completed.Goals as goal

pub returns-clause-messages : goal.returns-clause-messages
returns-clause-messages c ms bytes rest s u = (completes_all c.laws_below.ensures ms bytes rest s u).0

pub returns-clause-held : goal.returns-clause-held
returns-clause-held c ms bytes rest s u = (completes_all c.laws_below.ensures ms bytes rest s u).1

pub returns-clause-pieces : goal.returns-clause-pieces
returns-clause-pieces c = completed_both

pub returns-clause-pieces_held : goal.returns-clause-pieces_held
returns-clause-pieces_held c = held_both
