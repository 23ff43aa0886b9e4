use Rattle.vdcp_drive.proofs.Served.{has_more}
use Rattle.vdcp_drive.proofs.laws.one_event_more.Goals as goal

pub returns : goal.returns
returns c = has_more c.laws_below.ensures
