use Rattle.vdcp_drive.proofs.Serving.{acts_both, left_both, steps_both}
use Rattle.vdcp_drive.proofs.laws.servers_go_on.Goals as goal

pub returns : goal.returns
returns c = record { left = left_both; acts = acts_both; hooks = steps_both }
