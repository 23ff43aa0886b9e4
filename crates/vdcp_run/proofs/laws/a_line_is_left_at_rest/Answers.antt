use Rattle.vdcp_run.proofs.KeptLine.{at_rest}
use Rattle.vdcp_run.proofs.laws.a_line_is_left_at_rest.Goals as goal

pub returns : goal.returns
returns c settings count end e = at_rest settings count end e
