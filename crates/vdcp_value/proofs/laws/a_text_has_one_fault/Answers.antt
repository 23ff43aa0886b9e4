use Rattle.vdcp_value.proofs.OneFault.{one_fault}
use Rattle.vdcp_value.proofs.laws.a_text_has_one_fault.Goals as goal

pub returns : goal.returns
returns c = one_fault
