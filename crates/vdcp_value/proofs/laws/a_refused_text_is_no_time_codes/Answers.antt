use Rattle.vdcp_value.proofs.OneFault.{one_text_fault, own_text}
use Rattle.vdcp_value.proofs.laws.a_refused_text_is_no_time_codes.Goals as goal

pub returns-clause-none : goal.returns-clause-none
returns-clause-none c = own_text

pub returns-clause-one : goal.returns-clause-one
returns-clause-one c = one_text_fault
