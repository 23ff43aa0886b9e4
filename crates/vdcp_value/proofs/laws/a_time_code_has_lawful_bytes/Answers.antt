use Rattle.vdcp_value.proofs.Bcd.{frames_in_own, label_of_own_bcd, own_bytes, own_is_time}
use Rattle.vdcp_value.proofs.laws.a_time_code_has_lawful_bytes.Goals as goal

pub returns-clause-four : goal.returns-clause-four
returns-clause-four c = own_bytes

pub returns-clause-lawful : goal.returns-clause-lawful
returns-clause-lawful c = own_is_time

pub returns-clause-label : goal.returns-clause-label
returns-clause-label c = label_of_own_bcd

pub returns-clause-number : goal.returns-clause-number
returns-clause-number c = frames_in_own
