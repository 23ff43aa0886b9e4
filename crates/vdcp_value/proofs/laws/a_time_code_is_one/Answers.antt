use Rattle.vdcp_value.proofs.Bcd.{one_bcd}
use Rattle.vdcp_value.proofs.LabelText.{one_timecode_text}
use Rattle.vdcp_value.proofs.Lawful.{one_number}
use Rattle.vdcp_value.proofs.laws.a_time_code_is_one.Goals as goal

pub returns-clause-by_number : goal.returns-clause-by_number
returns-clause-by_number c = one_number

pub returns-clause-by_bytes : goal.returns-clause-by_bytes
returns-clause-by_bytes c = one_bcd

pub returns-clause-by_text : goal.returns-clause-by_text
returns-clause-by_text c = one_timecode_text
