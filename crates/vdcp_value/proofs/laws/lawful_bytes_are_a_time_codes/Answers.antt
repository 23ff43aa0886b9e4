use Rattle.vdcp_value.proofs.Bcd.{time_code_of}
use Rattle.vdcp_value.proofs.laws.lawful_bytes_are_a_time_codes.Goals as goal

pub returns : goal.returns
returns c = time_code_of
