use Rattle.vdcp_value.proofs.Ascii.{timecode_text_ascii, timecode_text_long}
use Rattle.vdcp_value.proofs.laws.the_text_of_a_time_code_is_eleven_bytes.Goals as goal

pub returns-clause-ascii : goal.returns-clause-ascii
returns-clause-ascii c = timecode_text_ascii

pub returns-clause-eleven : goal.returns-clause-eleven
returns-clause-eleven c = timecode_text_long
