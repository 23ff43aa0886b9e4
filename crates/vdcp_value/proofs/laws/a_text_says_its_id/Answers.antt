use Rattle.vdcp_value.proofs.TextBytes.{text_says}
use Rattle.vdcp_value.proofs.laws.a_text_says_its_id.Goals as goal

pub returns : goal.returns
returns c = text_says
