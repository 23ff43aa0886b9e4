use Rattle.vdcp_value.proofs.IdTexts.{one_id}
use Rattle.vdcp_value.proofs.laws.a_text_is_of_one_id.Goals as goal

pub returns : goal.returns
returns c = λ a b text p q. one_id text a b p q
