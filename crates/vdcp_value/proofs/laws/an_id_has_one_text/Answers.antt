use Rattle.vdcp_value.proofs.IdTexts.{one_text_of_id, text_of_id_is}
use Rattle.vdcp_value.proofs.laws.an_id_has_one_text.Goals as goal

pub returns-clause-some : goal.returns-clause-some
returns-clause-some c = text_of_id_is

pub returns-clause-one : goal.returns-clause-one
returns-clause-one c = λ id text h. one_text_of_id text id h
