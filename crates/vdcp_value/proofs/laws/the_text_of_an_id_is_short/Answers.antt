use Rattle.vdcp_value.proofs.Ascii.{id_text_ascii, id_text_long}
use Rattle.vdcp_value.proofs.laws.the_text_of_an_id_is_short.Goals as goal

pub returns-clause-ascii : goal.returns-clause-ascii
returns-clause-ascii c = id_text_ascii

pub returns-clause-some : goal.returns-clause-some
returns-clause-some c = λ id. (id_text_long id).0

pub returns-clause-most : goal.returns-clause-most
returns-clause-most c = λ id. (id_text_long id).1
