use Rattle.vdcp_value.proofs.IdTexts.{not_both}
use Rattle.vdcp_value.proofs.laws.a_refused_text_is_no_ids.Goals as goal
use Rattle.vdcp_value.specs.Ids.{id_bytes}

pub returns : goal.returns
returns c = λ id text fault h t. not_both text (id_bytes id) fault id.eight h t
