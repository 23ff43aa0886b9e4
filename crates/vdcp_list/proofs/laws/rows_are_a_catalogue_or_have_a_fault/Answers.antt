use Rattle.vdcp_list.proofs.SomeCatalogue.{has_reading}
use Rattle.vdcp_list.proofs.laws.rows_are_a_catalogue_or_have_a_fault.Goals as goal

pub returns : goal.returns
returns c = has_reading c.fields_say_values.ensures c.an_id_is_its_bytes.ensures.same
