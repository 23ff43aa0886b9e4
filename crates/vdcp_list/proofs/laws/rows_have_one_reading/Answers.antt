use Rattle.vdcp_list.proofs.OneReading.{not_both, one_fault, one_list}
use Rattle.vdcp_list.proofs.SomeReading.{has_reading}
use Rattle.vdcp_list.proofs.laws.rows_have_one_reading.Goals as goal

pub returns-clause-one_of_both : goal.returns-clause-one_of_both
returns-clause-one_of_both c = has_reading c.fields_say_values.ensures

pub returns-clause-one_list : goal.returns-clause-one_list
returns-clause-one_list c = one_list c.fields_say_values.ensures

pub returns-clause-one_fault : goal.returns-clause-one_fault
returns-clause-one_fault c = one_fault

pub returns-clause-not_both : goal.returns-clause-not_both
returns-clause-not_both c = not_both
