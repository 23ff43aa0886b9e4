use Rattle.vdcp_laws.proofs.AsrunRows.{late_but_one, late_complete}
use Rattle.vdcp_laws.proofs.asrun_lists.an_asrun_list_of_a_late_line_is_of_what_aired.Goals as goal

pub returns-clause-but_one : goal.returns-clause-but_one
returns-clause-but_one c =
    λ rate channel reached. late_but_one rate channel (c.a_late_line_keeps_the_headline.ensures channel reached)

pub returns-clause-complete : goal.returns-clause-complete
returns-clause-complete c =
    λ rate channel reached. late_complete rate channel (c.a_late_line_keeps_the_headline.ensures channel reached)
