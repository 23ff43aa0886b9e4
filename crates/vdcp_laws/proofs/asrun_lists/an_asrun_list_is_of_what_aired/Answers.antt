use Rattle.vdcp_laws.proofs.AsrunRows.{but_one, complete}
use Rattle.vdcp_laws.proofs.asrun_lists.an_asrun_list_is_of_what_aired.Goals as goal

pub returns-clause-but_one : goal.returns-clause-but_one
returns-clause-but_one c =
    λ rate channel reached. but_one rate channel (c.reached_keeps_the_headline.ensures channel reached)

pub returns-clause-complete : goal.returns-clause-complete
returns-clause-complete c =
    λ rate channel reached. complete rate channel (c.reached_keeps_the_headline.ensures channel reached)
