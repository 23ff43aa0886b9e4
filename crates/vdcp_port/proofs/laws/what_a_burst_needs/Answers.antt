-- How long what is sent is, and how many items air, at most.
use Rattle.vdcp_port.proofs.Sizes.{fits_most, airs_most}
use Rattle.vdcp_port.proofs.laws.what_a_burst_needs.Goals as goal

pub returns-clause-sent : goal.returns-clause-sent
returns-clause-sent c = fits_most c.an_answer_is_short.ensures c.one_reading.ensures.some

pub returns-clause-aired : goal.returns-clause-aired
returns-clause-aired c = airs_most c.one_reading.ensures.some
