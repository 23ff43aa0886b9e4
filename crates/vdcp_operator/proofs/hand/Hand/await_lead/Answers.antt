use Rattle.vdcp_operator.proofs.hand.Hand.await_lead.Goals as goal
use Rattle.vdcp_operator.specs.Hands.{unasked}

pub returns-in_default-clause-asks : goal.returns-in_default-clause-asks
returns-in_default-clause-asks g c = unasked
