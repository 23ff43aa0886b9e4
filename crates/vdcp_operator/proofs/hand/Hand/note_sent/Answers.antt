use Rattle.vdcp_operator.proofs.hand.Hand.note_sent.Goals as goal

pub returns-in-Some-Status-clause-paces : goal.returns-in-Some-Status-clause-paces
returns-in-Some-Status-clause-paces g c =
    let status = rw c.in-Some-Status.is at c.in-Some-Status.field-0-is in
    rw (c.in-Some-Status.is, status) (c.wait.ensures c.in-Some-Status.field-0-0)
