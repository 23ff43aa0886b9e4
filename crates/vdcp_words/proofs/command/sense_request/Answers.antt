use Rattle.vdcp_words.proofs.command.sense_request.Goals as goal

pub returns-in-1-clause-table : goal.returns-in-1-clause-table
returns-in-1-clause-table c = λ unit. rw c.in-1.is (c.open.ensures unit)
