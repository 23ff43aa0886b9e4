use Rattle.vdcp_words.proofs.reply.sense_reply.Goals as goal

pub returns-in-129-clause-table : goal.returns-in-129-clause-table
returns-in-129-clause-table c = λ unit. rw c.in-129.is (c.opened.ensures unit)

pub returns-in-133-clause-table : goal.returns-in-133-clause-table
returns-in-133-clause-table c = λ unit. rw c.in-133.is (c.state.ensures unit)

pub returns-in-135-clause-table : goal.returns-in-135-clause-table
returns-in-135-clause-table c = λ unit. rw c.in-135.is (c.active.ensures unit)

pub returns-in-148-clause-table : goal.returns-in-148-clause-table
returns-in-148-clause-table c = λ unit. rw c.in-148.is (c.size.ensures unit)

pub returns-in-150-clause-table : goal.returns-in-150-clause-table
returns-in-150-clause-table c = λ unit. rw c.in-150.is (c.present.ensures unit)
