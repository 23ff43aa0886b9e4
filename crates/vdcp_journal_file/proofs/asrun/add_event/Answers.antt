use Rattle.vdcp_journal_file.proofs.asrun.add_event.Goals as goal

pub returns-in-Ok-clause-told : goal.returns-in-Ok-clause-told
returns-in-Ok-clause-told c = rw c.in-Some.is c.in-Ok.ensures.bytes
