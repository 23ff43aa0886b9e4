use Rattle.vdcp_words.proofs.command.preset.Goals as goal

pub returns-in-37-clause-table : goal.returns-in-37-clause-table
returns-in-37-clause-table c = λ unit. rw c.in-37.is (c.cue_data.ensures unit)
