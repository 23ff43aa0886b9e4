use Rattle.std.proofs.Common.{lit<}
use Rattle.vdcp_words.proofs.WordBytes.{nak_read}
use Rattle.vdcp_words.proofs.laws.naks_of_a_burst_end.Goals as goal

pub returns-clause-fault : goal.returns-clause-fault
returns-clause-fault c = nak_read c.bursts_are_read.ensures 0x04 (lit< tt)

pub returns-clause-cut : goal.returns-clause-cut
returns-clause-cut c = nak_read c.bursts_are_read.ensures 0x80 (lit< tt)
