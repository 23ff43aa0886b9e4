use Rattle.vdcp_words.proofs.WordBytes.{nothing_read}
use Rattle.vdcp_words.proofs.laws.no_bytes_are_no_message.Goals as goal

pub returns : goal.returns
returns c = nothing_read c.bursts_are_read.ensures
