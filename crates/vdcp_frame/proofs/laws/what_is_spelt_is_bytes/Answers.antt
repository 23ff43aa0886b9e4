-- What is spelt is bytes, 1 to 258 for a message.
use Rattle.vdcp_frame.proofs.ReadingLemmas.{spelt_some}
use Rattle.vdcp_frame.proofs.SpellingLemmas.{spelt_octets, spelt_most, all_octets}
use Rattle.vdcp_frame.proofs.laws.what_is_spelt_is_bytes.Goals as goal

pub returns-clause-message : goal.returns-clause-message
returns-clause-message c = spelt_octets

pub returns-clause-size : goal.returns-clause-size
returns-clause-size c m bytes s = (spelt_some m bytes s, spelt_most m bytes s)

pub returns-clause-messages : goal.returns-clause-messages
returns-clause-messages c = all_octets
