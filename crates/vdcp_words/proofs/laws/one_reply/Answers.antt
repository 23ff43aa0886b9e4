use Rattle.vdcp_words.proofs.ReplyLaws.{one_reply_reading}
use Rattle.vdcp_words.proofs.ReplyReading.{reply_computed}
use Rattle.vdcp_words.proofs.laws.one_reply.Goals as goal

pub returns-clause-some : goal.returns-clause-some
returns-clause-some c = reply_computed c.ids_are_bytes.ensures

pub returns-clause-only : goal.returns-clause-only
returns-clause-only c = one_reply_reading c.ids_are_bytes.ensures
