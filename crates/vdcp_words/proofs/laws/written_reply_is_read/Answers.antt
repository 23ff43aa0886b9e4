use Rattle.std.proofs.Common.{Ok}
use Rattle.vdcp_words.specs.Replies.{reply_message}
use Rattle.vdcp_words.proofs.ReplyLaws.{reply_written, unit_of-reply}
use Rattle.vdcp_words.proofs.WordBytes.{reply_of-written}
use Rattle.vdcp_words.proofs.laws.written_reply_is_read.Goals as goal

pub returns-clause-read : goal.returns-clause-read
returns-clause-read c = reply_written c.ids_are_bytes.ensures

pub returns-clause-only : goal.returns-clause-only
returns-clause-only c unit reply outcome writable reads =
    c.one_reply.ensures.only (reply_message unit reply) outcome (Ok reply) reads
    (reply_written c.ids_are_bytes.ensures unit reply writable)

pub returns-clause-unit : goal.returns-clause-unit
returns-clause-unit c = unit_of-reply

pub returns-clause-computed : goal.returns-clause-computed
returns-clause-computed c = reply_of-written c.ids_are_bytes.ensures
