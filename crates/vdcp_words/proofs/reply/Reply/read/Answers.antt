use Rattle.vdcp_frame.specs.Message.{framed}
use Rattle.vdcp_words.specs.Computed.{reply_of}
use Rattle.vdcp_words.proofs.reply.Reply.read.Goals as goal

pub returns-in-3-clause-table : goal.returns-in-3-clause-table
returns-in-3-clause-table c = rw (c.in-Framed.is, c.in-3.is) (c.sense_reply.ensures.table c.in-Framed.unit)

pub returns-in-3-clause-exact : goal.returns-in-3-clause-exact
returns-in-3-clause-exact c =
    let message = framed 3 c.in-Framed.unit c.in-Framed.code c.in-Framed.rest.now in
    let computed = c.one_reply.ensures.some message c.sense_reply.ensures.bytes in
    let read = c.sense_reply.ensures.table c.in-Framed.unit in
    rw (c.in-Framed.is, c.in-3.is)
    (c.one_reply.ensures.only message c.sense_reply.result (reply_of message) read computed)
