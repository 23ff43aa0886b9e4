use Rattle.vdcp_frame.specs.Message.{framed}
use Rattle.vdcp_words.specs.Computed.{command_of}
use Rattle.vdcp_words.proofs.command.Command.read.Goals as goal

pub returns-in-1-clause-table : goal.returns-in-1-clause-table
returns-in-1-clause-table c = rw (c.in-Framed.is, c.in-1.is) (c.immediate.ensures.table c.in-Framed.unit)

pub returns-in-2-clause-table : goal.returns-in-2-clause-table
returns-in-2-clause-table c = rw (c.in-Framed.is, c.in-2.is) (c.preset.ensures.table c.in-Framed.unit)

pub returns-in-3-clause-table : goal.returns-in-3-clause-table
returns-in-3-clause-table c = rw (c.in-Framed.is, c.in-3.is) (c.sense_request.ensures.table c.in-Framed.unit)

pub returns-in-1-clause-exact : goal.returns-in-1-clause-exact
returns-in-1-clause-exact c =
    let message = framed 1 c.in-Framed.unit c.in-Framed.code c.in-Framed.rest.now in
    let computed = c.one_command.ensures.some message c.immediate.ensures.bytes in
    let read = c.immediate.ensures.table c.in-Framed.unit in
    rw (c.in-Framed.is, c.in-1.is)
    (c.one_command.ensures.only message c.immediate.result (command_of message) read computed)

pub returns-in-2-clause-exact : goal.returns-in-2-clause-exact
returns-in-2-clause-exact c =
    let message = framed 2 c.in-Framed.unit c.in-Framed.code c.in-Framed.rest.now in
    let computed = c.one_command.ensures.some message c.preset.ensures.bytes in
    let read = c.preset.ensures.table c.in-Framed.unit in
    rw (c.in-Framed.is, c.in-2.is)
    (c.one_command.ensures.only message c.preset.result (command_of message) read computed)

pub returns-in-3-clause-exact : goal.returns-in-3-clause-exact
returns-in-3-clause-exact c =
    let message = framed 3 c.in-Framed.unit c.in-Framed.code c.in-Framed.rest.now in
    let computed = c.one_command.ensures.some message c.sense_request.ensures.bytes in
    let read = c.sense_request.ensures.table c.in-Framed.unit in
    rw (c.in-Framed.is, c.in-3.is)
    (c.one_command.ensures.only message c.sense_request.result (command_of message) read computed)
