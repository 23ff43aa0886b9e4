use Rattle.vdcp_words.specs.Commands.{command_message}
use Rattle.std.proofs.Common.{Ok}
use Rattle.vdcp_words.proofs.CommandLaws.{command_written}
use Rattle.vdcp_words.proofs.WordBytes.{command_of-written}
use Rattle.vdcp_words.proofs.laws.written_command_is_read.Goals as goal

pub returns-clause-read : goal.returns-clause-read
returns-clause-read c = command_written

pub returns-clause-only : goal.returns-clause-only
returns-clause-only c unit command outcome writable reads =
    c.one_command.ensures.only (command_message unit command) outcome (Ok command) reads
    (command_written unit command writable)

pub returns-clause-computed : goal.returns-clause-computed
returns-clause-computed c = command_of-written c.ids_are_bytes.ensures
