use Rattle.std.proofs.Common.{arith}
use Rattle.vdcp_words.specs.Commands.{command_message}
use Rattle.vdcp_words.proofs.WordBytes.{command_fits, first_read}
use Rattle.vdcp_words.proofs.laws.command_is_read_first.Goals as goal

pub returns-clause-fits : goal.returns-clause-fits
returns-clause-fits c unit command within writable =
    command_fits c.ids_are_bytes.ensures unit command (omega arith) writable

pub returns-clause-first : goal.returns-clause-first
returns-clause-first c unit command more ms end within writable reads =
    first_read c.bursts_are_read.ensures (command_message unit command) more ms end
    (command_fits c.ids_are_bytes.ensures unit command (omega arith) writable) reads
