use Rattle.std.proofs.Common.{arith}
use Rattle.vdcp_words.specs.Replies.{reply_message}
use Rattle.vdcp_words.proofs.WordBytes.{reply_fits, first_read}
use Rattle.vdcp_words.proofs.laws.reply_is_read_first.Goals as goal

pub returns-clause-fits : goal.returns-clause-fits
returns-clause-fits c unit reply within writable =
    reply_fits c.ids_are_bytes.ensures unit reply (omega arith) writable

pub returns-clause-first : goal.returns-clause-first
returns-clause-first c unit reply more ms end within writable reads =
    first_read c.bursts_are_read.ensures (reply_message unit reply) more ms end
    (reply_fits c.ids_are_bytes.ensures unit reply (omega arith) writable) reads
