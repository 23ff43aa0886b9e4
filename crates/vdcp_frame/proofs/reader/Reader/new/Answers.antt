-- A new reader is between two messages.
use Rattle.std.proofs.Common.{arith}
use Rattle.vdcp_frame.proofs.FeedLemmas.{between}
use Rattle.vdcp_frame.proofs.reader.Reader.new.Goals as goal

pub invariant_of-result : goal.invariant_of-result
invariant_of-result c = rw c.after.ensures (between 0 _ (omega arith))
