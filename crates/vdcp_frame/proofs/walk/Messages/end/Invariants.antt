-- The walk is along this burst, and has fewer messages to come.
use Rattle.std.proofs.Common.{◌≡◌, ℕ, List, length}
use Rattle.vdcp_frame.specs.Walk.{coming}
use Rattle.vdcp_frame.proofs.walk.Messages.end.Given as goal

abbrev pub invariant-messages : goal.invariant-messages
invariant-messages l = ◌≡◌ {A = List ℕ} l.self.burst l.fn.self.burst

abbrev pub decreases-messages : goal.decreases-messages
decreases-messages l = length (coming l.self)
