use Rattle.std.proofs.Common.{length}
use Rattle.vdcp_journal.proofs.mending.+give_all.Given as goal

abbrev pub decreases-give_all : goal.decreases-give_all
decreases-give_all g l = length l.notes.now
