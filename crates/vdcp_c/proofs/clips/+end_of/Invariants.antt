-- Each call has half the places.
use Rattle.vdcp_c.proofs.clips.+end_of.Given as goal

abbrev pub decreases-end_of : goal.decreases-end_of
decreases-end_of l = l.bits
