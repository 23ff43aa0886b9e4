-- Text that is refused is no ID's.
use Rattle.vdcp_text.proofs.make.id_of.Goals as goal

pub returns-in-Err-clause-none : goal.returns-in-Err-clause-none
returns-in-Err-clause-none c id is = let accepted = c.parse.ensures.accepts id is in cc (accepted, c.in-Err.is)
