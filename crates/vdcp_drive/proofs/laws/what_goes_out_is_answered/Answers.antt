use Rattle.vdcp_drive.proofs.Moments.{moments_of}
use Rattle.vdcp_drive.proofs.laws.what_goes_out_is_answered.Goals as goal

pub returns : goal.returns
returns c = moments_of c.laws_below.ensures
