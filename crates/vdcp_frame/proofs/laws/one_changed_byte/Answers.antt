-- One changed byte of a frame is a bad sum.
use Rattle.vdcp_frame.proofs.ChangedByteLemmas.{changed_byte}
use Rattle.vdcp_frame.proofs.laws.one_changed_byte.Goals as goal

pub returns : goal.returns
returns c kind unit code rest frame i byte ms before more =
    changed_byte 4096 kind unit code rest frame i byte ms before more
