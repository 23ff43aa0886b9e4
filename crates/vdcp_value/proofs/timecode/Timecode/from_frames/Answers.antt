use Rattle.std.proofs.Common.{◌∙◌, Some, ap, arith, sym}
use Rattle.vdcp_value.proofs.Lawful.{one_number}
use Rattle.vdcp_value.proofs.Timecodes.{frames_below}
use Rattle.vdcp_value.proofs.timecode.Timecode.from_frames.Goals as goal
use Rattle.vdcp_value.specs.Day.{frames_of_day}

pub returns-then-frames-frames_of_day-clause-accepts : goal.returns-then-frames-frames_of_day-clause-accepts
returns-then-frames-frames_of_day-clause-accepts c =
    λ timecode r n. absurd (omega (arith, frames_below timecode, ap frames_of_day r, n))

pub returns-clause-accepts : goal.returns-clause-accepts
returns-clause-accepts c =
    λ timecode r n. ap Some (one_number _ timecode (sym r) (c.of_frame-label.ensures.number ∙ sym n))
