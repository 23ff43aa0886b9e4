-- Time codes of one rate and label are one.
use Rattle.std.proofs.Common.{◌≡◌, ◌<◌, true}
use Rattle.vdcp_value.proofs.FrameNumbers.{frame_number_below}
use Rattle.vdcp_value.specs.Day.{frames_of_day}
use Rattle.vdcp_value.specs.Labels.{is_lawful}
use Rattle.vdcp_value.specs.Timecodes.{rate_of, label_of, frames_of}
use Rattle.vdcp_value.specs.declared.timecode.Timecode.{Timecode}
use mathlib.Core.Bool.{Bool-set}
use mathlib.Core.HLevel.{is_prop→PathP}

-- time codes of one rate and label are one time code
pub same_timecode : (a b : Timecode) → rate_of a ≡ rate_of b → label_of a ≡ label_of b → a ≡ b
same_timecode a b r l =
    λ i. record {
      rate = r i;
      label = l i;
      lawful =
          is_prop→PathP
          (λ j. is_lawful (r j) (l j) ≡ true)
          (λ j. Bool-set (is_lawful (r j) (l j)) true)
          a.lawful
          b.lawful
          i;
    }

-- the frame number of a time code is below the day's
pub frames_below : (timecode : Timecode) → frames_of timecode < frames_of_day (rate_of timecode)
frames_below timecode = frame_number_below (rate_of timecode) (label_of timecode) timecode.lawful
