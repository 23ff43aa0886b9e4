-- The label at a frame's place among all labels of the day.
use Rattle.std.proofs.Common.{ℕ, ◌+◌, ◌-◌, ◌*◌, ◌/◌, ◌%◌, ◌≡◌, arith, true, ◌∙◌}
use Rattle.vdcp_value.proofs.FrameNumbers.{frame_number_is}
use Rattle.vdcp_value.specs.Day.{frame_number}
use Rattle.vdcp_value.proofs.Numbers.{number, at}
use Rattle.vdcp_value.specs.Labels.{frames_per_second, is_lawful}
use Rattle.vdcp_value.specs.declared.rate.Rate.TheVariants.{F24, F25, F30, D30}
use Rattle.vdcp_value.specs.declared.rate.Rate.{Rate}
use Rattle.vdcp_value.specs.declared.label.Label.{Label}

-- the label at a place among all labels of the day
abbrev pub label_at : Rate → ℕ → Label
label_at rate place =
    at (place / frames_per_second rate / 3_600) (place / frames_per_second rate / 60 % 60)
    (place / frames_per_second rate % 60) (place % frames_per_second rate)

-- where a frame stands among all labels
abbrev pub IsPlace : Rate → ℕ → ℕ → Type 0
IsPlace F24 frame place = place ≡ frame
IsPlace F25 frame place = place ≡ frame
IsPlace F30 frame place = place ≡ frame
IsPlace D30 frame place = place ≡ frame + 2 * (place / 1_800 - place / 18_000)

pub number_at : (rate : Rate) (frame place : ℕ) → IsPlace rate frame place → number rate (label_at rate place) ≡ frame
number_at F24 frame place e = omega (arith, e)
number_at F25 frame place e = omega (arith, e)
number_at F30 frame place e = omega (arith, e)
number_at D30 frame place e = omega (arith, e)

-- the label at a frame's place has the frame's number
pub frame_at : (rate : Rate) (frame place : ℕ) → IsPlace rate frame place → is_lawful rate (label_at rate place) ≡ true
    → frame_number rate (label_at rate place) ≡ frame
frame_at rate frame place e lawful =
    frame_number_is rate (label_at rate place) lawful ∙ number_at rate frame place e
