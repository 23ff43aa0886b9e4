-- What is seen of a time code: rate, label, frame number, bytes and text.
use Rattle.std.specs.Prelude.{ℕ, List}
use Rattle.vdcp_value.specs.Bcd.{bcd_of_label}
use Rattle.vdcp_value.specs.Day.{frame_number}
use Rattle.vdcp_value.specs.LabelText.{label_text}
use Rattle.vdcp_value.specs.declared.label.Label.{Label}
use Rattle.vdcp_value.specs.declared.rate.Rate.{Rate}
use Rattle.vdcp_value.specs.declared.timecode.Timecode.{Timecode}

abbrev pub rate_of : Timecode → Rate
rate_of timecode = timecode.rate

abbrev pub label_of : Timecode → Label
label_of timecode = timecode.label

-- how many lawful labels of the day stand before its own
abbrev pub frames_of : Timecode → ℕ
frames_of timecode = frame_number (rate_of timecode) (label_of timecode)

-- its four bytes
abbrev pub bcd_of : Timecode → List ℕ
bcd_of timecode = bcd_of_label (label_of timecode)

-- its text
abbrev pub text_of : Timecode → List ℕ
text_of timecode = label_text (rate_of timecode) (label_of timecode)
