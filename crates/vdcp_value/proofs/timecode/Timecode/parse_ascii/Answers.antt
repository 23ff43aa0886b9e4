use Rattle.std.proofs.Common.{ap, Ok, sym, ◌∙◌}
use Rattle.vdcp_value.proofs.LabelText.{one_timecode_text}
use Rattle.vdcp_value.proofs.timecode.Timecode.parse_ascii.Goals as goal

pub returns-clause-accepts : goal.returns-clause-accepts
returns-clause-accepts c =
    λ timecode r b. ap Ok (one_timecode_text _ timecode (sym r) (sym c.in-Some.ensures.read.1 ∙ sym b))
