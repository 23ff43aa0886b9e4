use Rattle.std.proofs.Common.{ap, Ok, sym, ◌∙◌}
use Rattle.vdcp_value.proofs.Bcd.{label_of_own_bcd}
use Rattle.vdcp_value.proofs.Timecodes.{same_timecode}
use Rattle.vdcp_value.proofs.timecode.Timecode.from_bcd.Goals as goal
use Rattle.vdcp_value.specs.Bcd.{label_of_bcd}

pub returns-clause-accepts : goal.returns-clause-accepts
returns-clause-accepts c =
    λ timecode r b.
    ap Ok
    (same_timecode _ timecode (sym r)
    ((λ i. record {
      hours = c.in_ok-from_digits-4.ensures.read.1 i;
      minutes = c.in_ok-from_digits-3.ensures.read.1 i;
      seconds = c.in_ok-from_digits-2.ensures.read.1 i;
      frames = c.in_ok-from_digits.ensures.read.1 i;
    }) ∙ ap label_of_bcd (sym b) ∙ label_of_own_bcd timecode))
