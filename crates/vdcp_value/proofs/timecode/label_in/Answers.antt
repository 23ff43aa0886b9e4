use Rattle.std.proofs.Common.{arith, ◌∙◌}
use Rattle.vdcp_value.proofs.LabelText.{spelled}
use Rattle.vdcp_value.proofs.timecode.label_in.Goals as goal

pub returns-clause-read : goal.returns-clause-read
returns-clause-read c = (
  grind (
    arith,
    c.in_ok-number.ensures.read.0,
    c.in_ok-number-2.ensures.read.0,
    c.in_ok-number-3.ensures.read.0,
    c.in_ok-number-4.ensures.read.0,
  ),
  spelled c.args.rate c.args.text.now _ (omega arith) c.if-first-ne58.false c.if-second-ne58.false
      (c.if-mark-frames_mark.false ∙ c.frames_mark.ensures)
      c.in_ok-number.ensures.read.1 c.in_ok-number-2.ensures.read.1 c.in_ok-number-3.ensures.read.1
      c.in_ok-number-4.ensures.read.1,
)
