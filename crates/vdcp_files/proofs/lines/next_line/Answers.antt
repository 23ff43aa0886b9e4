use Rattle.vdcp_files.proofs.FileLines.{takes_line}
use Rattle.vdcp_files.proofs.lines.next_line.Goals as goal

pub returns-in-Some-Ok-2-clause-takes : goal.returns-in-Some-Ok-2-clause-takes
returns-in-Some-Ok-2-clause-takes g c =
    let taken = rw (c.in-Some-Ok.is, c.in-Some-Ok.field-0-is) at c.next.ensures.steps.1 in takes_line _ _ c.in-Some-Ok.line taken.0 taken.1
