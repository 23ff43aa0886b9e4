use Rattle.std.proofs.Common.{◌+◌, ◌-◌, ◌≤◌, arith, drop, length-take, sym}
use Rattle.vdcp_journal.proofs.LinesLeft.{range-drop}
use Rattle.vdcp_journal.proofs.whole.WholeLines.add_line.Goals as goal

pub returns-clause-begun : goal.returns-clause-begun
returns-clause-begun g c =
    let self = c.args.self.now in
    let within : self.whole + c.args.size ≤ self.filled =
    omega (arith, c.requires.within, length-take (self.filled - self.whole) (drop self.whole self.held.items)) in
    sym (range-drop self.held.items self.whole self.filled c.args.size within)
