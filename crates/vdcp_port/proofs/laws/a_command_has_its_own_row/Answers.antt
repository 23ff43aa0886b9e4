-- The row of a command's message is the command's.
use Rattle.std.proofs.Common.{ap}
use Rattle.vdcp_port.specs.Row.{asked_row}
use Rattle.vdcp_port.proofs.laws.a_command_has_its_own_row.Goals as goal

pub returns : goal.returns
returns c = λ p command writable. ap (asked_row p.clips p.state)
    (c.a_command_asks_its_own_unit.ensures.own p.state.unit command writable)
