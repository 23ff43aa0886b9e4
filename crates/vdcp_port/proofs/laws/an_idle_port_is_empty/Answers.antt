-- A port that is idle.
use Rattle.vdcp_port.proofs.Idle.{tells_byte, idle_is_empty, none_cued, open_leaves, select_leaves, status_leaves}
use Rattle.vdcp_port.proofs.laws.an_idle_port_is_empty.Goals as goal

pub returns-clause-empty : goal.returns-clause-empty
returns-clause-empty c = λ p m groups e. idle_is_empty p.state (tells_byte p m groups e)

pub returns-clause-nothing_cued : goal.returns-clause-nothing_cued
returns-clause-nothing_cued c = λ p m groups e. none_cued p.state (tells_byte p m groups e)

pub returns-clause-after_open : goal.returns-clause-after_open
returns-clause-after_open c = open_leaves

pub returns-clause-after_select : goal.returns-clause-after_select
returns-clause-after_select c = select_leaves

pub returns-clause-after_status : goal.returns-clause-after_status
returns-clause-after_status c = status_leaves
