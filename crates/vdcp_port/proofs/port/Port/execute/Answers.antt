-- OPEN, whatever its lock byte.
use Rattle.vdcp_port.proofs.port.Port.execute.Goals as goal

pub returns-in-Open : goal.returns-in-Open
returns-in-Open g c = rw c.in-Open.is (c.open.ensures c.in-Open.field-1)
