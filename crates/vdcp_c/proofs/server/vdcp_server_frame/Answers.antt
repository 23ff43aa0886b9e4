-- What is refused is no port.
use Rattle.vdcp_c.proofs.server.vdcp_server_frame.Goals as goal

pub returns-in_default-clause-accepts : goal.returns-in_default-clause-accepts
returns-in_default-clause-accepts c port is _ = cc (c.in_default.ensures.accepts port is)
