-- What is refused is no port.
use Rattle.vdcp_c.proofs.server.vdcp_server_answer.Goals as goal

pub returns-in_default-clause-accepts : goal.returns-in_default-clause-accepts
returns-in_default-clause-accepts c port content is _ _ = cc (c.in_default.ensures.accepts port is)
