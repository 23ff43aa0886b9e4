-- What is refused is no controller.
use Rattle.vdcp_c.proofs.controller.vdcp_controller_stop.Goals as goal

pub returns-in_default-clause-accepts : goal.returns-in_default-clause-accepts
returns-in_default-clause-accepts c plan state is _ = cc (c.in_default.ensures.accepts plan state is)
