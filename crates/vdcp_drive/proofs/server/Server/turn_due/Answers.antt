use Rattle.vdcp_drive.proofs.server.Server.turn_due.Goals as goal

pub returns-in-Err-clause-serves : goal.returns-in-Err-clause-serves
returns-in-Err-clause-serves g c ear h = c.in-Err.ensures.serves c.requires g.H.ServerHooks.can_act ear h
