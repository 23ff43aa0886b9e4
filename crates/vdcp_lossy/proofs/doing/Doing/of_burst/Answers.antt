use Rattle.vdcp_lossy.proofs.doing.Doing.of_burst.Goals as goal

pub returns-in-Cut : goal.returns-in-Cut
returns-in-Cut c = c.cut.ensures c.args.way

pub returns-in-Damaged : goal.returns-in-Damaged
returns-in-Damaged c = c.damaged.ensures c.args.way
