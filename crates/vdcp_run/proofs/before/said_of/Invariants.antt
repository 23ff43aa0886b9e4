-- The runs so far say this.
use Rattle.std.proofs.Common.{◌≡◌, take}
use Rattle.vdcp_run.proofs.before.said_of.Given as goal
use Rattle.vdcp_run.specs.Before.{said_from}
use Rattle.vdcp_run.specs.declared.before.Said.TheVariants.{LeftOut}

abbrev pub invariant-loop-k : goal.invariant-loop-k
invariant-loop-k l = l.said ≡ said_from LeftOut (take l.k l.runs) l.event
