-- Each event so far is said by the runs.
use Rattle.std.specs.Prelude.{All}
use Rattle.vdcp_run.proofs.before.events_before.Given as goal
use Rattle.vdcp_run.specs.Before.{IsSaidBy}

abbrev pub invariant-loop-event : goal.invariant-loop-event
invariant-loop-event g l = All (IsSaidBy l.runs) l.events.items
