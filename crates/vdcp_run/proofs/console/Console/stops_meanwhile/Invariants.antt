-- The operator's calls on the list wait.
use Rattle.std.proofs.Common.{◌≡◌}
use Rattle.vdcp_run.proofs.console.Console.stops_meanwhile.Given as goal

abbrev pub invariant-pieces : goal.invariant-pieces
invariant-pieces g l = l.self.hand.list ≡ l.initial.self.hand.list
