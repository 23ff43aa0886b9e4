-- The operator's calls on the list wait.
use Rattle.std.proofs.Common.{◌≡◌}
use Rattle.vdcp_run.proofs.console.Console.connect_staying.Given as goal

abbrev pub invariant-tries : goal.invariant-tries
invariant-tries g l = l.self.hand.list ≡ l.initial.self.hand.list
