use Rattle.std.proofs.Common.{◌≡◌, ◌≤◌, ◌++◌, length}
use Rattle.vdcp_world.specs.Rounds.{times}
use Rattle.vdcp_world.specs.Script.{repeated_events}
use Rattle.vdcp_world.proofs.script.push_again.Given as goal

-- this much was added, and there are no more events than a script may have
abbrev pub invariant-times : goal.invariant-times
invariant-times l =
    (length l.events.items ≤ 100000)
    × (l.events.items ≡ l.fn.events.items ++ times l.counter (repeated_events l.repeated))
