use Rattle.std.proofs.Common.{◌≤◌, length}
use Rattle.std.specs.Prelude.{map}
use Rattle.vdcp_world.specs.Script.{SayAll}
use Rattle.vdcp_world.proofs.ScriptLemmas.{line_of}
use Rattle.vdcp_world.proofs.script.read_script.Given as goal

-- there are no more events than a script may have, and the lines so far say them
abbrev pub invariant-lines : goal.invariant-lines
invariant-lines l =
    (length l.events.items ≤ 100000) × SayAll (map line_of l.yielded) l.events.items
