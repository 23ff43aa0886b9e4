use Rattle.std.proofs.Common.{◌-◌}
use Rattle.std.specs.Vec.{vec_len}
use Rattle.vdcp_wire.proofs.script.behind_stale.Given as goal

abbrev pub decreases-stale : goal.decreases-stale
decreases-stale g l = vec_len l.entries - l.next
