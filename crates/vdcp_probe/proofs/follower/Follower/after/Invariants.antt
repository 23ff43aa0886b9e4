use Rattle.std.proofs.Common.{take}
use Rattle.std.specs.Prelude.{◌≢◌, All}
use Rattle.vdcp_probe.specs.Following.{answer_after}
use Rattle.vdcp_probe.proofs.follower.Follower.after.Given as goal

-- none of the first ones fits
abbrev pub invariant-loop-meanwhile : goal.invariant-loop-meanwhile
invariant-loop-meanwhile g l =
    All (λ meanwhile. l.came ≢ answer_after meanwhile l.self l.burst) (take l.meanwhile-index l.meanwhile-items)
