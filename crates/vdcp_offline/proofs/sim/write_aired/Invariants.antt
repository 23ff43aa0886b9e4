use Rattle.std.proofs.Common.{take}
use Rattle.std.specs.Io.KnownBytes.{Appends}
use Rattle.vdcp_offline.specs.Sim.{aired_line, numbered}
use Rattle.vdcp_offline.proofs.sim.write_aired.Given as goal

-- the lines of the items so far are written
abbrev pub invariant-loop-k : goal.invariant-loop-k
invariant-loop-k g l =
    Appends (g.W.Write.contents l.initial.out) (g.W.Write.contents l.out)
    (numbered (aired_line l.rate) 0 (take l.k l.aired))
