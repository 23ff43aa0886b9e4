use Rattle.std.proofs.Common.{take}
use Rattle.std.specs.Io.KnownBytes.{Appends}
use Rattle.vdcp_offline.specs.Sim.{exchange_line, numbered}
use Rattle.vdcp_offline.proofs.sim.write_log.Given as goal

-- the lines of the exchanges so far are written
abbrev pub invariant-loop-k : goal.invariant-loop-k
invariant-loop-k g l =
    Appends (g.W.Write.contents l.initial.out) (g.W.Write.contents l.out) (numbered exchange_line 1 (take l.k l.log))
