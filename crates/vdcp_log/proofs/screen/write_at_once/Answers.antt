use Rattle.std.proofs.Common.{take}
use Rattle.std.proofs.KnownBytes.{Appends-kept}
use Rattle.vdcp_log.proofs.Written.{more_within, taken_more}
use Rattle.vdcp_log.proofs.screen.write_at_once.Goals as goal

pub loop-preserved : goal.loop-preserved
loop-preserved g c =
    let old = g.W.Write.contents c.args.writer.now in
    let middle = g.W.Write.contents c.loop.writer in
    let new = g.W.Write.contents c.write.new.self in
    record {
      within = more_within c.args.bytes.now c.loop.written c.in-Ok.count c.loop.invariant.within c.in-Ok.ensures.bound;
      taken = taken_more old middle new c.args.bytes.now c.loop.written c.in-Ok.count c.loop.invariant.taken
          c.in-Ok.ensures.bytes;
    }

pub returns-in-Err-clause-beginning : goal.returns-in-Err-clause-beginning
returns-in-Err-clause-beginning g c =
    let old = g.W.Write.contents c.args.writer.now in
    let middle = g.W.Write.contents c.loop.writer in
    let new = g.W.Write.contents c.write.new.self in
    Appends-kept old middle new (take c.loop.written c.args.bytes.now) c.loop.invariant.taken c.in-Err.ensures.bytes
