use Rattle.std.proofs.Common.{◌+◌, ◌<◌, length, refl, arith}
use Rattle.std.proofs.lemmas.Option.{slice_get_read}
use Rattle.vdcp_offline.proofs.SimNumbered.{appends_next}
use Rattle.vdcp_offline.proofs.sim.write_log.Goals as goal
use Rattle.vdcp_offline.specs.Sim.{exchange_line}

pub loop-k-preserved : goal.loop-k-preserved
loop-k-preserved g c =
    let within : c.loop-k.k < length c.args.log.now = omega arith in
    let at = slice_get_read c.args.log.now
    (length c.args.log.now) c.loop-k.k c.index-log-k.result refl within c.index-log-k.is in
    appends_next exchange_line 1 c.args.log.now c.loop-k.k c.index-log-k.result
    (c.loop-k.k + 1) _ _ _ at (omega arith) c.loop-k.invariant c.in_ok-write_exchange.ensures
