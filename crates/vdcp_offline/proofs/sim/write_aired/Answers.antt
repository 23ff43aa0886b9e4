use Rattle.std.proofs.Common.{◌<◌, length, refl, arith}
use Rattle.std.proofs.lemmas.Option.{slice_get_read}
use Rattle.vdcp_offline.proofs.SimNumbered.{appends_next}
use Rattle.vdcp_offline.proofs.sim.write_aired.Goals as goal
use Rattle.vdcp_offline.specs.Sim.{aired_line}

pub loop-k-preserved : goal.loop-k-preserved
loop-k-preserved g c =
    let within : c.loop-k.k < length c.args.aired.now = omega arith in
    let at = slice_get_read c.args.aired.now
    (length c.args.aired.now) c.loop-k.k c.index-aired-k.result refl within c.index-aired-k.is in
    appends_next (aired_line c.args.rate) 0 c.args.aired.now c.loop-k.k c.index-aired-k.result c.loop-k.k _ _ _ at
    (omega arith) c.loop-k.invariant
    c.in_ok-write_item.ensures
