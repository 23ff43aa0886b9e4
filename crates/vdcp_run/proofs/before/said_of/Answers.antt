use Rattle.std.proofs.Common.{◌<◌, ap, arith, length, refl, sym, ◌∙◌}
use Rattle.std.proofs.lemmas.Option.{slice_get_read}
use Rattle.vdcp_run.proofs.EarlierRuns.{said_more}
use Rattle.vdcp_run.proofs.before.said_of.Goals as goal
use Rattle.vdcp_run.specs.Before.{said_after}
use Rattle.vdcp_run.specs.declared.before.Said.{Said}
use Rattle.vdcp_run.specs.declared.before.Said.TheVariants.{LeftOut}

pub loop-k-preserved : goal.loop-k-preserved
loop-k-preserved c =
    let within : c.loop-k.k < length c.args.runs.now = omega arith in
    let at = slice_get_read c.args.runs.now (length c.args.runs.now) c.loop-k.k c.index-runs-k.result refl within
    c.index-runs-k.is in
    c.said_after-said.ensures ∙ ap (λ (s : Said). said_after s c.index-runs-k.result c.args.event) c.loop-k.invariant
    ∙ sym (said_more LeftOut c.args.runs.now c.args.event c.loop-k.k c.index-runs-k.result at)
