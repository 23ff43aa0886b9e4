use Rattle.vdcp_world.proofs.LateLine.HeadlineProof.{headline}
use Rattle.vdcp_world.proofs.LateLine.LateController.{controller_reached}
use Rattle.vdcp_world.proofs.LateLine.LateReached.{reached_airs}
use Rattle.vdcp_world.proofs.laws.a_late_line_keeps_the_headline.Goals as goal

pub returns : goal.returns
returns c =
    λ channel reached.
    let calls = controller_reached channel reached in
    headline channel (reached_airs c.crates_below.ensures channel reached) calls
    (c.crates_below.ensures.lawful channel.plan channel.state channel.log calls)
