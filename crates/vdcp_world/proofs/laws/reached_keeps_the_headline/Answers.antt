use Rattle.vdcp_world.proofs.HeadlineProof.{reached_kept, controller_reached, headline}
use Rattle.vdcp_world.proofs.laws.reached_keeps_the_headline.Goals as goal

pub returns : goal.returns
returns c =
    λ channel reached.
    headline channel (reached_kept c.crates_below.ensures channel reached)
    (c.crates_below.ensures.lawful channel.plan channel.state channel.log (controller_reached channel reached))
