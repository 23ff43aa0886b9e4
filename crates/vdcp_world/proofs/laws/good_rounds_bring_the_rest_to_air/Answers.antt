use Rattle.vdcp_world.proofs.InStepProof.{in_step_ends}
use Rattle.vdcp_world.proofs.laws.good_rounds_bring_the_rest_to_air.Goals as goal

pub returns : goal.returns
returns c =
    λ channel reached.
    in_step_ends c.crates_below.ensures c.crates_below.ensures.lawful channel reached
