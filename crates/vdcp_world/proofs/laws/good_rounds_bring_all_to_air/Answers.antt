use Rattle.vdcp_world.proofs.BoundedEndProof.{bounded_end}
use Rattle.vdcp_world.proofs.laws.good_rounds_bring_all_to_air.Goals as goal

pub returns : goal.returns
returns c =
    λ channel reached.
    bounded_end c.crates_below.ensures c.crates_below.ensures.lawful channel reached
