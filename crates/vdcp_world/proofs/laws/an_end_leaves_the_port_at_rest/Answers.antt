use Rattle.vdcp_world.proofs.AtEndProof.{leaves}
use Rattle.vdcp_world.proofs.laws.an_end_leaves_the_port_at_rest.Goals as goal

pub returns : goal.returns
returns c =
    λ channel reached.
    leaves c.crates_below.ensures channel reached
