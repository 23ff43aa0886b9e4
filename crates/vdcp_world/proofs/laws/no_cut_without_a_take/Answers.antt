use Rattle.vdcp_world.proofs.AnyPort.{uncut}
use Rattle.vdcp_world.proofs.NoCutProof.{no_cut}
use Rattle.vdcp_world.proofs.laws.no_cut_without_a_take.Goals as goal

pub returns : goal.returns
returns c = record { reached = no_cut c.crates_below.ensures; any_port = uncut c.crates_below.ensures }
