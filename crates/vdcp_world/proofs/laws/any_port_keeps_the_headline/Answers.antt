use Rattle.vdcp_world.proofs.Leftover.{any_port}
use Rattle.vdcp_world.proofs.laws.any_port_keeps_the_headline.Goals as goal

pub returns : goal.returns
returns c = any_port c.crates_below.ensures c.crates_below.ensures.lawful
