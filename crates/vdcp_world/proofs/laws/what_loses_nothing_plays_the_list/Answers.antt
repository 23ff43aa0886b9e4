use Rattle.vdcp_world.proofs.InTime.{has_one_way}
use Rattle.vdcp_world.proofs.AnyPort.{plays_any}
use Rattle.vdcp_world.proofs.laws.what_loses_nothing_plays_the_list.Goals as goal

pub returns-clause-line : goal.returns-clause-line
returns-clause-line c = has_one_way

pub returns-clause-plays : goal.returns-clause-plays
returns-clause-plays c = plays_any c.crates_below.ensures
