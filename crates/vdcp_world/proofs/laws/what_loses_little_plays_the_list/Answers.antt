use Rattle.vdcp_world.proofs.AnyPort.{plays_lossy, shows_few}
use Rattle.vdcp_world.proofs.laws.what_loses_little_plays_the_list.Goals as goal

pub returns-clause-plays : goal.returns-clause-plays
returns-clause-plays c = plays_lossy c.crates_below.ensures

pub returns-clause-losses : goal.returns-clause-losses
returns-clause-losses c = shows_few c.crates_below.ensures
