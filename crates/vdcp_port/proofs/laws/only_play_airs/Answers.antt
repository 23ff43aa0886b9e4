-- What airs is what PLAY finds cued.
use Rattle.vdcp_port.proofs.TableLaws.{message_airs, message_airing}
use Rattle.vdcp_port.proofs.laws.only_play_airs.Goals as goal

pub returns-clause-play : goal.returns-clause-play
returns-clause-play c = λ p m item e. (message_airs p m item e).play

pub returns-clause-selected : goal.returns-clause-selected
returns-clause-selected c = λ p m item e. (message_airs p m item e).selected

pub returns-clause-cued : goal.returns-clause-cued
returns-clause-cued c = λ p m item e. (message_airs p m item e).cued

pub returns-clause-plays : goal.returns-clause-plays
returns-clause-plays c = λ p m item e. (message_airing p m item e).0

pub returns-clause-empties : goal.returns-clause-empties
returns-clause-empties c = λ p m item e. (message_airing p m item e).1
