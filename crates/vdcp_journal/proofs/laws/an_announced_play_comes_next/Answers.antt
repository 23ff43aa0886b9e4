use Rattle.vdcp_journal.proofs.Added.{announced}
use Rattle.vdcp_journal.proofs.laws.an_announced_play_comes_next.Goals as goal

pub returns : goal.returns
returns c = λ plan state h free is goes_on.
    let (plays, lets) = announced plan state h free is goes_on in (plays, lets.0, lets.1)
