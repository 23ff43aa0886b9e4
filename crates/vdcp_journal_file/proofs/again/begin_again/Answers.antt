use Rattle.std.proofs.lemmas.Result.{IfOk-weaker}
use Rattle.vdcp_journal_file.proofs.again.begin_again.Goals as goal
use Rattle.vdcp_journal_file.specs.Mending.{lines_of}

pub returns-clause-opened : goal.returns-clause-opened
returns-clause-opened g c =
    IfOk-weaker c.begin_in.result _ _ (λ r p. let (begun, headed, opened, has, shows) = p in (lines_of begun, opened))
    c.begin_in.ensures.opened

pub returns-clause-shows : goal.returns-clause-shows
returns-clause-shows g c =
    IfOk-weaker c.begin_in.result _ _ (λ r p. let (begun, headed, opened, has, shows) = p in (lines_of begun, shows))
    c.begin_in.ensures.opened
