use Rattle.std.proofs.lemmas.Result.{IfOk-weaker}
use Rattle.vdcp_journal_file.proofs.resume.resume_journal.Goals as goal

pub returns-clause-resumed : goal.returns-clause-resumed
returns-clause-resumed g c =
    IfOk-weaker c.resume_in.result _ _ (λ r p.
    let (begun, lines, run, headed, mends, replayed, from, timed, just, shows) = p in (lines, run, replayed, from, timed))
    c.resume_in.ensures.resumed

pub returns-clause-shows : goal.returns-clause-shows
returns-clause-shows g c =
    IfOk-weaker c.resume_in.result _ _ (λ r p.
    let (begun, lines, run, headed, mends, replayed, from, timed, just, shows) = p in (lines, shows))
    c.resume_in.ensures.resumed
