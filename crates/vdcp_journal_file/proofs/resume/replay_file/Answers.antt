use Rattle.std.proofs.lemmas.Result.{IfErr-weaker}
use Rattle.vdcp_journal_file.proofs.resume.replay_file.Goals as goal
use Rattle.vdcp_journal_file.specs.Resuming.{bad}

pub returns-clause-replayed : goal.returns-clause-replayed
returns-clause-replayed g c = rw (c.new-reader.ensures, c.in_ok-reader_of.ensures.all) at c.replay.ensures.replayed

pub returns-clause-unresumed : goal.returns-clause-unresumed
returns-clause-unresumed g c = IfErr-weaker c.replay.result _ _ (λ failure p. bad _ p.0 p.2 p.1) c.replay.ensures.refused
