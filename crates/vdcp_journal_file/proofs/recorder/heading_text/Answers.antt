use Rattle.std.proofs.lemmas.Result.{IfOk-weaker}
use Rattle.vdcp_journal_file.proofs.recorder.heading_text.Goals as goal

pub returns : goal.returns
returns g c = IfOk-weaker c.first_text.result _ _ (λ text is. (c.now.result, is)) c.first_text.ensures
