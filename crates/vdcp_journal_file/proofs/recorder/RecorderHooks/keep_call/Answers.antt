use Rattle.std.proofs.Common.{subst}
use Rattle.vdcp_journal.specs.declared.row.Note.{Note}
use Rattle.vdcp_journal_file.proofs.recorder.RecorderHooks.keep_call.Goals as goal
use Rattle.vdcp_journal_file.specs.Recorded.{KeepsRow, LosesRow}

pub returns-in-Ok-clause-called : goal.returns-in-Ok-clause-called
returns-in-Ok-clause-called g c =
    subst (λ (one : Note). KeepsRow g.F.Disk.safe one c.args.self.now c.keep.new.self) c.note_of_call.ensures
    c.in-Ok.ensures.kept

pub returns-in-Err-clause-missed : goal.returns-in-Err-clause-missed
returns-in-Err-clause-missed g c =
    subst (λ (one : Note). LosesRow g.F.Disk.safe one c.args.self.now c.keep.new.self) c.note_of_call.ensures
    c.in-Err.ensures.torn
