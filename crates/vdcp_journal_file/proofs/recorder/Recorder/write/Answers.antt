use Rattle.std.proofs.Common.{subst, sym}
use Rattle.std.specs.Option.{option_copied}
use Rattle.std.specs.Prelude.{IfSome}
use Rattle.vdcp_journal.specs.Rows.{AreBytesOf}
use Rattle.vdcp_journal_file.proofs.recorder.Recorder.write.Goals as goal
use Rattle.vdcp_journal_file.specs.Recording.{Recording}

pub write_rows-requires-clause-spelled : goal.write_rows-requires-clause-spelled
write_rows-requires-clause-spelled g c =
    subst (λ (r : Recording _). IfSome c.args.last (λ row. IfSome (option_copied c.args.bytes)
    (λ b. AreBytesOf r.unit b.items row.note))) (sym c.self.view_is) c.requires
