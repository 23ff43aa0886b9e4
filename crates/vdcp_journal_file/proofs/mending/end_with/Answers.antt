use Rattle.vdcp_journal_file.proofs.Mended.{has_just_if}
use Rattle.vdcp_journal_file.proofs.mending.end_with.Goals as goal

pub returns-clause-ends : goal.returns-clause-ends
returns-clause-ends g c =
    has_just_if c.replace_from.result g.F.Disk.safe g.F.Disk.written (g.F.Disk.written c.args.file.now)
    (g.F.Disk.written c.close_row.new.file) c.replace_from.new.file c.in_ok-size.size c.args.rows.now
    c.in_ok-close_row.ensures.closed c.in_ok-size.ensures.size c.replace_from.ensures.replaced c.replace_from.ensures.synced
