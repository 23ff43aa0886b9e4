use Rattle.std.proofs.Common.{length}
use Rattle.vdcp_journal_file.proofs.mending.+add_rows.Given as goal

abbrev pub decreases-add_rows : goal.decreases-add_rows
decreases-add_rows l = length l.notes.now
