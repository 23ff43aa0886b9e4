use Rattle.std.proofs.Common.{length}
use Rattle.vdcp_journal_file.proofs.torn.+fits.Given as goal

-- proposed from what the function passes where it calls itself
abbrev pub decreases-fits : goal.decreases-fits
decreases-fits l = length l.form.now
