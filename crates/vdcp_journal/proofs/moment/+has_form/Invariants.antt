use Rattle.std.proofs.Common.{length}
use Rattle.vdcp_journal.proofs.moment.+has_form.Given as goal

-- proposed from what the function passes where it calls itself
abbrev pub decreases-has_form : goal.decreases-has_form
decreases-has_form l = length l.form.now
