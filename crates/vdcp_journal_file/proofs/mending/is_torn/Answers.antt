use Rattle.std.proofs.Common.{sym, ◌∙◌}
use Rattle.vdcp_journal_file.proofs.Mended.{no_closed}
use Rattle.vdcp_journal_file.proofs.mending.is_torn.Goals as goal

pub returns-then-text-row-clause-torn : goal.returns-then-text-row-clause-torn
returns-then-text-row-clause-torn c = λ begins.
    no_closed c.args.text.now (sym c.contains.ensures.value ∙ c.if-contains.false)
    (sym c.lacks_feed.ensures ∙ c.if-lacks_feed.false)
