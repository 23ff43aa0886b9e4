use Rattle.std.proofs.Common.{subst}
use Rattle.vdcp_journal_file.specs.Resuming.{JournalShows}
use Rattle.vdcp_run.proofs.Begun.{begun_again, says_again, unkept_again}
use Rattle.vdcp_run.proofs.begin.begin_after.Goals as goal
use Rattle.vdcp_run.specs.Asking.{start_of}

pub returns-in-Ok-clause-begun : goal.returns-in-Ok-clause-begun
returns-in-Ok-clause-begun g c again =
    let begun = c.in-Ok.begun in
    begun_again (g.S.Source.items c.args.source.now) c.args.settings c.args.journal c.args.heading.now c.beginning_of-beginning.result
    (start_of (λ s. g.S.Source.items s.now) begun.controller) begun.recorder c.requires.some c.requires.few c.requires.heading again
    c.beginning_of-beginning.ensures.beginning c.beginning_of-beginning.ensures.said c.in-Ok.ensures.opened c.in-Ok.ensures.from

pub returns-in-Err-clause-refused : goal.returns-in-Err-clause-refused
returns-in-Err-clause-refused g c again =
    unkept_again (g.S.Source.items c.args.source.now) c.args.settings c.args.journal c.name.result c.args.heading.now
    c.beginning_of-beginning.result c.in-Err.failure again c.name.ensures c.requires.heading c.beginning_of-beginning.ensures.said
    c.in-Err.ensures.unopened

pub returns-in-Ok-clause-calls : goal.returns-in-Ok-clause-calls
returns-in-Ok-clause-calls g c again =
    let begun = c.in-Ok.begun in
    let shown = c.in-Ok.ensures.shows in
    says_again (g.S.Source.items c.args.source.now) c.args.settings c.args.journal begun.calls.items again shown.0 begun.runs.items
    (subst (λ heading. JournalShows (g.S.Source.items c.args.source.now) heading shown.0 begun.runs.items begun.calls.items)
    c.requires.heading shown.1)
