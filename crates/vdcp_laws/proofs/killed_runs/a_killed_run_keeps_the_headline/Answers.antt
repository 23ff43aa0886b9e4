use Rattle.std.proofs.Common.{◌∙◌}
use Rattle.vdcp_laws.proofs.Held.{kills_on}
use Rattle.vdcp_laws.proofs.Journaled.{rows_make, run_reached, told}
use Rattle.vdcp_laws.proofs.killed_runs.a_killed_run_keeps_the_headline.Goals as goal

pub returns-clause-goes_on : goal.returns-clause-goes_on
returns-clause-goes_on c = kills_on

pub returns-clause-headline : goal.returns-clause-headline
returns-clause-headline c = λ channel notes run.
    c.a_late_line_keeps_the_headline.ensures channel (run_reached c.a_killed_automation_goes_on.ensures.event channel notes run)

pub returns-clause-reached : goal.returns-clause-reached
returns-clause-reached c =
    run_reached c.a_killed_automation_goes_on.ensures.event

pub returns-clause-told : goal.returns-clause-told
returns-clause-told c = λ channel all rows run thin.
    c.a_thinned_journal_makes_the_same.ensures.told channel.plan all rows thin (told channel all run)

pub returns-clause-journal : goal.returns-clause-journal
returns-clause-journal c = λ channel all rows run thin.
    c.a_thinned_journal_makes_the_same.ensures.makes channel.plan all rows thin (told channel all run)
    ∙ rows_make channel all run
