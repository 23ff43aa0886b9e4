-- The runs so far are shown.
use Rattle.std.proofs.Common.{◌≡◌, List, length}
use Rattle.std.specs.Prelude.{IfSome}
use Rattle.vdcp_journal.specs.Journals.{IsJournal, Journal}
use Rattle.vdcp_journal.specs.ListCalls.{list_calls}
use Rattle.vdcp_journal.specs.Runs.{Run, runs_of}
use Rattle.vdcp_journal_file.proofs.asrun.shown_by.Given as goal
use Rattle.vdcp_journal_file.specs.Resuming.{RunsShow}
use Rattle.vdcp_journal_file.specs.Showing.{ShowsSoFar}

abbrev pub invariant-loop-rest : goal.invariant-loop-rest
invariant-loop-rest g l = (journal : Journal) × IsJournal (g.I.Read.remaining l.fn.lines) journal
    × IfSome l.fn.digest (λ known. journal.heading.digest ≡ known) × (rest : List Run)
    × RunsShow (g.S.Source.items l.events) journal.heading rest l.rest
    × (l.calls ≡ list_calls journal.rows)
    × ShowsSoFar l.settings (g.S.Source.items l.events) journal.heading l.calls (runs_of journal.rows) rest l.shown

abbrev pub decreases-loop-rest : goal.decreases-loop-rest
decreases-loop-rest g l = length l.rest
