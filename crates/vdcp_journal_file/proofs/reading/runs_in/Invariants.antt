-- The rows so far were taken, and this is what is found of the last run, and of those before it.
use Rattle.std.proofs.Common.{◌≡◌, List, [], length}
use Rattle.vdcp_journal.specs.Journals.{TookRows}
use Rattle.vdcp_journal.specs.ListCalls.{list_calls}
use Rattle.vdcp_journal.specs.Mending.{last_note}
use Rattle.vdcp_journal.specs.Runs.{ended_in, last_run}
use Rattle.vdcp_journal.specs.Thinned.{heard_last, notes_in}
use Rattle.vdcp_journal.specs.declared.row.Row.{Row}
use Rattle.vdcp_journal_file.proofs.reading.runs_in.Given as goal
use Rattle.vdcp_journal_file.specs.Resuming.{EachShowsAlone, FoundSoFar}
use Rattle.vdcp_list.specs.Rows.{FileBytes}

abbrev pub invariant-loop-read : goal.invariant-loop-read
invariant-loop-read g l = (rows : List Row) × (length rows ≡ l.read)
    × ((file : FileBytes) → TookRows g.I.Read.remaining file l.fn.rows [] → TookRows g.I.Read.remaining file l.rows rows)
    × FoundSoFar (λ s. g.S.Source.items s.now) l.heading (g.S.Source.items l.source) (last_run rows) l.run
    × ((l.last_note ≡ last_note rows) × (l.heard ≡ heard_last (notes_in rows))
    × (l.calls.items ≡ list_calls rows))
    × EachShowsAlone (g.S.Source.items l.source) l.heading (ended_in rows) l.runs.items × (l.rows.heading ≡ l.fn.rows.heading)
