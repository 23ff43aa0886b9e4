-- Of the runs those behind have their ends.
use Rattle.std.proofs.Common.{◌≡◌, List, ◌++◌, length, reverse}
use Rattle.vdcp_journal.specs.Runs.{Run}
use Rattle.vdcp_journal.specs.declared.row.Heading.{Heading}
use Rattle.vdcp_journal_file.proofs.RowSteps.{end_ahead}
use Rattle.vdcp_journal_file.proofs.reading.with_ends.Given as goal
use Rattle.vdcp_journal_file.specs.Resuming.{EachShowsAlone, RunsShow, next_begin}
use Rattle.vdcp_value.specs.declared.part.Item.{Item}

abbrev pub invariant-loop-run : goal.invariant-loop-run
invariant-loop-run l = (items : List Item) (heading : Heading) (all : List Run) → EachShowsAlone items heading all l.fn.runs.items
    → (front rest : List Run) × (all ≡ front ++ rest) × EachShowsAlone items heading front l.runs.items
    × RunsShow items heading rest (reverse l.ended.items) × (l.next ≡ next_begin rest) × (l.end ≡ end_ahead rest)

abbrev pub decreases-loop-run : goal.decreases-loop-run
decreases-loop-run l = length l.runs.items
