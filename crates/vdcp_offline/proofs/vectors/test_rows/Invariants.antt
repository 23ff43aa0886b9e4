use Rattle.std.proofs.Common.{◌-◌}
use Rattle.vdcp_offline.proofs.VectorLemmas.{Tested}
use Rattle.vdcp_offline.proofs.vectors.test_rows.Given as goal
use Rattle.vdcp_list.specs.Reading.{IsSet, rows_left}
use Rattle.vdcp_list.specs.Rows.{most_rows}

-- the rows read so far are tallied
abbrev pub invariant-loop-tally : goal.invariant-loop-tally
invariant-loop-tally g l = record {
  set : IsSet l.rows;
  tested : Tested (g.R.Read.remaining l.fn.file.reader) (rows_left g.R.Read.remaining l.rows) l.tally;
}

abbrev pub decreases-loop-tally : goal.decreases-loop-tally
decreases-loop-tally g l = most_rows - l.tally.rows
