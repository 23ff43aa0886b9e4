-- What was made is made of the rows so far.
use Rattle.std.specs.Prelude.{◌≡◌, option_map}
use Rattle.vdcp_list.proofs.Steps.{ReadSoFar}
use Rattle.vdcp_list.proofs.rows.add_rows.Given as goal
use Rattle.vdcp_list.specs.Reading.{IsSet, rows_left}
use Rattle.vdcp_list.specs.Rows.{FileBytes, rows_of}

abbrev pub invariant-loop-read : goal.invariant-loop-read
invariant-loop-read g l = record {
  set : IsSet l.rows;
  so_far : (file : FileBytes) → rows_left g.R.Read.remaining l.initial.rows ≡ option_map rows_of file
      → ReadSoFar (λ rows. g.M.MadeOfRows.makes l.rate rows l.made) file (rows_left g.R.Read.remaining l.rows) l.read;
}
