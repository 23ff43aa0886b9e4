use Rattle.csv.specs.Records.{fields_of}
use Rattle.std.proofs.Common.{◌≡◌, ◌≤◌, ◌<◌, true, false, arith}
use Rattle.std.proofs.lemmas.Grind.{common_steps}
use Rattle.std.proofs.lemmas.Result.{err_from_is_err_and}
use Rattle.vdcp_list.proofs.Steps.{read_all, read_failed, read_first, read_next, read_refused, read_too_many}
use Rattle.vdcp_list.proofs.rows.add_rows.Goals as goal
use Rattle.vdcp_list.specs.Reading.{rows_left}
use Rattle.vdcp_list.specs.Rows.{most_rows}

pub loop-read-init : goal.loop-read-init
loop-read-init g c = record {
  set = c.requires.set;
  so_far =
      λ file is. rw is (read_first (λ rows. g.M.MadeOfRows.makes c.args.rate rows c.args.made.now) file c.requires.none);
}

pub loop-read-preserved : goal.loop-read-preserved
loop-read-preserved g c =
    let some : c.in_ok-next_row.field-0 ≡ true = grind (arith, common_steps) in
    record {
      set = c.in_ok-next_row.ensures.set some;
      so_far =
          λ file is. read_next (λ rows. g.M.MadeOfRows.makes c.args.rate rows c.loop-read.made)
          (λ rows. g.M.MadeOfRows.makes c.args.rate rows c.add_row.new.self) file
          (rows_left g.R.Read.remaining c.loop-read.rows) (rows_left g.R.Read.remaining c.next_row.new.reader)
          c.loop-read.read (fields_of c.next_row.new.row) (c.loop-read.invariant.so_far file is)
          (rw some at c.in_ok-next_row.ensures.takes) c.in_ok-add_row.ensures.made;
    }

pub returns-then-not-branch-clause-made : goal.returns-then-not-branch-clause-made
returns-then-not-branch-clause-made g c file is =
    let none : c.in_ok-next_row.field-0 ≡ false = grind (arith, common_steps) in
    let few : c.loop-read.read ≤ most_rows = omega arith in
    read_all (λ rows. g.M.MadeOfRows.makes c.args.rate rows c.loop-read.made) file
    (rows_left g.R.Read.remaining c.loop-read.rows) (rows_left g.R.Read.remaining c.next_row.new.reader)
    c.loop-read.read (fields_of c.next_row.new.row) (c.loop-read.invariant.so_far file is)
    (rw none at c.in_ok-next_row.ensures.takes) few

pub returns-clause-made : goal.returns-clause-made
returns-clause-made g c file is =
    let none : c.in_ok-next_row-2.field-0 ≡ false = grind (arith, common_steps) in
    let few : c.loop-read.read ≤ most_rows = omega arith in
    read_all (λ rows. g.M.MadeOfRows.makes c.args.rate rows c.loop-read.made) file
    (rows_left g.R.Read.remaining c.loop-read.rows) (rows_left g.R.Read.remaining c.next_row-2.new.reader)
    c.loop-read.read (fields_of c.next_row-2.new.row) (c.loop-read.invariant.so_far file is)
    (rw none at c.in_ok-next_row-2.ensures.takes) few

pub returns-in_err-add_row-clause-refused : goal.returns-in_err-add_row-clause-refused
returns-in_err-add_row-clause-refused g c file is =
    let p = err_from_is_err_and c.from_residual-in_err-add_row.result c.from_residual-in_err-add_row.ensures.1 in
    let some : c.in_ok-next_row.field-0 ≡ true = grind (arith, common_steps) in
    let few : c.loop-read.read < most_rows = omega arith in
    rw (p.1, p.2)
    (read_refused (g.M.MadeOfRows.make_some c.args.rate) (g.M.MadeOfRows.refuses c.args.rate)
    (λ rows. g.M.MadeOfRows.makes c.args.rate rows c.loop-read.made) file
    (rows_left g.R.Read.remaining c.loop-read.rows) (rows_left g.R.Read.remaining c.next_row.new.reader)
    c.loop-read.read (fields_of c.next_row.new.row) c.in_err-add_row.field-0.0
    (λ front h. g.met.M.MadeOfRows.makes_some c.args.rate front c.loop-read.made h)
    (c.loop-read.invariant.so_far file is) (rw some at c.in_ok-next_row.ensures.takes) few
    c.in_err-add_row.ensures.refused)

pub returns-then-branch-clause-refused : goal.returns-then-branch-clause-refused
returns-then-branch-clause-refused g c file is =
    let some : c.in_ok-next_row-2.field-0 ≡ true = grind (arith, common_steps) in
    let full : c.loop-read.read ≡ most_rows = omega arith in
    read_too_many (g.M.MadeOfRows.make_some c.args.rate) (g.M.MadeOfRows.refuses c.args.rate)
    (λ rows. g.M.MadeOfRows.makes c.args.rate rows c.loop-read.made) file
    (rows_left g.R.Read.remaining c.loop-read.rows) (rows_left g.R.Read.remaining c.next_row-2.new.reader)
    c.loop-read.read (fields_of c.next_row-2.new.row)
    (λ front h. g.met.M.MadeOfRows.makes_some c.args.rate front c.loop-read.made h)
    (c.loop-read.invariant.so_far file is) (rw some at c.in_ok-next_row-2.ensures.takes) full

-- the reader or memory failed
pub returns-in_err-next_row-clause-refused : goal.returns-in_err-next_row-clause-refused
returns-in_err-next_row-clause-refused g c file is =
    let p = err_from_is_err_and c.from_residual.result c.from_residual.ensures.1 in
    rw (p.1, p.2) (read_failed (g.M.MadeOfRows.make_some c.args.rate) (g.M.MadeOfRows.refuses c.args.rate) file
    c.in_err-next_row.field-0.0 c.in_err-next_row.ensures.failed)

pub returns-in_err-next_row-2-clause-refused : goal.returns-in_err-next_row-2-clause-refused
returns-in_err-next_row-2-clause-refused g c file is =
    let p = err_from_is_err_and c.from_residual-in_err-next_row-2.result c.from_residual-in_err-next_row-2.ensures.1 in
    rw (p.1, p.2) (read_failed (g.M.MadeOfRows.make_some c.args.rate) (g.M.MadeOfRows.refuses c.args.rate) file
    c.in_err-next_row-2.field-0.0 c.in_err-next_row-2.ensures.failed)
