use Rattle.csv.specs.Records.{fields_of}
use Rattle.std.proofs.Common.{◌≡◌, ◌<◌, ◌-◌, true, false, refl, inr, arith}
use Rattle.std.proofs.lemmas.Grind.{common_steps}
use Rattle.std.specs.Prelude.{Ok}
use Rattle.vdcp_offline.proofs.VectorLemmas.{counted, counts_one, if_ok, tested_all, tested_first, tested_next, tested_too_many}
use Rattle.vdcp_offline.proofs.vectors.test_rows.Goals as goal
use Rattle.vdcp_offline.specs.Vectors.{finding_of}
use Rattle.vdcp_list.specs.Reading.{IsSet, TakesRow, rows_left}
use Rattle.vdcp_list.specs.Rows.{most_rows}

pub loop-tally-init : goal.loop-tally-init
loop-tally-init g c = record {
  set = c.rows_in-rows.ensures.set;
  tested =
      tested_first c.rows_are_read.ensures (g.R.Read.remaining c.args.file.reader) (rows_left g.R.Read.remaining c.rows_in-rows.result) c.new-tally.result
      c.rows_in-rows.ensures.rows c.new-tally.ensures;
}

pub add-requires-clause-few : goal.add-requires-clause-few
add-requires-clause-few g c =
    let h = counted (g.R.Read.remaining c.args.file.reader)
    (rows_left g.R.Read.remaining c.loop-tally.rows) c.loop-tally.tally c.loop-tally.invariant.tested in
    omega (arith, h.1, c.if-tally-eq-MAX_ROWS.false)

pub add-requires-clause-within : goal.add-requires-clause-within
add-requires-clause-within g c =
    (counted (g.R.Read.remaining c.args.file.reader)
    (rows_left g.R.Read.remaining c.loop-tally.rows) c.loop-tally.tally c.loop-tally.invariant.tested).0

pub loop-tally-preserved : goal.loop-tally-preserved
loop-tally-preserved g c =
    let found : c.take_row.result ≡ Ok true = grind (arith, common_steps) in
    let takes = if_ok (λ f. TakesRow (rows_left g.R.Read.remaining c.loop-tally.rows)
    (rows_left g.R.Read.remaining c.take_row.new.reader) f
    (fields_of c.take_row.new.row))
    c.take_row.result true c.take_row.ensures.takes found in
    let h = counted (g.R.Read.remaining c.args.file.reader)
    (rows_left g.R.Read.remaining c.loop-tally.rows) c.loop-tally.tally c.loop-tally.invariant.tested in
    let room : c.loop-tally.tally.rows < most_rows = omega (arith, h.1, c.if-tally-eq-MAX_ROWS.false) in
    record {
      set = if_ok (λ f. f ≡ true
          → IsSet c.take_row.new.reader) c.take_row.result true c.take_row.ensures.set found refl;
      tested =
          tested_next c.rows_are_read.ensures (g.R.Read.remaining c.args.file.reader) (rows_left g.R.Read.remaining c.loop-tally.rows)
          (rows_left g.R.Read.remaining c.take_row.new.reader)
          c.loop-tally.tally c.add.new.self (fields_of c.take_row.new.row)
          (finding_of c.in_ok-verdict.verdict) c.loop-tally.invariant.tested takes room
          c.in_ok-verdict.ensures c.in_ok-add.ensures;
    }

pub loop-tally-smaller : goal.loop-tally-smaller
loop-tally-smaller g c =
    let h = counted (g.R.Read.remaining c.args.file.reader)
    (rows_left g.R.Read.remaining c.loop-tally.rows) c.loop-tally.tally c.loop-tally.invariant.tested in
    let one = counts_one (g.R.Read.remaining c.args.file.reader)
    (rows_left g.R.Read.remaining c.loop-tally.rows) c.loop-tally.tally c.add.new.self
    (finding_of c.in_ok-verdict.verdict) c.loop-tally.invariant.tested c.in_ok-add.ensures in
    let less : most_rows - c.add.new.self.rows < most_rows - c.loop-tally.tally.rows =
    omega (arith, h.1, one, c.if-tally-eq-MAX_ROWS.false) in
    less

pub returns-then-tally-eq-MAX_ROWS-clause-refused : goal.returns-then-tally-eq-MAX_ROWS-clause-refused
returns-then-tally-eq-MAX_ROWS-clause-refused g c =
    let found : c.take_row.result ≡ Ok true = grind (arith, common_steps) in
    let takes = if_ok (λ f. TakesRow (rows_left g.R.Read.remaining c.loop-tally.rows)
    (rows_left g.R.Read.remaining c.take_row.new.reader) f
    (fields_of c.take_row.new.row))
    c.take_row.result true c.take_row.ensures.takes found in
    inr (inr (inr (
      c.too_many.ensures,
      tested_too_many c.rows_are_read.ensures (g.R.Read.remaining c.args.file.reader) (rows_left g.R.Read.remaining c.loop-tally.rows)
          (rows_left g.R.Read.remaining c.take_row.new.reader) c.loop-tally.tally
          (fields_of c.take_row.new.row) c.loop-tally.invariant.tested takes c.if-tally-eq-MAX_ROWS.true,
    )))

pub returns-clause-tally : goal.returns-clause-tally
returns-clause-tally g c =
    let none : c.take_row.result ≡ Ok false = grind (arith, common_steps) in
    let takes = if_ok (λ f. TakesRow (rows_left g.R.Read.remaining c.loop-tally.rows)
    (rows_left g.R.Read.remaining c.take_row.new.reader) f
    (fields_of c.take_row.new.row))
    c.take_row.result false c.take_row.ensures.takes none in
    tested_all c.rows_are_read.ensures (g.R.Read.remaining c.args.file.reader) (rows_left g.R.Read.remaining c.loop-tally.rows)
    (rows_left g.R.Read.remaining c.take_row.new.reader)
    c.loop-tally.tally (fields_of c.take_row.new.row) c.loop-tally.invariant.tested takes
