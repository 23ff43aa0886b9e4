use Rattle.csv.specs.Records.{fields_of}
use Rattle.std.proofs.Common.{[], ◌∷◌, refl}
use Rattle.vdcp_journal.proofs.JournalSteps.{bad_heading, first_read, heading_line, whatever}
use Rattle.vdcp_journal.proofs.read.JournalRows.begin.Goals as goal
use Rattle.vdcp_journal.specs.Journals.{IsLinesFault}
use Rattle.vdcp_list.specs.Reading.{rows_left}

pub returns-in-Err-clause-refused : goal.returns-in-Err-clause-refused
returns-in-Err-clause-refused g c =
    whatever c.rows_are_read_in_order.ensures.none c.rows_are_read_in_order.ensures.begins
    (g.R.Read.remaining c.args.reader)
    (λ lines. IsLinesFault lines c.fault_in.result) c.fault_in.ensures

pub returns-in-Err-heading_in-clause-refused : goal.returns-in-Err-heading_in-clause-refused
returns-in-Err-heading_in-clause-refused g c =
    bad_heading c.rows_are_read_in_order.ensures.none c.rows_are_read_in_order.ensures.more
    c.rows_are_read_in_order.ensures.begins
    (g.R.Read.remaining c.args.reader) (rows_left g.R.Read.remaining c.rows_in-lines.result)
    (rows_left g.R.Read.remaining c.next_row.new.reader)
    (fields_of c.next_row.new.row) c.in-Err-heading_in.fault c.rows_in-lines.ensures.rows
    (rw c.in-Ok-true.field-0-test at c.in-Ok-true.ensures.takes) c.in-Err-heading_in.ensures.fault

pub returns-in-Ok-clause-begun : goal.returns-in-Ok-clause-begun
returns-in-Ok-clause-begun g c = record {
  reading = record {
    set = c.in-Ok-true.ensures.set c.in-Ok-true.field-0-test;
    unit = c.in-Ok.ensures.heading.unit;
  };
  lines = fields_of c.next_row.new.row ∷ [];
  front =
      first_read c.rows_are_read_in_order.ensures.none c.rows_are_read_in_order.ensures.more
      (g.R.Read.remaining c.args.reader)
      (rows_left g.R.Read.remaining c.rows_in-lines.result) (rows_left g.R.Read.remaining c.next_row.new.reader)
      (fields_of c.next_row.new.row) c.rows_in-lines.ensures.rows
      (rw c.in-Ok-true.field-0-test at c.in-Ok-true.ensures.takes);
  lines_are = heading_line (fields_of c.next_row.new.row) c.in-Ok.time c.in-Ok.heading c.in-Ok.ensures.heading;
  number = refl;
}
