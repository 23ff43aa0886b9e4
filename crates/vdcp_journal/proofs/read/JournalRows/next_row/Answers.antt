use Rattle.csv.specs.Records.{fields_of}
use Rattle.std.proofs.Common.{◌≡◌, ◌+◌, [], ◌++◌, ◌∷◌, arith, length}
use Rattle.std.proofs.lemmas.Grind.{common_steps}
use Rattle.std.proofs.lemmas.List.{length-append}
use Rattle.std.specs.Prelude.{option_map}
use Rattle.vdcp_journal.proofs.JournalSteps.{bad_row, line_more, whatever}
use Rattle.vdcp_journal.proofs.read.JournalRows.next_row.Goals as goal
use Rattle.vdcp_journal.specs.Journals.{IsLinesFault}
use Rattle.vdcp_list.specs.Reading.{rows_left}
use Rattle.vdcp_list.specs.Rows.{rows_of}

pub returns-in-Err-clause-refused : goal.returns-in-Err-clause-refused
returns-in-Err-clause-refused g c file rows took =
    whatever c.rows_are_read_in_order.ensures.none c.rows_are_read_in_order.ensures.begins file
    (λ lines. IsLinesFault lines c.fault_in.result) c.fault_in.ensures

pub returns-in-Ok-clause-row : goal.returns-in-Ok-clause-row
returns-in-Ok-clause-row g c file rows took =
    let line = fields_of c.next_row.new.row in
    let next : c.in-Some.number ≡ c.args.self.now.number + 1 = grind (arith, common_steps) in
    record {
      reading = record { set = c.in-Ok-true.ensures.set c.in-Ok-true.field-0-test; unit = c.requires.unit };
      lines = took.lines ++ line ∷ [];
      front =
          c.rows_are_read_in_order.ensures.more (option_map rows_of file)
          (rows_left g.R.Read.remaining c.args.self.now.lines) (rows_left g.R.Read.remaining c.next_row.new.reader)
          took.lines line took.front (rw c.in-Ok-true.field-0-test at c.in-Ok-true.ensures.takes);
      lines_are =
          line_more took.lines line c.args.self.now.time c.args.self.now.heading rows c.in-Ok.row took.lines_are
          c.in-Ok.ensures.row;
      number = omega (arith, next, took.number, length-append took.lines (line ∷ []));
    }

pub returns-in-Err-row_in-clause-refused : goal.returns-in-Err-row_in-clause-refused
returns-in-Err-row_in-clause-refused g c file rows took =
    let next : c.in-Some.number ≡ c.args.self.now.number + 1 = grind (arith, common_steps) in
    let counted : c.in-Some.number ≡ length took.lines + 1 = omega (arith, next, took.number) in
    bad_row c.rows_are_read_in_order.ensures.more c.rows_are_read_in_order.ensures.begins file
    (rows_left g.R.Read.remaining c.args.self.now.lines) (rows_left g.R.Read.remaining c.next_row.new.reader)
    took.lines (fields_of c.next_row.new.row) c.in-Some.number c.args.self.now.time c.args.self.now.heading rows
    c.in-Err-row_in.fault took.front took.lines_are counted
    (rw c.in-Ok-true.field-0-test at c.in-Ok-true.ensures.takes) c.in-Err-row_in.ensures.fault
