use Rattle.csv.specs.Reading.{error_kind}
use Rattle.std.proofs.Common.{subst, sym}
use Rattle.vdcp_list.proofs.Reading.{is_read_fault, takes_row}
use Rattle.vdcp_list.proofs.rows.next_row.Goals as goal
use Rattle.vdcp_list.specs.Reading.{IsReadFault}

pub returns-in-Ok-2-clause-takes : goal.returns-in-Ok-2-clause-takes
returns-in-Ok-2-clause-takes g c =
    takes_row g.R.Read.remaining c.args.reader.now c.read_byte_record.new.self c.in-Ok.field-0 _ c.requires.config
    (c.in-Ok.ensures.reads c.requires.trims c.requires.ready)

pub returns-in-Err-2-clause-failed : goal.returns-in-Err-2-clause-failed
returns-in-Err-2-clause-failed g c = subst IsReadFault (sym c.fault_of.ensures)
    (is_read_fault (error_kind c.in-Err.field-0))
