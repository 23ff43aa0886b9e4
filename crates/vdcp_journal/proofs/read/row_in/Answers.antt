use Rattle.csv.specs.Records.{fields_of}
use Rattle.std.proofs.Common.{◌≡◌, length, sym, subst, arith}
use Rattle.std.specs.Prelude.{IfErr, IfOk}
use Rattle.vdcp_journal.proofs.RowFields.{four}
use Rattle.vdcp_journal.proofs.read.row_in.Goals as goal
use Rattle.vdcp_journal.specs.Journals.{IsRow, IsRowFault}

pub returns-clause-row : goal.returns-clause-row
returns-clause-row c =
    let size : length (fields_of c.args.row.now) ≡ 4 = omega arith in
    subst (λ f. IfOk c.row_of.result (IsRow c.args.unit f))
    (sym (four (fields_of c.args.row.now) _ _ _ _ size c.field_at.ensures c.field_at-2.ensures c.field_at-3.ensures
    c.field_at-4.ensures))
    c.row_of.ensures.row

pub returns-clause-fault : goal.returns-clause-fault
returns-clause-fault c =
    let size : length (fields_of c.args.row.now) ≡ 4 = omega arith in
    subst (λ f. IfErr c.row_of.result (IsRowFault c.args.unit f))
    (sym (four (fields_of c.args.row.now) _ _ _ _ size c.field_at.ensures c.field_at-2.ensures c.field_at-3.ensures
    c.field_at-4.ensures))
    c.row_of.ensures.fault
