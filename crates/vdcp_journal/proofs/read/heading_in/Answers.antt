use Rattle.csv.specs.Records.{fields_of}
use Rattle.std.proofs.Common.{◌≡◌, length, sym, subst, arith}
use Rattle.std.specs.Prelude.{IfOk}
use Rattle.vdcp_journal.proofs.RowFields.{seven}
use Rattle.vdcp_journal.proofs.read.heading_in.Goals as goal
use Rattle.vdcp_journal.specs.Journals.{IsHeading}

pub returns-clause-heading : goal.returns-clause-heading
returns-clause-heading c =
    let size : length (fields_of c.args.row.now) ≡ 7 = omega arith in
    subst (λ f. IfOk c.heading_of.result (λ read. IsHeading f read.0 read.1))
    (sym (seven (fields_of c.args.row.now) _ _ _ _ _ _ _ size c.field_at.ensures c.field_at-2.ensures
    c.field_at-3.ensures c.field_at-4.ensures
    c.field_at-5.ensures c.field_at-6.ensures c.field_at-7.ensures)) c.heading_of.ensures.heading
