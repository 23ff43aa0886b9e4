use Rattle.csv.specs.Records.{fields_of}
use Rattle.std.proofs.Common.{inr, refl}
use Rattle.std.proofs.lemmas.Result.{err_from_is_err_and}
use Rattle.vdcp_list.proofs.CatalogueSteps.{gives_push, twice}
use Rattle.vdcp_list.proofs.catalogue.TableMadeOfRows.add_row.Goals as goal
use Rattle.vdcp_value.specs.declared.faults.RowFault.TheVariants.{Twice}

pub returns-in_err-id-clause-refused : goal.returns-in_err-id-clause-refused
returns-in_err-id-clause-refused c before h e =
    let p = err_from_is_err_and c.from_residual.result c.from_residual.ensures.1 in
    rw (p.1, p.2) (inr (c.in_err-id.ensures.fault before))

pub returns-in-Ok-true-clause-made : goal.returns-in-Ok-true-clause-made
returns-in-Ok-true-clause-made c before h e =
    rw (c.in-Ok-true.ensures.added c.in-Ok-true.field-0-test)
    (gives_push c.args.rate before c.args.self.now (fields_of c.args.row.now) (c.in_ok-id.id, c.in_ok-id.length) h
    c.in_ok-id.ensures.row c.in_ok-id.ensures.can_last (c.in-Ok-true.ensures.new c.in-Ok-true.field-0-test))

pub returns-in-Ok-false-clause-refused : goal.returns-in-Ok-false-clause-refused
returns-in-Ok-false-clause-refused c before h e =
    inr (
      Twice,
      refl,
      twice c.an_id_is_its_bytes.ensures.same c.args.rate before c.args.self.now (fields_of c.args.row.now)
          (c.in_ok-id.id, c.in_ok-id.length) h c.in_ok-id.ensures.row c.in_ok-id.ensures.can_last
          (c.in-Ok-false.ensures.there c.in-Ok-false.field-0-test),
    )
