use Rattle.std.proofs.Common.{◌≡◌, refl, sym, ap, arith}
use Rattle.csv.specs.Records.{fields_of}
use Rattle.std.specs.Prelude.{drop, length}
use Rattle.vdcp_list.proofs.catalogue.clip_in.Goals as goal
use Rattle.vdcp_value.specs.declared.faults.RowFault.TheVariants.{Time}

pub returns-in_default-last_length-clause-fault : goal.returns-in_default-last_length-clause-fault
returns-in_default-last_length-clause-fault c before =
    let two : length (fields_of c.args.row.now) ≡ 2 = grind arith in (
      Time,
      refl,
      (
        two,
        (c.in-Some.id, c.in-Some.ensures.some),
        λ clip can e. c.in_default-last_length.ensures.none clip.1 can (ap (drop 1) (sym e)),
      ),
    )
