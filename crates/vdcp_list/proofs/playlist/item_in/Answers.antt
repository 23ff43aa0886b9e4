use Rattle.std.proofs.Common.{◌≡◌, refl, arith}
use Rattle.csv.specs.Records.{fields_of}
use Rattle.std.proofs.lemmas.Grind.{common_steps}
use Rattle.std.specs.Prelude.{IsTrue}
use Rattle.vdcp_list.specs.Playlists.{is_of_columns}
use Rattle.vdcp_list.proofs.ItemRows.{no_item, part_row, whole_row}
use Rattle.vdcp_list.proofs.playlist.item_in.Goals as goal
use Rattle.vdcp_value.specs.declared.faults.RowFault.TheVariants.{Time}

pub returns-then-columns-eq1-clause-row : goal.returns-then-columns-eq1-clause-row
returns-then-columns-eq1-clause-row c =
    whole_row c.args.rate c.args.columns (fields_of c.args.row.now) c.in-Some.id (grind (arith, common_steps))
    (grind (arith, common_steps)) c.in-Some.ensures.some

pub returns-in-Some-last_part-clause-row : goal.returns-in-Some-last_part-clause-row
returns-in-Some-last_part-clause-row c =
    let three : c.args.columns ≡ 3 = grind (arith, common_steps) in
    part_row c.args.rate c.args.columns (fields_of c.args.row.now) c.in-Some.id c.in-Some-last_part.part three
    c.in-Some.ensures.some
    c.in-Some-last_part.ensures.some.0

pub returns-in-None-clause-fault : goal.returns-in-None-clause-fault
returns-in-None-clause-fault c =
    let three : c.args.columns ≡ 3 = grind (arith, common_steps) in
    let columns : IsTrue (is_of_columns c.args.columns (fields_of c.args.row.now)) = grind (arith, common_steps) in
    let none = no_item c.args.rate c.args.columns (fields_of c.args.row.now) three c.in-None.ensures.none in
    (Time, refl, (columns, (c.in-Some.id, c.in-Some.ensures.some), none))
