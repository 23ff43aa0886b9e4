use Rattle.std.proofs.Common.{◌∙◌}
use Rattle.csv.specs.Records.{fields_of}
use Rattle.vdcp_list.proofs.ItemRows.{field_at-is}
use Rattle.vdcp_list.proofs.fields.field_at.Goals as goal

pub returns : goal.returns
returns c = c.get.ensures.value ∙ field_at-is (fields_of c.args.row.now) c.args.place
