-- An ID is that of its bytes.
use Rattle.std.proofs.Common.{sym, ap, ◌∙◌}
use Rattle.vdcp_value.specs.Ids.{id_of}
use Rattle.vdcp_c.proofs.row.id_in.Goals as goal

pub returns : goal.returns
returns c = sym (c.an_id_is_its_bytes.ensures.of_id c.new.result) ∙ ap id_of c.new.ensures
