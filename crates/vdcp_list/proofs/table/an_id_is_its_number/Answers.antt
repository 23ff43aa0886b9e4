use Rattle.vdcp_list.proofs.ClipPlaces.{one_key}
use Rattle.vdcp_list.proofs.table.an_id_is_its_number.Goals as goal

pub returns : goal.returns
returns c =
    one_key
    (record {
      counted = c.bytes_are_counted.ensures;
      eight = c.an_id_is_its_bytes.ensures.eight;
      one = c.an_id_is_its_bytes.ensures.one;
    })
