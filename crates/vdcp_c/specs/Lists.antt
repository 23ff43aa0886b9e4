-- What the rows of a list stand for.
use Rattle.std.specs.Prelude.{List, map, None, Some, nat_eq, if◌then◌else◌}
use Rattle.vdcp_value.specs.Ids.{id_of}
use Rattle.vdcp_value.specs.declared.part.Item.{Item}
use Rattle.vdcp_c.specs.declared.item.vdcp_item.{vdcp_item}

abbrev pub item_of : vdcp_item → Item
item_of row =
    record {
      id = id_of row.id;
      part = if nat_eq row.has_part 0 then None else Some (record { start = row.start; duration = row.duration });
    }

abbrev pub items_of : List vdcp_item → List Item
items_of rows = map item_of rows
