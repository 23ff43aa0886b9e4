-- The items of a playlist.
use Rattle.std.specs.Prelude.{List}
use Rattle.vdcp_list.specs.declared.list.List.{List as Playlist}
use Rattle.vdcp_value.specs.declared.part.Item.{Item}

-- the items of a playlist
abbrev pub items_of : Playlist → List Item
items_of list = list.items.items
