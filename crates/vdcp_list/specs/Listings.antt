-- The texts of all IDs of a list of items, and the places where they end.
use Rattle.std.specs.Prelude.{ℕ, ◌+◌, List, [], ◌∷◌, flat_map, length, Option, None, Some, Bool, true, ◌&&◌}
use Rattle.vdcp_value.specs.Bytes.{are_bytes}
use Rattle.vdcp_value.specs.Ids.{text_of_id}
use Rattle.vdcp_value.specs.declared.part.Item.{Item}
use Rattle.vdcp_value.specs.declared.part.Part.{Part}

-- the texts of all IDs one after another
abbrev pub ids_text : List Item → List ℕ
ids_text items = flat_map (λ item. text_of_id item.id) items

-- the places where they end, from a start on
abbrev pub ends_from : ℕ → List Item → List ℕ
ends_from start [] = []
ends_from start (item ∷ items) =
    (start + length (text_of_id item.id)) ∷ ends_from (start + length (text_of_id item.id)) items

-- start and duration of a part are four bytes each
abbrev pub part_is_of_bytes : Option Part → Bool
part_is_of_bytes None = true
part_is_of_bytes (Some part) = are_bytes 4 part.start && are_bytes 4 part.duration

abbrev pub is_of_bytes : Item → Bool
is_of_bytes item = part_is_of_bytes item.part
