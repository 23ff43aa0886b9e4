-- What a playlist is as a source: its items can be counted, and their parts are of bytes.
use Rattle.std.proofs.Common.{◌≡◌, ◌<◌, ◌^◌, length, true, arith, zero, suc}
use Rattle.std.proofs.Math.Bool.{and-eq-true_iff}
use Rattle.std.specs.List.{list_all}
use Rattle.std.specs.Prelude.{All, List, [], ◌∷◌, Option, None, Some}
use Rattle.vdcp_list.specs.Listings.{is_of_bytes, part_is_of_bytes}
use Rattle.vdcp_value.specs.Bytes.{are_bytes}
use Rattle.vdcp_value.specs.declared.clip_id.ClipId.{ClipId}
use Rattle.vdcp_value.specs.declared.part.Item.{Item}
use Rattle.vdcp_value.specs.declared.part.Part.{Part}
use Rattle.vdcp_list.specs.List.{items_of}
use Rattle.vdcp_list.specs.declared.list.List.{List as Playlist}
use Rattle.vdcp_value.specs.Parts.{IsItem}

part_of_bytes : (part : Option Part) (id : ClipId) → part_is_of_bytes part ≡ true
    → IsItem (record { id = id; part = part })
part_of_bytes None id e = tt
part_of_bytes (Some part) id e = (and-eq-true_iff (are_bytes 4 part.start) (are_bytes 4 part.duration)).0 e

all_of_bytes : (items : List Item) → list_all is_of_bytes items ≡ true → All IsItem items
all_of_bytes [] e k d below = absurd (omega (arith, below))
all_of_bytes (item ∷ items) e zero d below =
    part_of_bytes item.part item.id ((and-eq-true_iff (is_of_bytes item) (list_all is_of_bytes items)).0 e).0
all_of_bytes (item ∷ items) e (suc k) d below =
    all_of_bytes items ((and-eq-true_iff (is_of_bytes item) (list_all is_of_bytes items)).0 e).1 k d
    (omega (arith, below))

-- a playlist's items can be counted
pub countable : (list : Playlist) → length (items_of list) < 2 ^ 64
countable list = omega (arith, list.items.ok, list.items.small)

-- and their parts are of bytes
pub of_bytes : (list : Playlist) → All IsItem (items_of list)
of_bytes list = all_of_bytes list.items.items list.of_bytes
