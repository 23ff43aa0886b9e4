-- What a list from an event on is as a source: its items can be counted, and their parts are of bytes.
use Rattle.std.proofs.Common.{◌<◌, ◌^◌, ℕ, List, length, drop, arith}
use Rattle.std.proofs.lemmas.List.{length-drop}
use Rattle.std.proofs.lemmas.List.Elements.{All-drop}
use Rattle.std.specs.Prelude.{All}
use Rattle.vdcp_value.specs.Parts.{IsItem}
use Rattle.vdcp_value.specs.declared.part.Item.{Item}

-- the items that are left can be counted if all can
pub countable : (from : ℕ) (items : List Item) → length items < 2 ^ 64 → length (drop from items) < 2 ^ 64
countable from items few = omega (arith, length-drop from items, few)

-- and their parts are of bytes if those of all are
pub of_bytes : (from : ℕ) (items : List Item) → All IsItem items → All IsItem (drop from items)
of_bytes from items all = All-drop IsItem from items all
