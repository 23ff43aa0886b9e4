-- A lent list's items can be counted, and are of bytes.
use Rattle.std.proofs.Common.{ℕ, ◌<◌, ◌^◌, List, [], ◌∷◌, length, arith, zero, suc, Bool, true, false}
use Rattle.std.proofs.lemmas.List.{length-map}
use Rattle.std.specs.Prelude.{All, None, Some, nat_eq, if◌then◌else◌}
use Rattle.vdcp_value.specs.declared.clip_id.ClipId.{ClipId}
use Rattle.vdcp_value.specs.Parts.{IsItem}
use Rattle.vdcp_value.specs.Bytes.{AreBytes}
use Rattle.vdcp_c.specs.declared.item.vdcp_item.{vdcp_item}
use Rattle.vdcp_c.specs.Lists.{item_of, items_of}

pub countable : (rows : List vdcp_item) → length rows < 2 ^ 64 → length (items_of rows) < 2 ^ 64
countable rows less = omega (arith, less, length-map rows item_of)

item_is : (b : Bool) (id : ClipId) (start duration : List ℕ) → AreBytes 4 start → AreBytes 4 duration
    → IsItem (record { id = id; part = if b then None else Some (record { start = start; duration = duration }) })
item_is true id start duration s d = tt
item_is false id start duration s d = (s, d)

pub of_bytes : (rows : List vdcp_item) → All IsItem (items_of rows)
of_bytes [] k d below = absurd (omega (arith, below))
of_bytes (row ∷ rows) zero d below =
    item_is (nat_eq row.has_part 0) (item_of row).id row.start row.duration row.start_is row.duration_is
of_bytes (row ∷ rows) (suc k) d below = of_bytes rows k d (omega (arith, below))
