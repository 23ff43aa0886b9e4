-- The clips that the rows of a table are.
use Rattle.std.specs.Int.{from_be_bytes, leading_zeros, w64}
use Rattle.std.specs.List.Sorted.{IsStrictlyIncreasing}
use Rattle.std.specs.Prelude.{ℕ, ◌≡◌, ◌+◌, ◌-◌, ◌^◌, ◌&&◌, zero, suc, List, [], ◌∷◌, length, map, slice_index, nat_eq, nat_lt, Bool, true, false, refl, Option, None, Some, if◌then◌else◌}
use Rattle.vdcp_value.specs.Labels.{is_lawful}
use Rattle.vdcp_value.specs.declared.label.Label.{Label}
use Rattle.vdcp_value.specs.Ids.{id_bytes, id_of, is_same_id}
use Rattle.vdcp_value.specs.Bcd.{is_time, label_of_bcd}
use Rattle.vdcp_value.specs.declared.clip_id.ClipId.{ClipId}
use Rattle.vdcp_value.specs.declared.rate.Rate.{Rate}
use Rattle.vdcp_value.specs.declared.timecode.Timecode.{Timecode}
use Rattle.vdcp_c.specs.declared.clip.vdcp_clip.{vdcp_clip}

abbrev pub time_at : (rate : Rate) (label : Label) (b : Bool) → is_lawful rate label ≡ b → Option Timecode
time_at rate label true e = Some (record { rate = rate; label = label; lawful = e })
time_at rate label false e = None

-- the time code of a label, if it is lawful
abbrev pub labelled : Rate → Label → Option Timecode
labelled rate label = time_at rate label (is_lawful rate label) refl

-- the lawful time code that four bytes are at a rate
abbrev pub time_of : Rate → List ℕ → Option Timecode
time_of rate bytes = if is_time rate bytes then labelled rate (label_of_bcd bytes) else None

abbrev pub with_row : ClipId → Option Timecode → List (ClipId × Timecode) → List (ClipId × Timecode)
with_row id None clips = clips
with_row id (Some length) clips = (id, length) ∷ clips

-- an ID's bytes as one number, of which the first weighs most
unfoldable pub key_of : ClipId → ℕ
key_of id = from_be_bytes w64 (id_bytes id)

abbrev pub keys_of : List vdcp_clip → List ℕ
keys_of rows = map (λ (row : vdcp_clip). key_of (id_of row.id)) rows

-- each row has a greater ID than the one before
abbrev pub Ascends : List vdcp_clip → Type 0
Ascends rows = IsStrictlyIncreasing (keys_of rows)

-- the key at a place comes before another
abbrev pub is_before : List ℕ → ℕ → ℕ → Bool
is_before keys key at = nat_lt at (length keys) && nat_lt (slice_index keys at) key

-- where a search by halves ends, over 2 ^ k places from one on
abbrev pub ends_at : (ℕ → Bool) → ℕ → ℕ → ℕ
ends_at before zero at = at
ends_at before (suc k) at = ends_at before k (if before (at + 2 ^ k - 1) then at + 2 ^ k else at)

-- the same over all keys
unfoldable pub place_of : List ℕ → ℕ → ℕ
place_of keys key = ends_at (is_before keys key) (64 - leading_zeros w64 (length keys)) 0

abbrev pub own_of : Bool → Option Timecode → Option Timecode
own_of true o = o
own_of false o = None

-- of some rows, which stand from a place on, those that a search for their ID finds
abbrev pub found_from : Rate → List ℕ → ℕ → List vdcp_clip → List (ClipId × Timecode)
found_from rate keys at [] = []
found_from rate keys at (row ∷ rows) =
    with_row (id_of row.id) (own_of (nat_eq (place_of keys (key_of (id_of row.id))) at) (time_of rate row.length))
    (found_from rate keys (suc at) rows)

-- the clips of a table
abbrev pub clips_of : Rate → List vdcp_clip → List (ClipId × Timecode)
clips_of rate rows = found_from rate (keys_of rows) 0 rows

-- those of all its rows
abbrev pub every_clip : Rate → List vdcp_clip → List (ClipId × Timecode)
every_clip rate [] = []
every_clip rate (row ∷ rows) = with_row (id_of row.id) (time_of rate row.length) (every_clip rate rows)

-- the length that the row has for an ID
abbrev pub own_length : Rate → vdcp_clip → ClipId → Option Timecode
own_length rate row id = own_of (is_same_id id (id_of row.id)) (time_of rate row.length)
