-- Rows have a reading: each is named by an item or is refused, so all of them are a playlist, or have a fault.
use Rattle.std.proofs.Common.{◌≡◌, ℕ, ◌+◌, ◌<◌, ◌≤◌, true, false, List, [], ◌∷◌, ◌++◌, length, refl, sym, ap, ap₂, subst, ◌∙◌, arith, append_assoc}
use Rattle.std.proofs.Common.{append-nil, inl, inr}
use Rattle.std.proofs.lemmas.Bool.Decides.{eqb_tells}
use Rattle.std.specs.Prelude.{◌≢◌, ◌⊎◌, eqb, Option, None, Some}
use Rattle.vdcp_list.specs.Values.{FieldLaws}
use Rattle.vdcp_list.proofs.FieldTexts.{IsIds, IsParts, id_or_none, part_or_none}
use Rattle.vdcp_list.proofs.ItemRows.{one_some}
use Rattle.vdcp_list.proofs.PlaylistSteps.{named_now, names_push, no_names}
use Rattle.vdcp_list.proofs.Steps.{Fine, Refusal, one_more, refused_row, too_many}
use Rattle.vdcp_list.specs.Playlists.{CanName, IsItemFault, IsNextFault, IsPlaylist, IsPlaylistFault, NameItems}
use Rattle.vdcp_list.specs.Playlists.{columns_of, has_parts, is_of_columns, item_row, part_fields}
use Rattle.vdcp_list.specs.Reading.{IsReadFault, IsRowsFault}
use Rattle.vdcp_list.specs.Rows.{FileRow, most_rows}
use Rattle.vdcp_list.specs.declared.faults.ListFault.TheVariants.{Row}
use Rattle.vdcp_list.specs.declared.faults.ListFault.{ListFault}
use Rattle.vdcp_value.specs.declared.faults.RowFault.TheVariants.{Columns, Id, Time, TooMany}
use Rattle.vdcp_value.specs.declared.faults.RowFault.{RowFault}
use Rattle.vdcp_value.specs.Ids.{text_of_id}
use Rattle.vdcp_value.specs.declared.clip_id.ClipId.{ClipId}
use Rattle.vdcp_value.specs.declared.part.Item.{Item}
use Rattle.vdcp_value.specs.declared.part.Part.{Part}
use Rattle.vdcp_value.specs.declared.rate.Rate.{Rate}

-- ---- one row

-- an item names the row, or the row is refused wherever it stands
abbrev HasItem : Rate → ℕ → FileRow → Type 0
HasItem rate columns row = (item : Item) × (item_row rate (has_parts columns) item ≡ row)
    × CanName rate (has_parts columns) item.part

-- a fault that a row itself has: none of the reading
abbrev pub IsOwnFault : RowFault → Type 0
IsOwnFault fault = (k : ℕ) → ¬ IsReadFault (Row k fault)

abbrev HasItemFault : Rate → ℕ → FileRow → Type 0
HasItemFault rate columns row = (fault : RowFault) × IsItemFault rate columns row fault × IsOwnFault fault

abbrev IsRead : Rate → ℕ → FileRow → Type 0
IsRead rate columns row = HasItem rate columns row ⊎ HasItemFault rate columns row

abbrev item_with : ClipId → Option Part → Item
item_with id part = record { id = id; part = part }

tails : (a b : List ℕ) (row other : FileRow) → ◌≡◌ {A = FileRow} (a ∷ row) (b ∷ other) → row ≡ other
tails a b row other e = cc

read_whole : FieldLaws → (rate : Rate) (row : FileRow) → length row ≡ 1 → IsRead rate 1 row
read_whole v rate [] size = absurd (omega (arith, size))
read_whole v rate (first ∷ second ∷ row) size = absurd (omega (arith, size))
read_whole v rate (first ∷ []) size = by (id_or_none v.ids first)
  where
    by : IsIds first → IsRead rate 1 (first ∷ [])
    by (inl (id, e)) = inl (item_with id None, ap (λ (t : List ℕ). t ∷ []) (sym e), tt)
    by (inr n) = inr (Id, (refl, λ h. n h.0 (one_some first (text_of_id h.0) h.1)), λ k h. h)

read_part : FieldLaws → (rate : Rate) (row : FileRow) → length row ≡ 3 → IsRead rate 3 row
read_part v rate (first ∷ start ∷ duration ∷ []) size = by (id_or_none v.ids first) (part_or_none v rate start duration)
  where
    by : IsIds first → IsParts rate start duration → IsRead rate 3 (first ∷ start ∷ duration ∷ [])
    by (inl (id, e)) (inl (part, f, can)) =
        inl (item_with id part, ap₂ (λ (t : List ℕ) (r : FileRow). t ∷ r) (sym e) f, can)
    by (inl (id, e)) (inr n) =
        inr (
          Time,
          (
            refl,
            (id, ap Some e),
            λ item can f.
                n item.part can (tails (text_of_id item.id) first (part_fields rate item.part) (start ∷ duration ∷ [])
                f),
          ),
          λ k h. h,
        )
    by (inr n) p = inr (Id, (refl, λ h. n h.0 (one_some first (text_of_id h.0) h.1)), λ k h. h)
read_part v rate other size = absurd (omega (arith, size))

abbrev IsSized : ℕ → FileRow → ℕ → Type 0
IsSized columns row n = (length row ≡ columns) × (columns ≡ n)

abbrev Tells : ℕ → ℕ → Type 0
Tells a b = ((eqb a b ≡ true) × (a ≡ b)) ⊎ ((eqb a b ≡ false) × (a ≢ b))

sizes : (columns : ℕ) (row : FileRow) → (IsSized columns row 1 ⊎ IsSized columns row 3)
    ⊎ (is_of_columns columns row ≡ false)
sizes columns row = by (eqb_tells (length row) columns) (eqb_tells columns 1) (eqb_tells columns 3)
  where
    by : Tells (length row) columns → Tells columns 1 → Tells columns 3
        → (IsSized columns row 1 ⊎ IsSized columns row 3) ⊎ (is_of_columns columns row ≡ false)
    by (inl (t, size)) (inl (t', one)) p = inl (inl (size, one))
    by (inl (t, size)) (inr (f, n)) (inl (t', three)) = inl (inr (size, three))
    by (inl (t, size)) (inr (f, n)) (inr (f', n')) = inr (rw (t, f, f') refl)
    by (inr (f, n)) o p = inr (rw f refl)

read_row : FieldLaws → (rate : Rate) (columns : ℕ) (row : FileRow) → IsRead rate columns row
read_row v rate columns row = by (sizes columns row)
  where
    by : (IsSized columns row 1 ⊎ IsSized columns row 3) ⊎ (is_of_columns columns row ≡ false) → IsRead rate columns row
    by (inl (inl (size, one))) = subst (λ n. IsRead rate n row) (sym one) (read_whole v rate row (size ∙ one))
    by (inl (inr (size, three))) = subst (λ n. IsRead rate n row) (sym three) (read_part v rate row (size ∙ three))
    by (inr other) = inr (Columns, other, λ k h. h)

-- ---- all rows

pub room : (n most : ℕ) → n ≤ most → (n < most) ⊎ (n ≡ most)
room n most few = by (eqb_tells n most)
  where
    by : Tells n most → (n < most) ⊎ (n ≡ most)
    by (inl (t, e)) = inr e
    by (inr (f, n)) = inl (grind (arith, few, n))

-- all rows are fine, or they have a fault
abbrev pub IsReadAll : Fine → Refusal → List FileRow → Type 0
IsReadAll IsFine Refuses rows =
    ((length rows ≤ most_rows) × IsFine rows)
    ⊎ ((fault : ListFault) × IsRowsFault IsFine Refuses rows fault × ¬ IsReadFault fault)

-- the next row is fine after these, or refused
abbrev pub IsReadNext : Fine → Refusal → List FileRow → FileRow → Type 0
IsReadNext IsFine Refuses front row =
    IsFine (front ++ row ∷ [])
    ⊎ ((fault : RowFault) × Refuses front row fault × IsOwnFault fault)

read_from : (IsFine : Fine) (Refuses : Refusal)
    → ((front : List FileRow) (row : FileRow) → IsFine front → IsReadNext IsFine Refuses front row)
    → (rows front left : List FileRow) → rows ≡ front ++ left → length front ≤ most_rows → IsFine front
    → IsReadAll IsFine Refuses rows
read_from IsFine Refuses step rows front [] is few fine =
    let all : rows ≡ front = is ∙ append-nil front in
    inl (subst (λ (fs : List FileRow). length fs ≤ most_rows) (sym all) few, subst IsFine (sym all) fine)
read_from IsFine Refuses step rows front (row ∷ left) is few fine =
    by (room (length front) most_rows few) (step front row fine)
    (read_from IsFine Refuses step rows (front ++ row ∷ []) left begins)
  where
    begins : rows ≡ (front ++ row ∷ []) ++ left
    begins = is ∙ sym (append_assoc front (row ∷ []) left)

    by : (length front < most_rows) ⊎ (length front ≡ most_rows) → IsReadNext IsFine Refuses front row
        → (length (front ++ row ∷ []) ≤ most_rows → IsFine (front ++ row ∷ []) → IsReadAll IsFine Refuses rows)
        → IsReadAll IsFine Refuses rows
    by (inr full) r next =
        inr (Row (most_rows + 1) TooMany, inr (inl (too_many IsFine front rows row (left, begins) full fine)), λ h. h)
    by (inl below) (inl more) next = next (let size = one_more front row in omega (arith, size, below)) more
    by (inl below) (inr (fault, f, other)) next =
        inr (
          Row (length front + 1) fault,
          inr (inr (
            length front + 1,
            refused_row IsFine Refuses front rows row (Row (length front + 1) fault) (left, begins) below fine
                (fault, refl, f),
          )),
          other (length front + 1),
        )

-- so rows are fine, or they have a fault
pub read_all : (IsFine : Fine) (Refuses : Refusal)
    → ((front : List FileRow) (row : FileRow) → IsFine front → IsReadNext IsFine Refuses front row) → IsFine []
    → (rows : List FileRow) → IsReadAll IsFine Refuses rows
read_all IsFine Refuses step none rows = read_from IsFine Refuses step rows [] rows refl (omega arith) none

pub has_reading : FieldLaws → (rate : Rate) (rows : List FileRow)
    → ((items : List Item) × IsPlaylist rate rows items)
    ⊎ ((fault : ListFault) × IsPlaylistFault rate rows fault × ¬ IsReadFault fault)
has_reading v rate rows = by (read_all (NameItems rate) (IsNextFault rate) step ([], no_names rate false) rows)
  where
    step : (front : List FileRow) (row : FileRow) → NameItems rate front
        → IsReadNext (NameItems rate) (IsNextFault rate) front row
    step front row (items, named) = next (read_row v rate (columns_of (front ++ row ∷ [])) row)
      where
        next : IsRead rate (columns_of (front ++ row ∷ [])) row
            → IsReadNext (NameItems rate) (IsNextFault rate) front row
        next (inl (item, e, can)) =
            inl (
              items ++ item ∷ [],
              names_push rate (has_parts (columns_of (front ++ row ∷ []))) front items row item
                  (named_now rate front row items named) e can,
            )
        next (inr f) = inr f

    by : IsReadAll (NameItems rate) (IsNextFault rate) rows
        → ((items : List Item) × IsPlaylist rate rows items)
        ⊎ ((fault : ListFault) × IsPlaylistFault rate rows fault × ¬ IsReadFault fault)
    by (inl (few, (items, named))) = inl (items, record { few = few; named = named })
    by (inr f) = inr f
