-- The items of rows, row by row.
use Rattle.std.proofs.Common.{◌≡◌, ℕ, ◌+◌, Bool, List, [], ◌∷◌, ◌++◌, length, map, refl, sym, ap, ◌∙◌, arith}
use Rattle.std.proofs.lemmas.List.{map-append}
use Rattle.std.proofs.lemmas.List.Elements.{All-push}
use Rattle.std.specs.Prelude.{◌≢◌}
use Rattle.vdcp_list.specs.Playlists.{CanName, Names, columns_of, has_parts, item_row}
use Rattle.vdcp_list.specs.Rows.{FileRow}
use Rattle.vdcp_value.specs.declared.part.Item.{Item}
use Rattle.vdcp_value.specs.declared.rate.Rate.{Rate}

pub no_names : (rate : Rate) (with_parts : Bool) → Names rate with_parts [] []
no_names rate with_parts = record { rows_are = refl; can_name = λ k d below. absurd (omega (arith, below)) }

-- no row names no item, of whatever columns
names_none : (rate : Rate) (a b : Bool) (items : List Item) → Names rate a [] items → Names rate b [] items
names_none rate a b [] h = no_names rate b
names_none rate a b (item ∷ items) h = cc h.rows_are

-- how many fields the rows have with the next one
pub columns_now : (front : List FileRow) (row : FileRow) (place old new : ℕ) → place ≡ length front + 1
    → old ≡ columns_of front → (place ≡ 1 → new ≡ length row) → (place ≢ 1 → new ≡ old)
    → new ≡ columns_of (front ++ row ∷ [])
columns_now [] row place old new e before first later = first e
columns_now (other ∷ front) row place old new e before first later = later (λ one. omega (arith, e, one)) ∙ before

-- the rows so far name their items, of the columns now
pub named_now : (rate : Rate) (front : List FileRow) (row : FileRow) (items : List Item)
    → Names rate (has_parts (columns_of front)) front items
    → Names rate (has_parts (columns_of (front ++ row ∷ []))) front items
named_now rate [] row items h = names_none rate (has_parts 0) (has_parts (length row)) items h
named_now rate (first ∷ front) row items h = h

pub names_push : (rate : Rate) (with_parts : Bool) (front : List FileRow) (items : List Item) (row : FileRow)
    (item : Item) → Names rate with_parts front items
    → item_row rate with_parts item ≡ row → CanName rate with_parts item.part
    → Names rate with_parts (front ++ row ∷ []) (items ++ item ∷ [])
names_push rate with_parts front items row item h e can = record {
  rows_are =
      ap (λ rs. rs ++ row ∷ []) h.rows_are ∙ ap (λ r. map (item_row rate with_parts) items ++ r ∷ []) (sym e)
      ∙ sym (map-append (item_row rate with_parts) items (item ∷ []));
  can_name = All-push (λ (i : Item). CanName rate with_parts i.part) items item h.can_name can;
}
