-- Rows have one reading: a playlist of one list of items or one fault, and not both.
use Rattle.std.proofs.Common.{◌≡◌, ℕ, ◌-◌, ◌<◌, Bool, true, false, cond, List, [], ◌∷◌, ◌++◌, length, map}
use Rattle.std.proofs.Common.{take, refl, sym, ap, ap₂, subst, ◌∙◌, arith, zero, suc, true≢false, inl, inr, All}
use Rattle.std.proofs.Math.Bool.{and-eq-true_iff}
use Rattle.std.proofs.lemmas.List.{take_all}
use Rattle.std.proofs.lemmas.List.Elements.{All-head, All-tail}
use Rattle.std.specs.Prelude.{Option, None, Some, slice_get}
use Rattle.vdcp_list.proofs.ItemRows.{time_of}
use Rattle.vdcp_list.specs.Values.{FieldLaws}
use Rattle.vdcp_list.specs.Playlists.{CanName, IsItemFault, IsNextFault, IsPlaylist, IsPlaylistFault, NameItems, Names}
use Rattle.vdcp_list.specs.Playlists.{columns_of, has_parts, is_of_columns, item_row, part_fields, time_text}
use Rattle.vdcp_list.specs.Reading.{HasTooMany, IsOfRow, IsReadFault, RefusesRow}
use Rattle.vdcp_list.specs.Rows.{FileRow, HasId, most_rows}
use Rattle.vdcp_list.specs.declared.faults.ListFault.TheVariants.{Row}
use Rattle.vdcp_list.specs.declared.faults.ListFault.{ListFault}
use Rattle.vdcp_value.specs.declared.faults.RowFault.TheVariants.{Columns, Id, Time, Twice, TooMany, Long}
use Rattle.vdcp_value.specs.declared.faults.RowFault.{RowFault}
use Rattle.vdcp_value.specs.Bcd.{is_time}
use Rattle.vdcp_value.specs.Bytes.{AreBytes}
use Rattle.vdcp_value.specs.Ids.{text_of_id}
use Rattle.vdcp_value.specs.Timecodes.{bcd_of, text_of}
use Rattle.vdcp_value.specs.declared.clip_id.ClipId.{ClipId}
use Rattle.vdcp_value.specs.declared.part.Item.{Item}
use Rattle.vdcp_value.specs.declared.part.Part.{Part}
use Rattle.vdcp_value.specs.declared.rate.Rate.{Rate}
use Rattle.vdcp_value.specs.declared.timecode.Timecode.{Timecode}

-- ---- one list

one_bytes : FieldLaws → (rate : Rate) (a b : List ℕ) → AreBytes 4 a → AreBytes 4 b → is_time rate a ≡ true
    → is_time rate b ≡ true
    → time_text rate a ≡ time_text rate b → a ≡ b
one_bytes v rate a b p q l m e =
    let s = time_of v.times rate a p l in
    let t = time_of v.times rate b q m in
    let same = v.one_time s.time t.time (s.same_rate ∙ sym t.same_rate) (s.text ∙ e ∙ sym t.text) in
    sym s.bytes_are ∙ ap (λ (x : Timecode). bcd_of x) same ∙ t.bytes_are

not_empty : FieldLaws → (rate : Rate) (bytes : List ℕ) → AreBytes 4 bytes → is_time rate bytes ≡ true
    → time_text rate bytes ≡ [] → ⊥
not_empty v rate bytes p l e =
    let t = time_of v.times rate bytes p l in
    let none : length (text_of t.time) ≡ 0 = ap length (t.text ∙ e) in
    omega (arith, none, v.eleven t.time)

two_of : (a b c d : List ℕ) → ◌≡◌ {A = FileRow} (a ∷ b ∷ []) (c ∷ d ∷ []) → (a ≡ c) × (b ≡ d)
two_of a b c d e = (cc, cc)

lawful_both : (rate : Rate) (part : Part) (with_parts : Bool) → CanName rate with_parts (Some part)
    → (is_time rate part.start ≡ true) × (is_time rate part.duration ≡ true)
lawful_both rate part with_parts can = (and-eq-true_iff (is_time rate part.start) (is_time rate part.duration)).0 can.2

abbrev part_with : List ℕ → List ℕ → Option Part
part_with start duration = Some (record { start = start; duration = duration })

one_part : FieldLaws → (rate : Rate) (p q : Option Part) → CanName rate true p → CanName rate true q
    → part_fields rate p ≡ part_fields rate q → p ≡ q
one_part v rate None None cp cq e = refl
one_part v rate None (Some q) cp cq e =
    let h = two_of [] [] (time_text rate q.start) (time_text rate q.duration) e in
    absurd (not_empty v rate q.start cq.1.0 (lawful_both rate q true cq).0 (sym h.0))
one_part v rate (Some p) None cp cq e =
    let h = two_of (time_text rate p.start) (time_text rate p.duration) [] [] e in
    absurd (not_empty v rate p.start cp.1.0 (lawful_both rate p true cp).0 h.0)
one_part v rate (Some p) (Some q) cp cq e =
    let h = two_of (time_text rate p.start) (time_text rate p.duration) (time_text rate q.start)
    (time_text rate q.duration) e in
    let lp = lawful_both rate p true cp in
    let lq = lawful_both rate q true cq in
    let start = one_bytes v rate p.start q.start cp.1.0 cq.1.0 lp.0 lq.0 h.0 in
    let duration = one_bytes v rate p.duration q.duration cp.1.1 cq.1.1 lp.1 lq.1 h.1 in
    ap₂ part_with start duration

first_field : (a b : List ℕ) (row other : FileRow) → ◌≡◌ {A = FileRow} (a ∷ row) (b ∷ other) → (a ≡ b) × (row ≡ other)
first_field a b row other e = (cc, cc)

abbrev item_with : ClipId → Option Part → Item
item_with id part = record { id = id; part = part }

one_item : FieldLaws → (rate : Rate) (with_parts : Bool) (i j : ClipId) (p q : Option Part) → CanName rate with_parts p
    → CanName rate with_parts q
    → item_row rate with_parts (item_with i p) ≡ item_row rate with_parts (item_with j q)
    → item_with i p ≡ item_with j q
one_item v rate false i j None None cp cq e = ap (λ id. item_with id None)
    (v.one_id i j (first_field (text_of_id i) (text_of_id j) [] [] e).0)
one_item v rate false i j None (Some q) cp cq e = absurd (true≢false (sym cq.0))
one_item v rate false i j (Some p) q cp cq e = absurd (true≢false (sym cp.0))
one_item v rate true i j p q cp cq e =
    let h = first_field (text_of_id i) (text_of_id j) (part_fields rate p) (part_fields rate q) e in
    ap₂ item_with (v.one_id i j h.0) (one_part v rate p q cp cq h.1)

abbrev AllNamed : Rate → Bool → List Item → Type 0
AllNamed rate with_parts items = All (λ (item : Item). CanName rate with_parts item.part) items

first_row : (a b : FileRow) (rows others : List FileRow) → ◌≡◌ {A = List FileRow} (a ∷ rows) (b ∷ others)
    → (a ≡ b) × (rows ≡ others)
first_row a b rows others e = (cc, cc)

same_items : FieldLaws → (rate : Rate) (with_parts : Bool) (a b : List Item) → AllNamed rate with_parts a
    → AllNamed rate with_parts b
    → map (item_row rate with_parts) a ≡ map (item_row rate with_parts) b → a ≡ b
same_items v rate w [] [] p q e = refl
same_items v rate w [] (y ∷ ys) p q e = cc e
same_items v rate w (x ∷ xs) [] p q e = cc e
same_items v rate w (x ∷ xs) (y ∷ ys) p q e =
    let h = first_row (item_row rate w x) (item_row rate w y) (map (item_row rate w) xs) (map (item_row rate w) ys) e in
    ap₂ (λ (i : Item) (is : List Item). i ∷ is)
    (one_item v rate w x.id y.id x.part y.part (All-head (λ (i : Item). CanName rate w i.part) x xs p)
    (All-head (λ (i : Item). CanName rate w i.part) y ys q) h.0)
    (same_items v rate w xs ys (All-tail (λ (i : Item). CanName rate w i.part) x xs p)
    (All-tail (λ (i : Item). CanName rate w i.part) y ys q) h.1)

pub one_list : FieldLaws → (rate : Rate) (rows : List FileRow) (a b : List Item) → IsPlaylist rate rows a
    → IsPlaylist rate rows b → a ≡ b
one_list v rate rows a b h g =
    same_items v rate (has_parts (columns_of rows)) a b h.named.can_name g.named.can_name
    (sym h.named.rows_are ∙ g.named.rows_are)

-- ---- a row that names an item isn't refused

record NamedAt (rate : Rate) (with_parts : Bool) (row : FileRow) : Type 0 where
  pub item : Item
  pub can : CanName rate with_parts item.part
  pub row_is : item_row rate with_parts item ≡ row

named_at : (rate : Rate) (w : Bool) (rows : List FileRow) (n i : ℕ) (items : List Item) (row : FileRow)
    → take n rows ≡ map (item_row rate w) items
    → AllNamed rate w items → i < n → slice_get rows i ≡ Some row → NamedAt rate w row
named_at rate w [] n i items row are can below e = cc e
named_at rate w (first ∷ rows) zero i items row are can below e = absurd (omega (arith, below))
named_at rate w (first ∷ rows) (suc n) i [] row are can below e = cc are
named_at rate w (first ∷ rows) (suc n) zero (item ∷ items) row are can below e =
    let h = first_row first (item_row rate w item) (take n rows) (map (item_row rate w) items) are in
    let same : first ≡ row = cc e in
    record { item = item; can = All-head (λ (i : Item). CanName rate w i.part) item items can; row_is = sym h.0 ∙ same }
named_at rate w (first ∷ rows) (suc n) (suc i) (item ∷ items) row are can below e =
    named_at rate w rows n i items row (first_row first (item_row rate w item) (take n rows)
    (map (item_row rate w) items) are).1
    (All-tail (λ (i : Item). CanName rate w i.part) item items can) (omega (arith, below)) e

row_size : (rate : Rate) (w : Bool) (id : ClipId) (part : Option Part)
    → length (item_row rate w (item_with id part)) ≡ cond w 3 1
row_size rate false id part = refl
row_size rate true id None = refl
row_size rate true id (Some part) = refl

first_size : (rate : Rate) (w : Bool) (rows : List FileRow) (n i : ℕ) (items : List Item) (row : FileRow)
    → take n rows ≡ map (item_row rate w) items
    → i < n → slice_get rows i ≡ Some row → columns_of rows ≡ cond w 3 1
first_size rate w [] n i items row are below e = cc e
first_size rate w (first ∷ rows) zero i items row are below e = absurd (omega (arith, below))
first_size rate w (first ∷ rows) (suc n) i [] row are below e = cc are
first_size rate w (first ∷ rows) (suc n) i (item ∷ items) row are below e =
    ap length (first_row first (item_row rate w item) (take n rows) (map (item_row rate w) items) are).0
    ∙ row_size rate w item.id item.part

fits : (w : Bool) (columns : ℕ) (row : FileRow) → length row ≡ cond w 3 1 → columns ≡ cond w 3 1
    → is_of_columns columns row ≡ true
fits true columns row size e = rw (size, e) refl
fits false columns row size e = rw (size, e) refl

not_refused : (rate : Rate) (rows : List FileRow) (n k : ℕ) (items : List Item) (row : FileRow) (fault : ListFault)
    → Names rate (has_parts (columns_of rows)) (take n rows) items → k - 1 < n → slice_get rows (k - 1) ≡ Some row
    → IsOfRow k (IsItemFault rate (columns_of rows) row) fault → ⊥
not_refused rate rows n k items row fault h below e (wrong, is, f) = by_fault wrong f
  where
    w : Bool
    w = has_parts (columns_of rows)

    named : NamedAt rate (has_parts (columns_of rows)) row
    named = named_at rate (has_parts (columns_of rows)) rows n (k - 1) items row h.rows_are h.can_name below e

    of_columns : is_of_columns (columns_of rows) row ≡ true
    of_columns =
        fits (has_parts (columns_of rows)) (columns_of rows) row
        (ap length (sym named.row_is) ∙ row_size rate (has_parts (columns_of rows)) named.item.id named.item.part)
        (first_size rate (has_parts (columns_of rows)) rows n (k - 1) items row h.rows_are below e)

    first_is : (b : Bool) → slice_get (item_row rate b named.item) 0 ≡ Some (text_of_id named.item.id)
    first_is true = refl
    first_is false = refl

    has_id : HasId row
    has_id = (named.item.id, ap (λ r. slice_get r 0) (sym named.row_is) ∙ first_is (has_parts (columns_of rows)))

    by_fault : (g : RowFault) → IsItemFault rate (columns_of rows) row g → ⊥
    by_fault Columns g = true≢false (sym of_columns ∙ g)
    by_fault Id g = g.1 has_id
    by_fault Time g = g.2 named.item named.can named.row_is
    by_fault other g = g

-- ---- one fault

-- the columns of the first rows are those of all
named_in_front : (rate : Rate) (rows : List FileRow) (n : ℕ) (items : List Item) → 0 < n
    → Names rate (has_parts (columns_of (take n rows))) (take n rows) items
    → Names rate (has_parts (columns_of rows)) (take n rows) items
named_in_front rate rows zero items some h = absurd (omega (arith, some))
named_in_front rate [] (suc n) items some h = h
named_in_front rate (row ∷ rows) (suc n) items some h = h

columns_at : (rows : List FileRow) (n : ℕ) (row : FileRow) → slice_get rows n ≡ Some row
    → columns_of (take n rows ++ row ∷ []) ≡ columns_of rows
columns_at [] n row e = cc e
columns_at (first ∷ rows) zero row e = let same : first ≡ row = cc e in ap length (sym same)
columns_at (first ∷ rows) (suc n) row e = refl

-- row k is refused
abbrev IsRefused : Rate → List FileRow → ℕ → ListFault → Type 0
IsRefused rate rows k fault = RefusesRow (NameItems rate) (IsNextFault rate) rows k fault

item_fault : (rate : Rate) (rows : List FileRow) (k : ℕ) (fault : ListFault) (h : IsRefused rate rows k fault)
    → IsOfRow k (IsItemFault rate (columns_of rows) h.row) fault
item_fault rate rows k fault h =
    subst (λ n. IsOfRow k (IsItemFault rate n h.row) fault) (columns_at rows (k - 1) h.row h.next) h.refused

one_row : (a b : FileRow) (o : Option FileRow) → o ≡ Some a → o ≡ Some b → a ≡ b
one_row a b o e h = let same : ◌≡◌ {A = Option FileRow} (Some a) (Some b) = sym e ∙ h in cc same

-- of one row
same_fault : (rate : Rate) (columns : ℕ) (row : FileRow) (a b : RowFault) → IsItemFault rate columns row a
    → IsItemFault rate columns row b → a ≡ b
same_fault rate columns row Columns Columns f g = refl
same_fault rate columns row Columns Id f g = absurd (true≢false (sym g.0 ∙ f))
same_fault rate columns row Columns Time f g = absurd (true≢false (sym g.0 ∙ f))
same_fault rate columns row Id Columns f g = absurd (true≢false (sym f.0 ∙ g))
same_fault rate columns row Id Id f g = refl
same_fault rate columns row Id Time f g = absurd (f.1 g.1)
same_fault rate columns row Time Columns f g = absurd (true≢false (sym f.0 ∙ g))
same_fault rate columns row Time Id f g = absurd (g.1 f.1)
same_fault rate columns row Time Time f g = refl
same_fault rate columns row a Twice f g = absurd g
same_fault rate columns row a TooMany f g = absurd g
same_fault rate columns row a Long f g = absurd g
same_fault rate columns row Twice b f g = absurd f
same_fault rate columns row TooMany b f g = absurd f
same_fault rate columns row Long b f g = absurd f

earlier : (rate : Rate) (rows : List FileRow) (j k : ℕ) (a b : ListFault) → IsRefused rate rows j a
    → IsRefused rate rows k b → j < k → ⊥
earlier rate rows j k a b f g below =
    let (items, named) = g.fine in
    not_refused rate rows (k - 1) j items f.row a
    (named_in_front rate rows (k - 1) items (omega (arith, below, f.counted)) named)
    (omega (arith, below, f.counted)) f.next (item_fault rate rows j a f)

ordered : (j k : ℕ) → (j < k → ⊥) → (k < j → ⊥) → j ≡ k
ordered j k below above = grind (arith, below, above)

at_one_row : (rate : Rate) (rows : List FileRow) (k : ℕ) (a b : ListFault) → IsRefused rate rows k a
    → IsRefused rate rows k b → a ≡ b
at_one_row rate rows k a b f g =
    let same = one_row g.row f.row (slice_get rows (k - 1)) g.next f.next in
    let (x, is, p) = item_fault rate rows k a f in
    let (y, at, q) = subst (λ r. IsOfRow k (IsItemFault rate (columns_of rows) r) b) same (item_fault rate rows k b g) in
    is ∙ ap (Row k) (same_fault rate (columns_of rows) f.row x y p q) ∙ sym at

within : (rate : Rate) (rows : List FileRow) (k : ℕ) (a b : ListFault) → IsRefused rate rows k a
    → HasTooMany (NameItems rate) rows b → ⊥
within rate rows k a b f h =
    let (items, named) = h.fine in
    not_refused rate rows most_rows k items f.row a
    (named_in_front rate rows most_rows items (omega (arith, f.counted, f.within)) named)
    (omega (arith, f.counted, f.within)) f.next (item_fault rate rows k a f)

pub one_fault : (rate : Rate) (rows : List FileRow) (a b : ListFault) → IsPlaylistFault rate rows a
    → IsPlaylistFault rate rows b
    → (IsReadFault a → ⊥) → (IsReadFault b → ⊥) → a ≡ b
one_fault rate rows a b (inl f) g p q = absurd (p f)
one_fault rate rows a b f (inl g) p q = absurd (q g)
one_fault rate rows a b (inr (inr (j, f))) (inr (inr (k, g))) p q =
    let same = ordered j k (earlier rate rows j k a b f g) (earlier rate rows k j b a g f) in
    at_one_row rate rows k a b (subst (λ n. IsRefused rate rows n a) same f) g
one_fault rate rows a b (inr (inr (j, f))) (inr (inl g)) p q = absurd (within rate rows j a b f g)
one_fault rate rows a b (inr (inl f)) (inr (inr (k, g))) p q = absurd (within rate rows k b a g f)
one_fault rate rows a b (inr (inl f)) (inr (inl g)) p q = f.fault_is ∙ sym g.fault_is

-- ---- not both

pub not_both : (rate : Rate) (rows : List FileRow) (items : List Item) (fault : ListFault) → IsPlaylist rate rows items
    → IsPlaylistFault rate rows fault → IsReadFault fault
not_both rate rows items fault h (inl f) = f
not_both rate rows items fault h (inr (inl f)) =
    let few = h.few in let many = f.many in absurd (omega (arith, few, many))
not_both rate rows items fault h (inr (inr (k, f))) =
    absurd (not_refused rate rows most_rows k items f.row fault
    (subst (λ front. Names rate (has_parts (columns_of rows)) front items) (sym (take_all most_rows rows h.few))
    h.named)
    (omega (arith, f.counted, f.within)) f.next (item_fault rate rows k fault f))
