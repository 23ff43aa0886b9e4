-- The rows read so far, those that are left, and the whole of a file.
use Rattle.std.proofs.Common.{◌≡◌, ℕ, ◌+◌, ◌-◌, ◌<◌, ◌≤◌, true, false, List, [], ◌∷◌, ◌++◌, length, take, refl, sym, ap, subst, ◌∙◌, arith, suc, append_assoc}
use Rattle.std.proofs.Common.{append-nil, inl, inr}
use Rattle.std.proofs.lemmas.List.{length-append}
use Rattle.std.specs.Prelude.{◌⊎◌, Option, None, Some, option_map, slice_get}
use Rattle.vdcp_list.specs.Reading.{HasTooMany, IsFront, IsOfRow, IsReadFault, IsRowsFault, RefusesRow, TakesRow}
use Rattle.vdcp_list.specs.Rows.{AreRowsOf, FileRow, HasRows, most_rows, rows_of}
use Rattle.vdcp_list.specs.declared.faults.ListFault.TheVariants.{Row}
use Rattle.vdcp_list.specs.declared.faults.ListFault.{ListFault}
use Rattle.vdcp_value.specs.declared.faults.RowFault.TheVariants.{TooMany}
use Rattle.vdcp_value.specs.declared.faults.RowFault.{RowFault}

-- before the first read no row was read
pub front_first : (all : Option (List FileRow)) → IsFront all all []
front_first None = tt
front_first (Some rows) = (rows, refl, refl)

-- one more is read
pub front_next : (all left left' : Option (List FileRow)) (front : List FileRow) (row : FileRow)
    → IsFront all left front → TakesRow left left' true row
    → IsFront all left' (front ++ row ∷ [])
front_next None left left' front row h t = tt
front_next (Some rows) left left' front row (more, is, e) t =
    let (more', is', e') = rw is at t in
    (more', is', e ∙ ap (λ rs. front ++ rs) e' ∙ sym (append_assoc front (row ∷ []) more'))

-- none is left: these are all
pub front_all : (file : Option (List ℕ)) (left left' : Option (List FileRow)) (front : List FileRow) (row : FileRow)
    → IsFront (option_map rows_of file) left front → TakesRow left left' false row → AreRowsOf file front
front_all None left left' front row h t = tt
front_all (Some bytes) left left' front row (more, is, e) t =
    let none : more ≡ [] = rw is at t in
    sym (e ∙ ap (λ rs. front ++ rs) none ∙ append-nil front)

-- the rows begin with these
abbrev pub Begins : List FileRow → List FileRow → Type 0
Begins front rows = (more : List FileRow) × (rows ≡ front ++ more)

-- a file has rows that begin with those read
pub front_begins : (file : Option (List ℕ)) (left : Option (List FileRow)) (front : List FileRow)
    → IsFront (option_map rows_of file) left front
    → HasRows file (Begins front)
front_begins None left front h = (front, tt, ([], sym (append-nil front)))
front_begins (Some bytes) left front (more, is, e) = (rows_of bytes, refl, (more, e))

-- a file has rows
pub some_rows : (file : Option (List ℕ)) → (rows : List FileRow) × AreRowsOf file rows
some_rows None = ([], tt)
some_rows (Some bytes) = (rows_of bytes, refl)

-- the row after those read, and what stands before it
pub record Next (front rows : List FileRow) (row : FileRow) : Type 0 where
  pub below : length front < length rows
  pub here : slice_get rows (length front) ≡ Some row
  pub before : take (length front) rows ≡ front

next_at : (front more : List FileRow) (row : FileRow) → Next front (front ++ row ∷ more) row
next_at [] more row = record { below = omega arith; here = refl; before = refl }
next_at (first ∷ front) more row =
    let h = next_at front more row in
    record { below = omega (arith, h.below); here = h.here; before = ap (λ rs. first ∷ rs) h.before }

pub next_of : (front rows : List FileRow) (row : FileRow) → Begins (front ++ row ∷ []) rows → Next front rows row
next_of front rows row (more, e) =
    rw (e ∙ append_assoc front (row ∷ []) more) (next_at front more row)

pub one_more : (front : List FileRow) (row : FileRow) → length (front ++ row ∷ []) ≡ suc (length front)
one_more front row = let size = length-append front (row ∷ []) in omega (arith, size)

-- of rows and a fault: what is fine, and why the next row is refused
abbrev pub Fine : Type 1
Fine = List FileRow → Type 0

abbrev pub Refusal : Type 1
Refusal = List FileRow → FileRow → RowFault → Type 0

pub refused_row : (IsFine : Fine) (Refuses : Refusal) (front rows : List FileRow) (row : FileRow) (fault : ListFault)
    → Begins (front ++ row ∷ []) rows → length front < most_rows → IsFine front
    → IsOfRow (length front + 1) (Refuses front row) fault → RefusesRow IsFine Refuses rows (length front + 1) fault
refused_row IsFine Refuses front rows row fault b few fine refused =
    let s = next_of front rows row b in
    let back : length front + 1 - 1 ≡ length front = omega arith in
    let before : take (length front + 1 - 1) rows ≡ front = ap (λ m. take m rows) back ∙ s.before in
    record {
      counted = omega arith;
      within = omega (arith, few);
      fine = subst IsFine (sym before) fine;
      row = row;
      next = ap (slice_get rows) back ∙ s.here;
      refused = subst (λ fs. IsOfRow (length front + 1) (Refuses fs row) fault) (sym before) refused;
    }

pub too_many : (IsFine : Fine) (front rows : List FileRow) (row : FileRow) → Begins (front ++ row ∷ []) rows
    → length front ≡ most_rows → IsFine front → HasTooMany IsFine rows (Row (most_rows + 1) TooMany)
too_many IsFine front rows row b full fine =
    let s = next_of front rows row b in
    record {
      fault_is = refl;
      many = subst (λ m. m < length rows) full s.below;
      fine = subst IsFine (sym (ap (λ m. take m rows) (sym full) ∙ s.before)) fine;
    }

-- n rows of a file were read, of which this holds
pub record ReadSoFar (Holds : List FileRow → Type 0) (file : Option (List ℕ)) (left : Option (List FileRow)) (n : ℕ)
    : Type 0 where
  pub front : List FileRow
  pub is_front : IsFront (option_map rows_of file) left front
  pub size : n ≡ length front
  pub holds : Holds front

pub read_first : (Holds : Fine) (file : Option (List ℕ)) → Holds []
    → ReadSoFar Holds file (option_map rows_of file) 0
read_first Holds file h =
    record { front = []; is_front = front_first (option_map rows_of file); size = refl; holds = h }

-- one more row
pub read_next : (Old New : Fine) (file : Option (List ℕ)) (left left' : Option (List FileRow)) (n : ℕ) (row : FileRow)
    → ReadSoFar Old file left n → TakesRow left left' true row
    → ((front : List FileRow) → Old front → n + 1 ≡ length front + 1 → New (front ++ row ∷ []))
    → ReadSoFar New file left' (n + 1)
read_next Old New file left left' n row h t made = record {
  front = h.front ++ row ∷ [];
  is_front = front_next (option_map rows_of file) left left' h.front row h.is_front t;
  size = omega (arith, h.size, one_more h.front row);
  holds = made h.front h.holds (omega (arith, h.size));
}

-- no row is left
pub read_all : (Holds : Fine) (file : Option (List ℕ)) (left left' : Option (List FileRow)) (n : ℕ) (row : FileRow)
    → ReadSoFar Holds file left n → TakesRow left left' false row → n ≤ most_rows
    → HasRows file (λ rows. (length rows ≤ most_rows) × Holds rows)
read_all Holds file left left' n row h t few = (
  h.front,
  front_all file left left' h.front row h.is_front t,
  (subst (λ m. m ≤ most_rows) h.size few, h.holds),
)

-- a row is refused
pub read_refused : (IsFine : Fine) (Refuses : Refusal) (Holds : Fine) (file : Option (List ℕ))
    → (left left' : Option (List FileRow)) (n : ℕ) (row : FileRow) (fault : ListFault)
    → ((front : List FileRow) → Holds front → IsFine front) → ReadSoFar Holds file left n
    → TakesRow left left' true row → n < most_rows
    → ((front : List FileRow) → Holds front → n + 1 ≡ length front + 1
    → IsReadFault fault ⊎ IsOfRow (n + 1) (Refuses front row) fault)
    → HasRows file (λ rows. IsRowsFault IsFine Refuses rows fault)
read_refused IsFine Refuses Holds file left left' n row fault fine h t few refused =
    let (rows, are, b) = front_begins file left' (h.front ++ row ∷ [])
    (front_next (option_map rows_of file) left left' h.front row h.is_front t) in
    (rows, are, by rows b (refused h.front h.holds (omega (arith, h.size))))
  where
    by : (rows : List FileRow) → Begins (h.front ++ row ∷ []) rows
        → IsReadFault fault ⊎ IsOfRow (n + 1) (Refuses h.front row) fault → IsRowsFault IsFine Refuses rows fault
    by rows b (inl failed) = inl failed
    by rows b (inr f) =
        inr (inr (
          length h.front + 1,
          refused_row IsFine Refuses h.front rows row fault b (subst (λ m. m < most_rows) h.size few)
              (fine h.front h.holds) (subst (λ m. IsOfRow (m + 1) (Refuses h.front row) fault) h.size f),
        ))

-- there is a row too many
pub read_too_many : (IsFine : Fine) (Refuses : Refusal) (Holds : Fine) (file : Option (List ℕ))
    → (left left' : Option (List FileRow)) (n : ℕ) (row : FileRow)
    → ((front : List FileRow) → Holds front → IsFine front) → ReadSoFar Holds file left n
    → TakesRow left left' true row → n ≡ most_rows
    → HasRows file (λ rows. IsRowsFault IsFine Refuses rows (Row (most_rows + 1) TooMany))
read_too_many IsFine Refuses Holds file left left' n row fine h t full =
    let (rows, are, b) = front_begins file left' (h.front ++ row ∷ [])
    (front_next (option_map rows_of file) left left' h.front row h.is_front t) in
    (rows, are, inr (inl (too_many IsFine h.front rows row b (sym h.size ∙ full) (fine h.front h.holds))))

-- the reader or memory failed
pub read_failed : (IsFine : Fine) (Refuses : Refusal) (file : Option (List ℕ)) (fault : ListFault) → IsReadFault fault
    → HasRows file (λ rows. IsRowsFault IsFine Refuses rows fault)
read_failed IsFine Refuses file fault h = let (rows, are) = some_rows file in (rows, are, inl h)
