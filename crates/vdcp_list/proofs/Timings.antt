-- A timed as-run list, event by event.
use Rattle.csv.specs.Writing.{default_writer, row_text}
use Rattle.std.proofs.Common.{◌≡◌, ℕ, ◌+◌, ◌<◌, Bool, List, [], ◌∷◌, ◌++◌, length, take, get_or, sym, ap, ap₂, ◌∙◌, arith}
use Rattle.std.proofs.Common.{suc, add-zero, append_assoc, append-nil}
use Rattle.std.proofs.lemmas.List.{length-take, take_more}
use Rattle.std.specs.Io.KnownBytes.{Appends}
use Rattle.std.specs.Prelude.{Option, None, Some, decimal, slice_get}
use Rattle.vdcp_list.specs.Rows.{FileRow}
use Rattle.vdcp_list.specs.Timed.{timed_fields, timed_rows}
use Rattle.vdcp_value.specs.declared.part.Item.{Item}
use Rattle.vdcp_value.specs.declared.rate.Rate.{Rate}

-- the row of event k
abbrev pub row_of : Rate → Bool → ℕ → Item → FileRow → List ℕ
row_of rate with_parts k item fields =
    row_text default_writer (decimal k ∷ timed_fields rate with_parts item fields)

-- the rows of one more event
pub timed_rows-push : {T : Type 0} (shown : T → FileRow) (rate : Rate) (with_parts : Bool) (k : ℕ)
    (items : List Item) (times : List T) (item : Item) (time : T) → slice_get items (length times) ≡ Some item
    → timed_rows shown rate with_parts k items (times ++ time ∷ [])
    ≡ timed_rows shown rate with_parts k items times
    ++ row_of rate with_parts (k + length times) item (shown time)
timed_rows-push shown rate with_parts k [] times item time at = cc at
timed_rows-push shown rate with_parts k (first ∷ items) [] item time at =
    let same : first ≡ item = cc at in
    rw add-zero (append-nil (row_of rate with_parts k first (shown time))
    ∙ ap (λ i. row_of rate with_parts k i (shown time)) same)
timed_rows-push shown rate with_parts k (first ∷ items) (before ∷ times) item time at =
    let row = row_of rate with_parts k first (shown before) in
    let size : suc k + length times ≡ k + suc (length times) = omega arith in
    ap (λ text. row ++ text) (timed_rows-push shown rate with_parts (suc k) items times item time at
    ∙ ap (λ n. timed_rows shown rate with_parts (suc k) items times
    ++ row_of rate with_parts n item (shown time)) size)
    ∙ sym (append_assoc row (timed_rows shown rate with_parts (suc k) items times)
    (row_of rate with_parts (k + suc (length times)) item (shown time)))

one_text : (a b : List ℕ) → ◌≡◌ {A = Option (List ℕ)} (Some a) (Some b) → a ≡ b
one_text a b e = cc e

-- the text after one more row
pub timed_step : {T : Type 0} (shown : T → FileRow) (rate : Rate) (with_parts : Bool) (from : ℕ)
    (items : List Item) (times : List T) (k : ℕ) (item : Item) (time : T) (number : List ℕ) (old new : Option (List ℕ))
    → slice_get items k ≡ Some item → k < length times → time ≡ get_or times k time → number ≡ decimal (from + k)
    → old ≡ Some (timed_rows shown rate with_parts from items (take k times))
    → Appends old new
    (row_text default_writer (number ∷ timed_fields rate with_parts item (shown time)))
    → new ≡ Some (timed_rows shown rate with_parts from items (take (k + 1) times))
timed_step shown rate with_parts from items times k item time number None new at below here is were grown =
    cc were
timed_step shown rate with_parts from items times k item time number (Some old) None at below here is were
    grown = absurd grown
timed_step shown rate with_parts from items times k item time number (Some old) (Some new) at below here is
    were grown =
    let front = take k times in
    let rows = timed_rows shown rate with_parts from items front in
    let size : length front ≡ k = omega (arith, length-take k times, below) in
    let count : from + length front ≡ from + k = ap (λ n. from + n) size in
    let more : take (k + 1) times ≡ front ++ time ∷ [] = take_more times k time below
    ∙ ap (λ t. front ++ t ∷ []) (sym here) in
    let added : rows ++ row_of rate with_parts (from + k) item (shown time)
    ≡ timed_rows shown rate with_parts from items (front ++ time ∷ []) =
    ap (λ n. rows ++ row_of rate with_parts n item (shown time)) (sym count)
    ∙ sym (timed_rows-push shown rate with_parts from items front item time
    (ap (λ (n : ℕ). slice_get items n) size ∙ at)) in
    ap Some (grown
    ∙ ap₂ (λ text n. text ++ row_text default_writer
    (n ∷ timed_fields rate with_parts item (shown time)))
    (one_text old rows were) is
    ∙ added ∙ ap (timed_rows shown rate with_parts from items) (sym more))
