-- An as-run list, event by event.
use Rattle.csv.specs.Writing.{default_writer, row_text}
use Rattle.std.specs.Io.KnownBytes.{Appends}
use Rattle.std.proofs.Common.{◌≡◌, ℕ, ◌+◌, ◌<◌, Bool, true, false, List, [], ◌∷◌, ◌++◌, length, take, drop, refl, sym, ap, ap₂, subst, ◌∙◌, arith, zero}
use Rattle.std.proofs.Common.{suc, add-one, add-zero, zero-add, append_assoc, append-nil, true≢false, IfErr, Ok, Err, Result}
use Rattle.std.proofs.Math.Bool.{and-eq-true_iff}
use Rattle.std.proofs.lemmas.List.Folds.{list_all-append, list_any-append}
use Rattle.std.specs.Prelude.{Option, None, Some, OnOk, decimal, is_err, is_some, slice_get, ◌||◌, ◌≢◌, ◌↔◌}
use Rattle.vdcp_list.specs.Asrun.{IsUnlawful, are_lawful, events_text, has_part, is_lawful_event}
use Rattle.vdcp_list.specs.Playlists.{item_row, part_fields}
use Rattle.vdcp_list.specs.declared.faults.WriteFault.TheVariants.{Device, Memory, Time}
use Rattle.vdcp_list.specs.declared.faults.WriteFault.{WriteFault}
use Rattle.vdcp_value.specs.Bcd.{is_time}
use Rattle.vdcp_value.specs.Ids.{text_of_id}
use Rattle.vdcp_value.specs.declared.part.Item.{Item}
use Rattle.vdcp_value.specs.declared.part.Part.{Part}
use Rattle.vdcp_value.specs.declared.rate.Rate.{Rate}

either_true : (a b : Bool) → b ≡ true → (a || b) ≡ true
either_true true b e = refl
either_true false b e = e

-- one more event
take_next : (items : List Item) (k : ℕ) (item : Item) → slice_get items k ≡ Some item
    → take (suc k) items ≡ take k items ++ item ∷ []
take_next [] k item e = cc e
take_next (first ∷ items) zero item e = let same : first ≡ item = cc e in ap (λ i. i ∷ []) same
take_next (first ∷ items) (suc k) item e = ap (λ is. first ∷ is) (take_next items k item e)

pub take_more : (items : List Item) (k : ℕ) (item : Item) → slice_get items k ≡ Some item
    → take (k + 1) items ≡ take k items ++ item ∷ []
take_more items k item e = rw (add-one k) (take_next items k item e)

last_or : (a b : Bool) → (a || (b || false)) ≡ (a || b)
last_or true b = refl
last_or false true = refl
last_or false false = refl

-- whether some event has a part
pub part_at : (items : List Item) (k : ℕ) (item : Item) → slice_get items k ≡ Some item → is_some item.part ≡ true
    → has_part items ≡ true
part_at [] k item e some = cc e
part_at (first ∷ items) zero item e some =
    let same : first ≡ item = cc e in rw (ap (λ (i : Item). is_some i.part) same ∙ some) refl
part_at (first ∷ items) (suc k) item e some = either_true (is_some first.part) (has_part items)
    (part_at items k item e some)

either_more : (a b c : Bool) → (b ≡ true → c ≡ true) → (a || b) ≡ true → (a || c) ≡ true
either_more true b c more e = refl
either_more false b c more e = more e

pub part_among : (items : List Item) (n : ℕ) → has_part (take n items) ≡ true → has_part items ≡ true
part_among [] zero e = cc e
part_among [] (suc n) e = cc e
part_among (first ∷ items) zero e = cc e
part_among (first ∷ items) (suc n) e =
    either_more (is_some first.part) (has_part (take n items)) (has_part items) (part_among items n) e

pub parts_more : (items : List Item) (k : ℕ) (item : Item) → slice_get items k ≡ Some item
    → has_part (take (k + 1) items) ≡ (has_part (take k items) || is_some item.part)
parts_more items k item e =
    rw (take_more items k item e, list_any-append (λ (i : Item). is_some i.part) (take k items) (item ∷ []))
    (last_or (has_part (take k items)) (is_some item.part))

pub no_part_more : (items : List Item) (k : ℕ) (item : Item) → slice_get items k ≡ Some item
    → has_part (take k items) ≡ false → is_some item.part ≡ false
    → has_part (take (k + 1) items) ≡ false
no_part_more items k item e none other =
    rw (
      take_more items k item e,
      list_any-append (λ (i : Item). is_some i.part) (take k items) (item ∷ []),
      none,
      other,
    ) refl

-- whether all events are lawful
pub lawful_more : (rate : Rate) (items : List Item) (k : ℕ) (item : Item) → slice_get items k ≡ Some item
    → are_lawful rate (take k items) ≡ true
    → is_lawful_event rate item.part ≡ true → are_lawful rate (take (k + 1) items) ≡ true
lawful_more rate items k item e h lawful =
    rw (
      take_more items k item e,
      list_all-append (λ (i : Item). is_lawful_event rate i.part) (take k items)
          (item ∷ []),
      h,
      lawful,
    ) refl

pub lawful_at : (rate : Rate) (items : List Item) (k reported : ℕ) (item : Item) → slice_get items k ≡ Some item
    → k < reported
    → are_lawful rate (take reported items) ≡ true → is_lawful_event rate item.part ≡ true
lawful_at rate [] k reported item e below h = cc e
lawful_at rate (first ∷ items) k zero item e below h = absurd (omega (arith, below))
lawful_at rate (first ∷ items) zero (suc n) item e below h =
    let same : first ≡ item = cc e in
    sym (ap (λ (i : Item). is_lawful_event rate i.part) same)
    ∙ ((and-eq-true_iff (is_lawful_event rate first.part) (are_lawful rate (take n items))).0 h).0
lawful_at rate (first ∷ items) (suc k) (suc n) item e below h =
    lawful_at rate items k n item e (omega (arith, below))
    ((and-eq-true_iff (is_lawful_event rate first.part) (are_lawful rate (take n items))).0 h).1

ordered : (j k : ℕ) → (j < k → ⊥) → (k < j → ⊥) → j ≡ k
ordered j k below above = grind (arith, below, above)

-- there is one first event that isn't
pub unlawful_once : (rate : Rate) (items : List Item) (reported j k : ℕ) → IsUnlawful rate items reported j
    → IsUnlawful rate items reported k → j ≡ k
unlawful_once rate items reported j k h g =
    ordered j k
    (λ below. true≢false (sym (lawful_at rate items j k h.item h.at_k below g.before) ∙ h.unlawful))
    (λ below. true≢false (sym (lawful_at rate items k j g.item g.at_k below h.before) ∙ g.unlawful))

pub not_all_lawful : (rate : Rate) (items : List Item) (reported k : ℕ) → IsUnlawful rate items reported k
    → are_lawful rate (take reported items) ≡ true → ⊥
not_all_lawful rate items reported k h all = true≢false
    (sym (lawful_at rate items k reported h.item h.at_k h.reported_is all) ∙ h.unlawful)

-- tests that hold alike are the same
pub same_test : (a b : Bool) → (a ≡ true) ↔ (b ≡ true) → a ≡ b
same_test true b h = sym (h.0 refl)
same_test false true h = h.1 refl
same_test false false h = refl

-- the text of one more event
pub events_text-push : (rate : Rate) (with_parts : Bool) (k : ℕ) (items : List Item) (item : Item)
    → events_text rate with_parts k (items ++ item ∷ [])
    ≡ events_text rate with_parts k items ++ row_text default_writer
    (decimal (k + length items) ∷ item_row rate with_parts item)
events_text-push rate with_parts k [] item =
    rw add-zero (append-nil (row_text default_writer (decimal k ∷ item_row rate with_parts item)))
events_text-push rate with_parts k (first ∷ items) item =
    let row = row_text default_writer (decimal k ∷ item_row rate with_parts first) in
    let size : suc k + length items ≡ k + suc (length items) = omega arith in
    ap (λ text. row ++ text) (events_text-push rate with_parts (suc k) items item
    ∙ ap (λ n. events_text rate with_parts (suc k) items ++ row_text default_writer
    (decimal n ∷ item_row rate with_parts item)) size)
    ∙ sym (append_assoc row (events_text rate with_parts (suc k) items)
    (row_text default_writer (decimal (k + suc (length items)) ∷ item_row rate with_parts item)))

-- the fields of an event's row
pub part_fields_of : (rate : Rate) (item : Item) (number id start duration : List ℕ) → id ≡ text_of_id item.id
    → part_fields rate item.part ≡ start ∷ duration ∷ []
    → number ∷ item_row rate true item ≡ number ∷ id ∷ start ∷ duration ∷ []
part_fields_of rate item number id start duration e h = ap₂ (λ i fields. number ∷ i ∷ fields) (sym e) h

-- what a fault tells of unlawful parts
one_time : (j k : ℕ) → Time j ≡ Time k → j ≡ k
one_time j k e = cc

one_fault : (a b : WriteFault) → ◌≡◌ {A = Result (Unit {0}) WriteFault} (Err a) (Err b) → a ≡ b
one_fault a b e = cc

pub told : (rate : Rate) (items : List Item) (reported : ℕ) (result : Result (Unit {0}) WriteFault) (fault : WriteFault)
    → result ≡ Err fault
    → (j : ℕ) × (fault ≡ Time j) × IsUnlawful rate items reported j → (k : ℕ)
    → (result ≡ Err (Time k)) ↔ IsUnlawful rate items reported k
told rate items reported result fault is (j, e, h) k = (
  λ f. let same : j ≡ k = one_time j k (sym e ∙ one_fault fault (Time k) (sym is ∙ f)) in
      subst (λ n. IsUnlawful rate items reported n) same h,
  λ g. is ∙ ap Err (e ∙ ap Time (unlawful_once rate items reported j k h g)),
)

pub untold : (rate : Rate) (items : List Item) (reported : ℕ) (result : Result (Unit {0}) WriteFault)
    → IfErr result (λ fault. (k : ℕ) → fault ≢ Time k)
    → are_lawful rate (take reported items) ≡ true → (k : ℕ)
    → (result ≡ Err (Time k)) ↔ IsUnlawful rate items reported k
untold rate items reported (Ok done) other lawful k =
    (λ e. cc e, λ h. absurd (not_all_lawful rate items reported k h lawful))
untold rate items reported (Err fault) other lawful k =
    (λ e. absurd (other k (one_fault fault (Time k) e)), λ h. absurd (not_all_lawful rate items reported k h lawful))

device_no_time : (fault : WriteFault) → fault ≡ Device → (k : ℕ) → fault ≢ Time k
device_no_time fault e k t = cc

memory_no_time : (fault : WriteFault) → fault ≡ Memory → (k : ℕ) → fault ≢ Time k
memory_no_time fault e k t = cc

pub untold_memory : (rate : Rate) (items : List Item) (reported : ℕ) (fault : WriteFault) → fault ≡ Memory
    → are_lawful rate (take reported items) ≡ true → (k : ℕ)
    → (◌≡◌ {A = Result (Unit {0}) WriteFault} (Err fault) (Err (Time k))) ↔ IsUnlawful rate items reported k
untold_memory rate items reported fault e lawful = untold rate items reported (Err fault) (memory_no_time fault e)
    lawful

pub untold_device : (rate : Rate) (items : List Item) (reported : ℕ) (result : Result (Unit {0}) WriteFault)
    → IfErr result (λ fault. fault ≡ Device)
    → are_lawful rate (take reported items) ≡ true → (k : ℕ)
    → (result ≡ Err (Time k)) ↔ IsUnlawful rate items reported k
untold_device rate items reported (Ok done) e lawful = untold rate items reported (Ok done) tt lawful
untold_device rate items reported (Err fault) e lawful =
    untold rate items reported (Err fault) (device_no_time fault e) lawful

pub lawful_parts : (rate : Rate) (part : Option Part) (some : Part) → part ≡ Some some
    → is_lawful_event rate part ≡ true
    → (is_time rate some.start ≡ true) × (is_time rate some.duration ≡ true)
lawful_parts rate part some e h = (and-eq-true_iff (is_time rate some.start) (is_time rate some.duration)).0 (rw e at h)

taken : (items : List Item) (k : ℕ) (item : Item) → slice_get items k ≡ Some item → length (take k items) ≡ k
taken [] k item e = cc e
taken (first ∷ items) zero item e = refl
taken (first ∷ items) (suc k) item e = ap suc (taken items k item e)

one_text : (a b : List ℕ) → ◌≡◌ {A = Option (List ℕ)} (Some a) (Some b) → a ≡ b
one_text a b e = cc

-- an event of those from a place on
pub at_left : (items : List Item) (from k : ℕ) (item : Item) → slice_get items (from + k) ≡ Some item
    → slice_get (drop from items) k ≡ Some item
at_left items zero k item e = ap (λ (n : ℕ). slice_get items n) (sym (zero-add k)) ∙ e
at_left [] (suc from) k item e = cc e
at_left (first ∷ items) (suc from) k item e =
    let next : suc (from + k) ≡ suc from + k = omega arith in
    at_left items from k item (ap (λ (n : ℕ). slice_get (first ∷ items) n) next ∙ e)

-- the text after one more row
pub events_step : (rate : Rate) (with_parts : Bool) (from : ℕ) (items : List Item) (k : ℕ) (item : Item)
    (number : List ℕ) (old new : Option (List ℕ))
    → slice_get items k ≡ Some item → number ≡ decimal (from + k)
    → old ≡ Some (events_text rate with_parts from (take k items))
    → Appends old new (row_text default_writer (number ∷ item_row rate with_parts item))
    → new ≡ Some (events_text rate with_parts from (take (k + 1) items))
events_step rate with_parts from items k item number None new at is were grown = cc were
events_step rate with_parts from items k item number (Some old) None at is were grown = absurd grown
events_step rate with_parts from items k item number (Some old) (Some new) at is were grown =
    let count : from + length (take k items) ≡ from + k = ap (λ n. from + n) (taken items k item at) in
    ap Some (grown
    ∙ ap₂ (λ text n. text ++ row_text default_writer (n ∷ item_row rate with_parts item))
    (one_text old (events_text rate with_parts from (take k items)) were)
    (is ∙ ap decimal (sym count))
    ∙ sym (events_text-push rate with_parts from (take k items) item)
    ∙ ap (events_text rate with_parts from) (sym (take_more items k item at)))

pub on_ok : {P T E : Type 0} (result : Result T E) → is_err result ≡ false → OnOk result P → P
on_ok (Ok x) e h = h
on_ok (Err x) e h = cc e
