-- The numbers of events that went to air in several runs of a list.
use Rattle.std.proofs.Common.{ℕ, zero, suc, ◌+◌, ◌≡◌, ◌≤◌, ◌<◌, All, List, [], ◌∷◌, ◌++◌, length, take, drop, refl, sym, ap, subst, ◌∙◌, append_assoc, length-append, take-append-drop, arith, None, Some}
use Rattle.std.proofs.lemmas.List.Elements.{All-nil, All-cons, All-head, All-tail, All-append, All-weaker}
use Rattle.std.proofs.lemmas.List.Kept.{AllPairs-cons}
use Rattle.std.specs.Prelude.{AllPairs, slice_get}
use Rattle.vdcp_value.specs.declared.part.Item.{Item}
use Rattle.vdcp_laws.specs.SeveralRuns.{AiredEvent, aired_from, IsEvent}

-- An event has its number.

get_there : (before later : List Item) (item : Item) → slice_get (before ++ item ∷ later) (length before) ≡ Some item
get_there [] later item = refl
get_there (x ∷ before) later item = get_there before later item

get_none : (before : List Item) → slice_get (before ++ []) (length before) ≡ None
get_none [] = refl
get_none (x ∷ before) = get_none before

one_longer : (before : List Item) (item : Item) → length (before ++ item ∷ []) ≡ length before + 1
one_longer before item = length-append before (item ∷ [])

events_of : (before items more : List Item) → All (IsEvent (before ++ (items ++ more))) (aired_from (length before) items)
events_of before [] more = All-nil (IsEvent (before ++ ([] ++ more)))
events_of before (item ∷ items) more =
    All-cons (IsEvent (before ++ (item ∷ items ++ more))) (record { number = length before; item = item })
    (aired_from (length before + 1) items) (get_there before (items ++ more) item)
    (subst (λ (l : List Item). All (IsEvent l) (aired_from (length before + 1) items))
    (append_assoc before (item ∷ []) (items ++ more))
    (subst (λ (n : ℕ). All (IsEvent ((before ++ item ∷ []) ++ (items ++ more))) (aired_from n items)) (one_longer before item)
    (events_of (before ++ item ∷ []) items more)))

taken_first : (n : ℕ) (l : List Item) (x : Item) (xs : List Item) → drop n l ≡ x ∷ xs → length (take n l) ≡ n
taken_first zero l x xs is = refl
taken_first (suc n) [] x xs is = cc is
taken_first (suc n) (y ∷ l) x xs is = ap suc (taken_first n l x xs is)

pub ran_events : (list : List Item) (first : ℕ) (aired more : List Item) → drop first list ≡ aired ++ more
    → All (IsEvent list) (aired_from first aired)
ran_events list first [] more is = All-nil (IsEvent list)
ran_events list first (x ∷ xs) more is =
    let here : take first list ++ (x ∷ xs ++ more) ≡ list =
    ap (λ (l : List Item). take first list ++ l) (sym is) ∙ take-append-drop first list in
    subst (λ (l : List Item). All (IsEvent l) (aired_from first (x ∷ xs))) here
    (subst (λ (n : ℕ). All (IsEvent (take first list ++ (x ∷ xs ++ more))) (aired_from n (x ∷ xs)))
    (taken_first first list x (xs ++ more) is) (events_of (take first list) (x ∷ xs) more))

-- Numbers ascend.

pub within : (first : ℕ) (items : List Item) (bound : ℕ) → first + length items ≤ bound
    → All (λ (a : AiredEvent). a.number < bound) (aired_from first items)
within first [] bound le = All-nil (λ (a : AiredEvent). a.number < bound)
within first (item ∷ items) bound le =
    All-cons (λ (a : AiredEvent). a.number < bound) (record { number = first; item = item }) (aired_from (first + 1) items)
    (omega arith) (within (first + 1) items bound (omega arith))

above : (first : ℕ) (items : List Item) → All (λ (a : AiredEvent). first ≤ a.number) (aired_from first items)
above first [] = All-nil (λ (a : AiredEvent). first ≤ a.number)
above first (item ∷ items) =
    All-cons (λ (a : AiredEvent). first ≤ a.number) (record { number = first; item = item }) (aired_from (first + 1) items)
    (omega arith)
    (All-weaker (λ (a : AiredEvent). first + 1 ≤ a.number) (λ (a : AiredEvent). first ≤ a.number) (λ a le. omega arith)
    (aired_from (first + 1) items) (above (first + 1) items))

abbrev pub Before : AiredEvent → AiredEvent → Type 0
Before a b = a.number < b.number

rises : (first : ℕ) (items : List Item) → AllPairs Before (aired_from first items)
rises first [] = λ i j d lt inside. absurd (omega arith)
rises first (item ∷ items) =
    AllPairs-cons Before (record { number = first; item = item }) (aired_from (first + 1) items)
    (All-weaker (λ (a : AiredEvent). first + 1 ≤ a.number) (λ (a : AiredEvent). first < a.number) (λ a le. omega arith)
    (aired_from (first + 1) items) (above (first + 1) items))
    (rises (first + 1) items)

joined : (xs ys : List AiredEvent) (first : ℕ) → AllPairs Before xs → AllPairs Before ys
    → All (λ (a : AiredEvent). a.number < first) xs → All (λ (a : AiredEvent). first ≤ a.number) ys
    → AllPairs Before (xs ++ ys)
joined [] ys first p q below over = q
joined (x ∷ xs) ys first p q below over =
    let low : x.number < first = All-head (λ (a : AiredEvent). a.number < first) x xs below in
    AllPairs-cons Before x (xs ++ ys)
    (All-append (Before x) xs ys (λ k d lt. p 0 (suc k) d (omega arith) (omega arith))
    (All-weaker (λ (a : AiredEvent). first ≤ a.number) (Before x) (λ a le. omega arith) ys over))
    (joined xs ys first (λ i j d lt inside. p (suc i) (suc j) d (omega arith) (omega arith)) q
    (All-tail (λ (a : AiredEvent). a.number < first) x xs below) over)

pub ascend : (before : List AiredEvent) (first : ℕ) (items : List Item) → AllPairs Before before
    → All (λ (a : AiredEvent). a.number < first) before → AllPairs Before (before ++ aired_from first items)
ascend before first items p below =
    joined before (aired_from first items) first p (rises first items) below (above first items)

-- Without a gap they are a beginning of the list.

front : (before list items : List Item) → All (IsEvent (before ++ list)) (aired_from (length before) items)
    → (more : List Item) × (list ≡ items ++ more)
front before list [] all = (list, refl)
front before [] (item ∷ items) all =
    let is = All-head (IsEvent (before ++ [])) (record { number = length before; item = item })
    (aired_from (length before + 1) items) all in
    absurd (none_some (sym (get_none before) ∙ is))
  where
    none_some : None ≡ Some item → ⊥
    none_some e = cc e
front before (y ∷ list) (item ∷ items) all =
    let is = All-head (IsEvent (before ++ y ∷ list)) (record { number = length before; item = item })
    (aired_from (length before + 1) items) all in
    let rest = front (before ++ y ∷ []) list items
    (subst (λ (n : ℕ). All (IsEvent ((before ++ y ∷ []) ++ list)) (aired_from n items)) (sym (one_longer before y))
    (subst (λ (l : List Item). All (IsEvent l) (aired_from (length before + 1) items)) (sym (append_assoc before (y ∷ []) list))
    (All-tail (IsEvent (before ++ y ∷ list)) (record { number = length before; item = item })
    (aired_from (length before + 1) items) all))) in
    (rest.0, same rest.0 (sym (get_there before list y) ∙ is) rest.1)
  where
    same : (more : List Item) → Some y ≡ Some item → list ≡ items ++ more → y ∷ list ≡ item ∷ items ++ more
    same more e is = cc

pub beginning : (list items : List Item) → All (IsEvent list) (aired_from 0 items) → (more : List Item) × (list ≡ items ++ more)
beginning list items all = front [] list items all
