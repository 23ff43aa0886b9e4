-- The events round one, one more at a time.
use Rattle.std.proofs.Common.{◌≡◌, ℕ, ◌+◌, ◌-◌, ◌≤◌, zero, suc, List, [], ◌∷◌, ◌++◌, drop, map, take, sym, ap, ap₂, ◌∙◌, zero-add, arith}
use Rattle.std.proofs.lemmas.List.{map-append}
use Rattle.std.specs.Prelude.{Some, slice_get}
use Rattle.vdcp_operator.specs.Seen.{numbered, with_number}
use Rattle.vdcp_operator.specs.declared.seen.EventSeen.{EventSeen}
use Rattle.vdcp_value.specs.declared.part.Item.{Item}

numbered_at : (from k : ℕ) (items : List Item) (item : Item) → slice_get items k ≡ Some item
    → slice_get (numbered from items) k ≡ Some (from + k, item)
numbered_at from k [] item e = cc e
numbered_at from zero (first ∷ items) item e =
    let same : first ≡ item = cc e in
    let here : from ≡ from + 0 = omega arith in
    ap₂ (λ (n : ℕ) (i : Item). Some (n, i)) here same
numbered_at from (suc k) (first ∷ items) item e =
    let next : from + 1 + k ≡ from + suc k = omega arith in
    numbered_at (from + 1) k items item e ∙ ap (λ (n : ℕ). Some (n, item)) next

take_next : {X : Type 0} (xs : List X) (k : ℕ) (x : X) → slice_get xs k ≡ Some x → take (suc k) xs ≡ take k xs ++ x ∷ []
take_next [] k x e = cc e
take_next (first ∷ xs) zero x e = let same : first ≡ x = cc e in ap (λ y. y ∷ []) same
take_next (first ∷ xs) (suc k) x e = ap (λ ys. first ∷ ys) (take_next xs k x e)

left_at : (items : List Item) (from k : ℕ) (item : Item) → slice_get items (from + k) ≡ Some item
    → slice_get (drop from items) k ≡ Some item
left_at items zero k item e = ap (λ (n : ℕ). slice_get items n) (sym (zero-add k)) ∙ e
left_at [] (suc from) k item e = cc e
left_at (first ∷ items) (suc from) k item e =
    let next : suc (from + k) ≡ suc from + k = omega arith in
    left_at items from k item (ap (λ (n : ℕ). slice_get (first ∷ items) n) next ∙ e)

-- the event of this number behind those before it
round_more : (items : List Item) (from k : ℕ) (item : Item) → from ≤ k → slice_get items k ≡ Some item
    → take (k + 1 - from) (numbered from (drop from items))
    ≡ take (k - from) (numbered from (drop from items)) ++ (k, item) ∷ []
round_more items from k item h e =
    let whole : from + (k - from) ≡ k = omega (arith, h) in
    let more : k + 1 - from ≡ suc (k - from) = omega (arith, h) in
    let at : slice_get items (from + (k - from)) ≡ Some item = ap (λ (n : ℕ). slice_get items n) whole ∙ e in
    ap (λ (n : ℕ). take n (numbered from (drop from items))) more
    ∙ take_next (numbered from (drop from items)) (k - from) (from + (k - from), item)
    (numbered_at from (k - from) (drop from items) item (left_at items from (k - from) item at))
    ∙ ap (λ (n : ℕ). take (k - from) (numbered from (drop from items)) ++ (n, item) ∷ []) whole

pub round_pushed : (items : List Item) (from k : ℕ) (item : Item) (rows : List EventSeen) (row : EventSeen)
    → from ≤ k → slice_get items k ≡ Some item → with_number row ≡ (k, item)
    → map with_number rows ≡ take (k - from) (numbered from (drop from items))
    → map with_number (rows ++ row ∷ []) ≡ take (k + 1 - from) (numbered from (drop from items))
round_pushed items from k item rows row h e is so_far =
    map-append with_number rows (row ∷ [])
    ∙ ap₂ (λ (xs : List (ℕ × Item)) (x : ℕ × Item). xs ++ x ∷ []) so_far is
    ∙ sym (round_more items from k item h e)
