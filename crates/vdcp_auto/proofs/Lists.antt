-- Lists that grow at their end.
use Rattle.std.proofs.Common.{◌≡◌, ◌≢◌, ℕ, zero, suc, ◌+◌, ◌<◌, Bool, false, ◌||◌, cond, Option, Some, List, [], ◌∷◌, ◌++◌, length, refl, arith, sym, ap, ◌∙◌, ◌⊎◌, inl, inr, add-zero}
use Rattle.std.specs.Prelude.{slice_get, count_by}
use Rattle.std.specs.List.{last_or, list_any, range_with_len}
use Rattle.std.proofs.lemmas.List.Sums.{sum_by-cons}

-- where a list that has grown by one is cut before its end
pub record Cut {X : Type 0} (log front rest : List X) (e : X) : Type 0 where
  pub last : List X
  pub some : last ≢ []
  pub before : log ≡ front ++ last
  pub after : rest ≡ last ++ e ∷ []

pub cut : {X : Type 0} (log front rest : List X) (e : X) → rest ≢ [] → log ++ e ∷ [] ≡ front ++ rest
    → ((front ≡ log) × (rest ≡ e ∷ [])) ⊎ Cut log front rest e
cut [] [] rest e some is = inl (refl, sym is)
cut (x ∷ xs) [] rest e some is = inr (record { last = x ∷ xs; some = λ h. cc; before = refl; after = sym is })
cut [] (f ∷ []) rest e some is = absurd (some (let same : [] ≡ rest = cc in sym same))
cut [] (f ∷ g ∷ fs) rest e some is = absurd (let same : [] ≡ g ∷ (fs ++ rest) = cc in let no_way : ⊥ = cc in no_way)
cut (x ∷ xs) (f ∷ fs) rest e some is =
    let head : x ≡ f = cc in
    let tail : xs ++ e ∷ [] ≡ fs ++ rest = cc in
    elim (cut xs fs rest e some tail) [
      | inl w ↦ inl (let front : fs ≡ xs = w.0 in let all : f ∷ fs ≡ x ∷ xs = cc in all, w.1)
      | inr w ↦ inr (let before : xs ≡ fs ++ w.last = w.before in
          let all : x ∷ xs ≡ f ∷ (fs ++ w.last) = cc in
          record { last = w.last; some = w.some; before = all; after = w.after })
    ]

pub last_or-push : {X : Type 0} (o : Option X) (xs : List X) (x : X) → last_or o (xs ++ x ∷ []) ≡ Some x
last_or-push o [] x = refl
last_or-push o (y ∷ ys) x = last_or-push (Some y) ys x

pub slice_get-append : {X : Type 0} (xs ys : List X) (k : ℕ) → k < length xs → slice_get (xs ++ ys) k ≡ slice_get xs k
slice_get-append [] ys k below = absurd (omega arith)
slice_get-append (x ∷ xs) ys zero below = refl
slice_get-append (x ∷ xs) ys (suc k) below = slice_get-append xs ys k (omega arith)

pub slice_get-push : {X : Type 0} (xs : List X) (x : X) → slice_get (xs ++ x ∷ []) (length xs) ≡ Some x
slice_get-push [] x = refl
slice_get-push (y ∷ ys) x = slice_get-push ys x

pub count_by-range_more : (p : ℕ → Bool) (a n : ℕ) → count_by p (range_with_len a (suc n))
    ≡ count_by p (range_with_len a n) + cond (p (a + n)) 1 0
count_by-range_more p a zero = sum_by-cons (λ k. cond (p k) 1 0) a []
    ∙ omega (arith, ap (λ k. cond {A = ℕ} (p k) 1 0) (add-zero a))
count_by-range_more p a (suc n) =
    let one : ℕ → ℕ = λ k. cond (p k) 1 0 in
    let place : a + 1 + n ≡ a + suc n = omega arith in
    omega (
      arith,
      count_by-range_more p (a + 1) n,
      sum_by-cons one a (range_with_len (a + 1) (suc n)),
      sum_by-cons one a (range_with_len (a + 1) n),
      ap one place,
    )

pub count_by-range_same : (p q : ℕ → Bool) (a n : ℕ) → ((k : ℕ) → k < a + n → p k ≡ q k)
    → count_by p (range_with_len a n) ≡ count_by q (range_with_len a n)
count_by-range_same p q a zero same = refl
count_by-range_same p q a (suc n) same =
    let here : p a ≡ q a = same a (omega arith) in
    omega (
      arith,
      count_by-range_same p q (a + 1) n (λ k below. same k (omega arith)),
      sum_by-cons (λ k. cond (p k) 1 0) a (range_with_len (a + 1) n),
      sum_by-cons (λ k. cond (q k) 1 0) a (range_with_len (a + 1) n),
      ap (λ b. cond {A = ℕ} b 1 0) here,
    )

-- the test at one place more
pub list_any-range_more : (p : ℕ → Bool) (a n : ℕ) → list_any p (range_with_len a (suc n))
    ≡ (list_any p (range_with_len a n) || p (a + n))
list_any-range_more p a zero = grind (arith, ap p (add-zero a))
list_any-range_more p a (suc n) =
    let place : a + 1 + n ≡ a + suc n = omega arith in
    grind (arith, list_any-range_more p (a + 1) n, ap p place)

pub list_any-range_same : (p q : ℕ → Bool) (a n : ℕ) → ((k : ℕ) → k < a + n → p k ≡ q k)
    → list_any p (range_with_len a n) ≡ list_any q (range_with_len a n)
list_any-range_same p q a zero same = refl
list_any-range_same p q a (suc n) same =
    let here : p a ≡ q a = same a (omega arith) in
    let rest = list_any-range_same p q (a + 1) n (λ k below. same k (omega arith)) in
    grind (arith, here, rest)

pub list_any-range_none : (p : ℕ → Bool) (a n : ℕ) → ((k : ℕ) → k < a + n → p k ≡ false)
    → list_any p (range_with_len a n) ≡ false
list_any-range_none p a zero none = refl
list_any-range_none p a (suc n) none =
    let here : p a ≡ false = none a (omega arith) in
    let rest = list_any-range_none p (a + 1) n (λ k below. none k (omega arith)) in
    grind (arith, here, rest)
