-- Lists of which some elements are left out.
use Rattle.std.proofs.Common.{◌≡◌, ◌⊎◌, inl, inr, Bool, true, false, ◌||◌, List, [], ◌∷◌, ◌++◌, refl, sym, subst, ◌∙◌}
use Rattle.std.proofs.lemmas.Bool.{or_right}
use Rattle.std.specs.List.{list_any}

-- the first list with some elements left out is the second one
abbrev pub Thins : {A : Type 0} → List A → List A → Type 0
Thins {A = A} [] ys = ys ≡ []
Thins {A = A} (x ∷ xs) ys = Thins xs ys ⊎ ((rest : List A) × (ys ≡ x ∷ rest) × Thins xs rest)

-- none is left out
pub all_left : {A : Type 0} → (xs : List A) → Thins xs xs
all_left [] = refl
all_left (x ∷ xs) = inr (xs, refl, all_left xs)

or_both : (a b c : Bool) → (b ≡ true → c ≡ true) → (a || b) ≡ true → (a || c) ≡ true
or_both true b c f e = refl
or_both false b c f e = f e

-- what is left passed before
pub any_thins : {A : Type 0} → (test : A → Bool) (xs ys : List A) → Thins xs ys → list_any test ys ≡ true
    → list_any test xs ≡ true
any_thins test [] ys t e = subst (λ zs. list_any test zs ≡ true) t e
any_thins test (x ∷ xs) ys (inl t) e = or_right (test x) (list_any test xs) (any_thins test xs ys t e)
any_thins test (x ∷ xs) ys (inr (rest, is, t)) e =
    or_both (test x) (list_any test rest) (list_any test xs) (λ h. any_thins test xs rest t h)
    (subst (λ zs. list_any test zs ≡ true) is e)

not_true : (b : Bool) → (b ≡ true → false ≡ true) → b ≡ false
not_true true f = sym (f refl)
not_true false f = refl

pub none_thins : {A : Type 0} → (test : A → Bool) (xs ys : List A) → Thins xs ys → list_any test xs ≡ false
    → list_any test ys ≡ false
none_thins test xs ys t e = not_true (list_any test ys) (λ h. sym e ∙ any_thins test xs ys t h)

-- one more at the end
pub any_push : {A : Type 0} → (test : A → Bool) (xs : List A) (x : A)
    → list_any test (xs ++ x ∷ []) ≡ (list_any test xs || test x)
any_push test [] x = or_false (test x)
  where
    or_false : (b : Bool) → (b || false) ≡ b
    or_false true = refl
    or_false false = refl
any_push test (y ∷ xs) x = by (test y) (list_any test xs) (list_any test (xs ++ x ∷ [])) (any_push test xs x)
  where
    by : (a b c : Bool) → c ≡ (b || test x) → (a || c) ≡ ((a || b) || test x)
    by true b c e = refl
    by false b c e = e
