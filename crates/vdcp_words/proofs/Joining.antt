-- Lists that are read number by number.
use Rattle.std.proofs.Common.{◌≡◌, ◌∙◌, ℕ, List, [], ◌∷◌, ◌++◌, length, get_or, refl, ap, arith}

four : (xs : List ℕ) → length xs ≡ 4 → get_or xs 0 0 ∷ get_or xs 1 0 ∷ get_or xs 2 0 ∷ get_or xs 3 0 ∷ [] ≡ xs
four (a ∷ b ∷ c ∷ d ∷ []) size = refl
four (a ∷ b ∷ c ∷ d ∷ more ∷ rest) size = absurd (omega (arith, size))
four other size = absurd (omega (arith, size))

eight : (xs : List ℕ) → length xs ≡ 8 →
    get_or xs 0 0 ∷ get_or xs 1 0 ∷ get_or xs 2 0 ∷ get_or xs 3 0 ∷ get_or xs 4 0 ∷ get_or xs 5 0 ∷ get_or xs 6
    0 ∷ get_or xs 7 0 ∷ [] ≡ xs
eight (a ∷ b ∷ c ∷ d ∷ e ∷ f ∷ g ∷ h ∷ []) size = refl
eight (a ∷ b ∷ c ∷ d ∷ e ∷ f ∷ g ∷ h ∷ more ∷ rest) size = absurd (omega (arith, size))
eight other size = absurd (omega (arith, size))

-- the numbers of eight and of twice four, one after another
pub joined_parts : (xs ys zs : List ℕ) → length xs ≡ 8 → length ys ≡ 4 → length zs ≡ 4 →
    get_or xs 0 0 ∷ get_or xs 1 0 ∷ get_or xs 2 0 ∷ get_or xs 3 0 ∷ get_or xs 4 0 ∷ get_or xs 5 0 ∷ get_or xs 6
    0 ∷ get_or xs 7 0
    ∷ get_or ys 0 0 ∷ get_or ys 1 0 ∷ get_or ys 2 0 ∷ get_or ys 3 0
    ∷ get_or zs 0 0 ∷ get_or zs 1 0 ∷ get_or zs 2 0 ∷ get_or zs 3 0 ∷ []
    ≡ xs ++ ys ++ zs
joined_parts xs ys zs xs_size ys_size zs_size =
    ap (λ (front : List ℕ). front ++ (get_or ys 0 0 ∷ get_or ys 1 0 ∷ get_or ys 2 0 ∷ get_or ys 3 0 ∷ [])
    ++ (get_or zs 0 0 ∷ get_or zs 1 0 ∷ get_or zs 2 0 ∷ get_or zs 3 0 ∷ [])) (eight xs xs_size)
    ∙ ap (λ (middle : List ℕ). xs ++ middle ++ (get_or zs 0 0 ∷ get_or zs 1 0 ∷ get_or zs 2 0 ∷ get_or zs 3 0 ∷ []))
    (four ys ys_size)
    ∙ ap (λ (back : List ℕ). xs ++ ys ++ back) (four zs zs_size)
