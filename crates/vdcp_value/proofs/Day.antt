-- Lists that are made of blocks: what stands in them, and numbers that count up along them.
use Rattle.std.proofs.Common.{ℕ, zero, suc, List, [], ◌∷◌, ◌++◌, ◌+◌, ◌<◌, ◌≤◌, ◌≡◌, Bool, true, false, length, map, filter, arith, refl, sym, ap, subst, length-append, eq-or-lt_of_le, inl, inr, ◌⊎◌}
use Rattle.std.specs.List.{flat_map, range_with_len, list_any}
use Rattle.std.proofs.lemmas.List.Folds.{list_any-append}
use Rattle.std.proofs.lemmas.List.Elements.{filter-append}
use Rattle.vdcp_value.specs.Day.{labels_before, is_same}
use Rattle.vdcp_value.specs.declared.label.Label.{Label}

-- a test answers one or the other
pub both_ways : (b : Bool) → (b ≡ true) ⊎ (b ≡ false)
both_ways true = inl refl
both_ways false = inr refl

-- the numbers of the labels count up from a
abbrev pub CountsFrom : (Label → ℕ) → ℕ → List Label → Type 0
CountsFrom number a [] = Unit {0}
CountsFrom number a (label ∷ more) = (number label ≡ a) × CountsFrom number (a + 1) more

pub counts-append : (number : Label → ℕ) (a b : ℕ) (xs ys : List Label)
    → CountsFrom number a xs → a + length xs ≡ b → CountsFrom number b ys → CountsFrom number a (xs ++ ys)
counts-append number a b [] ys left e right = let same : b ≡ a = omega (arith, e) in
    subst (λ n. CountsFrom number n ys) same right
counts-append number a b (x ∷ xs) ys left e right =
    (left.0, counts-append number (a + 1) b xs ys left.1 (omega (arith, e)) right)

-- blocks of labels, each of which counts from where the last one ended
pub counts-blocks : (number : Label → ℕ) (block : ℕ → List Label) (start : ℕ → ℕ)
    → ((k : ℕ) → CountsFrom number (start k) (block k))
    → ((k : ℕ) → start k + length (block k) ≡ start (k + 1))
    → (n a : ℕ)
    → CountsFrom number (start a) (flat_map block (range_with_len a n))
    × (start a + length (flat_map block (range_with_len a n)) ≡ start (a + n))
counts-blocks number block start counts goes zero a =
    (tt, omega (arith, ap start (let e : a ≡ a + 0 = omega arith in e)))
counts-blocks number block start counts goes (suc n) a =
    let more = counts-blocks number block start counts goes n (a + 1) in (
      counts-append number (start a) (start (a + 1)) (block a) (flat_map block (range_with_len (a + 1) n)) (counts a)
          (goes a) more.0,
      omega (
        arith,
        length-append (block a) (flat_map block (range_with_len (a + 1) n)),
        goes a,
        more.1,
        ap start (let e : a + 1 + n ≡ a + suc n = omega arith in e),
      ),
    )

-- labels of consecutive frames
pub counts-frames : (number : Label → ℕ) (label_at : ℕ → Label)
    → ((k : ℕ) → number (label_at (k + 1)) ≡ number (label_at k) + 1)
    → (n a : ℕ)
    → CountsFrom number (number (label_at a)) (map label_at (range_with_len a n))
    × (length (map label_at (range_with_len a n)) ≡ n)
counts-frames number label_at goes zero a = (tt, refl)
counts-frames number label_at goes (suc n) a =
    let more = counts-frames number label_at goes n (a + 1) in (
      (
        refl,
        let F : ℕ → Type 0 = λ m. CountsFrom number m (map label_at (range_with_len (a + 1) n)) in
            subst F (goes a) more.0,
      ),
      omega (arith, more.1),
    )

-- if the labels count from a, one that stands in the list has as its number a and those before it
pub number_in : (number : Label → ℕ) (label : Label) (a : ℕ) (xs : List Label)
    → ((other : Label) → is_same label other ≡ true → number other ≡ number label)
    → CountsFrom number a xs → list_any (is_same label) xs ≡ true → a + labels_before label xs ≡ number label
number_in number label a [] same counts found = cc
number_in number label a (x ∷ xs) same counts found =
    elim (both_ways (is_same label x)) [
      | inl e ↦
          let first : labels_before label (x ∷ xs) ≡ 0 = rw e in
          omega (arith, first, counts.0, same x e)
      | inr e ↦
          let later : labels_before label (x ∷ xs) ≡ suc (labels_before label xs) = rw e in
          let found_later : list_any (is_same label) xs ≡ true = rw e at found in
          omega (arith, later, number_in number label (a + 1) xs same counts.1 found_later)
    ]

-- what stands in a block stands in the blocks joined
pub among-blocks : (test : Label → Bool) (block : ℕ → List Label) (k n a : ℕ)
    → a ≤ k → k < a + n → list_any test (block k) ≡ true → list_any test (flat_map block (range_with_len a n)) ≡ true
among-blocks test block k zero a above below found = absurd (omega arith)
among-blocks test block k (suc n) a above below found =
    rw list_any-append
    (elim (eq-or-lt_of_le above) [
      | inl e ↦ let here : list_any test (block a) ≡ true =
          subst (λ m. list_any test (block m) ≡ true) (sym e) found in rw here
      | inr lt ↦
          let later : list_any test (flat_map block (range_with_len (a + 1) n)) ≡ true =
          among-blocks test block k n (a + 1) (omega arith) (omega arith) found in
          grind (arith, later)
    ])

-- what is kept of a list in which it stands
pub among-filter : (label : Label) (keeps : Label → Bool) (xs : List Label)
    → ((other : Label) → is_same label other ≡ true → keeps other ≡ true)
    → list_any (is_same label) xs ≡ true → list_any (is_same label) (filter keeps xs) ≡ true
among-filter label keeps [] kept found = found
among-filter label keeps (x ∷ xs) kept found =
    elim (both_ways (is_same label x)) [
      | inl e ↦ let k : keeps x ≡ true = kept x e in rw k (rw e refl)
      | inr e ↦
          let found_later : list_any (is_same label) xs ≡ true = rw e at found in
          let later : list_any (is_same label) (filter keeps xs) ≡ true =
          among-filter label keeps xs kept found_later in
          elim (both_ways (keeps x)) [ inl k ↦ rw k (rw e later) | inr k ↦ rw k later ]
    ]

-- a filter goes through blocks
pub filter-blocks : (keeps : Label → Bool) (block : ℕ → List Label) (ks : List ℕ)
    → filter keeps (flat_map block ks) ≡ flat_map (λ k. filter keeps (block k)) ks
filter-blocks keeps block [] = refl
filter-blocks keeps block (k ∷ ks) =
    rw (filter-append keeps (block k) (flat_map block ks), filter-blocks keeps block ks) refl

-- consecutive frames that are all kept
pub filter-frames : (keeps : Label → Bool) (label_at : ℕ → Label) (n a : ℕ)
    → ((k : ℕ) → a ≤ k → keeps (label_at k) ≡ true)
    → filter keeps (map label_at (range_with_len a n)) ≡ map label_at (range_with_len a n)
filter-frames keeps label_at zero a kept = refl
filter-frames keeps label_at (suc n) a kept =
    let here : keeps (label_at a) ≡ true = kept a (omega arith) in
    rw (here, filter-frames keeps label_at n (a + 1) (λ k above. kept k (omega arith))) refl
