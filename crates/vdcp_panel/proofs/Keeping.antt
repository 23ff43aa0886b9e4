-- Which connections are known once one is closed and one is added.
use Rattle.std.proofs.Common.{◌≡◌, ◌≢◌, ◌<◌, ◌≤◌, ◌+◌, ◌∙◌, ◌++◌, ◌⊎◌, inl, inr, ℕ, zero, suc, Bool, true, false, List, [], ◌∷◌, length, refl, sym, subst, ap, arith, if◌then◌else◌}
use Rattle.std.proofs.lemmas.Bool.{cases_lt}
use mathlib.Core.Bool.{beq}
use Rattle.std.specs.Prelude.{Option, Some, IfSome, remove, slice_index_or}
use Rattle.vdcp_panel.specs.Turned.{IsKnownAt, IsNoneBefore, known_of}
use Rattle.vdcp_panel.specs.declared.peer.Peer.{Peer}

-- they stay if one that isn't known is closed
pub known_stay : {T : Type 0} (peers : List (Peer T)) (k : ℕ) → IsKnownAt peers k false
    → known_of (remove peers k) ≡ known_of peers
known_stay [] k (p, within, at, is) = absurd (omega (arith, within))
known_stay (q ∷ peers) zero (p, within, at, is) = let e : q.is_known ≡ false = ap (λ p. p.is_known) (sym at) ∙ is in rw e refl
known_stay (q ∷ peers) (suc k) (p, within, at, is) = rw (known_stay peers k (p, omega (arith, within), at, is)) refl

is_so : (b : Bool) → b ≢ false → b ≡ true
is_so true h = refl
is_so false h = absurd (h refl)

-- if each is known, they are as many
pub all_known : {T : Type 0} (peers : List (Peer T)) → IsNoneBefore peers (length peers) false
    → length (known_of peers) ≡ length peers
all_known [] h = refl
all_known (p ∷ peers) h =
    rw (is_so p.is_known (h zero p (omega arith) refl))
    (ap suc (all_known peers (λ k q within at. h (suc k) q (omega (arith, within)) at)))

-- one that isn't known is added
pub known_before : {T : Type 0} (peers : List (Peer T)) (p : Peer T) → p.is_known ≡ false
    → known_of (peers ++ p ∷ []) ≡ known_of peers
known_before [] p is = rw is refl
known_before (q ∷ peers) p is = rw (known_before peers p is) refl

same_at : {A : Type 0} (xs : List A) (k : ℕ) (x y : A) → k < length xs → x ≡ slice_index_or xs k x
    → y ≡ slice_index_or xs k y → x ≡ y
same_at [] k x y within at at' = absurd (omega (arith, within))
same_at (z ∷ xs) zero x y within at at' = at ∙ sym at'
same_at (z ∷ xs) (suc k) x y within at at' = same_at xs k x y (omega (arith, within)) at at'

-- what a test of two answers says
pub alike : (a b : Bool) → beq a b ≡ true → a ≡ b
alike true true e = refl
alike true false e = cc e
alike false true e = cc e
alike false false e = refl

pub unlike : (a b : Bool) → beq a b ≡ false → a ≢ b
unlike true true e is = cc e
unlike true false e is = cc is
unlike false true e is = cc is
unlike false false e is = cc e

-- nor is that in the next place
pub none_more : {T : Type 0} (peers : List (Peer T)) (n : ℕ) (p : Peer T) (is_known : Bool) → n < length peers
    → p ≡ slice_index_or peers n p → p.is_known ≢ is_known → IsNoneBefore peers n is_known
    → IsNoneBefore peers (n + 1) is_known
none_more peers n p is_known within at isnt before k q less at' is = by (cases_lt k n)
  where
    by : (k < n) ⊎ (n ≤ k) → ⊥
    by (inl less_still) = before k q less_still at' is
    by (inr there) =
        let same : k ≡ n = omega (arith, there, less) in
        let at'' : q ≡ slice_index_or peers n q = subst (λ (i : ℕ). q ≡ slice_index_or peers i q) same at' in
        isnt (ap (λ p. p.is_known) (same_at peers n p q within at at'') ∙ is)

-- the one that was found, or this one
pub found_there : {T : Type 0} (peers : List (Peer T)) (is_known : Bool) (found found' : Option (ℕ × ℕ)) (place other : ℕ × ℕ)
    → found' ≡ Some place → IfSome found (λ f. IsKnownAt peers f.0 is_known) → IsKnownAt peers other.0 is_known
    → (place ≡ other) ⊎ (found ≡ Some place) → IfSome found' (λ f. IsKnownAt peers f.0 is_known)
found_there peers is_known found found' place other now before there which =
    subst (λ (o : Option (ℕ × ℕ)). IfSome o (λ f. IsKnownAt peers f.0 is_known)) (sym now) (by which)
  where
    by : (place ≡ other) ⊎ (found ≡ Some place) → IsKnownAt peers place.0 is_known
    by (inl same) = subst (λ (p : ℕ × ℕ). IsKnownAt peers p.0 is_known) (sym same) there
    by (inr e) = subst (λ (o : Option (ℕ × ℕ)). IfSome o (λ f. IsKnownAt peers f.0 is_known)) e before

-- as it was
pub found_still : {T : Type 0} (peers : List (Peer T)) (is_known : Bool) (found found' : Option (ℕ × ℕ)) → found' ≡ found
    → IfSome found (λ f. IsKnownAt peers f.0 is_known) → IfSome found' (λ f. IsKnownAt peers f.0 is_known)
found_still peers is_known found found' same before =
    subst (λ (o : Option (ℕ × ℕ)). IfSome o (λ f. IsKnownAt peers f.0 is_known)) (sym same) before

-- one that isn't known is added, if there is memory
pub known_beside : {T : Type 0} (is_added : Bool) (peers peers' : List (Peer T)) (p : Peer T)
    → peers' ≡ (if is_added then peers ++ p ∷ [] else peers) → p.is_known ≡ false → known_of peers' ≡ known_of peers
known_beside true peers peers' p is unknown = ap known_of is ∙ known_before peers p unknown
known_beside false peers peers' p is unknown = ap known_of is
