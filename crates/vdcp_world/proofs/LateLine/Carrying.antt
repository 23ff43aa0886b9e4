-- Queues of bursts, and what they carry: each burst is junk or carries one thing.
use Rattle.std.proofs.Common.{◌≡◌, ℕ, zero, suc, ◌⊎◌, inl, inr, Bool, true, false, List, [], ◌∷◌, ◌++◌, Option, Some, None, refl, sym, ap, subst, append-nil, if◌then◌else◌}
use Rattle.std.specs.Prelude.{insert, remove, slice_get}
use Rattle.vdcp_world.specs.LateLine.Damage.{replaced, with_damage, with_junk}
use Rattle.vdcp_world.proofs.LateLine.Thinning.{Thins, all_left}

abbrev pub Carries : {X : Type 0} → (List ℕ → Type 0) → (List ℕ → X → Type 0) → List (List ℕ) → List X → Type 0
Carries {X = X} junk is [] xs = xs ≡ []
Carries {X = X} junk is (b ∷ bs) xs =
    (junk b × Carries junk is bs xs) ⊎ ((x : X) × (rest : List X) × (xs ≡ x ∷ rest) × is b x × Carries junk is bs rest)

-- one burst more at the end
pub carries_pushed : {X : Type 0} → (junk : List ℕ → Type 0) (is : List ℕ → X
    → Type 0) (bs : List (List ℕ)) (xs : List X) (b : List ℕ) (x : X)
    → is b x → Carries junk is bs xs → Carries junk is (bs ++ b ∷ []) (xs ++ x ∷ [])
carries_pushed junk is [] xs b x h c = inr (x, [], ap (λ ys. ys ++ x ∷ []) c, h, refl)
carries_pushed junk is (a ∷ bs) xs b x h (inl (j, c)) = inl (j, carries_pushed junk is bs xs b x h c)
carries_pushed junk is (a ∷ bs) xs b x h (inr (y, rest, e, i, c)) =
    inr (y, rest ++ x ∷ [], ap (λ ys. ys ++ x ∷ []) e, i, carries_pushed junk is bs rest b x h c)

-- junk at the end
pub carries_pushed_junk : {X : Type 0} → (junk : List ℕ → Type 0) (is : List ℕ → X
    → Type 0) (bs : List (List ℕ)) (xs : List X) (b : List ℕ)
    → junk b → Carries junk is bs xs → Carries junk is (bs ++ b ∷ []) xs
carries_pushed_junk junk is [] xs b j c = inl (j, c)
carries_pushed_junk junk is (a ∷ bs) xs b j (inl (i, c)) = inl (i, carries_pushed_junk junk is bs xs b j c)
carries_pushed_junk junk is (a ∷ bs) xs b j (inr (y, rest, e, i, c)) =
    inr (y, rest, e, i, carries_pushed_junk junk is bs rest b j c)

-- no burst more
pub carries_same : {X : Type 0} → (junk : List ℕ → Type 0) (is : List ℕ → X → Type 0) (bs : List (List ℕ)) (xs : List X)
    → Carries junk is bs xs → Carries junk is (bs ++ []) xs
carries_same junk is bs xs c = subst (λ (q : List (List ℕ)). Carries junk is q xs) (sym (append-nil bs)) c

-- what is carried when something is left out
pub record Left {X : Type 0} (junk : List ℕ → Type 0) (is : List ℕ → X
    → Type 0) (bs : List (List ℕ)) (xs : List X) : Type 0 where
  pub left : List X
  pub carries : Carries junk is bs left
  pub thins : Thins xs left

left_junk : {X : Type 0} → (junk : List ℕ → Type 0) (is : List ℕ → X
    → Type 0) (bs : List (List ℕ)) (xs : List X) (b : List ℕ)
    → junk b → Left junk is bs xs → Left junk is (b ∷ bs) xs
left_junk junk is bs xs b j l = record { left = l.left; carries = inl (j, l.carries); thins = l.thins }

left_one : {X : Type 0} → (junk : List ℕ → Type 0) (is : List ℕ → X
    → Type 0) (bs : List (List ℕ)) (xs : List X) (b : List ℕ) (x : X) (rest : List X)
    → xs ≡ x ∷ rest → is b x → Left junk is bs rest → Left junk is (b ∷ bs) xs
left_one junk is bs xs b x rest e i l = subst (λ ys. Left junk is (b ∷ bs) ys) (sym e)
    (record { left = x ∷ l.left; carries = inr (x, l.left, refl, i, l.carries); thins = inr (l.left, refl, l.thins) })

pub left_same : {X : Type 0} → (junk : List ℕ → Type 0) (is : List ℕ → X → Type 0) (bs : List (List ℕ)) (xs : List X)
    → Carries junk is bs xs → Left junk is bs xs
left_same junk is bs xs c = record { left = xs; carries = c; thins = all_left xs }

-- a queue without its oldest burst
pub left_rest : {X : Type 0} → (junk : List ℕ → Type 0) (is : List ℕ → X
    → Type 0) (b : List ℕ) (bs : List (List ℕ)) (xs : List X)
    → Carries junk is (b ∷ bs) xs → Left junk is bs xs
left_rest junk is b bs xs (inl (j, c)) = left_same junk is bs xs c
left_rest junk is b bs xs (inr (x, rest, e, i, c)) = subst (λ ys. Left junk is bs ys) (sym e)
    (record { left = rest; carries = c; thins = inl (all_left rest) })

-- one burst is lost
pub left_without : {X : Type 0} → (junk : List ℕ → Type 0) (is : List ℕ → X
    → Type 0) (bs : List (List ℕ)) (xs : List X) (place : ℕ)
    → Carries junk is bs xs → Left junk is (remove bs place) xs
left_without junk is [] xs zero c = left_same junk is [] xs c
left_without junk is [] xs (suc place) c = left_same junk is [] xs c
left_without junk is (b ∷ bs) xs zero c = left_rest junk is b bs xs c
left_without junk is (b ∷ bs) xs (suc place) (inl (j, c)) =
    left_junk junk is (remove bs place) xs b j (left_without junk is bs xs place c)
left_without junk is (b ∷ bs) xs (suc place) (inr (x, rest, e, i, c)) =
    left_one junk is (remove bs place) xs b x rest e i (left_without junk is bs rest place c)

-- junk comes in
pub carries_inserted : {X : Type 0} → (junk : List ℕ → Type 0) (is : List ℕ → X
    → Type 0) (bs : List (List ℕ)) (xs : List X) (place : ℕ) (b : List ℕ)
    → junk b → Carries junk is bs xs → Carries junk is (insert bs place b) xs
carries_inserted junk is bs xs zero b j c = inl (j, c)
carries_inserted junk is [] xs (suc place) b j c = inl (j, c)
carries_inserted junk is (a ∷ bs) xs (suc place) b j (inl (i, c)) = inl (i, carries_inserted junk is bs xs place b j c)
carries_inserted junk is (a ∷ bs) xs (suc place) b j (inr (x, rest, e, i, c)) =
    inr (x, rest, e, i, carries_inserted junk is bs rest place b j c)

pub carries_junk : {X : Type 0} → (junk : List ℕ → Type 0) (is : List ℕ → X
    → Type 0) (bs : List (List ℕ)) (xs : List X) (place : ℕ) (b : List ℕ) (can : Bool)
    → (can ≡ true → junk b) → Carries junk is bs xs → Carries junk is (with_junk can b place bs) xs
carries_junk junk is bs xs place b true f c = carries_inserted junk is bs xs place b (f refl) c
carries_junk junk is bs xs place b false f c = c

-- a burst is damaged: it stays junk, and what it carried it carries still, or is junk
pub record Damages {X : Type 0} (junk : List ℕ → Type 0) (is : List ℕ → X → Type 0) (can : List ℕ
    → Bool) (b : List ℕ) : Type 0 where
  pub of_junk : (was : List ℕ) → can was ≡ true → junk was → junk b
  pub of_one : (was : List ℕ) (x : X) → can was ≡ true → is was x → is b x ⊎ junk b

-- one more burst before a queue in which one is damaged
replaced_later : (can : List ℕ → Bool) (bytes : List ℕ) (place : ℕ) (b : List ℕ) (bs : List (List ℕ))
    (o : Option (List ℕ))
    → replaced can bytes (suc place) (b ∷ bs) o ≡ b ∷ replaced can bytes place bs o
replaced_later can bytes place b bs None = refl
replaced_later can bytes place b bs (Some was) = by (can was)
  where
    by : (c : Bool) → (if c then insert (remove (b ∷ bs) (suc place)) (suc place) bytes else b ∷ bs)
        ≡ b ∷ (if c then insert (remove bs place) place bytes else bs)
    by true = refl
    by false = refl

pub left_damaged : {X : Type 0} → (junk : List ℕ → Type 0) (is : List ℕ → X → Type 0) (can : List ℕ
    → Bool) (bytes : List ℕ) (place : ℕ)
    (bs : List (List ℕ)) (xs : List X) → Damages junk is can bytes → Carries junk is bs xs
    → Left junk is (with_damage can bytes place bs) xs
left_damaged junk is can bytes zero [] xs d c = left_same junk is [] xs c
left_damaged junk is can bytes (suc place) [] xs d c = left_same junk is [] xs c
left_damaged {X = X} junk is can bytes zero (b ∷ bs) xs d c = by (can b) refl c
  where
    by : (ok : Bool) → can b ≡ ok → Carries junk is (b ∷ bs) xs → Left junk is (if ok then bytes ∷ bs else b ∷ bs) xs
    by false e c = left_same junk is (b ∷ bs) xs c
    by true e (inl (j, c)) = left_same junk is (bytes ∷ bs) xs (inl (d.of_junk b e j, c))
    by true e (inr (x, rest, is_first, i, c)) = one (d.of_one b x e i)
      where
        one : is bytes x ⊎ junk bytes → Left junk is (bytes ∷ bs) xs
        one (inl k) = left_same junk is (bytes ∷ bs) xs (inr (x, rest, is_first, k, c))
        one (inr j) = subst (λ ys. Left junk is (bytes ∷ bs) ys) (sym is_first)
            (record { left = rest; carries = inl (j, c); thins = inl (all_left rest) })
left_damaged junk is can bytes (suc place) (b ∷ bs) xs d (inl (j, c)) =
    subst (λ q. Left junk is q xs) (sym (replaced_later can bytes place b bs (slice_get bs place)))
    (left_junk junk is (with_damage can bytes place bs) xs b j (left_damaged junk is can bytes place bs xs d c))
left_damaged junk is can bytes (suc place) (b ∷ bs) xs d (inr (x, rest, e, i, c)) =
    subst (λ q. Left junk is q xs) (sym (replaced_later can bytes place b bs (slice_get bs place)))
    (left_one junk is (with_damage can bytes place bs) xs b x rest e i
    (left_damaged junk is can bytes place bs rest d c))
