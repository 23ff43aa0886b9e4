-- The plain form of some bytes, and their one text.
use Rattle.std.proofs.Common.{ℕ, zero, suc, List, [], ◌∷◌, ◌++◌, ◌+◌, ◌-◌, ◌≤◌, ◌≡◌, inl, inr, true, false, nat_eq, length, take, drop, replicate, get_or, arith, refl, sym, ap, ◌∙◌, subst, if◌then◌else◌, length-append, append-nil, take_all, true≢false}
use Rattle.std.specs.List.{list_all}
use Rattle.std.proofs.lemmas.List.{length-replicate, take_more}
use Rattle.vdcp_value.proofs.Day.{both_ways}
use Rattle.vdcp_value.specs.IdText.{is_plain, is_plain_byte, has_edge_space, padded, IsPlainForm, HasPlain, hex_form, IsTextOf, without_end_spaces, kept_before, text_of_bytes}

-- spaces alone leave nothing
trim-spaces : (n : ℕ) → without_end_spaces (replicate n 32) ≡ []
trim-spaces zero = refl
trim-spaces (suc n) = ap (kept_before 32) (trim-spaces n)

-- a list that ends in no space is what is left of it and spaces
trim-padded : (x : ℕ) (xs : List ℕ) (n : ℕ) → nat_eq (get_or (x ∷ xs) (length xs) 0) 32 ≡ false
    → without_end_spaces ((x ∷ xs) ++ replicate n 32) ≡ x ∷ xs
trim-padded x [] n last =
    ap (kept_before x) (trim-spaces n) ∙ ap (λ b. if b then [] else x ∷ []) last
trim-padded x (y ∷ ys) n last = ap (kept_before x) (trim-padded y ys n last)

-- what is left and the spaces that stood after it are the list
pub trim-pads : (xs : List ℕ) → (n : ℕ) × (without_end_spaces xs ++ replicate n 32 ≡ xs)
trim-pads [] = (0, refl)
trim-pads (x ∷ xs) = kept x xs (without_end_spaces xs) (trim-pads xs)
  where
    kept : (x : ℕ) (xs more : List ℕ) → (n : ℕ) × (more ++ replicate n 32 ≡ xs)
        → (n : ℕ) × (kept_before x more ++ replicate n 32 ≡ x ∷ xs)
    kept x xs [] (n, e) =
        elim (both_ways (nat_eq x 32)) [
          | inl h ↦
              let same : x ≡ 32 = grind (arith, h) in (
                suc n,
                ap (λ b. (if b then [] else x ∷ []) ++ replicate (suc n) 32) h ∙ ap (λ ys. 32 ∷ ys) e
                    ∙ ap (λ y. y ∷ xs) (sym same),
              )
          | inr h ↦ (n, ap (λ b. (if b then [] else x ∷ []) ++ replicate n 32) h ∙ ap (λ ys. x ∷ ys) e)
        ]
    kept x xs (y ∷ ys) (n, e) = (n, ap (λ zs. x ∷ zs) e)

-- what is kept when a space is added at the end
pub trim-push : (xs : List ℕ) → without_end_spaces (xs ++ 32 ∷ []) ≡ without_end_spaces xs
trim-push [] = refl
trim-push (x ∷ xs) = ap (kept_before x) (trim-push xs)

-- the parts of being plain
pub record Plain (text : List ℕ) : Type 0 where
  pub some : 1 ≤ length text
  pub short : length text ≤ 8
  pub bytes : list_all is_plain_byte text ≡ true
  pub edges : has_edge_space text ≡ false

pub plain_parts : (text : List ℕ) → is_plain text ≡ true → Plain text
plain_parts text e =
    record { some = grind (arith, e); short = grind (arith, e); bytes = grind (arith, e); edges = grind (arith, e) }

-- a plain text is what is left of its padded form
trim-plain : (text : List ℕ) → is_plain text ≡ true → without_end_spaces (padded text) ≡ text
trim-plain [] e = absurd (omega (arith, (plain_parts [] e).some))
trim-plain (x ∷ xs) e =
    let edges = (plain_parts (x ∷ xs) e).edges in
    let ends : nat_eq (get_or (x ∷ xs) (length (x ∷ xs) - 1) 0) 32 ≡ false = grind (arith, edges) in
    let one : length (x ∷ xs) - 1 ≡ length xs = omega arith in
    trim-padded x xs (8 - length (x ∷ xs)) (subst (λ n. nat_eq (get_or (x ∷ xs) n 0) 32 ≡ false) one ends)

-- so the plain form of some bytes is what is left of them
pub plain_form : (text bytes : List ℕ) → IsPlainForm text bytes → without_end_spaces bytes ≡ text
plain_form text bytes (plain, pads) = ap without_end_spaces (sym pads) ∙ trim-plain text plain

-- and eight bytes of which a plain text is left have it as their plain form
pub padded_trim : (bytes : List ℕ) → length bytes ≡ 8 → padded (without_end_spaces bytes) ≡ bytes
padded_trim bytes eight =
    let t = without_end_spaces bytes in
    let (n, pads) = trim-pads bytes in
    let same : 8 - length t ≡ n =
    omega (arith, length-append t (replicate n 32), length-replicate {A = ℕ} n 32, ap length pads) in
    ap (λ m. t ++ replicate m 32) same ∙ pads

pub has_plain : (bytes : List ℕ) → length bytes ≡ 8 → is_plain (without_end_spaces bytes) ≡ true → HasPlain bytes
has_plain bytes eight plain = (without_end_spaces bytes, (plain, padded_trim bytes eight))

pub has_no_plain : (bytes : List ℕ) → is_plain (without_end_spaces bytes) ≡ false → ¬ HasPlain bytes
has_no_plain bytes e (text, form) =
    true≢false (sym form.0 ∙ ap is_plain (sym (plain_form text bytes form)) ∙ e)

-- the function's text is a text of the bytes
pub text_is_text : (bytes : List ℕ) → length bytes ≡ 8 → IsTextOf (text_of_bytes bytes) bytes
text_is_text bytes eight =
    elim (both_ways (is_plain (without_end_spaces bytes))) [
      | inl e ↦
          let same : without_end_spaces bytes ≡ text_of_bytes bytes =
          ap (λ b. if b then without_end_spaces bytes else hex_form bytes) (sym e) in
          inl (subst (λ text. IsPlainForm text bytes) same (e, padded_trim bytes eight))
      | inr e ↦ inr (has_no_plain bytes e, ap (λ b. if b then without_end_spaces bytes else hex_form bytes) e)
    ]

-- and there is no other one
pub one_text : (text bytes : List ℕ) → length bytes ≡ 8 → IsTextOf text bytes → text ≡ text_of_bytes bytes
one_text text bytes eight (inl form) =
    let e = plain_form text bytes form in
    let plain : is_plain (without_end_spaces bytes) ≡ true = ap is_plain e ∙ form.0 in
    sym e ∙ ap (λ b. if b then without_end_spaces bytes else hex_form bytes) (sym plain)
one_text text bytes eight (inr (none, e)) =
    elim (both_ways (is_plain (without_end_spaces bytes))) [
      | inl plain ↦ absurd (none (has_plain bytes eight plain))
      | inr not_plain ↦ e ∙ ap (λ b. if b then without_end_spaces bytes else hex_form bytes) (sym not_plain)
    ]

-- a space at the end goes
pub trim-last : (xs : List ℕ) (n : ℕ) → n + 1 ≡ length xs → get_or xs n 0 ≡ 32
    → without_end_spaces (take n xs) ≡ without_end_spaces xs
trim-last xs n len last =
    let whole : xs ≡ take n xs ++ 32 ∷ [] =
    sym (take_all (n + 1) xs (omega (arith, len))) ∙ take_more xs n 0 (omega (arith, len))
    ∙ ap (λ x. take n xs ++ x ∷ []) last in
    sym (ap without_end_spaces whole ∙ trim-push (take n xs))

-- and if there is none nothing goes
pub trim-none : (xs : List ℕ) → 1 ≤ length xs → nat_eq (get_or xs (length xs - 1) 0) 32 ≡ false →
    without_end_spaces xs ≡ xs
trim-none [] some last = absurd (omega (arith, some))
trim-none (x ∷ xs) some last =
    let one : length (x ∷ xs) - 1 ≡ length xs = omega arith in
    ap without_end_spaces (sym (append-nil (x ∷ xs)))
    ∙ trim-padded x xs 0 (subst (λ n. nat_eq (get_or (x ∷ xs) n 0) 32 ≡ false) one last)

-- spaces without the first n of them
pub drop-spaces : (n m : ℕ) → drop n (replicate {A = ℕ} m 32) ≡ replicate (m - n) 32
drop-spaces zero m = let e : m ≡ m - 0 = omega arith in ap (λ k. replicate k 32) e
drop-spaces (suc n) zero = let e : 0 ≡ 0 - suc n = omega arith in ap (λ k. replicate k 32) e
drop-spaces (suc n) (suc m) =
    let e : m - n ≡ suc m - suc n = omega arith in
    drop-spaces n m ∙ ap (λ k. replicate k 32) e
