-- A frame that has all its bytes is a message, or wrong at its last byte.
use Rattle.std.proofs.Common.{◌≡◌, ℕ, suc, ◌+◌, ◌%◌, ◌<◌, List, [], ◌∷◌, ◌++◌, length, take, get_or, sum, sym, ap, subst, ◌∙◌, arith}
use Rattle.std.proofs.lemmas.List.{length-take, take_all, take_more}
use Rattle.std.proofs.lemmas.List.Sums.{sum_by-cons, sum_by_push}
use Rattle.vdcp_frame.specs.declared.message.Fault.TheVariants.{BadSum}
use Rattle.vdcp_frame.specs.Head.{wrong, data_head, head_of}
use Rattle.vdcp_frame.proofs.HeadLemmas.{data_bad}

whole_data : (n : ℕ) (tail : List ℕ) → n < length tail → length tail ≡ n + 1
    → tail ≡ take n tail ++ get_or tail n 0 ∷ []
whole_data n tail long size = sym (take_all (n + 1) tail (omega arith)) ∙ take_more tail n 0 long

whole_sum : (n x code : ℕ) (tail : List ℕ) → n < length tail → length tail ≡ n + 1
    → x + code + sum (take n tail) + get_or tail n 0 ≡ sum (x ∷ code ∷ tail)
whole_sum n x code tail long size =
    omega (
      arith,
      sum_by-cons (λ (y : ℕ). y) x (code ∷ tail),
      sum_by-cons (λ (y : ℕ). y) code tail,
      ap sum (whole_data n tail long size),
      sum_by_push (λ (y : ℕ). y) (take n tail) (get_or tail n 0),
    )

-- a frame of n bytes of data whose bytes from CMD-1 on don't add up
pub frame_bad : (n : ℕ) (body more : List ℕ) → length body ≡ n + 3 → (sum body % 256 ≡ 0 → ⊥)
    → head_of (2 ∷ suc (suc n) ∷ (body ++ more)) ≡ wrong BadSum (n + 5)
frame_bad n [] more size bad = absurd (omega arith)
frame_bad n (x ∷ []) more size bad = absurd (omega arith)
frame_bad n (x ∷ code ∷ tail) more size bad =
    let long : n < length tail = omega arith in
    let whole = whole_data n tail long (omega arith) in
    let front : length (take n tail) ≡ n = omega (arith, length-take n tail) in
    let total = whole_sum n x code tail long (omega arith) in
    ap (λ (t : List ℕ). data_head n x code (t ++ more)) whole
    ∙ data_bad n x code (take n tail) (get_or tail n 0) more front (subst (λ (s : ℕ). s % 256 ≡ 0 → ⊥) (sym total) bad)
