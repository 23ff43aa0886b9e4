-- The list of the day holds the lawful labels, each once.
use Rattle.std.proofs.Common.{ℕ, zero, suc, List, [], ◌∷◌, ◌+◌, ◌<◌, ◌≡◌, Bool, true, ◌&&◌, map, filter, arith, refl, sym, ap, ◌∙◌, subst, inl, inr}
use Rattle.std.proofs.lemmas.List.Folds.{list_all-append}
use Rattle.std.specs.List.{flat_map, range_with_len, list_any, list_all}
use Rattle.vdcp_value.proofs.Bytes.{both_hold}
use Rattle.vdcp_value.proofs.Day.{both_ways, among-filter}
use Rattle.vdcp_value.proofs.FrameNumbers.{among_day, same_label}
use Rattle.vdcp_value.proofs.Numbers.{keeps, at}
use Rattle.vdcp_value.proofs.Timecodes.{same_timecode}
use Rattle.vdcp_value.specs.Timecodes.{rate_of, label_of, frames_of}
use Rattle.vdcp_value.specs.declared.timecode.Timecode.{Timecode}
use Rattle.vdcp_value.specs.Day.{labels_of_second, labels_of_minute, labels_of_hour, labels_of_day, lawful_labels, labels_before, frame_number, is_same}
use Rattle.vdcp_value.specs.Labels.{frames_per_second, is_in_range, is_lawful}
use Rattle.vdcp_value.specs.declared.label.Label.{Label}
use Rattle.vdcp_value.specs.declared.rate.Rate.{Rate}

-- what holds of each block holds of the blocks joined
all_blocks : (test : Label → Bool) (block : ℕ → List Label) (n a : ℕ)
    → ((k : ℕ) → k < a + n → list_all test (block k) ≡ true) → list_all test (flat_map block (range_with_len a n))
    ≡ true
all_blocks test block zero a each = refl
all_blocks test block (suc n) a each =
    let here : list_all test (block a) ≡ true = each a (omega arith) in
    let later : list_all test (flat_map block (range_with_len (a + 1) n)) ≡ true =
    all_blocks test block n (a + 1) (λ k below. each k (omega arith)) in
    rw list_all-append (rw here later)

all_frames : (test : Label → Bool) (label_at : ℕ → Label) (n a : ℕ)
    → ((k : ℕ) → k < a + n → test (label_at k) ≡ true) → list_all test (map label_at (range_with_len a n)) ≡ true
all_frames test label_at zero a each = refl
all_frames test label_at (suc n) a each =
    let here : test (label_at a) ≡ true = each a (omega arith) in
    rw here (all_frames test label_at n (a + 1) (λ k below. each k (omega arith)))

ranged : (rate : Rate) (h m s f : ℕ) → h < 24 → m < 60 → s < 60 → f < frames_per_second rate
    → is_in_range rate (at h m s f) ≡ true
ranged rate h m s f p q r t = grind arith

-- every label of the day is in its range
all_in_range : (rate : Rate) → list_all (is_in_range rate) (labels_of_day rate) ≡ true
unfolding labels_of_second labels_of_minute labels_of_hour labels_of_day
all_in_range rate =
    all_blocks (is_in_range rate) (labels_of_hour rate) 24 0
    (λ h p.
    all_blocks (is_in_range rate) (labels_of_minute rate h) 60 0
    (λ m q.
    all_blocks (is_in_range rate) (labels_of_second rate h m) 60 0
    (λ s r.
    all_frames (is_in_range rate) (at h m s) (frames_per_second rate) 0
    (λ f t. ranged rate h m s f (omega (arith, p)) (omega (arith, q)) (omega (arith, r)) (omega (arith, t))))))

-- of what a filter keeps the filter holds, and what held of all
found_kept : (label : Label) (test kept : Label → Bool) (xs : List Label) → list_all test xs ≡ true
    → list_any (is_same label) (filter kept xs) ≡ true → (test label && kept label) ≡ true
found_kept label test kept [] all found = cc
found_kept label test kept (x ∷ xs) all found =
    let h = both_hold (test x) (list_all test xs) all in
    elim (both_ways (kept x)) [
      | inr k ↦
          let later : list_any (is_same label) (filter kept xs) ≡ true = rw k at found in
          found_kept label test kept xs h.1 later
      | inl k ↦
          elim (both_ways (is_same label x)) [
            | inl e ↦
                let same : label ≡ x = same_label label x e in
                subst (λ y. (test y && kept y) ≡ true) (sym same) (rw (h.0, k) refl)
            | inr e ↦
                let later : list_any (is_same label) (filter kept xs) ≡ true = rw (k, e) at found in
                found_kept label test kept xs h.1 later
          ]
    ]

-- the lawful labels are those that stand in the day's list
pub listed : (rate : Rate) (label : Label) → is_lawful rate label ≡ true →
    list_any (is_same label) (lawful_labels rate) ≡ true
unfolding lawful_labels
listed rate label e =
    let range : is_in_range rate label ≡ true = grind (arith, e) in
    let kept : keeps rate label ≡ true = grind (arith, e) in
    among-filter label (keeps rate) (labels_of_day rate)
    (λ other same. ap (keeps rate) (sym (same_label label other same)) ∙ kept)
    (among_day rate label range)

pub listed_lawful : (rate : Rate) (label : Label) → list_any (is_same label) (lawful_labels rate) ≡ true →
    is_lawful rate label ≡ true
unfolding lawful_labels
listed_lawful rate label found =
    found_kept label (is_in_range rate) (keeps rate) (labels_of_day rate) (all_in_range rate) found

-- two labels of one list with as many labels before them are one label
one_place : (a b : Label) (xs : List Label) → list_any (is_same a) xs ≡ true → list_any (is_same b) xs ≡ true
    → labels_before a xs ≡ labels_before b xs → a ≡ b
one_place a b [] p q e = cc
one_place a b (x ∷ xs) p q e =
    elim (both_ways (is_same a x)) [
      | inl h ↦
          elim (both_ways (is_same b x)) [
            | inl k ↦ same_label a x h ∙ sym (same_label b x k)
            | inr k ↦
                let zero_is : 0 ≡ suc (labels_before b xs) = rw (h, k) at e in
                absurd (omega (arith, zero_is))
          ]
      | inr h ↦
          elim (both_ways (is_same b x)) [
            | inl k ↦
                let zero_is : suc (labels_before a xs) ≡ 0 = rw (h, k) at e in
                absurd (omega (arith, zero_is))
            | inr k ↦
                let p' : list_any (is_same a) xs ≡ true = rw h at p in
                let q' : list_any (is_same b) xs ≡ true = rw k at q in
                let e' : suc (labels_before a xs) ≡ suc (labels_before b xs) = rw (h, k) at e in
                one_place a b xs p' q' (omega (arith, e'))
          ]
    ]

-- so lawful labels of one frame number are one label
pub one_frame : (rate : Rate) (a b : Label) → is_lawful rate a ≡ true → is_lawful rate b ≡ true
    → frame_number rate a ≡ frame_number rate b → a ≡ b
unfolding frame_number
one_frame rate a b p q e = one_place a b (lawful_labels rate) (listed rate a p) (listed rate b q) e

-- and time codes of one rate and one frame number are one time code
pub one_number : (a b : Timecode) → rate_of a ≡ rate_of b → frames_of a ≡ frames_of b → a ≡ b
one_number a b r e =
    let other : is_lawful (rate_of a) (label_of b) ≡ true =
    subst (λ rate. is_lawful rate (label_of b) ≡ true) (sym r) b.lawful in
    same_timecode a b r
    (one_frame (rate_of a) (label_of a) (label_of b) a.lawful other
    (e ∙ ap (λ rate. frame_number rate (label_of b)) (sym r)))
