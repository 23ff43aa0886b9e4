-- A frame number, counted in the list of the day, is that of the formula.
use Rattle.std.proofs.Common.{ℕ, zero, suc, ◌+◌, ◌<◌, ◌≤◌, ◌≡◌, Bool, true, length, map, arith, refl, sym, ap, ◌∙◌, subst, inl, inr, eq-or-lt_of_le}
use Rattle.std.specs.List.{range_with_len, list_any}
use Rattle.vdcp_value.proofs.Day.{among-blocks, among-filter, number_in}
use Rattle.vdcp_value.proofs.Numbers.{number, keeps, at, fills_day}
use Rattle.vdcp_value.specs.Day.{labels_of_second, labels_of_minute, labels_of_hour, labels_of_day, lawful_labels, frames_of_day, frame_number, is_same}
use Rattle.vdcp_value.specs.Labels.{frames_per_second, is_in_range, is_lawful}
use Rattle.vdcp_value.specs.declared.label.Label.{Label}
use Rattle.vdcp_value.specs.declared.rate.Rate.TheVariants.{F24, F25, F30, D30}
use Rattle.vdcp_value.specs.declared.rate.Rate.{Rate}

same_self : (label : Label) → is_same label label ≡ true
same_self label = grind arith

pub same_label : (a b : Label) → is_same a b ≡ true → a ≡ b
same_label a b e =
    let h : a.hours ≡ b.hours = grind (arith, e) in
    let m : a.minutes ≡ b.minutes = grind (arith, e) in
    let s : a.seconds ≡ b.seconds = grind (arith, e) in
    let f : a.frames ≡ b.frames = grind (arith, e) in
    λ i. record { hours = h i; minutes = m i; seconds = s i; frames = f i }

among_frames : (test : Label → Bool) (label_at : ℕ → Label) (k n a : ℕ)
    → a ≤ k → k < a + n → test (label_at k) ≡ true → list_any test (map label_at (range_with_len a n)) ≡ true
among_frames test label_at k zero a above below found = absurd (omega arith)
among_frames test label_at k (suc n) a above below found =
    elim (eq-or-lt_of_le above) [
      | inl e ↦ let here : test (label_at a) ≡ true = subst (λ j. test (label_at j) ≡ true) (sym e) found in
          rw here refl
      | inr lt ↦
          let later : list_any test (map label_at (range_with_len (a + 1) n)) ≡ true =
          among_frames test label_at k n (a + 1) (omega arith) (omega arith) found in
          grind (arith, later)
    ]

record InRange (rate : Rate) (label : Label) : Type 0 where
  hours : label.hours < 24
  minutes : label.minutes < 60
  seconds : label.seconds < 60
  frames : label.frames < frames_per_second rate

in_range : (rate : Rate) (label : Label) → is_in_range rate label ≡ true → InRange rate label
in_range rate label e = record
    { hours = grind (arith, e); minutes = grind (arith, e); seconds = grind (arith, e); frames = grind (arith, e) }

-- every label in its range stands in the day
pub among_day : (rate : Rate) (label : Label) → is_in_range rate label ≡ true
    → list_any (is_same label) (labels_of_day rate) ≡ true
unfolding labels_of_second labels_of_minute labels_of_hour labels_of_day
among_day rate label e =
    let r = in_range rate label e in
    among-blocks (is_same label) (labels_of_hour rate) label.hours 24 0 (omega arith) (omega (arith, r.hours))
    (among-blocks (is_same label) (labels_of_minute rate label.hours) label.minutes 60 0 (omega arith)
    (omega (arith, r.minutes))
    (among-blocks (is_same label) (labels_of_second rate label.hours label.minutes) label.seconds 60 0 (omega arith)
    (omega (arith, r.seconds))
    (among_frames (is_same label) (at label.hours label.minutes label.seconds) label.frames (frames_per_second rate) 0
    (omega arith) (omega (arith, r.frames)) (same_self label))))

-- the frame number, counted in the list, is that of the formula
pub frame_number_is : (rate : Rate) (label : Label) → is_lawful rate label ≡ true →
    frame_number rate label ≡ number rate label
unfolding frame_number lawful_labels
frame_number_is rate label e =
    let ranged : is_in_range rate label ≡ true = grind (arith, e) in
    let kept : keeps rate label ≡ true = grind (arith, e) in
    let found =
    among-filter label (keeps rate) (labels_of_day rate)
    (λ other same. ap (keeps rate) (sym (same_label label other same)) ∙ kept)
    (among_day rate label ranged) in
    let counted =
    number_in (number rate) label 0 (lawful_labels rate)
    (λ other same. ap (number rate) (sym (same_label label other same)))
    (fills_day rate).0
    found in
    omega (arith, counted)

-- how many lawful labels a day has
pub length_of_day : (rate : Rate) → length (lawful_labels rate) ≡ frames_of_day rate
length_of_day rate = omega (arith, (fills_day rate).1)

number_below : (rate : Rate) (label : Label) → InRange rate label → number rate label < frames_of_day rate
number_below F24 label r = omega (arith, r.hours, r.minutes, r.seconds, r.frames)
number_below F25 label r = omega (arith, r.hours, r.minutes, r.seconds, r.frames)
number_below F30 label r = omega (arith, r.hours, r.minutes, r.seconds, r.frames)
number_below D30 label r = omega (arith, r.hours, r.minutes, r.seconds, r.frames)

-- every frame number is below the day's
pub frame_number_below : (rate : Rate) (label : Label) → is_lawful rate label ≡ true
    → frame_number rate label < frames_of_day rate
frame_number_below rate label e =
    let ranged : is_in_range rate label ≡ true = grind (arith, e) in
    omega (arith, frame_number_is rate label e, number_below rate label (in_range rate label ranged))
