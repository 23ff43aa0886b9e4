-- The lawful labels of a second, a minute, an hour and the day are numbered by a formula.
use Rattle.std.proofs.Common.{ℕ, zero, suc, List, ◌+◌, ◌*◌, ◌/◌, ◌%◌, ◌<◌, ◌≤◌, ◌≡◌, Bool, true, false, not, nat_eq, length, map, filter, arith, refl, sym, ◌∙◌, subst, if◌then◌else◌, inl, inr}
use Rattle.std.specs.List.{flat_map, range_with_len}
use Rattle.vdcp_value.proofs.Day.{CountsFrom, both_ways, counts-blocks, counts-frames, filter-frames, filter-blocks}
use Rattle.vdcp_value.specs.Day.{labels_of_second, labels_of_minute, labels_of_hour, labels_of_day, lawful_labels, frames_of_day}
use Rattle.vdcp_value.specs.Labels.{frames_per_second, is_dropped}
use Rattle.vdcp_value.specs.declared.label.Label.{Label}
use Rattle.vdcp_value.specs.declared.rate.Rate.TheVariants.{F24, F25, F30, D30}
use Rattle.vdcp_value.specs.declared.rate.Rate.{Rate}

-- the frame number by a formula
abbrev pub number : Rate → Label → ℕ
number F24 label = 86_400 * label.hours + 1_440 * label.minutes + 24 * label.seconds + label.frames
number F25 label = 90_000 * label.hours + 1_500 * label.minutes + 25 * label.seconds + label.frames
number F30 label = 108_000 * label.hours + 1_800 * label.minutes + 30 * label.seconds + label.frames
number D30 label =
    107_892 * label.hours + 1_798 * label.minutes + 2 * (label.minutes / 10) + 30 * label.seconds + label.frames

-- how many labels drop frame leaves out at a minute's start
abbrev pub skipped : ℕ → ℕ
skipped minutes = if nat_eq (minutes % 10) 0 then 0 else 2

-- the number of the first lawful label of a second
abbrev pub second_start : Rate → ℕ → ℕ → ℕ → ℕ
second_start F24 h m s = 86_400 * h + 1_440 * m + 24 * s
second_start F25 h m s = 90_000 * h + 1_500 * m + 25 * s
second_start F30 h m s = 108_000 * h + 1_800 * m + 30 * s
second_start D30 h m s = 107_892 * h + 1_798 * m + 2 * (m / 10) + (if nat_eq s 0 then skipped m else 30 * s)

-- the labels that are kept
abbrev pub keeps : Rate → Label → Bool
keeps rate label = not (is_dropped rate label)

abbrev pub at : ℕ → ℕ → ℕ → ℕ → Label
at h m s f = record { hours = h; minutes = m; seconds = s; frames = f }

-- a list counts from its start to the next one
abbrev pub Fills : Rate → ℕ → ℕ → List Label → Type 0
Fills rate start next labels = CountsFrom (number rate) start labels × (start + length labels ≡ next)

all_kept : (rate : Rate) (label_at : ℕ → Label) (n a start : ℕ)
    → ((k : ℕ) → a ≤ k → keeps rate (label_at k) ≡ true)
    → ((k : ℕ) → number rate (label_at (k + 1)) ≡ number rate (label_at k) + 1)
    → number rate (label_at a) ≡ start
    → Fills rate start (start + n) (filter (keeps rate) (map label_at (range_with_len a n)))
all_kept rate label_at n a start kept goes begins =
    let counted : Fills rate start (start + n) (map label_at (range_with_len a n)) =
    (let h = counts-frames (number rate) label_at goes n a in
    (subst (λ m. CountsFrom (number rate) m (map label_at (range_with_len a n))) begins h.0, omega (arith, h.1))) in
    subst (Fills rate start (start + n)) (sym (filter-frames (keeps rate) label_at n a kept)) counted

plain_second : (rate : Rate) (fps h m s : ℕ) → frames_per_second rate ≡ fps
    → ((k : ℕ) → keeps rate (at h m s k) ≡ true)
    → ((k : ℕ) → number rate (at h m s (k + 1)) ≡ number rate (at h m s k) + 1)
    → number rate (at h m s 0) ≡ second_start rate h m s
    → second_start rate h m s + fps ≡ second_start rate h m (s + 1)
    → Fills rate (second_start rate h m s) (second_start rate h m (s + 1))
    (filter (keeps rate) (labels_of_second rate h m s))
unfolding labels_of_second
plain_second rate fps h m s e kept goes begins ends =
    rw e
    (let F = all_kept rate (at h m s) fps 0 (second_start rate h m s) (λ k _. kept k) goes begins in
    (F.0, F.1 ∙ ends))

keeps_late : (h m s k : ℕ) → 2 ≤ k → keeps D30 (at h m s k) ≡ true
keeps_late h m s k above = grind arith

keeps_later : (h m s k : ℕ) → keeps D30 (at h m (suc s) k) ≡ true
keeps_later h m s k = grind arith

keeps_tenth : (h m s k : ℕ) → nat_eq (m % 10) 0 ≡ true → keeps D30 (at h m s k) ≡ true
keeps_tenth h m s k e = grind (arith, e)

drops_early : (h m k : ℕ) → nat_eq (m % 10) 0 ≡ false → k < 2 → keeps D30 (at h m 0 k) ≡ false
drops_early h m k e below = grind (arith, e)

two_dropped : (test : Label → Bool) (label_at : ℕ → Label) (n : ℕ) → test (label_at 0) ≡ false →
    test (label_at 1) ≡ false
    → filter test (map label_at (range_with_len 0 (suc (suc n)))) ≡ filter test (map label_at (range_with_len 2 n))
two_dropped test label_at n first second = rw (first, second) refl

dropped_second : (h m : ℕ) → nat_eq (m % 10) 0 ≡ false
    → Fills D30 (second_start D30 h m 0) (second_start D30 h m 1) (filter (keeps D30) (labels_of_second D30 h m 0))
unfolding labels_of_second
dropped_second h m e =
    let F : Fills D30 (second_start D30 h m 0) (second_start D30 h m 0 + 28)
    (filter (keeps D30) (map (at h m 0) (range_with_len 2 28))) =
    all_kept D30 (at h m 0) 28 2 (second_start D30 h m 0) (keeps_late h m 0) (λ k. omega arith) (rw e (omega arith)) in
    let ends : second_start D30 h m 0 + 28 ≡ second_start D30 h m 1 = rw e (omega arith) in
    subst (Fills D30 (second_start D30 h m 0) (second_start D30 h m 1))
    (sym (two_dropped (keeps D30) (at h m 0) 28 (drops_early h m 0 e (omega arith))
    (drops_early h m 1 e (omega arith))))
    (F.0, F.1 ∙ ends)

pub fills_second : (rate : Rate) (h m s : ℕ)
    → Fills rate (second_start rate h m s) (second_start rate h m (s + 1))
    (filter (keeps rate) (labels_of_second rate h m s))
fills_second F24 h m s = plain_second F24 24 h m s refl (λ k. refl) (λ k. omega arith) (omega arith) (omega arith)
fills_second F25 h m s = plain_second F25 25 h m s refl (λ k. refl) (λ k. omega arith) (omega arith) (omega arith)
fills_second F30 h m s = plain_second F30 30 h m s refl (λ k. refl) (λ k. omega arith) (omega arith) (omega arith)
fills_second D30 h m zero =
    elim (both_ways (nat_eq (m % 10) 0)) [
      | inl e ↦
          plain_second D30 30 h m 0 refl (λ k. keeps_tenth h m 0 k e) (λ k. omega arith) (rw e (omega arith))
          (rw e (omega arith))
      | inr e ↦ dropped_second h m e
    ]
fills_second D30 h m (suc s) =
    plain_second D30 30 h m (suc s) refl (keeps_later h m s) (λ k. omega arith) (grind arith) (grind arith)

-- the number of the first lawful label of a minute and of an hour
abbrev pub minute_start : Rate → ℕ → ℕ → ℕ
minute_start rate h m = second_start rate h m 0

abbrev pub hour_start : Rate → ℕ → ℕ
hour_start F24 h = 86_400 * h
hour_start F25 h = 90_000 * h
hour_start F30 h = 108_000 * h
hour_start D30 h = 107_892 * h

minute_ends : (rate : Rate) (h m : ℕ) → second_start rate h m 60 ≡ minute_start rate h (m + 1)
minute_ends F24 h m = omega arith
minute_ends F25 h m = omega arith
minute_ends F30 h m = omega arith
minute_ends D30 h m = grind arith

hour_begins : (rate : Rate) (h : ℕ) → minute_start rate h 0 ≡ hour_start rate h
hour_begins F24 h = omega arith
hour_begins F25 h = omega arith
hour_begins F30 h = omega arith
hour_begins D30 h = omega arith

hour_ends : (rate : Rate) (h : ℕ) → minute_start rate h 60 ≡ hour_start rate (h + 1)
hour_ends F24 h = omega arith
hour_ends F25 h = omega arith
hour_ends F30 h = omega arith
hour_ends D30 h = omega arith

-- n blocks, from the first one on
fills_blocks : (rate : Rate) (block : ℕ → List Label) (start : ℕ → ℕ) (n : ℕ)
    → ((k : ℕ) → Fills rate (start k) (start (k + 1)) (filter (keeps rate) (block k)))
    → Fills rate (start 0) (start (0 + n)) (filter (keeps rate) (flat_map block (range_with_len 0 n)))
fills_blocks rate block start n each =
    subst (Fills rate (start 0) (start (0 + n))) (sym (filter-blocks (keeps rate) block (range_with_len 0 n)))
    (counts-blocks (number rate) (λ k. filter (keeps rate) (block k)) start (λ k. (each k).0) (λ k. (each k).1) n 0)

pub fills_minute : (rate : Rate) (h m : ℕ)
    → Fills rate (minute_start rate h m) (minute_start rate h (m + 1)) (filter (keeps rate) (labels_of_minute rate h m))
unfolding labels_of_minute
fills_minute rate h m =
    let F = fills_blocks rate (labels_of_second rate h m) (second_start rate h m) 60 (fills_second rate h m) in
    (F.0, F.1 ∙ minute_ends rate h m)

pub fills_hour : (rate : Rate) (h : ℕ)
    → Fills rate (hour_start rate h) (hour_start rate (h + 1)) (filter (keeps rate) (labels_of_hour rate h))
unfolding labels_of_hour
fills_hour rate h =
    let F = fills_blocks rate (labels_of_minute rate h) (minute_start rate h) 60 (fills_minute rate h) in
    let G : Fills rate (minute_start rate h 0) (hour_start rate (h + 1))
    (filter (keeps rate) (flat_map (labels_of_minute rate h) (range_with_len 0 60))) =
    (F.0, F.1 ∙ hour_ends rate h) in
    subst (λ n. Fills rate n (hour_start rate (h + 1))
    (filter (keeps rate) (flat_map (labels_of_minute rate h) (range_with_len 0 60))))
    (hour_begins rate h) G

day_begins : (rate : Rate) → hour_start rate 0 ≡ 0
day_begins F24 = refl
day_begins F25 = refl
day_begins F30 = refl
day_begins D30 = refl

day_ends : (rate : Rate) → hour_start rate 24 ≡ frames_of_day rate
day_ends F24 = refl
day_ends F25 = refl
day_ends F30 = refl
day_ends D30 = refl

-- the lawful labels of a day are numbered from 0 on
pub fills_day : (rate : Rate) → Fills rate 0 (frames_of_day rate) (lawful_labels rate)
unfolding labels_of_day lawful_labels
fills_day rate =
    let F = fills_blocks rate (labels_of_hour rate) (hour_start rate) 24 (fills_hour rate) in
    let G : Fills rate (hour_start rate 0) (frames_of_day rate)
    (filter (keeps rate) (flat_map (labels_of_hour rate) (range_with_len 0 24))) =
    (F.0, F.1 ∙ day_ends rate) in
    subst (λ n. Fills rate n (frames_of_day rate)
    (filter (keeps rate) (flat_map (labels_of_hour rate) (range_with_len 0 24))))
    (day_begins rate) G
