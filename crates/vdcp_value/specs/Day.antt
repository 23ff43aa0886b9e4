-- The labels of a day in order, and the frame number of a label.
use Rattle.std.specs.List.{flat_map, list_any, range_with_len}
use Rattle.std.specs.Prelude.{ℕ, suc, List, [], ◌∷◌, ◌&&◌, map, filter, not, nat_eq, Bool, IsTrue, if◌then◌else◌}
use Rattle.vdcp_value.specs.Labels.{frames_per_second, is_dropped}
use Rattle.vdcp_value.specs.declared.label.Label.{Label}
use Rattle.vdcp_value.specs.declared.rate.Rate.{Rate}
use Rattle.vdcp_value.specs.declared.rate.Rate.TheVariants.{F24, F25, F30, D30}

-- every label of a second, of a minute, of an hour and of the day, in the order of hours, minutes,
-- seconds and frames
unfoldable pub labels_of_second : Rate → ℕ → ℕ → ℕ → List Label
labels_of_second rate hours minutes seconds =
    map
    (λ frames. record { hours = hours; minutes = minutes; seconds = seconds; frames = frames })
    (range_with_len 0 (frames_per_second rate))

unfoldable pub labels_of_minute : Rate → ℕ → ℕ → List Label
labels_of_minute rate hours minutes = flat_map (labels_of_second rate hours minutes) (range_with_len 0 60)

unfoldable pub labels_of_hour : Rate → ℕ → List Label
labels_of_hour rate hours = flat_map (labels_of_minute rate hours) (range_with_len 0 60)

unfoldable pub labels_of_day : Rate → List Label
labels_of_day rate = flat_map (labels_of_hour rate) (range_with_len 0 24)

-- the lawful labels of the day, in this order: all but those that drop frame leaves out
unfoldable pub lawful_labels : Rate → List Label
lawful_labels rate = filter (λ label. not (is_dropped rate label)) (labels_of_day rate)

abbrev pub is_same : Label → Label → Bool
is_same a b =
    nat_eq a.hours b.hours && nat_eq a.minutes b.minutes && nat_eq a.seconds b.seconds && nat_eq a.frames b.frames

-- the label stands in the list
abbrev pub Stands : Label → List Label → Type 0
Stands label labels = IsTrue (list_any (is_same label) labels)

-- how many labels of a list stand before this one
abbrev pub labels_before : Label → List Label → ℕ
labels_before label [] = 0
labels_before label (other ∷ rest) = if is_same label other then 0 else suc (labels_before label rest)

-- the frame number of a label: how many lawful labels stand before it in the day
unfoldable pub frame_number : Rate → Label → ℕ
frame_number rate label = labels_before label (lawful_labels rate)

-- how many lawful labels, and so frames, a day has
abbrev pub frames_of_day : Rate → ℕ
frames_of_day F24 = 2_073_600
frames_of_day F25 = 2_160_000
frames_of_day F30 = 2_592_000
frames_of_day D30 = 2_589_408
