-- A label's text, and when a text is refused.
use Rattle.std.specs.Prelude.{ℕ, ◌+◌, ◌/◌, ◌%◌, ◌≡◌, Bool, ◌&&◌, nat_lt, IsTrue, List, [], ◌∷◌, ◌++◌, Some}
use Rattle.vdcp_value.specs.Bcd.{label_fault}
use Rattle.vdcp_value.specs.declared.faults.TcFault.TheVariants.{NotBcd, OutOfRange, Dropped, Shape}
use Rattle.vdcp_value.specs.declared.faults.TcFault.{TcFault}
use Rattle.vdcp_value.specs.declared.label.Label.{Label}
use Rattle.vdcp_value.specs.declared.rate.Rate.TheVariants.{F24, F25, F30, D30}
use Rattle.vdcp_value.specs.declared.rate.Rate.{Rate}

-- two decimal digits
abbrev pub two_digits : ℕ → List ℕ
two_digits n = (48 + n / 10) ∷ (48 + n % 10) ∷ []

-- what stands before the frames: `;` for drop frame, else `:`
abbrev pub frames_mark : Rate → ℕ
frames_mark F24 = 58
frames_mark F25 = 58
frames_mark F30 = 58
frames_mark D30 = 59

-- hh:mm:ss:ff, with the rate's mark before ff
abbrev pub label_text : Rate → Label → List ℕ
label_text rate label =
    two_digits label.hours ++ 58 ∷ two_digits label.minutes ++ 58 ∷ two_digits label.seconds
    ++ frames_mark rate ∷ two_digits label.frames

-- each field has two digits
abbrev pub has_two_digits : Label → Bool
has_two_digits label =
    nat_lt label.hours 100 && nat_lt label.minutes 100 && nat_lt label.seconds 100 && nat_lt label.frames 100

-- the text writes this label, lawful or not
abbrev pub Writes : Rate → List ℕ → Label → Type 0
Writes rate text label = IsTrue (has_two_digits label) × (text ≡ label_text rate label)

-- when a text is refused with this fault
abbrev pub IsTextFault : Rate → List ℕ → TcFault → Type 0
IsTextFault rate text Shape = (label : Label) → ¬ Writes rate text label
IsTextFault rate text (NotBcd place) = ⊥
IsTextFault rate text (OutOfRange field) =
    (label : Label) × Writes rate text label × (label_fault rate label ≡ Some (OutOfRange field))
IsTextFault rate text Dropped = (label : Label) × Writes rate text label × (label_fault rate label ≡ Some Dropped)
