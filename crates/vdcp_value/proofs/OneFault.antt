-- A text is refused with one fault only, and an own text with none.
use Rattle.std.proofs.Common.{ℕ, List, ◌-◌, ◌<◌, ◌≤◌, ◌≡◌, true, false, length, take, drop, get_or, nat_eq, nat_lt, arith, refl, sym, ap, ◌∙◌, inl, inr, true≢false, ◌⊎◌, length-take, Some, None, if◌then◌else◌}
use Rattle.std.proofs.lemmas.List.Folds.{list_all_at}
use Rattle.std.proofs.lemmas.List.{get_or-take}
use Rattle.std.specs.List.{list_all}
use Rattle.vdcp_value.proofs.Bcd.{lawful_two_digits, no_fault}
use Rattle.vdcp_value.proofs.Bytes.{length_of_bytes}
use Rattle.vdcp_value.proofs.Day.{both_ways}
use Rattle.vdcp_value.proofs.HexForm.{all_below_of, hex_form_long, pairs_are_hex}
use Rattle.vdcp_value.proofs.LabelText.{one_label}
use Rattle.vdcp_value.specs.Bcd.{label_fault}
use Rattle.vdcp_value.specs.IdText.{IsIdFault, is_hex_digit, is_hex_long, is_plain_byte, hex_form}
use Rattle.vdcp_value.specs.LabelText.{IsTextFault, Writes, has_two_digits}
use Rattle.vdcp_value.specs.Timecodes.{rate_of, label_of, text_of}
use Rattle.vdcp_value.specs.declared.faults.IdFault.TheVariants.{Empty, TooLong, BadByte, EdgeSpace, BadHex, HasPlainForm}
use Rattle.vdcp_value.specs.declared.faults.IdFault.{IdFault}
use Rattle.vdcp_value.specs.declared.faults.TcFault.TheVariants.{NotBcd, OutOfRange, Dropped, Shape}
use Rattle.vdcp_value.specs.declared.faults.TcFault.{TcFault}
use Rattle.vdcp_value.specs.declared.label.Label.{Label}
use Rattle.vdcp_value.specs.declared.rate.Rate.{Rate}
use Rattle.vdcp_value.specs.declared.timecode.Timecode.{Timecode}

-- which fault a text can have
abbrev case_of_text : List ℕ → ℕ
case_of_text text =
    if is_hex_long text then (if list_all is_hex_digit (drop 2 text) then 5 else 4)
    else if nat_eq (length text) 0 then 0
    else if nat_lt 8 (length text) then 1
    else if list_all is_plain_byte text then 3
    else 2

abbrev case_of_fault : IdFault → ℕ
case_of_fault Empty = 0
case_of_fault TooLong = 1
case_of_fault (BadByte place) = 2
case_of_fault EdgeSpace = 3
case_of_fault BadHex = 4
case_of_fault HasPlainForm = 5

not_all_plain : (text : List ℕ) (place : ℕ) → 1 ≤ place → place ≤ length text →
    is_plain_byte (get_or text (place - 1) 0) ≡ false
    → list_all is_plain_byte text ≡ false
not_all_plain text place low high bad = list_all_at is_plain_byte text (place - 1) 0 (omega (arith, low, high)) bad

hex_case : (bytes : List ℕ) → length bytes ≡ 8 → list_all is_hex_digit (drop 2 (hex_form bytes)) ≡ true →
    case_of_text (hex_form bytes) ≡ 5
hex_case bytes eight digits = rw (hex_form_long bytes eight, digits) refl

same_case : (text : List ℕ) (fault : IdFault) → IsIdFault text fault → case_of_text text ≡ case_of_fault fault
same_case text Empty h = ap case_of_text h
same_case text TooLong h = grind (arith, h.0, h.1)
same_case text (BadByte place) h = grind (arith, h.0, h.1, h.2, not_all_plain text place h.1 h.2 h.4)
same_case text EdgeSpace h = grind (arith, h.0, h.1, h.2)
same_case text BadHex h = grind (arith, h.0, h.1)
same_case text HasPlainForm (bytes, b, e, h) =
    ap case_of_text e ∙ hex_case bytes (length_of_bytes 8 bytes b) (pairs_are_hex bytes (all_below_of 8 bytes b))

eq-or-lt : (p q : ℕ) → (p ≡ q) ⊎ ((p < q) ⊎ (q < p))
eq-or-lt p q =
    elim (both_ways (nat_lt p q)) [
      | inl e ↦ inr (inl (grind (arith, e)))
      | inr e ↦
          elim (both_ways (nat_lt q p))
          [ inl f ↦ inr (inr (grind (arith, f))) | inr f ↦ inl (grind (arith, e, f)) ]
    ]

-- the first bad byte stands at one place
not_before : (text : List ℕ) (p q : ℕ) → 1 ≤ p → p < q → q ≤ length text
    → is_plain_byte (get_or text (p - 1) 0) ≡ false → list_all is_plain_byte (take (q - 1) text) ≡ true → ⊥
not_before text p q low lt high bad good =
    let front = take (q - 1) text in
    let within : p - 1 < length front = omega (arith, length-take (q - 1) text, low, lt, high) in
    let inner : p - 1 < q - 1 = omega (arith, low, lt) in
    let here : is_plain_byte (get_or front (p - 1) 0) ≡ false =
    ap is_plain_byte (get_or-take (q - 1) text (p - 1) 0 inner) ∙ bad in
    true≢false (sym good ∙ list_all_at is_plain_byte front (p - 1) 0 within here)

one_place : (text : List ℕ) (p q : ℕ) → IsIdFault text (BadByte p) → IsIdFault text (BadByte q) → p ≡ q
one_place text p q h k =
    elim (eq-or-lt p q) [
      | inl e ↦ e
      | inr apart ↦
          elim apart [
            | inl lt ↦ absurd (not_before text p q h.1 lt k.2 h.4 k.3)
            | inr lt ↦ absurd (not_before text q p k.1 lt h.2 k.4 h.3)
          ]
    ]

-- a text is refused with one fault
pub one_fault : (text : List ℕ) (a b : IdFault) → IsIdFault text a → IsIdFault text b → a ≡ b
one_fault text Empty Empty h k = refl
one_fault text TooLong TooLong h k = refl
one_fault text (BadByte p) (BadByte q) h k = ap BadByte (one_place text p q h k)
one_fault text EdgeSpace EdgeSpace h k = refl
one_fault text BadHex BadHex h k = refl
one_fault text HasPlainForm HasPlainForm h k = refl
one_fault text a b h k = absurd (omega (arith, sym (same_case text a h) ∙ same_case text b k))

-- a text writes one label, which has one fault
one_label_fault : (rate : Rate) (text : List ℕ) (a b : TcFault)
    → (label : Label) × Writes rate text label × (label_fault rate label ≡ Some a)
    → (label : Label) × Writes rate text label × (label_fault rate label ≡ Some b)
    → a ≡ b
one_label_fault rate text a b (l, w, e) (m, v, f) =
    let same : l ≡ m = one_label rate l m w.0 v.0 (sym w.1 ∙ v.1) in
    let faults : Some a ≡ Some b = sym e ∙ ap (label_fault rate) same ∙ f in
    cc

-- so is a time code's
pub one_text_fault : (rate : Rate) (text : List ℕ) (a b : TcFault) → IsTextFault rate text a →
    IsTextFault rate text b → a ≡ b
one_text_fault rate text Shape Shape h k = refl
one_text_fault rate text Shape (OutOfRange g) h (m, v, f) = absurd (h m v)
one_text_fault rate text Shape Dropped h (m, v, f) = absurd (h m v)
one_text_fault rate text (OutOfRange g) Shape (l, w, e) k = absurd (k l w)
one_text_fault rate text Dropped Shape (l, w, e) k = absurd (k l w)
one_text_fault rate text (NotBcd p) b h k = absurd h
one_text_fault rate text a (NotBcd q) h k = absurd k
one_text_fault rate text (OutOfRange f) (OutOfRange g) h k = one_label_fault rate text (OutOfRange f) (OutOfRange g) h k
one_text_fault rate text (OutOfRange f) Dropped h k = one_label_fault rate text (OutOfRange f) Dropped h k
one_text_fault rate text Dropped (OutOfRange g) h k = one_label_fault rate text Dropped (OutOfRange g) h k
one_text_fault rate text Dropped Dropped h k = refl

own_digits : (timecode : Timecode) → has_two_digits (label_of timecode) ≡ true
own_digits timecode = lawful_two_digits (rate_of timecode) (label_of timecode) timecode.lawful

own_label : (timecode : Timecode) (fault : TcFault)
    → (label : Label) × Writes (rate_of timecode) (text_of timecode) label
    × (label_fault (rate_of timecode) label ≡ Some fault) → ⊥
own_label timecode fault (l, w, e) =
    let same : label_of timecode ≡ l =
    one_label (rate_of timecode) (label_of timecode) l (own_digits timecode) w.0 w.1 in
    let none : label_fault (rate_of timecode) (label_of timecode) ≡ None =
    no_fault (rate_of timecode) (label_of timecode) timecode.lawful in
    let faults : None ≡ Some fault = sym none ∙ ap (label_fault (rate_of timecode)) same ∙ e in
    cc

-- and a time code's own text is not refused
pub own_text : (timecode : Timecode) (fault : TcFault) → ¬ IsTextFault (rate_of timecode) (text_of timecode) fault
own_text timecode Shape h = h (label_of timecode) (own_digits timecode, refl)
own_text timecode (NotBcd place) h = h
own_text timecode (OutOfRange field) h = own_label timecode (OutOfRange field) h
own_text timecode Dropped h = own_label timecode Dropped h
