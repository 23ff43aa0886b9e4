-- A text of eleven bytes writes one label.
use Rattle.std.proofs.Common.{ℕ, ◌+◌, ◌/◌, ◌%◌, ◌<◌, ◌≡◌, List, [], ◌∷◌, length, get_or, true, arith, refl, sym, ap, ◌∙◌}
use Rattle.vdcp_value.proofs.Bcd.{lawful_two_digits}
use Rattle.vdcp_value.proofs.Timecodes.{same_timecode}
use Rattle.vdcp_value.specs.LabelText.{two_digits, frames_mark, label_text, has_two_digits}
use Rattle.vdcp_value.specs.Timecodes.{rate_of, label_of, text_of}
use Rattle.vdcp_value.specs.declared.label.Label.{Label}
use Rattle.vdcp_value.specs.declared.rate.Rate.{Rate}
use Rattle.vdcp_value.specs.declared.timecode.Timecode.{Timecode}

-- a list of eleven is its elements
pub eleven : (xs : List ℕ) → length xs ≡ 11
    → xs
    ≡ get_or xs 0 0 ∷ get_or xs 1 0 ∷ get_or xs 2 0 ∷ get_or xs 3 0 ∷ get_or xs 4 0 ∷ get_or xs 5 0 ∷ get_or xs 6 0
    ∷ get_or xs 7 0 ∷ get_or xs 8 0 ∷ get_or xs 9 0 ∷ get_or xs 10 0 ∷ []
eleven (a ∷ b ∷ c ∷ d ∷ e ∷ f ∷ g ∷ h ∷ i ∷ j ∷ k ∷ []) len = refl
eleven xs len = absurd (omega arith)

-- eleven bytes that have the marks and the digits of a label are its text
pub spelled : (rate : Rate) (text : List ℕ) (label : Label) → length text ≡ 11
    → get_or text 2 0 ≡ 58 → get_or text 5 0 ≡ 58 → get_or text 8 0 ≡ frames_mark rate
    → two_digits label.hours ≡ get_or text 0 0 ∷ get_or text 1 0 ∷ []
    → two_digits label.minutes ≡ get_or text 3 0 ∷ get_or text 4 0 ∷ []
    → two_digits label.seconds ≡ get_or text 6 0 ∷ get_or text 7 0 ∷ []
    → two_digits label.frames ≡ get_or text 9 0 ∷ get_or text 10 0 ∷ []
    → text ≡ label_text rate label
spelled rate text label len first second mark hours minutes seconds frames =
    let e = eleven text len in
    cc

-- the digits of a number below a hundred are its own
one_number : (m n : ℕ) → m < 100 → n < 100 → 48 + m / 10 ≡ 48 + n / 10 → 48 + m % 10 ≡ 48 + n % 10 → m ≡ n
one_number m n below below' tens units = omega arith

-- texts that agree at a rate write one label
pub one_label : (rate : Rate) (a b : Label) → has_two_digits a ≡ true → has_two_digits b ≡ true
    → label_text rate a ≡ label_text rate b → a ≡ b
one_label rate a b p q e =
    let h : a.hours ≡ b.hours =
    one_number a.hours b.hours (grind (arith, p)) (grind (arith, q)) (ap (λ t. get_or t 0 0) e)
    (ap (λ t. get_or t 1 0) e) in
    let m : a.minutes ≡ b.minutes =
    one_number a.minutes b.minutes (grind (arith, p)) (grind (arith, q)) (ap (λ t. get_or t 3 0) e)
    (ap (λ t. get_or t 4 0) e) in
    let s : a.seconds ≡ b.seconds =
    one_number a.seconds b.seconds (grind (arith, p)) (grind (arith, q)) (ap (λ t. get_or t 6 0) e)
    (ap (λ t. get_or t 7 0) e) in
    let f : a.frames ≡ b.frames =
    one_number a.frames b.frames (grind (arith, p)) (grind (arith, q)) (ap (λ t. get_or t 9 0) e)
    (ap (λ t. get_or t 10 0) e) in
    λ i. record { hours = h i; minutes = m i; seconds = s i; frames = f i }

-- time codes of one rate and the same text are one time code
pub one_timecode_text : (a b : Timecode) → rate_of a ≡ rate_of b → text_of a ≡ text_of b → a ≡ b
one_timecode_text a b r e =
    let t : label_text (rate_of b) (label_of a) ≡ label_text (rate_of b) (label_of b) =
    ap (λ rate. label_text rate (label_of a)) (sym r) ∙ e in
    same_timecode a b r
    (one_label (rate_of b) (label_of a) (label_of b)
    (lawful_two_digits (rate_of a) (label_of a) a.lawful)
    (lawful_two_digits (rate_of b) (label_of b) b.lawful)
    t)
