-- Whether a field is an ID's text, a time code's, or with the next one a part's: it can be told by computing.
use Rattle.std.proofs.Common.{◌≡◌, ℕ, ◌+◌, ◌-◌, ◌*◌, ◌/◌, ◌%◌, ◌≤◌, Bool, true, false, List, [], ◌∷◌, refl, sym, ap, ap₂, subst, ◌∙◌, arith}
use Rattle.std.proofs.Common.{zero, suc, true≢false, inl, inr}
use Rattle.std.proofs.lemmas.Bool.Decides.{eqb_tells}
use Rattle.std.specs.Prelude.{◌≢◌, ◌⊎◌, eqb, Option, None, Some, slice_index}
use Rattle.vdcp_list.proofs.ItemRows.{no_frames, no_part, own_is_lawful, own_text, part_read, time_of}
use Rattle.vdcp_list.specs.Values.{FieldLaws, TextLaws, TimeLaws}
use Rattle.vdcp_list.specs.Playlists.{CanName, part_fields, time_text}
use Rattle.vdcp_value.specs.Bcd.{bcd_byte, bcd_of_label, is_time}
use Rattle.vdcp_value.specs.Bytes.{are_bytes}
use Rattle.vdcp_value.specs.IdText.{IsTextOf}
use Rattle.vdcp_value.specs.Ids.{id_bytes, id_of_text, text_of_id}
use Rattle.vdcp_value.specs.LabelText.{label_text}
use Rattle.vdcp_value.specs.Timecodes.{bcd_of, frames_of, label_of, rate_of, text_of}
use Rattle.vdcp_value.specs.declared.clip_id.ClipId.{ClipId}
use Rattle.vdcp_value.specs.declared.label.Label.{Label}
use Rattle.vdcp_value.specs.declared.part.Part.{Part}
use Rattle.vdcp_value.specs.declared.rate.Rate.{Rate}
use Rattle.vdcp_value.specs.declared.timecode.Timecode.{Timecode}

pub either : (b : Bool) → (b ≡ true) ⊎ (b ≡ false)
either true = inl refl
either false = inr refl

-- two texts are the same, or they aren't

abbrev IsSame : List ℕ → List ℕ → Type 0
IsSame a b = (a ≡ b) ⊎ (a ≡ b → ⊥)

heads : (x y : ℕ) (xs ys : List ℕ) → ◌≡◌ {A = List ℕ} (x ∷ xs) (y ∷ ys) → (x ≡ y) × (xs ≡ ys)
heads x y xs ys e = (cc, cc)

same_more : (x y : ℕ) (xs ys : List ℕ) → ((eqb x y ≡ true) × (x ≡ y)) ⊎ ((eqb x y ≡ false) × (x ≢ y)) → IsSame xs ys
    → IsSame (x ∷ xs) (y ∷ ys)
same_more x y xs ys (inr (f, n)) s = inr (λ e. n (heads x y xs ys e).0)
same_more x y xs ys (inl (t, e)) (inl s) = inl (ap₂ (λ (n : ℕ) (ns : List ℕ). n ∷ ns) e s)
same_more x y xs ys (inl (t, e)) (inr n) = inr (λ h. n (heads x y xs ys h).1)

pub same_text : (a b : List ℕ) → IsSame a b
same_text [] [] = inl refl
same_text [] (y ∷ ys) = inr (λ e. cc e)
same_text (x ∷ xs) [] = inr (λ e. cc e)
same_text (x ∷ xs) (y ∷ ys) = same_more x y xs ys (eqb_tells x y) (same_text xs ys)

-- a text is an ID's, or none's

abbrev pub IsIds : List ℕ → Type 0
IsIds text = ((id : ClipId) × (text ≡ text_of_id id)) ⊎ ((id : ClipId) → text ≢ text_of_id id)

pub id_or_none : TextLaws → (text : List ℕ) → IsIds text
id_or_none v text = by (same_text text (text_of_id (id_of_text text)))
  where
    by : IsSame text (text_of_id (id_of_text text)) → IsIds text
    by (inl e) = inl (id_of_text text, e)
    by (inr n) =
        inr (λ id e. n (e ∙ ap (λ (i : ClipId). text_of_id i)
        (sym (v.says id text (subst (λ t. IsTextOf t (id_bytes id)) (sym e) (v.some id))))))

-- a text is a time code's, or none's

abbrev digits : ℕ → ℕ → ℕ
digits tens units = 16 * (tens - 48) + (units - 48)

-- the bytes that the digits of a text say
bytes_in : List ℕ → List ℕ
bytes_in text =
    digits (slice_index text 9) (slice_index text 10) ∷ digits (slice_index text 6) (slice_index text 7)
    ∷ digits (slice_index text 3) (slice_index text 4) ∷ digits (slice_index text 0) (slice_index text 1) ∷ []

digits_are : (tens units : ℕ) → digits (48 + tens) (48 + units) ≡ 16 * tens + units
digits_are tens units = omega arith

digits_of : (n : ℕ) → digits (48 + n / 10) (48 + n % 10) ≡ bcd_byte n
digits_of n = digits_are (n / 10) (n % 10)

four : (a b c d p q r s : ℕ) → a ≡ p → b ≡ q → c ≡ r → d ≡ s
    → ◌≡◌ {A = List ℕ} (a ∷ b ∷ c ∷ d ∷ []) (p ∷ q ∷ r ∷ s ∷ [])
four a b c d p q r s e f g h = rw (e, f, g, h) refl

bytes_of_label : (rate : Rate) (label : Label) → bytes_in (label_text rate label) ≡ bcd_of_label label
unfolding bytes_in
bytes_of_label rate label =
    four _ _ _ _ _ _ _ _ (digits_of label.frames) (digits_of label.seconds) (digits_of label.minutes)
    (digits_of label.hours)

own_bytes : (time : Timecode) (text : List ℕ) → text ≡ text_of time → bytes_in text ≡ bcd_of time
own_bytes time text e = ap bytes_in e ∙ bytes_of_label (rate_of time) (label_of time)

abbrev pub IsTimes : Rate → List ℕ → Type 0
IsTimes rate text =
    ((time : Timecode) × (rate_of time ≡ rate) × (text ≡ text_of time))
    ⊎ ((time : Timecode) → rate_of time ≡ rate → text ≢ text_of time)

pub time_or_none : TimeLaws → (rate : Rate) (text : List ℕ) → IsTimes rate text
time_or_none v rate text = by (either (are_bytes 4 (bytes_in text))) (either (is_time rate (bytes_in text)))
    (same_text text (time_text rate (bytes_in text)))
  where
    by : ((are_bytes 4 (bytes_in text) ≡ true) ⊎ (are_bytes 4 (bytes_in text) ≡ false))
        → ((is_time rate (bytes_in text) ≡ true) ⊎ (is_time rate (bytes_in text) ≡ false))
        → IsSame text (time_text rate (bytes_in text)) → IsTimes rate text
    by (inl of_bytes) (inl lawful) (inl e) =
        let t = time_of v rate (bytes_in text) of_bytes lawful in inl (t.time, t.same_rate, e ∙ sym t.text)
    by (inl of_bytes) (inl lawful) (inr n) =
        inr (λ time r e. n (e ∙ sym (own_text v.label rate time r)
        ∙ ap (λ bytes. time_text rate bytes) (sym (own_bytes time text e))))
    by (inl of_bytes) (inr unlawful) s =
        inr (λ time r e. true≢false (sym (own_is_lawful v rate time r)
        ∙ ap (λ bytes. is_time rate bytes) (sym (own_bytes time text e)) ∙ unlawful))
    by (inr others) l s =
        inr (λ time r e. true≢false (sym (v.four time) ∙ ap (λ bytes. are_bytes 4 bytes) (sym (own_bytes time text e))
        ∙ others))

pub none_or_some : (n : ℕ) → (n ≡ 0) ⊎ (1 ≤ n)
none_or_some zero = inl refl
none_or_some (suc n) = inr (omega arith)

-- two texts are a part's, both empty for a whole clip, or none's

abbrev pub IsParts : Rate → List ℕ → List ℕ → Type 0
IsParts rate start duration =
    ((part : Option Part) × (part_fields rate part ≡ start ∷ duration ∷ []) × CanName rate true part)
    ⊎ ((part : Option Part) → CanName rate true part → part_fields rate part ≢ start ∷ duration ∷ [])

part_of : FieldLaws → (rate : Rate) (start duration : List ℕ) → (start ≡ [] → duration ≡ [] → ⊥) → IsTimes rate start
    → IsTimes rate duration
    → IsParts rate start duration
part_of v rate start duration some (inr n) d =
    inr (no_part v.times rate start duration some (λ s d rs rd ts td f. n s rs (sym ts)))
part_of v rate start duration some (inl s) (inr n) = inr
    (no_part v.times rate start duration some (λ s d rs rd ts td f. n d rd (sym td)))
part_of v rate start duration some (inl (s, rs, ts)) (inl (d, rd, td)) = by (none_or_some (frames_of d))
  where
    by : (frames_of d ≡ 0) ⊎ (1 ≤ frames_of d) → IsParts rate start duration
    by (inl none) =
        inr (no_part v.times rate start duration some
        (λ s' d' rs' rd' ts' td' f. no_frames v.one_time rate d d' duration rd td none rd' td' f))
    by (inr f) =
        let (fields, can) = part_read v.times rate s d (bcd_of s) (bcd_of d) start duration refl refl rs rd ts td f in
        inl (Some (record { start = bcd_of s; duration = bcd_of d }), fields, can)

pub part_or_none : FieldLaws → (rate : Rate) (start duration : List ℕ) → IsParts rate start duration
part_or_none v rate [] [] = inl (None, refl, tt)
part_or_none v rate [] (byte ∷ more) =
    part_of v rate [] (byte ∷ more) (λ s d. cc d) (time_or_none v.times rate [])
    (time_or_none v.times rate (byte ∷ more))
part_or_none v rate (byte ∷ more) duration =
    part_of v rate (byte ∷ more) duration (λ s d. cc s) (time_or_none v.times rate (byte ∷ more))
    (time_or_none v.times rate duration)
