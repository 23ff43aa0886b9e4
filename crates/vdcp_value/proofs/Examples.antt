-- Worked time codes, IDs and parts, a row each, computed from the definitions.
use Rattle.std.proofs.Common.{ℕ, ◌+◌, ◌≡◌, List, [], ◌∷◌, length, get_or, map, Some, refl, ap, ap₂, ◌∙◌, codes, lit<, lit≤, ◌&&◌, Bool, true, false, nat_le, arith}
use Rattle.std.specs.Prelude.{nat_eq}
use Rattle.std.specs.List.{list_all}
use Rattle.vdcp_value.proofs.Bcd.{lawful_is_time}
use Rattle.vdcp_value.proofs.FrameNumbers.{frame_number_is}
use Rattle.vdcp_value.proofs.Numbers.{number}
use Rattle.vdcp_value.specs.Bcd.{bcd_of_label, label_of_bcd, bcd_fault, label_fault, is_time}
use Rattle.vdcp_value.specs.Day.{frame_number}
use Rattle.vdcp_value.specs.IdText.{text_of_bytes, IsIdFault}
use Rattle.vdcp_value.specs.LabelText.{label_text, IsTextFault}
use Rattle.vdcp_value.specs.Labels.{is_lawful}
use Rattle.vdcp_value.specs.Parts.{part_fits}
use Rattle.vdcp_value.specs.declared.faults.Field.TheVariants.{Frames, Seconds, Minutes, Hours}
use Rattle.vdcp_value.specs.declared.faults.IdFault.TheVariants.{Empty, TooLong, BadByte, EdgeSpace, BadHex, HasPlainForm}
use Rattle.vdcp_value.specs.declared.faults.TcFault.{TcFault}
use Rattle.vdcp_value.specs.declared.faults.TcFault.TheVariants.{NotBcd, OutOfRange, Dropped, Shape}
use Rattle.vdcp_value.specs.declared.label.Label.{Label}
use Rattle.vdcp_value.specs.declared.part.Part.{Part}
use Rattle.vdcp_value.specs.declared.rate.Rate.{Rate}
use Rattle.vdcp_value.specs.declared.rate.Rate.TheVariants.{F24, F25, F30, D30}
use Rattle.vdcp_value.specs.declared.timecode.Timecode.{Timecode}

-- hh, mm, ss, ff
abbrev hms : ℕ → ℕ → ℕ → ℕ → Label
hms h m s f = record { hours = h; minutes = m; seconds = s; frames = f }

-- ---- time codes

-- the published ones: rate and label, text, frame number, bytes
abbrev time_codes : List (Rate × Label × List ℕ × ℕ × List ℕ)
time_codes =
    (F24, hms 0 0 1 0, codes "00:00:01:00", 24, 0x00 ∷ 0x01 ∷ 0x00 ∷ 0x00 ∷ []) ∷
    (F25, hms 0 0 10 0, codes "00:00:10:00", 250, 0x00 ∷ 0x10 ∷ 0x00 ∷ 0x00 ∷ []) ∷
    (F25, hms 23 59 59 24, codes "23:59:59:24", 2_159_999, 0x24 ∷ 0x59 ∷ 0x59 ∷ 0x23 ∷ []) ∷
    (F30, hms 0 1 0 0, codes "00:01:00:00", 1_800, 0x00 ∷ 0x00 ∷ 0x01 ∷ 0x00 ∷ []) ∷
    (D30, hms 0 0 59 29, codes "00:00:59;29", 1_799, 0x29 ∷ 0x59 ∷ 0x00 ∷ 0x00 ∷ []) ∷
    (D30, hms 0 1 0 2, codes "00:01:00;02", 1_800, 0x02 ∷ 0x00 ∷ 0x01 ∷ 0x00 ∷ []) ∷
    (D30, hms 0 10 0 0, codes "00:10:00;00", 17_982, 0x00 ∷ 0x00 ∷ 0x10 ∷ 0x00 ∷ []) ∷
    (D30, hms 23 59 59 29, codes "23:59:59;29", 2_589_407, 0x29 ∷ 0x59 ∷ 0x59 ∷ 0x23 ∷ []) ∷ []

time_codes_are_shown : map (λ row. label_text row.0 row.1) time_codes ≡ map (λ row. row.2) time_codes
time_codes_are_shown = refl

time_codes_are_packed : map (λ row. bcd_of_label row.1) time_codes ≡ map (λ row. row.4) time_codes
time_codes_are_packed = refl

-- a row's label is lawful, and the formula gives its frame number
abbrev is_numbered : Rate × Label × List ℕ × ℕ × List ℕ → Bool
is_numbered row = is_lawful row.0 row.1 && nat_eq (number row.0 row.1) row.3

-- so then does the list of the day
numbered : (rows : List (Rate × Label × List ℕ × ℕ × List ℕ)) → list_all is_numbered rows ≡ true →
    map (λ row. frame_number row.0 row.1) rows ≡ map (λ row. row.3) rows
numbered [] e = refl
numbered (row ∷ rows) e =
    let lawful : is_lawful row.0 row.1 ≡ true = grind (arith, e) in
    let given : number row.0 row.1 ≡ row.3 = grind (arith, e) in
    let others : list_all is_numbered rows ≡ true = grind (arith, e) in
    ap₂ (λ n ns. n ∷ ns) (frame_number_is row.0 row.1 lawful ∙ given) (numbered rows others)

time_codes_are_numbered : map (λ row. frame_number row.0 row.1) time_codes ≡ map (λ row. row.3) time_codes
time_codes_are_numbered = numbered time_codes refl

-- ---- refused time codes

-- bytes, and the first fault that they have
abbrev refused_bytes : List (Rate × List ℕ × TcFault)
refused_bytes =
    (F25, 0x0A ∷ 0x6A ∷ 0x00 ∷ 0x00 ∷ [], NotBcd 1) ∷
    (F25, 0x25 ∷ 0x6A ∷ 0x00 ∷ 0x00 ∷ [], NotBcd 2) ∷
    (F25, 0x24 ∷ 0x00 ∷ 0xA0 ∷ 0x0B ∷ [], NotBcd 3) ∷
    (F25, 0x24 ∷ 0x00 ∷ 0x00 ∷ 0x0B ∷ [], NotBcd 4) ∷
    (F25, 0x25 ∷ 0x00 ∷ 0x00 ∷ 0x00 ∷ [], OutOfRange Frames) ∷
    (F24, 0x24 ∷ 0x60 ∷ 0x60 ∷ 0x24 ∷ [], OutOfRange Frames) ∷
    (F25, 0x24 ∷ 0x60 ∷ 0x60 ∷ 0x24 ∷ [], OutOfRange Seconds) ∷
    (F30, 0x29 ∷ 0x59 ∷ 0x60 ∷ 0x24 ∷ [], OutOfRange Minutes) ∷
    (F30, 0x29 ∷ 0x59 ∷ 0x59 ∷ 0x24 ∷ [], OutOfRange Hours) ∷
    (D30, 0x01 ∷ 0x00 ∷ 0x01 ∷ 0x24 ∷ [], OutOfRange Hours) ∷
    (D30, 0x00 ∷ 0x00 ∷ 0x01 ∷ 0x00 ∷ [], Dropped) ∷
    (D30, 0x01 ∷ 0x00 ∷ 0x59 ∷ 0x23 ∷ [], Dropped) ∷ []

bytes_are_refused : map (λ row. bcd_fault row.0 row.1) refused_bytes ≡ map (λ row. Some row.2) refused_bytes
bytes_are_refused = refl

-- labels that a text writes, and the first fault that they have
abbrev refused_labels : List (Rate × Label × List ℕ × TcFault)
refused_labels =
    (F25, hms 0 0 0 25, codes "00:00:00:25", OutOfRange Frames) ∷
    (F25, hms 24 60 60 24, codes "24:60:60:24", OutOfRange Seconds) ∷
    (F25, hms 24 60 59 24, codes "24:60:59:24", OutOfRange Minutes) ∷
    (F25, hms 24 59 59 24, codes "24:59:59:24", OutOfRange Hours) ∷
    (D30, hms 0 1 0 0, codes "00:01:00;00", Dropped) ∷
    (D30, hms 23 59 0 1, codes "23:59:00;01", Dropped) ∷ []

refused_labels_are_written : map (λ row. label_text row.0 row.1) refused_labels ≡ map (λ row. row.2) refused_labels
refused_labels_are_written = refl

labels_are_refused : map (λ row. label_fault row.0 row.1) refused_labels ≡ map (λ row. Some row.3) refused_labels
labels_are_refused = refl

-- texts that write no label: of another length, with the other mark, or with a letter
no_text : IsTextFault F25 (codes "") Shape
no_text label written = omega (arith, ap length written.1)

short_of_a_digit : IsTextFault F25 (codes "00:00:10:0") Shape
short_of_a_digit label written = omega (arith, ap length written.1)

a_digit_too_many : IsTextFault F25 (codes "00:00:10:000") Shape
a_digit_too_many label written = omega (arith, ap length written.1)

semicolon_without_drop_frame : IsTextFault F25 (codes "00:00:10;00") Shape
semicolon_without_drop_frame label written = omega (arith, ap (λ text. get_or text 8 0) written.1)

colon_at_drop_frame : IsTextFault D30 (codes "00:00:10:00") Shape
colon_at_drop_frame label written = omega (arith, ap (λ text. get_or text 8 0) written.1)

letter_for_a_digit : IsTextFault F25 (codes "00:0a:10:00") Shape
letter_for_a_digit label written = omega (arith, ap (λ text. get_or text 4 0) written.1)

digit_for_a_colon : IsTextFault F25 (codes "0:00:10:000") Shape
digit_for_a_colon label written = omega (arith, ap (λ text. get_or text 1 0) written.1)

-- ---- IDs

-- bytes and their text
abbrev ids : List (List ℕ × List ℕ)
ids =
    (codes "CLIP0001", codes "CLIP0001") ∷
    (codes "A,B     ", codes "A,B") ∷
    (codes "        ", codes "0x2020202020202020") ∷
    (0x00 ∷ 0x01 ∷ 0x02 ∷ 0x7F ∷ 0x80 ∷ 0xAB ∷ 0xFF ∷ 0x20 ∷ [], codes "0x0001027f80abff20") ∷ []

ids_are_shown : map (λ row. text_of_bytes row.0) ids ≡ map (λ row. row.1) ids
ids_are_shown = refl

-- refused texts
empty : IsIdFault (codes "") Empty
empty = refl

too_long : IsIdFault (codes "CLIP00001") TooLong
too_long = (refl, lit< tt)

bad_byte : IsIdFault (0x41 ∷ 0x09 ∷ 0x42 ∷ []) (BadByte 2)
bad_byte = (lit≤ tt, lit≤ tt, lit≤ tt, refl, refl)

edge_space : IsIdFault (codes " A") EdgeSpace
edge_space = (lit≤ tt, lit≤ tt, refl, refl)

has_plain_form : IsIdFault (codes "0x434c495030303031") HasPlainForm
has_plain_form = (codes "CLIP0001", refl, refl, (codes "CLIP0001", (refl, refl)))

bad_hex : IsIdFault (codes "0x434C495030303031") BadHex
bad_hex = (refl, refl)

-- ---- parts

abbrev ten_seconds : Timecode
ten_seconds = record { rate = F25; label = hms 0 0 10 0; lawful = refl }

-- of a clip of ten seconds at 25: start, duration, and whether the part fits
abbrev parts : List (List ℕ × List ℕ × Bool)
parts =
    -- 50 + 75, 175 + 75 and 200 + 75 frames of 250
    (0x00 ∷ 0x02 ∷ 0x00 ∷ 0x00 ∷ [], 0x00 ∷ 0x03 ∷ 0x00 ∷ 0x00 ∷ [], true) ∷
    (0x00 ∷ 0x07 ∷ 0x00 ∷ 0x00 ∷ [], 0x00 ∷ 0x03 ∷ 0x00 ∷ 0x00 ∷ [], true) ∷
    (0x00 ∷ 0x08 ∷ 0x00 ∷ 0x00 ∷ [], 0x00 ∷ 0x03 ∷ 0x00 ∷ 0x00 ∷ [], false) ∷
    -- no frame, and labels that 25 frames a second don't have
    (0x00 ∷ 0x02 ∷ 0x00 ∷ 0x00 ∷ [], 0x00 ∷ 0x00 ∷ 0x00 ∷ 0x00 ∷ [], false) ∷
    (0x25 ∷ 0x02 ∷ 0x00 ∷ 0x00 ∷ [], 0x00 ∷ 0x03 ∷ 0x00 ∷ 0x00 ∷ [], false) ∷
    (0x00 ∷ 0x02 ∷ 0x00 ∷ 0x00 ∷ [], 0x00 ∷ 0x60 ∷ 0x00 ∷ 0x00 ∷ [], false) ∷ []

-- whether a part fits, by the formula for frame numbers
abbrev fits_by_formula : Part → Timecode → Bool
fits_by_formula part clip =
    is_time clip.rate part.start && is_time clip.rate part.duration
    && nat_le 1 (number clip.rate (label_of_bcd part.duration))
    && nat_le (number clip.rate (label_of_bcd part.start) + number clip.rate (label_of_bcd part.duration))
    (number clip.rate clip.label)

same_where_both : (a b some some' within within' : Bool) → (a ≡ true → b ≡ true → (some ≡ some') × (within ≡ within')) →
    (a && b && some && within) ≡ (a && b && some' && within')
same_where_both true true some some' within within' h = ap₂ (λ p q. p && q) (h refl refl).0 (h refl refl).1
same_where_both true false some some' within within' h = refl
same_where_both false b some some' within within' h = refl

fits-by_formula : (part : Part) (clip : Timecode) → part_fits part clip ≡ fits_by_formula part clip
unfolding part_fits
fits-by_formula part clip =
    same_where_both (is_time clip.rate part.start) (is_time clip.rate part.duration) _ _ _ _ (λ start duration.
    let s = frame_number_is clip.rate (label_of_bcd part.start) (lawful_is_time clip.rate part.start start) in
    let d = frame_number_is clip.rate (label_of_bcd part.duration) (lawful_is_time clip.rate part.duration duration) in
    let c = frame_number_is clip.rate clip.label clip.lawful in
    (ap (nat_le 1) d, ap₂ nat_le (ap₂ (λ m n. m + n) s d) c))

abbrev part_of : List ℕ × List ℕ × Bool → Part
part_of row = record { start = row.0; duration = row.1 }

judged : (rows : List (List ℕ × List ℕ × Bool)) →
    map (λ row. part_fits (part_of row) ten_seconds) rows ≡ map (λ row. fits_by_formula (part_of row) ten_seconds) rows
judged [] = refl
judged (row ∷ rows) = ap₂ (λ b bs. b ∷ bs) (fits-by_formula (part_of row) ten_seconds) (judged rows)

parts_fit_or_not : map (λ row. part_fits (part_of row) ten_seconds) parts ≡ map (λ row. row.2) parts
parts_fit_or_not = judged parts
