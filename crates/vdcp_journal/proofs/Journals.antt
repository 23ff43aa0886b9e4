-- A journal's text, its rows, and what is left of it if it is cut short.
use Rattle.csv.specs.Reading.{strip_bom}
use Rattle.csv.specs.Writing.{default_writer, escaped, fields_text as more_text, field_text, needs_quotes}
use Rattle.std.proofs.Common.{◌≡◌, ℕ, zero, suc, Bool, true, false, List, [], ◌∷◌, ◌++◌, map, take, refl, ap, ◌∙◌, arith}
use Rattle.std.proofs.Math.Bool.{and-eq-true_iff}
use Rattle.std.proofs.lemmas.Bool.Decides.{nat_tests}
use Rattle.std.specs.Prelude.{◌==◌, if◌then◌else◌, codes}
use Rattle.vdcp_auto.specs.declared.phase.Mode.{Mode}
use Rattle.vdcp_auto.specs.declared.phase.Mode.TheVariants.{Plain, Confirming}
use Rattle.vdcp_journal.proofs.CsvRows.{ArePlain, AreRows, are_lines, no_mark, rows-read}
use Rattle.vdcp_journal.proofs.FieldTexts.{IdTexts, encoded, note_plain, numeral}
use Rattle.vdcp_journal.proofs.Lines.{all-whole, beginning, both-false, has_feed, joined, or-left, or-right}
use Rattle.vdcp_journal.specs.Moments.{fits_place, has_form}
use Rattle.vdcp_journal.specs.Reading.{AreWritable, IsWritableHeading, whole_lines}
use Rattle.vdcp_journal.specs.Rows.{Fields, fields_text, heading_fields, journal_fields, journal_text, mode_text, row_fields, rows_text}
use Rattle.vdcp_journal.specs.Times.{moment_text}
use Rattle.vdcp_journal.specs.declared.moment.Moment.{Moment}
use Rattle.vdcp_journal.specs.declared.row.Heading.{Heading}
use Rattle.vdcp_journal.specs.declared.row.Row.{Row}
use Rattle.vdcp_list.specs.Rows.{rows_of}

-- ---- a moment's text has no line feed, and doesn't begin as a byte order mark does

place_plain : (place byte : ℕ) → (place == 10) ≡ false → fits_place place byte ≡ true → (byte == 10) ≡ false
place_plain place byte p e = grind (arith, nat_tests, p, e)

form_plain : (form text : List ℕ) → has_feed form ≡ false → has_form form text ≡ true → has_feed text ≡ false
form_plain [] [] p e = refl
form_plain [] (byte ∷ text) p e = cc e
form_plain (place ∷ form) [] p e = cc e
form_plain (place ∷ form) (byte ∷ text) p e =
    let h = (and-eq-true_iff (fits_place place byte) (has_form form text)).0 e in
    both-false (byte == 10) (has_feed text) (place_plain place byte (or-left (place == 10) (has_feed form) p) h.0)
    (form_plain form text (or-right (place == 10) (has_feed form) p) h.1)

pub moment_plain : (time : Moment) → has_feed (moment_text time) ≡ false
moment_plain time = form_plain (codes "0000-00-00T00:00:00.000Z") (moment_text time) refl time.formed

-- the text begins with a byte other than EFh
abbrev Unmarked : List ℕ → Type 0
Unmarked [] = ⊥
Unmarked (byte ∷ text) = (byte == 0xEF) ≡ false

digit_unmarked : (byte : ℕ) → fits_place 48 byte ≡ true → (byte == 0xEF) ≡ false
digit_unmarked byte e = grind (arith, nat_tests, e)

form_unmarked : (form text : List ℕ) → has_form (48 ∷ form) text ≡ true → Unmarked text
form_unmarked form [] e = cc e
form_unmarked form (byte ∷ text) e =
    digit_unmarked byte ((and-eq-true_iff (fits_place 48 byte) (has_form form text)).0 e).0

if_unmarked : (b : Bool) (quoted text more : List ℕ) → Unmarked text
    → Unmarked ((if b then 34 ∷ quoted else text) ++ more)
if_unmarked true quoted text more u = refl
if_unmarked false quoted [] more u = absurd u
if_unmarked false quoted (byte ∷ text) more u = u

append_unmarked : (a b : List ℕ) → Unmarked a → Unmarked (a ++ b)
append_unmarked [] b u = absurd u
append_unmarked (byte ∷ a) b u = u

row_unmarked : (field : List ℕ) (fields : Fields) → Unmarked field → Unmarked (fields_text (field ∷ fields))
row_unmarked field fields u =
    append_unmarked (field_text default_writer field ++ more_text default_writer fields) _
    (if_unmarked (needs_quotes default_writer field) (escaped default_writer field ++ 34 ∷ []) field
    (more_text default_writer fields) u)

time_unmarked : (time : Moment) (fields : Fields) (more : List ℕ)
    → Unmarked (fields_text (moment_text time ∷ fields) ++ more)
time_unmarked time fields more =
    append_unmarked (fields_text (moment_text time ∷ fields)) more
    (row_unmarked (moment_text time) fields (form_unmarked (codes "000-00-00T00:00:00.000Z") (moment_text time)
    time.formed))

no_bom : (text : List ℕ) → Unmarked text → strip_bom text ≡ text
no_bom [] u = absurd u
no_bom (byte ∷ text) u = no_mark byte text u

-- ---- the rows of a journal

mode_plain : (mode : Mode) → has_feed (mode_text mode) ≡ false
mode_plain Plain = refl
mode_plain Confirming = refl

heading_plain : (time : Moment) (heading : Heading) → IsWritableHeading heading → ArePlain (heading_fields time heading)
heading_plain time heading h = (
  moment_plain time,
  (
    refl,
    (
      encoded heading.digest,
      (
        mode_plain heading.mode,
        (
          numeral heading.unit (omega (arith, h.unit)),
          (numeral heading.port (omega (arith, h.port)), (numeral heading.limit (omega (arith, h.limit)), tt)),
        ),
      ),
    ),
  ),
)

rows_plain : IdTexts → (unit : ℕ) (rows : List Row) → AreWritable rows → AreRows (map (row_fields unit) rows)
rows_plain v unit [] h = tt
rows_plain v unit (row ∷ rows) h =
    ((moment_plain row.time, note_plain v unit row.note h.0), tt, rows_plain v unit rows h.1)

are_rows : IdTexts → (time : Moment) (heading : Heading) (rows : List Row) → IsWritableHeading heading
    → AreWritable rows
    → AreRows (journal_fields time heading rows)
are_rows v time heading rows h w = (heading_plain time heading h, tt, rows_plain v heading.unit rows w)

rows_joined : (unit : ℕ) (rows : List Row) → rows_text unit rows ≡ joined (map fields_text (map (row_fields unit) rows))
rows_joined unit [] = refl
rows_joined unit (row ∷ rows) = ap (λ l. fields_text (row_fields unit row) ++ l) (rows_joined unit rows)

text_joined : (time : Moment) (heading : Heading) (rows : List Row)
    → journal_text time heading rows ≡ joined (map fields_text (journal_fields time heading rows))
text_joined time heading rows = ap (λ l. fields_text (heading_fields time heading) ++ l) (rows_joined heading.unit rows)

-- a front of the rows, which reads as it was written

front_rows : (n : ℕ) (rows : List Fields) → AreRows rows → AreRows (take n rows)
front_rows zero rows h = tt
front_rows (suc n) [] h = tt
front_rows (suc n) (fields ∷ rows) h = (h.0, h.1, front_rows n rows h.2)

front_text : (n : ℕ) (rows : List Fields) → take n (map fields_text rows) ≡ map fields_text (take n rows)
front_text zero rows = refl
front_text (suc n) [] = refl
front_text (suc n) (fields ∷ rows) = ap (λ l. fields_text fields ∷ l) (front_text n rows)

front_read : (n : ℕ) (time : Moment) (first : Fields) (rows : List Fields) → AreRows ((moment_text time ∷ first) ∷ rows)
    → rows_of (joined (map fields_text (take n ((moment_text time ∷ first) ∷ rows))))
    ≡ take n ((moment_text time ∷ first) ∷ rows)
unfolding strip_bom
front_read zero time first rows h = rows-read [] tt refl
front_read (suc n) time first rows h =
    rows-read ((moment_text time ∷ first) ∷ take n rows) (h.0, h.1, front_rows n rows h.2)
    (no_bom _ (time_unmarked time first (joined (map fields_text (take n rows)))))

-- whatever is left of a journal that is cut short reads as a front of its rows
pub beginning_read : IdTexts → (time : Moment) (heading : Heading) (rows : List Row) (n : ℕ) → IsWritableHeading heading
    → AreWritable rows
    → (m : ℕ) × (rows_of (whole_lines (take n (journal_text time heading rows)))
    ≡ take m (journal_fields time heading rows))
beginning_read v time heading rows n h w =
    let all = journal_fields time heading rows in
    let rs = are_rows v time heading rows h w in
    let (m, is) = beginning (map fields_text all) (are_lines all rs) n in (
      m,
      ap (λ l. rows_of (whole_lines (take n l))) (text_joined time heading rows)
          ∙ ap rows_of (is ∙ ap joined (front_text m all))
          ∙ front_read m time _ (map (row_fields heading.unit) rows) rs,
    )

-- and the whole as all of them
pub whole_read : IdTexts → (time : Moment) (heading : Heading) (rows : List Row) → IsWritableHeading heading
    → AreWritable rows
    → rows_of (whole_lines (journal_text time heading rows)) ≡ journal_fields time heading rows
whole_read v time heading rows h w =
    let all = journal_fields time heading rows in
    let rs = are_rows v time heading rows h w in
    ap (λ l. rows_of (whole_lines l)) (text_joined time heading rows)
    ∙ ap rows_of (all-whole (map fields_text all) (are_lines all rs))
    ∙ rows-read all rs (no_bom _ (time_unmarked time _ (joined (map fields_text (map (row_fields heading.unit) rows)))))
