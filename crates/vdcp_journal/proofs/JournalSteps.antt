-- The rows of a journal, read one after another.
use Rattle.std.proofs.Common.{◌≡◌, ℕ, ◌+◌, true, List, [], ◌∷◌, ◌++◌, length, take, refl, sym, ap, subst, ◌∙◌, append_assoc}
use Rattle.std.proofs.lemmas.List.{map-append}
use Rattle.std.specs.Prelude.{Option, Some, option_map, slice_get}
use Rattle.vdcp_journal.specs.Journals.{AreLinesOf, IsHeading, IsHeadingFault, IsLinesFault, IsRow, IsRowFault}
use Rattle.vdcp_journal.specs.Reading.{AreWritable, IsWritableNote}
use Rattle.vdcp_journal.specs.Rows.{Fields, heading_fields, journal_fields, row_fields}
use Rattle.vdcp_journal.specs.declared.faults.JournalReadFault.TheVariants.{Row as BadRow, Heading as BadHeading}
use Rattle.vdcp_journal.specs.declared.faults.JournalRowFault.{JournalRowFault}
use Rattle.vdcp_journal.specs.declared.moment.Moment.{Moment}
use Rattle.vdcp_journal.specs.declared.row.Heading.{Heading}
use Rattle.vdcp_journal.specs.declared.row.Row.{Row}
use Rattle.vdcp_list.specs.Reading.{IsFront, TakesRow}
use Rattle.vdcp_list.specs.Rows.{HasRows, rows_of}

abbrev pub Left : Type 0
Left = Option (List Fields)

-- what is known of reading rows in order
abbrev pub NoneRead : Type 0
NoneRead = (all : Left) → IsFront all all []

abbrev pub MoreRead : Type 0
MoreRead = (all left left' : Left) (front : List Fields) (row : Fields) → IsFront all left front
    → TakesRow left left' true row
    → IsFront all left' (front ++ row ∷ [])

abbrev pub BeginsRead : Type 0
BeginsRead = (file : Option (List ℕ)) (left : Left) (front : List Fields) → IsFront (option_map rows_of file) left front
    → HasRows file (λ rows. (more : List Fields) × (rows ≡ front ++ more))

-- ---- the lines that were read

pub first_read : NoneRead → MoreRead → (file : Option (List ℕ)) (left left' : Left) (line : Fields)
    → left ≡ option_map rows_of file → TakesRow left left' true line
    → IsFront (option_map rows_of file) left' (line ∷ [])
first_read none more file left left' line is t =
    more (option_map rows_of file) left left' [] line
    (subst (λ l. IsFront (option_map rows_of file) l []) (sym is) (none (option_map rows_of file))) t

pub heading_line : (line : Fields) (time : Moment) (heading : Heading) → IsHeading line time heading
    → AreLinesOf (line ∷ []) time heading []
heading_line line time heading h = record {
  writable_heading = h.writable;
  unit = h.unit;
  writable = tt;
  lines_are = ap (λ l. l ∷ []) (sym h.fields_are);
}

writable_more : (rows : List Row) (row : Row) → AreWritable rows → IsWritableNote row.note
    → AreWritable (rows ++ row ∷ [])
writable_more [] row h w = (w, tt)
writable_more (first ∷ rows) row h w = (h.0, writable_more rows row h.1 w)

pub line_more : (lines : List Fields) (line : Fields) (time : Moment) (heading : Heading) (rows : List Row) (row : Row)
    → AreLinesOf lines time heading rows → IsRow heading.unit line row
    → AreLinesOf (lines ++ line ∷ []) time heading (rows ++ row ∷ [])
line_more lines line time heading rows row h r = record {
  writable_heading = h.writable_heading;
  unit = h.unit;
  writable = writable_more rows row h.writable r.0;
  lines_are =
      ap (λ l. l ++ line ∷ []) h.lines_are
      ∙ ap (λ l. journal_fields time heading rows ++ l ∷ []) (sym r.1)
      ∙ ap (λ l. heading_fields time heading ∷ l) (sym (map-append (row_fields heading.unit) rows (row ∷ [])));
}

-- ---- faults

-- whatever the rows are
pub whatever : NoneRead → BeginsRead → (file : Option (List ℕ)) (P : List Fields → Type 0)
    → ((lines : List Fields) → P lines) → HasRows file P
whatever none begins file P h =
    let (rows, of, some) = begins file (option_map rows_of file) [] (none (option_map rows_of file)) in
    (rows, of, h rows)

-- the row after those read

record After (front rows : List Fields) (row : Fields) : Type 0 where
  pub here : slice_get rows (length front) ≡ Some row
  pub before : take (length front) rows ≡ front

after_front : (front more : List Fields) (row : Fields) → After front (front ++ row ∷ more) row
after_front [] more row = record { here = refl; before = refl }
after_front (first ∷ front) more row =
    let h = after_front front more row in
    record { here = h.here; before = ap (λ rs. first ∷ rs) h.before }

after_of : (front more rows : List Fields) (row : Fields) → rows ≡ (front ++ row ∷ []) ++ more → After front rows row
after_of front more rows row e = rw (e ∙ append_assoc front (row ∷ []) more) (after_front front more row)

pub bad_heading : NoneRead → MoreRead → BeginsRead → (file : Option (List ℕ)) (left left' : Left) (line : Fields)
    (fault : JournalRowFault)
    → left ≡ option_map rows_of file → TakesRow left left' true line → IsHeadingFault line fault
    → HasRows file (λ lines. IsLinesFault lines (BadHeading fault))
bad_heading none more begins file left left' line fault is t wrong =
    let (rows, of, (others, e)) = begins file left' (line ∷ []) (first_read none more file left left' line is t) in
    (rows, of, (line, (after_of [] others rows line e).here, wrong))

pub bad_row : MoreRead → BeginsRead → (file : Option (List ℕ)) (left left' : Left) (lines : List Fields) (line : Fields)
    (number : ℕ) (time : Moment) (heading : Heading) (rows : List Row) (fault : JournalRowFault)
    → IsFront (option_map rows_of file) left lines → AreLinesOf lines time heading rows → number ≡ length lines + 1
    → TakesRow left left' true line → IsRowFault heading.unit line fault
    → HasRows file (λ all. IsLinesFault all (BadRow number fault))
bad_row more begins file left left' lines line number time heading rows fault front are counted t wrong =
    let (all, of, (others, e)) = begins file left' (lines ++ line ∷ [])
    (more (option_map rows_of file) left left' lines line front t) in
    let a = after_of lines others all line e in (
      all,
      of,
      (
        length lines,
        counted,
        record {
          time = time;
          heading = heading;
          rows = rows;
          before = subst (λ l. AreLinesOf l time heading rows) (sym a.before) are;
          fields = line;
          next = a.here;
          wrong = wrong;
        },
      ),
    )
