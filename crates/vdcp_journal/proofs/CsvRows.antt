-- Rows of fields as CSV: each is a line, and what is written is read.
use Rattle.csv.proofs.RoundTrip.{read-write}
use Rattle.csv.specs.Machine.{next_record}
use Rattle.csv.specs.Reading.{default_config, records_from, strip_bom}
use Rattle.csv.specs.Writing.{default_writer, escaped, field_text, fields_text as more_text, is_blank, needs_quotes, read_back, row_body}
use Rattle.csv.specs.declared.parser.State.TheVariants.{StartRecord}
use Rattle.std.proofs.Common.{◌≡◌, ℕ, ◌+◌, ◌<◌, ◌≤◌, zero, suc, Bool, true, false, List, [], ◌∷◌, ◌++◌, length, map, refl, sym, ap, ◌∙◌, append_assoc, arith}
use Rattle.std.proofs.lemmas.List.{length-append}
use Rattle.std.specs.Prelude.{◌==◌, if◌then◌else◌}
use Rattle.vdcp_journal.proofs.Lines.{AreLines, IsLine, both-false, feed-append, has_feed, joined, or-left, or-right}
use Rattle.vdcp_journal.specs.Rows.{Fields, fields_text}
use Rattle.vdcp_list.specs.Rows.{rows_from, rows_of}

-- no field has a line feed, and there is a field
abbrev pub ArePlain : Fields → Type 0
ArePlain [] = Unit {0}
ArePlain (field ∷ fields) = (has_feed field ≡ false) × ArePlain fields

abbrev pub HasField : Fields → Type 0
HasField [] = ⊥
HasField (field ∷ fields) = Unit {0}

abbrev pub AreRows : List Fields → Type 0
AreRows [] = Unit {0}
AreRows (fields ∷ rows) = ArePlain fields × HasField fields × AreRows rows

feed-if : (b : Bool) (xs ys : List ℕ) → has_feed xs ≡ false → has_feed ys ≡ false
    → has_feed (if b then xs else ys) ≡ false
feed-if true xs ys p q = p
feed-if false xs ys p q = q

feed-escaped : (xs : List ℕ) → has_feed xs ≡ false → has_feed (escaped default_writer xs) ≡ false
unfolding escaped
feed-escaped [] p = refl
feed-escaped (x ∷ xs) p =
    let rest : has_feed (x ∷ escaped default_writer xs) ≡ false =
    both-false (x == 10) (has_feed (escaped default_writer xs)) (or-left (x == 10) (has_feed xs) p)
    (feed-escaped xs (or-right (x == 10) (has_feed xs) p)) in
    feed-if (x == 34) (34 ∷ x ∷ escaped default_writer xs) (x ∷ escaped default_writer xs) rest rest

feed-field : (field : List ℕ) → has_feed field ≡ false → has_feed (field_text default_writer field) ≡ false
feed-field field p = feed-if (needs_quotes default_writer field) (34 ∷ (escaped default_writer field ++ 34 ∷ [])) field
    (feed-append (escaped default_writer field) (34 ∷ []) (feed-escaped field p) refl) p

feed-more : (fields : Fields) → ArePlain fields → has_feed (more_text default_writer fields) ≡ false
unfolding more_text
feed-more [] p = refl
feed-more (field ∷ fields) p =
    feed-append (field_text default_writer field) (more_text default_writer fields) (feed-field field p.0)
    (feed-more fields p.1)

feed-body : (fields : Fields) → ArePlain fields → has_feed (row_body default_writer fields) ≡ false
feed-body [] p = refl
feed-body (field ∷ fields) p =
    feed-append (field_text default_writer field) (more_text default_writer fields) (feed-field field p.0)
    (feed-more fields p.1)

-- a row is a line
pub is_line : (fields : Fields) → ArePlain fields → IsLine (fields_text fields)
is_line fields p =
    let blank : List ℕ = if is_blank default_writer fields then 34 ∷ 34 ∷ [] else [] in
    record {
      body = row_body default_writer fields ++ blank;
      plain = feed-append (row_body default_writer fields) blank (feed-body fields p)
          (feed-if (is_blank default_writer fields) (34 ∷ 34 ∷ []) [] refl refl);
      is = sym (append_assoc (row_body default_writer fields) blank (10 ∷ []));
    }

pub are_lines : (rows : List Fields) → AreRows rows → AreLines (map fields_text rows)
are_lines [] h = tt
are_lines (fields ∷ rows) h = (is_line fields h.0, are_lines rows h.2)

-- ---- reading

back-same : (fields : Fields) → HasField fields → read_back fields ≡ fields
back-same [] h = absurd h
back-same (field ∷ fields) h = refl

reads-all : (n : ℕ) (rows : List Fields) → length rows < n → AreRows rows
    → records_from default_config n StartRecord (joined (map fields_text rows)) ≡ rows
unfolding records_from next_record
reads-all zero rows below h = absurd (omega (arith, below))
reads-all (suc n) [] below h = refl
reads-all (suc n) (fields ∷ rows) below h =
    rw (read-write fields (joined (map fields_text rows)), back-same fields h.1)
    (ap (λ (t : List Fields). fields ∷ t) (reads-all n rows (omega (arith, below)) h.2))

line-size : (line : List ℕ) → IsLine line → 1 ≤ length line
line-size line h = omega (arith, ap length h.is ∙ length-append h.body (10 ∷ []))

few-rows : (rows : List Fields) → AreRows rows → length rows ≤ length (joined (map fields_text rows))
few-rows [] h = omega arith
few-rows (fields ∷ rows) h =
    omega (
      arith,
      line-size (fields_text fields) (is_line fields h.0),
      few-rows rows h.2,
      length-append
          (fields_text fields) (joined (map fields_text rows)),
    )

-- rows that are written are read, if they don't begin as a byte order mark does
pub rows-read : (rows : List Fields) → AreRows rows
    → strip_bom (joined (map fields_text rows)) ≡ joined (map fields_text rows)
    → rows_of (joined (map fields_text rows)) ≡ rows
rows-read rows h b =
    ap (rows_from StartRecord) b
    ∙ reads-all (length (joined (map fields_text rows)) + 1) rows (omega (arith, few-rows rows h)) h

pub no_mark : (byte : ℕ) (more : List ℕ) → (byte == 0xEF) ≡ false → strip_bom (byte ∷ more) ≡ byte ∷ more
unfolding strip_bom
no_mark byte [] e = refl
no_mark byte (b ∷ []) e = refl
no_mark byte (b ∷ c ∷ more) e = rw e refl
