-- The two fields of a row, and the rows of a file one after another.
use Rattle.csv.specs.Records.{field_at}
use Rattle.std.proofs.Common.{◌≡◌, ℕ, ◌+◌, ◌≤◌, ◌<◌, suc, true, false, List, [], ◌∷◌}
use Rattle.std.proofs.Common.{◌++◌, length, sym, ap, ap₂, subst, ◌∙◌, arith, append_assoc, append-nil, inl, inr, Bor}
use Rattle.std.proofs.lemmas.Grind.{flat_map-append}
use Rattle.std.proofs.lemmas.List.{length-append, length-map, map-append}
use Rattle.std.specs.Prelude.{IfNone, IfOk, Result, Ok, Err, Option, None, Some, codes, option_map, string_bytes}
use Rattle.vdcp_files.specs.Files.{file_failure}
use Rattle.vdcp_offline.specs.Vectors.{Finding, HasTooMany, IsTally, IsTallyOf, IsUntested, bad_count, columns, finding_of_row}
use Rattle.vdcp_offline.specs.Vectors.{finding_text, findings_of, findings_text, got, joined_text, hex, right}
use Rattle.vdcp_text.specs.Text.{message_text}
use Rattle.vdcp_offline.specs.RowLaws.{RowLaws}
use Rattle.vdcp_offline.specs.declared.vectors.Tally.{Tally}
use Rattle.vdcp_frame.specs.Message.{Content}
use Rattle.vdcp_list.specs.Reading.{IsFront, IsReadFault, TakesRow}
use Rattle.vdcp_list.specs.Rows.{AreRowsOf, FileRow, HasRows, most_rows, rows_of}
use Rattle.vdcp_list.specs.declared.faults.ListFault.TheVariants as lists
use Rattle.vdcp_list.specs.declared.faults.ListFault.{ListFault}
use Rattle.vdcp_value.specs.declared.faults.RowFault.TheVariants.{Long}
use Rattle.vdcp_text.specs.declared.failure.Failure.{Failure}

pub two_fields : (fields : List (List ℕ)) (first second : List ℕ) → length fields ≡ 2 → Some first ≡ field_at fields 0
    → Some second ≡ field_at fields 1
    → fields ≡ first ∷ second ∷ []
unfolding field_at
two_fields (x ∷ y ∷ []) first second two a b = let p : x ≡ first = cc a in let q : y ≡ second = cc b in
    ap₂ (λ i j. i ∷ j ∷ []) p q
two_fields other first second two a b = absurd (omega (arith, two))

pub has_first : (fields : List (List ℕ)) → length fields ≡ 2 → ◌≡◌ {A = Option (List ℕ)} None (field_at fields 0) → ⊥
unfolding field_at
has_first [] two a = absurd (omega (arith, two))
has_first (x ∷ rest) two a = cc a

pub has_second : (fields : List (List ℕ)) → length fields ≡ 2 → ◌≡◌ {A = Option (List ℕ)} None (field_at fields 1) → ⊥
unfolding field_at
has_second (x ∷ y ∷ rest) two a = cc a
has_second other two a = absurd (omega (arith, two))

pub if_none : {A P : Type 0} (o : Option A) → P → IfNone o P
if_none None p = p
if_none (Some x) p = tt

-- the line of one more row
findings_text-push : (k : ℕ) (findings : List Finding) (finding : Finding)
    → findings_text k (findings ++ finding ∷ [])
    ≡ findings_text k findings ++ finding_text (k + length findings) finding
findings_text-push k [] finding =
    let same : k + 0 ≡ k = omega arith in
    append-nil (finding_text k finding) ∙ ap (λ n. finding_text n finding) (sym same)
findings_text-push k (first ∷ findings) finding =
    let size : suc k + length findings ≡ k + suc (length findings) = omega arith in
    ap (λ text. finding_text k first ++ text) (findings_text-push (suc k) findings finding
    ∙ ap (λ n. findings_text (suc k) findings ++ finding_text n finding) size)
    ∙ sym (append_assoc (finding_text k first) (findings_text (suc k) findings)
    (finding_text (k + suc (length findings)) finding))

bad_count-push : (findings : List Finding) (finding : Finding)
    → bad_count (findings ++ finding ∷ []) ≡ bad_count findings + bad_count (finding ∷ [])
bad_count-push [] finding = omega arith
bad_count-push (right ∷ findings) finding = bad_count-push findings finding
bad_count-push (columns ∷ findings) finding = omega (arith, bad_count-push findings finding)
bad_count-push (hex ∷ findings) finding = omega (arith, bad_count-push findings finding)
bad_count-push (got reading ∷ findings) finding = omega (arith, bad_count-push findings finding)

bad_within : (findings : List Finding) → bad_count findings ≤ length findings
bad_within [] = omega arith
bad_within (right ∷ findings) = omega (arith, bad_within findings)
bad_within (columns ∷ findings) = omega (arith, bad_within findings)
bad_within (hex ∷ findings) = omega (arith, bad_within findings)
bad_within (got reading ∷ findings) = omega (arith, bad_within findings)

-- the rows read so far, and what they were found to be
pub record Tested (file : Option (List ℕ)) (left : Option (List FileRow)) (tally : Tally) : Type 0 where
  pub front : List FileRow
  pub is_front : IsFront (option_map rows_of file) left front
  pub few : length front ≤ most_rows
  pub tallied : IsTally (findings_of front) tally

pub tested_first : RowLaws → (file : Option (List ℕ)) (left : Option (List FileRow)) (tally : Tally)
    → left ≡ option_map rows_of file → IsTally [] tally
    → Tested file left tally
tested_first v file left tally e t =
    record { front = []; is_front = rw e (v.none (option_map rows_of file)); few = omega arith; tallied = t }

-- a tally counts no more bad rows than rows, and no more of these than there may be
pub counted : (file : Option (List ℕ)) (left : Option (List FileRow)) (tally : Tally) → Tested file left tally
    → (tally.bad ≤ tally.rows) × (tally.rows ≤ most_rows)
counted file left tally h = (
  omega (arith, h.tallied.rows_are, h.tallied.bad_are, bad_within (findings_of h.front)),
  omega (arith, h.tallied.rows_are, length-map h.front finding_of_row, h.few),
)

pub counts_one : (file : Option (List ℕ)) (left : Option (List FileRow)) (tally tally' : Tally) (finding : Finding)
    → Tested file left tally
    → ((findings : List Finding) → IsTally findings tally → IsTally (findings ++ finding ∷ []) tally')
    → tally'.rows ≡ tally.rows + 1
counts_one file left tally tally' finding h add =
    omega (
      arith,
      h.tallied.rows_are,
      (add (findings_of h.front) h.tallied).rows_are,
      length-append (findings_of h.front) (finding ∷ []),
    )

pub tested_next : RowLaws
    → (file : Option (List ℕ)) (left left' : Option (List FileRow)) (tally tally' : Tally) (row : FileRow)
    (finding : Finding)
    → Tested file left tally → TakesRow left left' true row → tally.rows < most_rows → finding ≡ finding_of_row row
    → ((findings : List Finding) → IsTally findings tally → IsTally (findings ++ finding ∷ []) tally')
    → Tested file left' tally'
tested_next v file left left' tally tally' row finding h t room found add = record {
  front = h.front ++ row ∷ [];
  is_front = v.more (option_map rows_of file) left left' h.front row h.is_front t;
  few = omega (arith, length-append h.front (row ∷ []), h.tallied.rows_are, length-map h.front finding_of_row, room);
  tallied =
      subst (λ findings. IsTally findings tally')
      (ap (λ f. findings_of h.front ++ f ∷ []) found ∙ sym (map-append finding_of_row h.front (row ∷ [])))
      (add (findings_of h.front) h.tallied);
}

pub tested_all : RowLaws
    → (file : Option (List ℕ)) (left left' : Option (List FileRow)) (tally : Tally) (row : FileRow)
    → Tested file left tally
    → TakesRow left left' false row → IsTallyOf file tally
tested_all v file left left' tally row h t = record {
  rows = h.front;
  are_rows = v.all file left left' h.front row h.is_front t;
  few = h.few;
  tallied = h.tallied;
}

pub tested_too_many : RowLaws
    → (file : Option (List ℕ)) (left left' : Option (List FileRow)) (tally : Tally) (row : FileRow)
    → Tested file left tally
    → TakesRow left left' true row → tally.rows ≡ most_rows → HasTooMany file
tested_too_many v file left left' tally row h t full =
    let front = h.front ++ row ∷ [] in
    let (rows, are, (rest, e)) =
    v.begins file left' front (v.more (option_map rows_of file) left left' h.front row h.is_front t) in
    let many : most_rows < length rows =
    omega (
      arith,
      ap length e,
      length-append front rest,
      length-append h.front (row ∷ []),
      h.tallied.rows_are,
      length-map h.front finding_of_row,
      full,
    )
    in (rows, are, many)

-- one more row and its line
pub tally_push : (findings : List Finding) (finding : Finding) (tally tally' : Tally) → IsTally findings tally
    → tally'.rows ≡ tally.rows + 1 → tally'.bad ≡ tally.bad + bad_count (finding ∷ [])
    → string_bytes tally'.lines ≡ string_bytes tally.lines ++ finding_text (tally.rows + 1) finding
    → IsTally (findings ++ finding ∷ []) tally'
tally_push findings finding tally tally' h rows bad lines =
    let place : tally.rows + 1 ≡ 1 + length findings = omega (arith, h.rows_are) in
    record {
      rows_are = omega (arith, rows, h.rows_are, length-append findings (finding ∷ []));
      bad_are = bad ∙ ap (λ n. n + bad_count (finding ∷ [])) h.bad_are ∙ sym (bad_count-push findings finding);
      lines_are =
          lines ∙ ap₂ (λ before n. before ++ finding_text n finding) h.lines_are place
          ∙ sym (findings_text-push 1 findings finding);
    }

pub if_ok : {T E : Type 0} (P : T → Type 0) (r : Result T E) (x : T) → IfOk r P → r ≡ Ok x → P x
if_ok P (Ok y) x h e = let same : y ≡ x = cc e in subst P same h
if_ok P (Err f) x h e = cc e

-- the line of the next message
pub joined_text-push : (ms : List Content) (m : Content)
    → joined_text (ms ++ m ∷ []) ≡ joined_text ms ++ (message_text m ++ codes "; ")
joined_text-push ms m =
    flat_map-append (λ m. message_text m ++ codes "; ") ms (m ∷ [])
    ∙ ap (λ text. joined_text ms ++ text) (append-nil (message_text m ++ codes "; "))

-- a row that couldn't be read
pub untested : (name : Bor (List ℕ)) (file : Option (List ℕ)) (fault : ListFault) (failure : Failure) → IsReadFault fault
    → failure ≡ file_failure name fault → IsUntested name file failure
untested name file (lists.Row row Long) failure h e = inr (inr (inl (row, e)))
untested name file (lists.Row row wrong) failure h e = absurd h
untested name file lists.Memory failure h e = inl e
untested name file lists.Read failure h e = inr (inl e)
