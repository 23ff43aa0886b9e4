-- What becomes of a journal's file in which a killed run left something undone.
use Rattle.csv.specs.Writing.{default_writer, is_blank, row_body}
use Rattle.std.proofs.Common.{ℕ, ◌≡◌, ◌<◌, Bool, true, false, List, [], ◌∷◌, ◌++◌, append-nil, append_assoc, arith, length, length-append, ◌≤◌, nat_eq, take, refl, sym, ap, ap₂, ◌∙◌}
use Rattle.std.specs.Borrow.{Bor}
use Rattle.std.proofs.lemmas.Bool.{eqb-true}
use Rattle.std.proofs.lemmas.List.{length-take, take_all}
use Rattle.std.specs.Fmt.{option_append}
use Rattle.std.specs.Io.KnownBytes.{Appends, Keeps}
use Rattle.std.specs.List.{list_any}
use Rattle.std.specs.Prelude.{◌==◌, ◌||◌, IfSome, OnOk, None, Option, Some, Result, Ok, Err, if◌then◌else◌, option_map}
use Rattle.vdcp_auto.specs.Plan.{Plan, View, plan_of}
use Rattle.vdcp_auto.specs.Snapshots.{state_in, view_of}
use Rattle.vdcp_auto.specs.State.{State}
use Rattle.vdcp_auto.specs.Turn.{start}
use Rattle.vdcp_auto.specs.declared.exchange.Heard.{Heard}
use Rattle.vdcp_journal.specs.Mending.{mended, mended_at}
use Rattle.vdcp_journal.specs.Reading.{line_before, whole_lines}
use Rattle.vdcp_journal.specs.Resume.{after_rows}
use Rattle.vdcp_journal.specs.Rows.{Fields, fields_text, row_fields, rows_text}
use Rattle.vdcp_journal.specs.declared.row.Heading.{Heading}
use Rattle.vdcp_journal.specs.declared.row.Note.{Note}
use Rattle.vdcp_journal.specs.declared.row.Row.{Row}
use Rattle.vdcp_journal_file.proofs.Disking.{lines_in_front}
use Rattle.vdcp_journal_file.specs.Disks.{HasJust}
use Rattle.vdcp_journal_file.specs.Mending.{lines_of}
use Rattle.vdcp_journal_file.specs.Resuming.{Continues, plan_of_run}
use Rattle.vdcp_journal_file.specs.declared.reading.LastRun.{LastRun}
use Rattle.vdcp_journal_file.specs.Torn.{closed, may_air, torn_after}
use Rattle.vdcp_list.specs.Rests.{FromEvent, items_left}
use Rattle.vdcp_list.specs.Rows.{FileBytes}
use Rattle.vdcp_value.specs.declared.part.Item.{Item}

or_left : (a b : Bool) → (a || b) ≡ false → a ≡ false
or_left false b is = refl
or_left true b is = cc is

or_right : (a b : Bool) → (a || b) ≡ false → b ≡ false
or_right false b is = is
or_right true b is = cc is

-- without a line feed there is no whole line
pub no_line : (text : List ℕ) → list_any (λ byte. byte == 10) text ≡ false → whole_lines text ≡ []
no_line [] none = refl
no_line (byte ∷ more) none =
    ap (line_before byte) (no_line more (or_right (byte == 10) (list_any (λ b. b == 10) more) none))
    ∙ rw (or_left (byte == 10) (list_any (λ b. b == 10) more) none) refl

-- nor if none is lacking
pub no_closed : (text : List ℕ) → list_any (λ byte. byte == 10) text ≡ false → may_air (torn_after [] text) ≡ false
    → whole_lines (closed text) ≡ []
no_closed text none closes =
    ap (λ (b : Bool). whole_lines (text ++ (if b then 10 ∷ [] else []))) closes
    ∙ ap whole_lines (append-nil text) ∙ no_line text none

-- a file with so few bytes has those that were read
pub torn_so : (old : Option (List ℕ)) (text : List ℕ) (most : ℕ) → IfSome (option_map (take most) old) (λ xs. text ≡ [] ++ xs)
    → length text < most → whole_lines (closed text) ≡ [] → IfSome old (λ bytes. whole_lines (closed bytes) ≡ [])
torn_so None text most read few none = tt
torn_so (Some bytes) text most read few none =
    let all : take most bytes ≡ bytes =
    take_all most bytes (omega (arith, length-take most bytes, ap length read, few)) in
    ap (λ (l : List ℕ). whole_lines (closed l)) (sym all ∙ sym read) ∙ none

-- ---- rows behind whole lines

feed_before : (byte : ℕ) (lines : List ℕ) → (byte == 10) ≡ true → line_before byte lines ≡ byte ∷ lines
feed_before byte [] is = rw is refl
feed_before byte (next ∷ lines) is = refl

feed_or_none : (byte : ℕ) (more : List ℕ) (is_feed : Bool) → (byte == 10) ≡ is_feed
    → whole_lines ((if is_feed then byte ∷ [] else []) ++ more) ≡ (if is_feed then byte ∷ [] else []) ++ whole_lines more
feed_or_none byte more true is = feed_before byte (whole_lines more) is
feed_or_none byte more false is = refl

line_more : (byte : ℕ) (lines more : List ℕ) → whole_lines (lines ++ more) ≡ lines ++ whole_lines more
    → whole_lines (line_before byte lines ++ more) ≡ line_before byte lines ++ whole_lines more
line_more byte [] more is = feed_or_none byte more (byte == 10) refl
line_more byte (next ∷ lines) more is = ap (line_before byte) is

whole_more : (text more : List ℕ) → whole_lines (whole_lines text ++ more) ≡ whole_lines text ++ whole_lines more
whole_more [] more = refl
whole_more (byte ∷ text) more = line_more byte (whole_lines text) more (whole_more text more)

feed_last : (byte : ℕ) (body : List ℕ) → line_before byte (body ++ 10 ∷ []) ≡ byte ∷ (body ++ 10 ∷ [])
feed_last byte [] = refl
feed_last byte (next ∷ body) = refl

line_whole : (body : List ℕ) → whole_lines (body ++ 10 ∷ []) ≡ body ++ 10 ∷ []
line_whole [] = refl
line_whole (byte ∷ body) = ap (line_before byte) (line_whole body) ∙ feed_last byte body

-- ---- a torn last row that gets its line feed

few_whole : (text : List ℕ) → length (whole_lines text) ≤ length text
few_whole text = omega (arith, length-take (length (whole_lines text)) text, ap length (lines_in_front text))

none_so : (text : List ℕ) (lacks : Bool) (size written : ℕ)
    → size ≡ length (whole_lines (text ++ (if lacks then 10 ∷ [] else []))) → written ≡ length text → size ≤ written
    → text ≡ text ++ (if lacks then 10 ∷ [] else [])
none_so text true size written is all few =
    absurd (omega (arith, is, all, few, ap length (line_whole text), length-append text (10 ∷ [])))
none_so text false size written is all few = sym (append-nil text)

-- so many bytes are whole lines, with that line feed: no more than there are, then the file stays
pub none_lacks : (known : Option (List ℕ)) (size written : ℕ)
    → IfSome (option_map closed known) (λ bytes. size ≡ length (whole_lines bytes))
    → IfSome known (λ bytes. written ≡ length bytes) → size ≤ written → Keeps (option_map closed known) known
none_lacks None size written is all few = tt
none_lacks (Some text) size written is all few = none_so text (may_air (torn_after [] text)) size written is all few

one_so : (text next : List ℕ) (lacks : Bool) (size written : ℕ)
    → size ≡ length (whole_lines (text ++ (if lacks then 10 ∷ [] else []))) → written ≡ length text → written < size
    → next ≡ text ++ 10 ∷ [] → next ≡ text ++ (if lacks then 10 ∷ [] else [])
one_so text next true size written is all more wrote = wrote
one_so text next false size written is all more wrote =
    absurd (omega (arith, is, all, more, few_whole (text ++ []), ap length (append-nil text)))

-- more than there are, then it gets it
pub gets_it : (known new : Option (List ℕ)) (size written : ℕ)
    → IfSome (option_map closed known) (λ bytes. size ≡ length (whole_lines bytes))
    → IfSome known (λ bytes. written ≡ length bytes) → written < size → Appends known new (10 ∷ [])
    → Keeps (option_map closed known) new
gets_it None new size written is all more wrote = tt
gets_it (Some text) None size written is all more wrote = absurd wrote
gets_it (Some text) (Some next) size written is all more wrote =
    one_so text next (may_air (torn_after [] text)) size written is all more wrote

-- rows are whole lines

row_whole : (fields : Fields) → whole_lines (fields_text fields) ≡ fields_text fields
row_whole fields =
    let blank : List ℕ = if is_blank default_writer fields then 34 ∷ 34 ∷ [] else [] in
    let body : List ℕ = row_body default_writer fields ++ blank in
    let is : fields_text fields ≡ body ++ 10 ∷ [] = sym (append_assoc (row_body default_writer fields) blank (10 ∷ [])) in
    ap whole_lines is ∙ line_whole body ∙ sym is

rows_whole : (unit : ℕ) (rows : List Row) → whole_lines (rows_text unit rows) ≡ rows_text unit rows
rows_whole unit [] = refl
rows_whole unit (row ∷ rows) =
    let first : List ℕ = fields_text (row_fields unit row) in
    ap (λ (l : List ℕ). whole_lines (l ++ rows_text unit rows)) (sym (row_whole (row_fields unit row)))
    ∙ whole_more first (rows_text unit rows)
    ∙ ap₂ (λ (l m : List ℕ). l ++ m) (row_whole (row_fields unit row)) (rows_whole unit rows)

pub rows_so : (unit : ℕ) (rows : List Row) (text : List ℕ) → text ≡ rows_text unit rows → whole_lines text ≡ text
rows_so unit rows text is = ap whole_lines is ∙ rows_whole unit rows ∙ sym is

-- and behind whole lines they still are
pub lines_on : (known : Option (List ℕ)) (rows : List ℕ) → whole_lines rows ≡ rows
    → option_map whole_lines (option_append (lines_of known) (Some rows)) ≡ option_append (lines_of known) (Some rows)
lines_on None rows whole = refl
lines_on (Some text) rows whole =
    ap Some (whole_more (closed text) rows ∙ ap (λ (l : List ℕ). whole_lines (closed text) ++ l) whole)

pub none_more : (known : Option (List ℕ)) → option_append known (Some []) ≡ known
none_more None = refl
none_more (Some text) = ap Some (append-nil text)

pub adds_so : (known : Option (List ℕ)) (rows : List ℕ) → Appends known (option_append known (Some rows)) rows
adds_so None rows = tt
adds_so (Some text) rows = refl

just_so : (text bytes rows : List ℕ) (size : ℕ) (new : Option (List ℕ)) → bytes ≡ closed text
    → size ≡ length (whole_lines (closed text)) → Appends (Some (take size bytes)) new rows
    → Keeps (Some (whole_lines (closed text) ++ rows)) new
just_so text bytes rows size None same is wrote = absurd wrote
just_so text bytes rows size (Some next) same is wrote =
    wrote ∙ ap (λ (l : List ℕ). l ++ rows)
    (ap (λ (n : ℕ). take n bytes) is ∙ ap (λ (l : List ℕ). take (length (whole_lines (closed text))) l) same
    ∙ lines_in_front (closed text))

-- a file has just its whole lines, and these rows
pub has_just : {F : Type 0} (safe written : F → Option (List ℕ)) (old mid : Option (List ℕ)) (new : F) (size : ℕ)
    (rows : List ℕ) → Keeps (option_map closed old) mid
    → IfSome (option_map closed old) (λ bytes. size ≡ length (whole_lines bytes))
    → Appends (option_map (take size) mid) (written new) rows → safe new ≡ written new
    → HasJust safe written (option_append (lines_of old) (Some rows)) new
has_just safe written None mid new size rows keeps is wrote synced = record { has = tt; synced = synced }
has_just safe written (Some text) None new size rows keeps is wrote synced = absurd keeps
has_just safe written (Some text) (Some bytes) new size rows keeps is wrote synced =
    record { has = just_so text bytes rows size (written new) keeps is wrote; synced = synced }

pub has_just_if : {A E F : Type 0} (result : Result A E) (safe written : F → Option (List ℕ)) (old mid : Option (List ℕ))
    (new : F) (size : ℕ) (rows : List ℕ) → Keeps (option_map closed old) mid
    → IfSome (option_map closed old) (λ bytes. size ≡ length (whole_lines bytes))
    → OnOk result (Appends (option_map (take size) mid) (written new) rows) → OnOk result (safe new ≡ written new)
    → OnOk result (HasJust safe written (option_append (lines_of old) (Some rows)) new)
has_just_if (Ok x) safe written old mid new size rows keeps is wrote synced =
    has_just safe written old mid new size rows keeps is wrote synced
has_just_if (Err e) safe written old mid new size rows keeps is wrote synced = tt

pub same_so : (known : Option (List ℕ)) (rows : List ℕ) → nat_eq (length rows) 0 ≡ true
    → known ≡ option_append known (Some rows)
same_so known [] none = sym (none_more known)
same_so known (byte ∷ rows) none =
    let no : length (byte ∷ rows) ≡ 0 = eqb-true (length (byte ∷ rows)) 0 none in absurd (omega (arith, no))

-- ---- what is written behind the rows

pub mended_so : {S : Type 0} (items : Bor S → List Item) (wanted : Heading) (list : List Item) (lines : FileBytes) (r : LastRun S)
    → (c : Continues items wanted list lines r)
    → mended_at (plan_of (items_left items) (view_of r.controller.source r.stood)) (state_in r.stood) r.last_note r.heard
    ≡ mended (plan_of_run wanted list c.run) c.journal.rows c.run.rows
mended_so {S} items wanted list lines r c =
    let state : State = after_rows (plan_of_run wanted list c.run) start c.run.rows in
    ap (λ (v : View (FromEvent (Bor S))). mended_at (plan_of (items_left items) v) v.state r.last_note r.heard) c.has_stood.is
    ∙ ap (λ (p : Plan). mended_at p state r.last_note r.heard) c.on.resumes.plan_is
    ∙ ap₂ (λ (n : Option Note) (h : Option Heard). mended_at (plan_of_run wanted list c.run) state n h) c.noted_is c.heard_is
