-- The first line of a text, and what follows it.
use Rattle.std.proofs.Common.{◌≡◌, ◌⊎◌, ℕ, suc, ◌-◌, ◌<◌, Bool, true, false, cond, List, [], ◌∷◌, ◌++◌, All, length, ne_eqb, take, inl, inr, refl, sym, ap, subst, ◌∙◌, arith}
use Rattle.std.proofs.Math.Seq.{get_or-append_seam, take-append_seam}
use Rattle.std.proofs.lemmas.Bool.{eqb-true, lt-ltb}
use Rattle.std.proofs.lemmas.List.{length-append}
use Rattle.std.proofs.lemmas.List.Elements.{All-cons, All-head, All-nil, All-tail}
use Rattle.std.proofs.lemmas.List.Splits.{length-slice_split, slice_split_at, slice_split_none}
use Rattle.std.specs.Io.BufRead.{DropsThrough, drop_through, ends_with_byte, first_line, strip_last, take_through}
use Rattle.std.specs.List.{slice_split}
use Rattle.std.specs.Prelude.{IfSome, None, Option, Some, String, nat_lt, slice_index, string_bytes, ◌&&◌, ◌==◌}
use Rattle.std.specs.Str.Lines.{lines, lines_of_parts, strip_carriage_return}
use Rattle.vdcp_files.specs.Lines.{TakesLine}

-- no line feed
abbrev Other : ℕ → Type 0
Other x = (x == 10) ≡ false

abbrev is_feed : ℕ → Bool
is_feed x = x == 10

-- a text has no line feed, or this stands before its first one, and that follows
abbrev Cut : List ℕ → Type 0
Cut xs = All Other xs ⊎ ((front rest : List ℕ) × All Other front × (xs ≡ front ++ 10 ∷ rest))

cut_at : (x : ℕ) (xs : List ℕ) (b : Bool) → (x == 10) ≡ b → Cut xs → Cut (x ∷ xs)
cut_at x xs true is others =
    inr ([], xs, All-nil Other, ap (λ y. y ∷ xs) (eqb-true x 10 is))
cut_at x xs false is (inl all) = inl (All-cons Other x xs is all)
cut_at x xs false is (inr p) = inr (x ∷ p.0, p.1, All-cons Other x p.0 is p.2, ap (λ l. x ∷ l) p.3)

cut_of : (xs : List ℕ) → Cut xs
cut_of [] = inl (All-nil Other)
cut_of (x ∷ xs) = cut_at x xs (x == 10) refl (cut_of xs)

take_none : (xs : List ℕ) → All Other xs → take_through 10 xs ≡ xs
take_none [] all = refl
take_none (x ∷ xs) all =
    ap (λ b. cond b (x ∷ []) (x ∷ take_through 10 xs)) (All-head Other x xs all)
    ∙ ap (λ l. x ∷ l) (take_none xs (All-tail Other x xs all))

drop_none : (xs : List ℕ) → All Other xs → drop_through 10 xs ≡ []
drop_none [] all = refl
drop_none (x ∷ xs) all =
    ap (λ b. cond b xs (drop_through 10 xs)) (All-head Other x xs all) ∙ drop_none xs (All-tail Other x xs all)

take_at : (front rest : List ℕ) → All Other front → take_through 10 (front ++ 10 ∷ rest) ≡ front ++ 10 ∷ []
take_at [] rest all = refl
take_at (x ∷ front) rest all =
    ap (λ b. cond b (x ∷ []) (x ∷ take_through 10 (front ++ 10 ∷ rest))) (All-head Other x front all)
    ∙ ap (λ l. x ∷ l) (take_at front rest (All-tail Other x front all))

drop_at : (front rest : List ℕ) → All Other front → drop_through 10 (front ++ 10 ∷ rest) ≡ rest
drop_at [] rest all = refl
drop_at (x ∷ front) rest all =
    ap (λ b. cond b (front ++ 10 ∷ rest) (drop_through 10 (front ++ 10 ∷ rest))) (All-head Other x front all)
    ∙ drop_at front rest (All-tail Other x front all)

is_some : (b : Bool) (n : ℕ) → (nat_lt 0 (suc n) && b) ≡ b
is_some b n = ap (λ s. s && b) (lt-ltb 0 (suc n) (omega arith))

ends_none : (xs : List ℕ) → All Other xs → ends_with_byte 10 xs ≡ false
ends_none [] all = refl
ends_none (x ∷ xs) all =
    is_some (slice_index (x ∷ xs) (length (x ∷ xs) - 1) == 10) (length xs) ∙ all (length (x ∷ xs) - 1) 0 (omega arith)

last_is : (front : List ℕ) → length (front ++ 10 ∷ []) - 1 ≡ length front
last_is front = omega (arith, length-append front (10 ∷ []))

ends_at : (front : List ℕ) → ends_with_byte 10 (front ++ 10 ∷ []) ≡ true
ends_at front =
    let whole = front ++ 10 ∷ [] in
    let more : length whole ≡ suc (length front) = omega (arith, length-append front (10 ∷ [])) in
    ap (λ n. nat_lt 0 n && (slice_index whole (length whole - 1) == 10)) more
    ∙ is_some (slice_index whole (length whole - 1) == 10) (length front)
    ∙ ap (λ k. slice_index whole k == 10) (last_is front) ∙ ap is_feed (get_or-append_seam front 10 [] 0)

strip_at : (front : List ℕ) → strip_last 10 (front ++ 10 ∷ []) ≡ front
strip_at front =
    let whole = front ++ 10 ∷ [] in
    ap (λ b. cond b (take (length whole - 1) whole) whole) (ends_at front)
    ∙ ap (λ k. take k whole) (last_is front) ∙ take-append_seam front (10 ∷ [])

strip_same : (l : List ℕ) → strip_last 13 l ≡ strip_carriage_return l
strip_same [] = refl
strip_same (x ∷ l) =
    let last = length (x ∷ l) - 1 in
    ap (λ b. cond b (take last (x ∷ l)) (x ∷ l)) (is_some (slice_index (x ∷ l) last == 13) (length l))

parts_more : (x : List ℕ) (parts : List (List ℕ)) → 0 < length parts
    → lines_of_parts (x ∷ parts) ≡ strip_carriage_return x ∷ lines_of_parts parts
parts_more x [] some = absurd (omega (arith, some))
parts_more x (y ∷ parts) some = refl

-- what `lines` gives of what was read up to a line feed
abbrev line_in : List ℕ → List ℕ
line_in l = cond (ends_with_byte 10 l) (strip_last 13 (strip_last 10 l)) (strip_last 10 l)

one_part : (x : ℕ) (xs : List ℕ) → lines_of_parts ((x ∷ xs) ∷ []) ≡ (x ∷ xs) ∷ []
one_part x xs = ap (λ b. cond b [] ((x ∷ xs) ∷ [])) (ne_eqb (suc (length xs)) 0 (λ e. omega (arith, e)))

only_line : (x : ℕ) (xs : List ℕ) → All Other (x ∷ xs)
    → lines (x ∷ xs) ≡ first_line (x ∷ xs) ∷ lines (drop_through 10 (x ∷ xs))
only_line x xs all =
    let text = x ∷ xs in
    let cut = take (length text - 1) text in
    let first : first_line text ≡ text = ap line_in (take_none text all)
    ∙ ap (λ b. cond b (strip_last 13 (cond b cut text)) (cond b cut text)) (ends_none text all) in
    ap lines_of_parts (slice_split_none is_feed text all) ∙ one_part x xs ∙ ap (λ l. l ∷ []) (sym first)
    ∙ ap (λ l. first_line text ∷ lines l) (sym (drop_none text all))

one_line_more : (front rest : List ℕ) → All Other front
    → lines (front ++ 10 ∷ rest) ≡ first_line (front ++ 10 ∷ rest) ∷ lines (drop_through 10 (front ++ 10 ∷ rest))
one_line_more front rest all =
    let text = front ++ 10 ∷ rest in
    let whole = front ++ 10 ∷ [] in
    let first : first_line text ≡ strip_carriage_return front = ap line_in (take_at front rest all)
    ∙ ap (λ b. cond b (strip_last 13 (strip_last 10 whole)) (strip_last 10 whole)) (ends_at front)
    ∙ ap (strip_last 13) (strip_at front) ∙ strip_same front in
    let some : 0 < length (slice_split is_feed rest) = omega (arith, length-slice_split is_feed rest) in
    ap lines_of_parts (slice_split_at is_feed front 10 rest all refl)
    ∙ parts_more front (slice_split is_feed rest) some
    ∙ ap (λ l. l ∷ lines rest) (sym first)
    ∙ ap (λ l. first_line text ∷ lines l) (sym (drop_at front rest all))

first_by : (xs : List ℕ) → 0 < length xs → Cut xs → lines xs ≡ first_line xs ∷ lines (drop_through 10 xs)
first_by [] some cut = absurd (omega (arith, some))
first_by (x ∷ xs) some (inl all) = only_line x xs all
first_by (x ∷ xs) some (inr p) =
    subst (λ l. lines l ≡ first_line l ∷ lines (drop_through 10 l)) (sym p.3) (one_line_more p.0 p.1 p.2)

pub takes_line : {A : Type 0} (old new : Option (List ℕ)) (line : String A)
    → IfSome old (λ xs. (0 < length xs) × (string_bytes line ≡ first_line xs)) → DropsThrough old new 10
    → TakesLine old new (Some line)
takes_line None new line is drops = tt
takes_line (Some xs) new line is drops = (
  drop_through 10 xs,
  drops,
  first_by xs is.0 (cut_of xs) ∙ ap (λ l. l ∷ lines (drop_through 10 xs)) (sym is.1),
)
