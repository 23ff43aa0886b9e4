-- Lines, and what is left of a text that is cut short.
use Rattle.std.proofs.Common.{◌≡◌, ℕ, ◌+◌, ◌-◌, ◌<◌, ◌≤◌, zero, suc, Bool, true, false, List, [], ◌∷◌, ◌++◌, length, take, refl, sym, ap, ◌∙◌, append_assoc, arith, inl, inr}
use Rattle.std.proofs.Math.Seq.{take-append-add}
use Rattle.std.proofs.lemmas.List.{length-append, take-append-le}
use Rattle.std.specs.List.{list_any}
use Rattle.std.specs.Prelude.{◌==◌, ◌||◌, ◌⊎◌}
use Rattle.vdcp_journal.specs.Reading.{line_before, whole_lines}

abbrev pub has_feed : List ℕ → Bool
has_feed text = list_any (λ byte. byte == 10) text

-- a text that ends with the one line feed in it
pub record IsLine (text : List ℕ) : Type 0 where
  pub body : List ℕ
  pub plain : has_feed body ≡ false
  pub is : text ≡ body ++ 10 ∷ []

abbrev pub AreLines : List (List ℕ) → Type 0
AreLines [] = Unit {0}
AreLines (line ∷ lines) = IsLine line × AreLines lines

abbrev pub joined : List (List ℕ) → List ℕ
joined [] = []
joined (line ∷ lines) = line ++ joined lines

pub or-left : (a b : Bool) → (a || b) ≡ false → a ≡ false
or-left false b e = refl
or-left true b e = cc e

pub or-right : (a b : Bool) → (a || b) ≡ false → b ≡ false
or-right false b e = e
or-right true b e = cc e

pub both-false : (a b : Bool) → a ≡ false → b ≡ false → (a || b) ≡ false
both-false false b p q = q
both-false true b p q = cc p

pub feed-append : (xs ys : List ℕ) → has_feed xs ≡ false → has_feed ys ≡ false → has_feed (xs ++ ys) ≡ false
feed-append [] ys p q = q
feed-append (x ∷ xs) ys p q =
    both-false (x == 10) (has_feed (xs ++ ys)) (or-left (x == 10) (has_feed xs) p)
    (feed-append xs ys (or-right (x == 10) (has_feed xs) p) q)

feed-take : (n : ℕ) (xs : List ℕ) → has_feed xs ≡ false → has_feed (take n xs) ≡ false
feed-take zero xs p = refl
feed-take (suc n) [] p = refl
feed-take (suc n) (x ∷ xs) p =
    both-false (x == 10) (has_feed (take n xs)) (or-left (x == 10) (has_feed xs) p)
    (feed-take n xs (or-right (x == 10) (has_feed xs) p))

-- ---- whole lines

before-none : (byte : ℕ) → (byte == 10) ≡ false → line_before byte [] ≡ []
before-none byte e = rw e refl

pub none-whole : (xs : List ℕ) → has_feed xs ≡ false → whole_lines xs ≡ []
none-whole [] p = refl
none-whole (x ∷ xs) p = ap (line_before x) (none-whole xs (or-right (x == 10) (has_feed xs) p))
    ∙ before-none x (or-left (x == 10) (has_feed xs) p)

before-feed : (w : List ℕ) → line_before 10 w ≡ 10 ∷ w
before-feed [] = refl
before-feed (x ∷ w) = refl

before-some : (byte : ℕ) (body w : List ℕ) → line_before byte (body ++ 10 ∷ w) ≡ byte ∷ (body ++ 10 ∷ w)
before-some byte [] w = refl
before-some byte (x ∷ body) w = refl

line-whole : (body rest : List ℕ) → whole_lines (body ++ 10 ∷ rest) ≡ body ++ 10 ∷ whole_lines rest
line-whole [] rest = before-feed (whole_lines rest)
line-whole (x ∷ body) rest = ap (line_before x) (line-whole body rest) ∙ before-some x body (whole_lines rest)

pub line-first : (body line rest : List ℕ) → line ≡ body ++ 10 ∷ []
    → whole_lines (line ++ rest) ≡ line ++ whole_lines rest
line-first body line rest is =
    ap (λ l. whole_lines (l ++ rest)) is ∙ ap whole_lines (append_assoc body (10 ∷ []) rest)
    ∙ line-whole body rest
    ∙ sym (append_assoc body (10 ∷ []) (whole_lines rest)) ∙ ap (λ l. l ++ whole_lines rest) (sym is)

pub all-whole : (lines : List (List ℕ)) → AreLines lines → whole_lines (joined lines) ≡ joined lines
all-whole [] h = refl
all-whole (line ∷ lines) h = line-first h.0.body line (joined lines) h.0.is ∙ ap (λ l. line ++ l) (all-whole lines h.1)

-- ---- a beginning of lines

-- the lines that a beginning has as a whole
abbrev WholeOf : List (List ℕ) → List ℕ → Type 0
WholeOf lines text = (m : ℕ) × (whole_lines text ≡ joined (take m lines))

size-line : (body : List ℕ) → length (body ++ 10 ∷ []) ≡ length body + 1
size-line body = length-append body (10 ∷ [])

cut-short : (body rest : List ℕ) (n : ℕ) → has_feed body ≡ false → n ≤ length body
    → whole_lines (take n ((body ++ 10 ∷ []) ++ rest)) ≡ []
cut-short body rest n p below =
    ap (λ l. whole_lines (take n l)) (append_assoc body (10 ∷ []) rest)
    ∙ ap whole_lines (take-append-le n body (10 ∷ rest) below)
    ∙ none-whole (take n body) (feed-take n body p)

beginning-of : (line : List ℕ) (lines : List (List ℕ)) (n : ℕ) → IsLine line
    → ((k : ℕ) → WholeOf lines (take k (joined lines)))
    → ((n ≤ length line - 1) ⊎ (length line - 1 < n)) → WholeOf (line ∷ lines) (take n (line ++ joined lines))
beginning-of line lines n h more (inl short) =
    let size : length line ≡ length h.body + 1 = ap length h.is ∙ size-line h.body in (
      0,
      ap (λ l. whole_lines (take n (l ++ joined lines))) h.is
          ∙ cut-short h.body (joined lines) n h.plain (omega (arith, short, size)),
    )
beginning-of line lines n h more (inr long) =
    let size : length line ≡ length h.body + 1 = ap length h.is ∙ size-line h.body in
    let k : n ≡ length line + (n - length line) = omega (arith, long, size) in
    let (m, is) = more (n - length line) in (
      suc m,
      ap (λ (x : ℕ). whole_lines (take x (line ++ joined lines))) k
          ∙ ap whole_lines (take-append-add line (joined lines) (n - length line))
          ∙ line-first h.body line (take (n - length line) (joined lines)) h.is ∙ ap (λ l. line ++ l) is,
    )

either : (n m : ℕ) → (n ≤ m) ⊎ (m < n)
either zero m = inl (omega arith)
either (suc n) zero = inr (omega arith)
either (suc n) (suc m) = by (either n m)
  where
    by : ((n ≤ m) ⊎ (m < n)) → (suc n ≤ suc m) ⊎ (suc m < suc n)
    by (inl p) = inl (omega (arith, p))
    by (inr p) = inr (omega (arith, p))

pub beginning : (lines : List (List ℕ)) → AreLines lines → (n : ℕ) → WholeOf lines (take n (joined lines))
beginning [] h zero = (0, refl)
beginning [] h (suc n) = (0, refl)
beginning (line ∷ lines) h n = beginning-of line lines n h.0 (beginning lines h.1) (either n (length line - 1))
