-- The whole lines that are left, of what is held and of what follows.
use Rattle.std.proofs.Common.{◌≡◌, ℕ, ◌+◌, ◌-◌, ◌<◌, ◌≤◌, Bool, true, false, cond, get_or, List, [], ◌∷◌, ◌++◌, length, take, drop, refl, sym, ap, ◌∙◌, add-one, append-nil, append_assoc, arith, drop-drop, length-take-le}
use Rattle.std.proofs.Math.Seq.{take-append-add, take-suc}
use Rattle.std.proofs.lemmas.Bool.{eqb-true}
use Rattle.std.proofs.lemmas.Bool.Decides.{nat_tests}
use Rattle.std.proofs.lemmas.List.{drop-take, take-append-le}
use Rattle.std.proofs.lemmas.List.Quantifiers.{position-Some}
use Rattle.std.specs.Io.KnownBytes.{Consumes, IsAtEnd, Keeps}
use Rattle.std.specs.List.{position, position_or_len}
use Rattle.std.specs.Prelude.{None, Option, Some, not, option_map, slice_range, ◌==◌, ◌||◌}
use Rattle.vdcp_journal.proofs.Lines.{has_feed, line-first, none-whole}
use Rattle.vdcp_journal.specs.Reading.{whole_lines}

-- ---- where a line feed is

abbrev pub is_feed : ℕ → Bool
is_feed byte = byte == 10

none_at : (b : Bool) (place : ℕ) → ◌≡◌ {A = Option ℕ} (cond b (Some place) None) None → b ≡ false
none_at true place e = cc e
none_at false place e = refl

no_feed : (text : List ℕ) → length text ≤ position_or_len is_feed text → has_feed text ≡ false
no_feed [] long = refl
no_feed (byte ∷ text) long = at (byte == 10) (no_feed text) long
  where
    at : (b : Bool) → (length text ≤ position_or_len is_feed text → has_feed text ≡ false)
        → length (byte ∷ text) ≤ cond (not b) (1 + position_or_len is_feed text) 0 → (b || has_feed text) ≡ false
    at true later h = absurd (omega (arith, h))
    at false later h = later (omega (arith, h))

pub feed-none : (text : List ℕ) → position is_feed text ≡ None → has_feed text ≡ false
feed-none text e =
    let b = none_at _ (position_or_len is_feed text) e in
    no_feed text (grind (arith, nat_tests))

-- the bytes up to a line feed are a line
pub record FeedAt (text : List ℕ) (place : ℕ) : Type 0 where
  pub within : place < length text
  pub line : take (place + 1) text ≡ take place text ++ 10 ∷ []

pub feed_at : (text : List ℕ) (place : ℕ) → position is_feed text ≡ Some place → FeedAt text place
feed_at text place e =
    let found = position-Some is_feed text place 0 e in
    record {
      within = found.0;
      line = ap (λ (k : ℕ). take k text) (add-one place) ∙ take-suc text place 0 found.0
          ∙ ap (λ byte. take place text ++ byte ∷ []) (eqb-true (get_or text place 0) 10 found.1);
    }

-- ---- parts of what is held

pub range-none : (xs : List ℕ) (a b : ℕ) → b ≤ a → slice_range xs a b ≡ []
range-none xs a b p = let none : b - a ≡ 0 = omega (arith, p) in ap (λ (k : ℕ). take k (drop a xs)) none

pub range-drop : (xs : List ℕ) (a b n : ℕ) → a + n ≤ b → drop n (slice_range xs a b) ≡ slice_range xs (a + n) b
range-drop xs a b n p =
    let size : b - a ≡ n + (b - (a + n)) = omega (arith, p) in
    ap (λ (k : ℕ). drop n (take k (drop a xs))) size ∙ drop-take n (b - (a + n)) (drop a xs)
    ∙ ap (take (b - (a + n))) (drop-drop n a xs)

-- a piece is read into a buffer, after what fills it
pub range-more : (held buffer after : List ℕ) (filled count : ℕ) → filled ≤ length held → count ≤ length buffer
    → slice_range (take filled held ++ (buffer ++ after)) 0 (filled + count)
    ≡ slice_range held 0 filled ++ take count buffer
range-more held buffer after filled count p q =
    let front = take filled held in
    let size : filled + count - 0 ≡ length front + count = omega (arith, length-take-le filled held p) in
    let same : filled ≡ filled - 0 = omega arith in
    ap (λ (k : ℕ). take k (front ++ (buffer ++ after))) size ∙ take-append-add front (buffer ++ after) count
    ∙ ap (λ l. front ++ l) (take-append-le count buffer after q)
    ∙ ap (λ (k : ℕ). take k held ++ take count buffer) same

-- ---- what is left

abbrev pub left_of : List ℕ → List ℕ → Option (List ℕ) → Option (List ℕ)
left_of line begun known = option_map (λ more. line ++ whole_lines (begun ++ more)) known

-- a front of the line is given
pub left-given : (line front rest begun : List ℕ) (known : Option (List ℕ)) → line ≡ front ++ rest
    → Consumes (left_of line begun known) (left_of rest begun known) front
left-given line front rest begun None is = tt
left-given line front rest begun (Some more) is =
    ap (λ l. l ++ whole_lines (begun ++ more)) is ∙ append_assoc front rest (whole_lines (begun ++ more))

-- (the same was left before)
pub left-same : (old known new : Option (List ℕ)) (front : List ℕ) → Keeps old known → Consumes known new front
    → Consumes old new front
left-same None known new front k c = tt
left-same (Some a) None new front k c = absurd k
left-same (Some a) (Some b) None front k c = absurd c
left-same (Some a) (Some b) (Some d) front k c = sym k ∙ c

-- a line is found, if none was held
pub left-found : (none body line begun rest : List ℕ) (old new : Option (List ℕ)) → none ≡ [] → line ≡ body ++ 10 ∷ []
    → begun ≡ line ++ rest → new ≡ old → Keeps (left_of none begun old) (left_of line rest new)
left-found none body line begun rest old new empty is split same = rw (empty, same) (found old)
  where
    found : (known : Option (List ℕ)) → Keeps (left_of [] begun known) (left_of line rest known)
    found None = tt
    found (Some more) =
        sym (ap (λ l. whole_lines (l ++ more)) split ∙ ap whole_lines (append_assoc line rest more)
        ∙ line-first body line (rest ++ more) is)

-- no line feed is held, and none follows
pub left-none : (none begun : List ℕ) (known : Option (List ℕ)) → none ≡ [] → has_feed begun ≡ false → IsAtEnd known
    → IsAtEnd (left_of none begun known)
left-none none begun None empty plain end = tt
left-none none begun (Some more) empty plain end =
    ap (λ l. l ++ whole_lines (begun ++ more)) empty ∙ ap (λ l. whole_lines (begun ++ l)) end
    ∙ ap whole_lines (append-nil begun) ∙ none-whole begun plain
