-- What lines say, byte by byte.
use Rattle.std.proofs.Common.{◌&&◌, ◌^◌, ◌-◌, drop, take, lit≤, ◌≡◌, ◌<◌, ◌≤◌, ℕ, zero, suc, ◌⊎◌, inl, inr, Bool, true, false, Option, None, Some, List, [], ◌∷◌, ◌++◌, length, refl, sym, ap, ◌∙◌, arith}
use Rattle.std.proofs.lemmas.Bool.{ltb-true}
use Rattle.std.proofs.lemmas.Fmt.{length-decimal-le}
use Rattle.std.proofs.lemmas.List.{length-append, length-drop, length-take-le}
use Rattle.std.specs.Cmp.Lexicographic.{same_text}
use Rattle.std.specs.Io.KnownBytes.{Consumes, Keeps}
use Rattle.std.specs.Prelude.{bytes_eq, codes, decimal, if◌then◌else◌, nat_eq, nat_lt}
use Rattle.std.specs.Str.Parse.{digits_value}
use Rattle.vdcp_operator.specs.Typed.{SaysOn, said_by_words, said_from, said_in, said_of, without_return}
use Rattle.vdcp_operator.specs.declared.typed.Said.{Said}
use Rattle.vdcp_operator.specs.declared.typed.Said.TheVariants as said
use Rattle.vdcp_panel.specs.Numbers.{number_in}

-- a long line is no call, and its bytes don't matter

no_word_if : (line word : List ℕ) (b : Bool) → length word < length line → bytes_eq line word ≡ b → b ≡ false
no_word_if line word true h is = absurd (omega (arith, ap length (same_text line word (sym is)), h))
no_word_if line word false h is = refl

no_word : (line word : List ℕ) → length word < length line → bytes_eq line word ≡ false
no_word line word h = no_word_if line word (bytes_eq line word) h refl

-- the number of an event has at most twenty digits
short_decimal : (n : ℕ) → n < 2 ^ 64 → length (decimal n) ≤ 20
short_decimal n small =
    let large : 2 ^ 64 ≤ 10 ^ 20 = lit≤ tt in
    length-decimal-le 20 n (omega arith) (omega (arith, small, large)) small

long_number_if : (digits : List ℕ) (n : ℕ) (b : Bool) → 21 ≤ length digits → nat_lt n (2 ^ 64) ≡ b
    → (b && bytes_eq digits (decimal n)) ≡ false
long_number_if digits n true h is =
    no_word digits (decimal n) (omega (arith, short_decimal n (ltb-true n (2 ^ 64) is), h))
long_number_if digits n false h is = refl

long_number : (digits : List ℕ) → 21 ≤ length digits → number_in digits ≡ None
long_number digits h =
    ap (λ b. if b then Some (digits_value 10 digits) else None)
    (long_number_if digits (digits_value 10 digits) (nat_lt (digits_value 10 digits) (2 ^ 64)) h refl)

no_event : (skips jumps : Bool) (skip jump : Said) → skip ≡ said.Other → jump ≡ said.Other
    → (if skips then skip else if jumps then jump else said.Other) ≡ said.Other
no_event true jumps skip jump h g = h
no_event false true skip jump h g = g
no_event false false skip jump h g = refl

long_words : (words : List ℕ) → 26 ≤ length words → said_by_words words ≡ said.Other
long_words words h =
    let takes = no_word words (codes "take") (omega (arith, h)) in
    let stops = no_word words (codes "stop") (omega (arith, h)) in
    let holds = no_word words (codes "hold") (omega (arith, h)) in
    let goes = no_word words (codes "go") (omega (arith, h)) in
    let none = long_number (drop 5 words) (omega (arith, length-drop 5 words, h)) in
    rw (takes, stops, holds, goes)
    (no_event (bytes_eq (take 5 words) (codes "skip ")) (bytes_eq (take 5 words) (codes "jump "))
    (said_of said.Skip (number_in (drop 5 words))) (said_of said.Jump (number_in (drop 5 words)))
    (ap (said_of said.Skip) none) (ap (said_of said.Jump) none))

long_front : (line : List ℕ) (b : Bool) → 27 ≤ length line
    → 26 ≤ length (if b then take (length line - 1) line else line)
long_front line true h = omega (arith, length-take-le (length line - 1) line (omega arith), h)
long_front line false h = omega (arith, h)

long_other : (line : List ℕ) → 27 ≤ length line → said_in line ≡ said.Other
long_other line h =
    long_words (without_return line)
    (long_front line (bytes_eq (drop (length line - 1) line) (codes "\r")) h)

at_end : (line : List ℕ) → 27 ≤ length line → said_from line [] ≡ said.Other ∷ []
at_end [] h = absurd (omega (arith, h))
at_end (first ∷ line) h = ap (λ s. s ∷ []) (long_other (first ∷ line) h)

-- a byte behind a line
abbrev after : Bool → List ℕ → ℕ → List ℕ → List Said
after b line byte bytes = if b then said_in line ∷ said_from [] bytes else said_from (line ++ byte ∷ []) bytes

next_of : (line : List ℕ) (byte : ℕ) (bytes : List ℕ)
    → said_from line (byte ∷ bytes) ≡ after (nat_eq byte 10) line byte bytes
next_of [] byte bytes = refl
next_of (first ∷ line) byte bytes = refl

longer : (line : List ℕ) (byte : ℕ) → 27 ≤ length line → 27 ≤ length (line ++ byte ∷ [])
longer line byte h = omega (arith, length-append line (byte ∷ []), h)

same_after : (b : Bool) (x y : List ℕ) (byte : ℕ) (bytes : List ℕ) → said_in x ≡ said_in y
    → said_from (x ++ byte ∷ []) bytes ≡ said_from (y ++ byte ∷ []) bytes → after b x byte bytes ≡ after b y byte bytes
same_after true x y byte bytes now later = ap (λ s. s ∷ said_from [] bytes) now
same_after false x y byte bytes now later = later

long_same : (x y bytes : List ℕ) → 27 ≤ length x → 27 ≤ length y → said_from x bytes ≡ said_from y bytes
long_same x y [] h g = at_end x h ∙ sym (at_end y g)
long_same x y (byte ∷ bytes) h g =
    next_of x byte bytes
    ∙ same_after (nat_eq byte 10) x y byte bytes (long_other x h ∙ sym (long_other y g))
    (long_same (x ++ byte ∷ []) (y ++ byte ∷ []) bytes (longer x byte h) (longer y byte g))
    ∙ sym (next_of y byte bytes)

-- what is held of a line says as much
short_or_long : (n m : ℕ) → (n ≤ m) ⊎ (m < n)
short_or_long zero m = inl (omega arith)
short_or_long (suc n) zero = inr (omega arith)
short_or_long (suc n) (suc m) = elim (short_or_long n m) [
  | inl w ↦ inl (omega (arith, w))
  | inr w ↦ inr (omega (arith, w))
]

held_same : (n : ℕ) (line line' bytes : List ℕ) (byte : ℕ) → 27 ≤ n
    → (length line < n → line' ≡ line ++ byte ∷ []) → (n ≤ length line → line' ≡ line)
    → said_from (line ++ byte ∷ []) bytes ≡ said_from line' bytes
held_same n line line' bytes byte some short full = elim (short_or_long n (length line)) [
  | inl w ↦
      let long : 27 ≤ length line = omega (arith, w, some) in
      long_same (line ++ byte ∷ []) line bytes (longer line byte long) long ∙ ap (λ x. said_from x bytes) (sym (full w))
  | inr w ↦ ap (λ x. said_from x bytes) (sym (short w))
]

-- what a read leaves

pub not_read : (line : List ℕ) (l l' : Option (List ℕ)) → Keeps l l' → SaysOn line l [] line l'
not_read line None l' h = tt
not_read line (Some a) None h = absurd h
not_read line (Some a) (Some b) h = ap (said_from line) (sym h)

pub read_line : (line : List ℕ) (l l' : Option (List ℕ)) → Consumes l l' (10 ∷ []) → SaysOn line l (said_in line ∷ []) [] l'
read_line line None l' h = tt
read_line line (Some a) None h = absurd h
read_line line (Some a) (Some b) h = ap (said_from line) h ∙ next_of line 10 b

part_of : (n : ℕ) (line line' : List ℕ) (byte : ℕ) (l l' : Option (List ℕ)) → 27 ≤ n
    → Consumes l l' (byte ∷ []) → nat_eq byte 10 ≡ false → (length line < n → line' ≡ line ++ byte ∷ [])
    → (n ≤ length line → line' ≡ line) → SaysOn line l [] line' l'
part_of n line line' byte None l' some h other short full = tt
part_of n line line' byte (Some a) None some h other short full = absurd h
part_of n line line' byte (Some a) (Some b) some h other short full =
    ap (said_from line) h ∙ next_of line byte b ∙ ap (λ t. after t line byte b) other
    ∙ held_same n line line' b byte some short full

pub read_part : (line line' : List ℕ) (byte : ℕ) (l l' : Option (List ℕ)) → Consumes l l' (byte ∷ [])
    → nat_eq byte 10 ≡ false → (length line < 64 → line' ≡ line ++ byte ∷ []) → (64 ≤ length line → line' ≡ line)
    → SaysOn line l [] line' l'
read_part line line' byte l l' h other short full = part_of 64 line line' byte l l' (omega arith) h other short full

-- one read after others that said nothing
pub says_more : (line line' line'' : List ℕ) (l l' l'' : Option (List ℕ)) (says : List Said)
    → SaysOn line l [] line' l' → SaysOn line' l' says line'' l'' → SaysOn line l says line'' l''
says_more line line' line'' None l' l'' says h g = tt
says_more line line' line'' (Some a) None l'' says h g = absurd h
says_more line line' line'' (Some a) (Some b) None says h g = absurd g
says_more line line' line'' (Some a) (Some b) (Some c) says h g = h ∙ g

pub says_nothing : (line : List ℕ) (l : Option (List ℕ)) → SaysOn line l [] line l
says_nothing line None = tt
says_nothing line (Some a) = refl
