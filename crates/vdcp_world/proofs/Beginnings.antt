-- Bytes that begin with the messages of others.
use Rattle.std.proofs.Common.{ℕ, ◌≡◌, Bool, true, false, nat_eq, List, [], ◌∷◌, ◌++◌, length, take, drop, refl, arith, sym, ap, ap₂, subst, ◌∙◌, append_assoc}
use Rattle.std.proofs.lemmas.Bool.{and_parts}
use Rattle.std.proofs.lemmas.List.{take-append-drop}
use Rattle.std.specs.Cmp.Lexicographic.{pointwise}
use Rattle.vdcp_frame.specs.Message.{Content, ack, nak, framed, Fits, Spells, spelling}
use Rattle.vdcp_frame.specs.Reading.{SpellsAll, Reads, End}
use Rattle.vdcp_world.specs.Beginnings.{is_same_message, is_beginning}

same_list : (xs ys : List ℕ) → pointwise nat_eq xs ys ≡ true → xs ≡ ys
same_list [] [] e = refl
same_list [] (y ∷ ys) e = cc
same_list (x ∷ xs) [] e = cc
same_list (x ∷ xs) (y ∷ ys) e = grind (arith, same_list xs ys)

pub own_list : (xs : List ℕ) → pointwise nat_eq xs xs ≡ true
own_list [] = refl
own_list (x ∷ xs) = grind (arith, own_list xs)

same_message : (m n : Content) → is_same_message m n ≡ true → m ≡ n
same_message ack ack e = refl
same_message ack (nak b) e = cc
same_message ack (framed k u c r) e = cc
same_message (nak a) (nak b) e = grind arith
same_message (nak a) (framed k u c r) e = cc
same_message (framed k u c r) (nak b) e = cc
same_message (framed k u c r) (framed l v d s) e = grind (arith, same_list r s)
same_message _ ack e = cc

own_message : (m : Content) → is_same_message m m ≡ true
own_message ack = refl
own_message (nak a) = grind arith
own_message (framed k u c r) = grind (arith, own_list r)

own_beginning : (ms others : List Content) → is_beginning ms (ms ++ others) ≡ true
own_beginning [] others = refl
own_beginning (m ∷ ms) others = grind (arith, own_message m, own_beginning ms others)

pub is_beginning_of : (ms ns : List Content) → is_beginning ms ns ≡ true → (others : List Content) × (ns ≡ ms ++ others)
is_beginning_of [] ns e = (ns, refl)
is_beginning_of (m ∷ ms) [] e = cc
is_beginning_of (m ∷ ms) (n ∷ ns) e =
    let (others, more) = is_beginning_of ms ns (and_parts (is_same_message m n) (is_beginning ms ns) e).1 in (
      others,
      ap₂ (λ x xs. x ∷ xs) (sym (same_message m n (and_parts (is_same_message m n) (is_beginning ms ns) e).0))
          more,
    )

beginning_of : (ms others : List Content) (whole : List ℕ) → SpellsAll (ms ++ others) whole
    → (a b : List ℕ) × SpellsAll ms a × (whole ≡ a ++ b)
beginning_of [] others whole all = ([], whole, refl, refl)
beginning_of (m ∷ ms) others whole (first, rest, spelt, more, e) =
    let (a, b, s, f) = beginning_of ms others rest more in
    (first ++ a, b, (first, a, spelt, s, refl), e ∙ ap (λ (r : List ℕ). first ++ r) f ∙ sym (append_assoc first a b))

-- what a message is spelt by
abbrev pub OneSpelling : Type 0
OneSpelling = (m : Content) (bytes : List ℕ) → Spells m bytes → Fits m × (bytes ≡ spelling m)

one_list : OneSpelling → (ms : List Content) (a b : List ℕ) → SpellsAll ms a → SpellsAll ms b → a ≡ b
one_list only [] a b s t = s ∙ sym t
one_list only (m ∷ ms) a b (f, r, s, all, e) (g, q, t, more, h) =
    e ∙ ap₂ (λ (x y : List ℕ). x ++ y) ((only m f s).1 ∙ sym (only m g t).1) (one_list only ms r q all more) ∙ sym h

either : (r b : Bool) → (r ≡ true → b ≡ true) → (b ≡ true → r ≡ true) → r ≡ b
either true b f g = sym (f refl)
either false true f g = g refl
either false false f g = refl

-- where a front of a burst is whole messages, and these begin with some bytes, so does the burst
bytes_first : (other bytes whole remainder b : List ℕ) → take 4096 other ≡ whole ++ remainder → whole ≡ bytes ++ b
    → other ≡ bytes ++ (b ++ (remainder ++ drop 4096 other))
bytes_first other bytes whole remainder b parts begins =
    sym (take-append-drop 4096 other)
    ∙ ap (λ (x : List ℕ). x ++ drop 4096 other) (parts ∙ ap (λ (x : List ℕ). x ++ remainder) begins)
    ∙ append_assoc (bytes ++ b) remainder (drop 4096 other)
    ∙ append_assoc bytes b (remainder ++ drop 4096 other)

-- the messages that some bytes spell are a beginning of those that are read of a burst exactly where the burst
-- begins with these bytes
pub begins_is : (other bytes : List ℕ) (ms ns : List Content) (end : End) (r : Bool) → OneSpelling
    → ((more : List ℕ) → Reads (bytes ++ more) ns end → (others : List Content) × (ns ≡ ms ++ others))
    → SpellsAll ms bytes → Reads other ns end
    → (r ≡ true → other ≡ bytes ++ drop (length bytes) other) → ((rest : List ℕ) → other ≡ bytes ++ rest → r ≡ true)
    → r ≡ is_beginning ms ns
begins_is other bytes ms ns end r only first all reads held begun = either r (is_beginning ms ns) to from
  where
    to : r ≡ true → is_beginning ms ns ≡ true
    to e =
        let again = first (drop (length bytes) other) (subst (λ (o : List ℕ). Reads o ns end) (held e) reads) in
        ap (is_beginning ms) again.1 ∙ own_beginning ms again.0

    from : is_beginning ms ns ≡ true → r ≡ true
    from e =
        let (others, more) = is_beginning_of ms ns e in
        let short = reads.front in
        let (a, b, s, f) = beginning_of ms others short.whole (subst (λ x. SpellsAll x short.whole) more short.spelt) in
        let whole : short.whole ≡ bytes ++ b = f ∙ ap (λ (x : List ℕ). x ++ b) (one_list only ms a bytes s all) in
        begun _ (bytes_first other bytes short.whole _ b short.parts whole)
