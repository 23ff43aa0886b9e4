-- The messages that bytes complete, one byte after another, by what a reader gives for them.
use Rattle.std.proofs.Common.{ℕ, ◌≡◌, ◌-◌, ◌<◌, ◌≤◌, List, [], ◌∷◌, ◌++◌, length, take, map, refl, sym, ap, ap₂, subst, ◌∙◌}
use Rattle.std.proofs.Common.{append_assoc, append-nil, length-append, arith}
use Rattle.std.proofs.Math.Seq.{take-append_seam}
use Rattle.std.proofs.lemmas.List.{length-take-le}
use Rattle.std.proofs.lemmas.List.Elements.{All-append, All-take}
use Rattle.vdcp_frame.specs.Burst.{messages_of, end_of}
use Rattle.vdcp_frame.specs.Head.{IsWrong}
use Rattle.vdcp_frame.specs.Message.{Content, AreOctets, Spells}
use Rattle.vdcp_frame.specs.Progress.{Progress, reading, failed}
use Rattle.vdcp_frame.specs.Pieces.{with_message}
use Rattle.vdcp_frame.specs.Reader.{Answer, message, more, wrong, Gives, fed, Follows, FollowsNext, TakesFault, TakesLong}
use Rattle.vdcp_frame.specs.Reading.{End, clean, cut, fault, Reads, Begins, IsUnfinished, SpellsAll}
use Rattle.vdcp_frame.specs.declared.message.Fault.{Fault}
use Rattle.vdcp_frame.specs.declared.message.Fault.TheVariants.{Long}
use Rattle.vdcp_auto.specs.Heard.{heard_as}
use Rattle.vdcp_auto.specs.declared.exchange.Heard.{Heard}
use Rattle.vdcp_drive.specs.HearingLaws.{completed_both, held_both}
use Rattle.vdcp_drive.specs.Below.{Below}
use Rattle.vdcp_drive.specs.Reading.{Held, holds, skips, held_with, held_after, held_by, completed, IsAfoot}
use Rattle.vdcp_drive.specs.Hearing.{heard_by}

-- Bytes that begin a message and are no whole one.

pub octets_front : (xs ys : List ℕ) → AreOctets (xs ++ ys) → AreOctets xs
octets_front xs ys h = subst AreOctets (take-append_seam xs ys) (All-take (λ b. b < 256) (length xs) (xs ++ ys) h)

pub front_unfinished : (xs ys : List ℕ) → IsUnfinished (xs ++ ys) → IsUnfinished xs
front_unfinished xs ys u = record {
  begins = record {
    message = u.begins.message;
    more = ys ++ u.begins.more;
    spelt = subst (Spells u.begins.message) (append_assoc xs ys u.begins.more) u.begins.spelt;
  };
  no_front = λ m front rest s is. u.no_front m front (rest ++ ys) s
      (ap (λ (l : List ℕ). l ++ ys) is ∙ append_assoc front rest ys);
}

unfinished_octets : (law : Below) (xs : List ℕ) → IsUnfinished xs → AreOctets xs
unfinished_octets law xs u =
    octets_front xs u.begins.more (law.octets u.begins.message (xs ++ u.begins.more) u.begins.spelt)

unfinished_size : (law : Below) (xs : List ℕ) → IsUnfinished xs → length xs ≤ 258
unfinished_size law xs u =
    omega (arith, (law.size u.begins.message (xs ++ u.begins.more) u.begins.spelt).1, length-append xs u.begins.more)

-- a reader that holds them follows them
pub follows_held : (law : Below) (held : List ℕ) → IsUnfinished held → Follows held [] (reading (length held) held)
follows_held law held u = record {
  whole = [];
  parts = refl;
  spelt = refl;
  unfinished = u;
  count = refl;
  limit = omega (arith, unfinished_size law held u);
}

reads_as : (law : Below) (xs : List ℕ) → IsUnfinished xs
    → (end : End) × (Reads xs [] end) × (held_with xs [] end ≡ holds xs)
reads_as law [] u = (clean, law.read [] [] (reading 0 []) (follows_held law [] u), refl)
reads_as law (x ∷ xs) u = (
  cut (length (x ∷ xs)),
  law.read (x ∷ xs) [] (reading (length (x ∷ xs)) (x ∷ xs)) (follows_held law (x ∷ xs) u),
  refl,
)

reads_unfinished : (law : Below) (xs : List ℕ) → IsUnfinished xs
    → (messages_of xs ≡ []) × (held_with xs (messages_of xs) (end_of xs) ≡ holds xs)
reads_unfinished law xs u =
    let r = reads_as law xs u in
    let same = law.computed xs [] r.0 (unfinished_octets law xs u) r.1 in
    (sym same.0, ap₂ (held_with xs) (sym same.0) (sym same.1) ∙ r.2)

-- Bytes one after another.

-- bytes complete nothing and are held, if they finish no message
record AreHeld (held xs : List ℕ) : Type 0 where
  none : completed (holds held) xs ≡ []
  all : held_after (holds held) xs ≡ holds (held ++ xs)

are_held : (law : Below) (held xs : List ℕ) → IsUnfinished (held ++ xs) → AreHeld held xs
are_held law held [] u = record { none = refl; all = ap holds (sym (append-nil held)) }
are_held law held (x ∷ xs) u =
    let v : IsUnfinished ((held ++ x ∷ []) ++ xs) = subst IsUnfinished (sym (append_assoc held (x ∷ []) xs)) u in
    let s = reads_unfinished law (held ++ x ∷ []) (front_unfinished (held ++ x ∷ []) xs v) in
    let r = are_held law (held ++ x ∷ []) xs v in record {
      none = ap₂ (λ (ms : List Content) (at : Held). ms ++ completed at xs) s.0 s.1 ∙ r.none;
      all = ap (λ (at : Held). held_after at xs) s.1 ∙ r.all ∙ ap holds (append_assoc held (x ∷ []) xs);
    }

-- if only the last byte may finish one, it decides
record IsDecided (held xs : List ℕ) : Type 0 where
  gives : completed (holds held) xs ≡ messages_of (held ++ xs)
  leaves : held_after (holds held) xs ≡ held_with (held ++ xs) (messages_of (held ++ xs)) (end_of (held ++ xs))

decided_last : (law : Below) (held xs : List ℕ) (x : ℕ) → IsUnfinished (held ++ xs) → IsDecided held (xs ++ x ∷ [])
decided_last law held xs x u =
    let h = are_held law held xs u in
    let all : (held ++ xs) ++ x ∷ [] ≡ held ++ (xs ++ x ∷ []) = append_assoc held xs (x ∷ []) in record {
      gives = rw (completed_both (holds held) xs (x ∷ []), h.none, h.all)
          (append-nil (messages_of ((held ++ xs) ++ x ∷ [])) ∙ ap messages_of all);
      leaves = rw (held_both (holds held) xs (x ∷ []), h.all)
          (ap (λ (b : List ℕ). held_with b (messages_of b) (end_of b)) all);
    }

-- a last byte
record Last (xs : List ℕ) : Type 0 where
  before : List ℕ
  last : ℕ
  parts : xs ≡ before ++ last ∷ []

last_of : (x : ℕ) (xs : List ℕ) → Last (x ∷ xs)
last_of x [] = record { before = []; last = x; parts = refl }
last_of x (y ∷ xs) =
    let l = last_of y xs in
    record { before = x ∷ l.before; last = l.last; parts = ap (λ (r : List ℕ). x ∷ r) l.parts }

has_last : (xs : List ℕ) → 0 < length xs → Last xs
has_last [] h = absurd (omega (arith, h))
has_last (x ∷ xs) h = last_of x xs

decided : (law : Below) (held xs : List ℕ) (l : Last xs) → IsUnfinished (held ++ l.before) → IsDecided held xs
decided law held xs l u = subst (IsDecided held) (sym l.parts) (decided_last law held l.before l.last u)

parts_of : (held xs : List ℕ) (l : Last xs) → held ++ xs ≡ (held ++ l.before) ++ l.last ∷ []
parts_of held xs l = ap (λ (b : List ℕ). held ++ b) l.parts ∙ sym (append_assoc held l.before (l.last ∷ []))

-- What a reader took, by its answer.

spelling_unfinished : (law : Below) (m : Content) (xs : List ℕ) (x : ℕ) → Spells m (xs ++ x ∷ []) → IsUnfinished xs
spelling_unfinished law m xs x s = record {
  begins = record { message = m; more = x ∷ []; spelt = s };
  no_front = λ n front rest t is.
      let e = law.no_other n m front (xs ++ x ∷ []) (rest ++ x ∷ []) t s
      (ap (λ (l : List ℕ). l ++ x ∷ []) is ∙ append_assoc front rest (x ∷ [])) in
      absurd (omega (arith, ap (length {A = ℕ}) e.1, length-append rest (x ∷ [])));
}

-- the bytes finish this message
pub completes : (law : Below) (held xs : List ℕ) (m : Content) → 0 < length xs → Spells m (held ++ xs)
    → (completed (holds held) xs ≡ m ∷ []) × (held_after (holds held) xs ≡ holds [])
completes law held xs m some s =
    let l = has_last xs some in
    let d = decided law held xs l (spelling_unfinished law m (held ++ l.before) l.last
    (subst (Spells m) (parts_of held xs l) s)) in
    let o = law.only m (held ++ xs) s in
    let is : messages_of (held ++ xs) ≡ m ∷ [] = ap messages_of o.1 ∙ law.alone m o.0 in
    (d.gives ∙ is, d.leaves ∙ ap (λ (ms : List Content). held_with (held ++ xs) ms (end_of (held ++ xs))) is)

-- they finish none
pub completes_none : (law : Below) (held xs : List ℕ) → IsUnfinished (held ++ xs)
    → (completed (holds held) xs ≡ []) × (held_after (holds held) xs ≡ holds (held ++ xs))
completes_none law held xs u = let h = are_held law held xs u in (h.none, h.all)

-- the last of them shows a fault
wrong_unfinished : (xs : List ℕ) (x : ℕ) (which : Fault) (n : ℕ) → n ≡ length (xs ++ x ∷ [])
    → IsWrong (xs ++ x ∷ []) which n → IsUnfinished xs
wrong_unfinished xs x which n is w = record {
  begins = subst Begins (take-append_seam xs (x ∷ []))
      (w.first.shorter (length xs) (omega (arith, is, length-append xs (x ∷ []))));
  no_front = λ m front rest s parts. w.no_front m front (rest ++ x ∷ []) s
      (ap (λ (l : List ℕ). l ++ x ∷ []) parts ∙ append_assoc front rest (x ∷ []));
}

pub completes_fault : (law : Below) (held xs : List ℕ) (which other : Fault) (place : ℕ) → 0 < length xs
    → AreOctets (held ++ xs)
    → IsWrong (held ++ xs) which (length (held ++ xs)) → Reads (held ++ xs) [] (fault other place)
    → (completed (holds held) xs ≡ []) × (held_after (holds held) xs ≡ skips)
completes_fault law held xs which other place some fits w r =
    let l = has_last xs some in
    let p = parts_of held xs l in
    let v : IsUnfinished (held ++ l.before) =
    wrong_unfinished (held ++ l.before) l.last which (length (held ++ xs)) (ap (length {A = ℕ}) p)
    (subst (λ (b : List ℕ). IsWrong b which (length (held ++ xs))) p w) in
    let d = decided law held xs l v in
    let same = law.computed (held ++ xs) [] (fault other place) fits r in
    (d.gives ∙ sym same.0, d.leaves ∙ ap₂ (held_with (held ++ xs)) (sym same.0) (sym same.1))

-- no burst is too long
pub never_long : (law : Below) (taken n : ℕ) (held piece : List ℕ) → taken ≡ length held → TakesLong taken held piece n
    → ⊥
never_long law taken n held piece is t =
    omega (
      arith,
      is,
      t.some,
      t.within,
      t.past,
      unfinished_size law (held ++ take (n - 1) piece) t.unfinished,
      length-append held (take (n - 1) piece),
      length-take-le (n - 1) piece (omega (arith, t.within)),
    )

-- after a fault nothing is completed
pub completes_nothing : (xs : List ℕ) → (completed skips xs ≡ []) × (held_after skips xs ≡ skips)
completes_nothing [] = (refl, refl)
completes_nothing (x ∷ xs) = completes_nothing xs

-- What is read, by what the reader gave for these bytes.

-- these bytes were read, which complete these messages
pub record HasTold (held : Held) (piece : List ℕ) (held' : Held) (ms : List Content) : Type 0 where
  pub takes : held' ≡ held_after held piece
  pub gives : completed held piece ≡ ms

wrong_by : (law : Below) (taken : ℕ) (held piece : List ℕ) (n : ℕ) (which other : Fault) (place : ℕ)
    → taken ≡ length held → IsUnfinished held
    → AreOctets (take n piece) → TakesFault taken held piece n which → Reads (held ++ take n piece) [] (fault other place)
    → HasTold (holds held) (take n piece) skips []
wrong_by law taken held piece n Long other place is u fits t r = absurd (never_long law taken n held piece is t)
wrong_by law taken held piece n which other place is u fits t r =
    let all : AreOctets (held ++ take n piece) =
    All-append (λ b. b < 256) held (take n piece) (unfinished_octets law held u) fits in
    let c = completes_fault law held (take n piece) which other place (omega (arith, t.some, length-take-le n piece t.within))
    all t.first r in
    record { takes = sym c.1; gives = c.0 }

-- how far a reader is that begins anew behind each message
abbrev pub renewed : Answer → Progress → Progress
renewed (message m) new = reading 0 []
renewed more new = new
renewed (wrong which place) new = new

pub told_by : (law : Below) (p : Progress) (piece : List ℕ) (n : ℕ) (answer : Answer) → IsAfoot p
    → AreOctets (take n piece) → Gives p piece n answer
    → ((burst : List ℕ) (ms : List Content) → Follows burst ms p
    → Follows (burst ++ take n piece) (ms ++ with_message answer []) (fed p piece n answer))
    → HasTold (held_by p) (take n piece) (held_by (renewed answer (fed p piece n answer)))
    (with_message answer []) × IsAfoot (renewed answer (fed p piece n answer))
told_by law (reading taken held) piece n (message m) begun fits t follows =
    let c = completes law held (take n piece) m (omega (arith, t.some, length-take-le n piece t.within)) t.spelt in
    (record { takes = sym c.1; gives = c.0 }, (refl, law.start.unfinished))
told_by law (reading taken held) piece n more begun fits t follows =
    let c = completes_none law held (take n piece) t.unfinished in (
      record { takes = sym c.1; gives = c.0 },
      (
        omega (arith, begun.0, t.all, length-append held (take n piece), length-take-le n piece (omega (arith, t.all))),
        t.unfinished,
      ),
    )
told_by law (reading taken held) piece n (wrong which place) begun fits t follows =
    let f : Follows held [] (reading taken held) =
    subst (λ (k : ℕ). Follows held [] (reading k held)) (sym begun.0) (follows_held law held begun.1) in
    let g = follows held [] f in
    let r : Reads ((held ++ take n piece) ++ []) [] (fault g.0 g.1) = g.2 [] in (
      wrong_by law taken held piece n which g.0 g.1 begun.0 begun.1 fits t.0
          (subst (λ (b : List ℕ). Reads b [] (fault g.0 g.1)) (append-nil (held ++ take n piece)) r),
      tt,
    )
told_by law failed piece n (message m) begun fits t follows = absurd t
told_by law failed piece n more begun fits t follows =
    let c = completes_nothing (take n piece) in
    (record { takes = sym c.1; gives = c.0 }, tt)
told_by law failed piece n (wrong which place) begun fits t follows = absurd t

-- and heard by an automation
pub record HasHeard (unit : ℕ) (held : Held) (piece : List ℕ) (held' : Held) (hs : List Heard) : Type 0 where
  pub takes : held' ≡ held_after held piece
  pub hears : hs ≡ heard_by unit held piece

pub heard_of : (law : Below) (unit : ℕ) (p : Progress) (piece : List ℕ) (n : ℕ) (answer : Answer) → IsAfoot p
    → AreOctets piece → Gives p piece n answer
    → ((burst : List ℕ) (ms : List Content) → Follows burst ms p
    → FollowsNext (burst ++ take n piece) ms answer (fed p piece n answer))
    → HasHeard unit (held_by p) (take n piece) (held_by (renewed answer (fed p piece n answer)))
    (map (heard_as unit) (with_message answer [])) × IsAfoot (renewed answer (fed p piece n answer))
heard_of law unit p piece n answer begun fits gives follows =
    let t = told_by law p piece n answer begun (All-take (λ b. b < 256) n piece fits) gives
    (λ burst ms f. law.further (burst ++ take n piece) ms answer (fed p piece n answer) (follows burst ms f)) in
    (record { takes = t.0.takes; hears = ap (map (heard_as unit)) (sym t.0.gives) }, t.1)

-- whole messages, and then a beginning of one

pub completes_all : (law : Below) (ms : List Content) (xs rest : List ℕ) → SpellsAll ms xs → IsUnfinished rest
    → (completed (holds []) (xs ++ rest) ≡ ms) × (held_after (holds []) (xs ++ rest) ≡ holds rest)
completes_all law [] xs rest s u =
    subst (λ (l : List ℕ). (completed (holds []) (l ++ rest) ≡ []) × (held_after (holds []) (l ++ rest) ≡ holds rest))
    (sym s)
    (completes_none law [] rest u)
completes_all law (m ∷ ms) xs rest s u =
    let first : List ℕ = s.0 in
    let after : List ℕ = s.1 ++ rest in
    let c = completes law [] first m (law.size m first s.2).0 s.2 in
    let r = completes_all law ms s.1 rest s.3 u in
    rw (
      s.4,
      append_assoc first s.1 rest,
      completed_both (holds []) first after,
      held_both (holds []) first after,
      c.0,
      c.1,
      r.0,
      r.1,
    ) (refl, refl)
