-- Each burst has exactly one reading, and a step along it is a step of the reading.
use Rattle.std.proofs.Common.{◌≡◌, ℕ, ◌+◌, ◌-◌, ◌*◌, ◌<◌, ◌≤◌, Bool, true, false, cond, ltb, List, [], ◌∷◌, ◌++◌, length, take, drop, sum}
use Rattle.std.proofs.Common.{refl, sym, ap, subst, ◌∙◌, append_assoc, arith, inl, inr, length-append}
use Rattle.std.proofs.lemmas.Bool.{cases_lt, lt-ltb, le-ltb}
use Rattle.std.proofs.lemmas.List.{take_at, take-append-drop, length-take, length-drop, append-nil, append_cancel_left, take_all, take-take}
use Rattle.std.proofs.lemmas.List.{take-append-le, drop-take}
use Rattle.vdcp_frame.specs.declared.message.Fault.{Fault}
use Rattle.vdcp_frame.specs.declared.message.Fault.TheVariants.{Long}
use Rattle.vdcp_frame.specs.Message.{Content, ack, nak, framed, Fits, Spells, check_byte, spelling}
use Rattle.vdcp_frame.specs.Reading.{SpellsAll, Begins, HasNoFront, IsUnfinished, IsFirstWrong, End, clean, cut, fault, fault_of, Ends, ReadsShort, long_end, ReadsUpTo}
use Rattle.vdcp_frame.specs.Head.{found, head_of, IsWrong, IsFound}
use Rattle.vdcp_frame.specs.Burst.{unfinished_end}
use Rattle.vdcp_frame.proofs.HeadLemmas.{head_of-spelt, Begins-take, Unfinished-nil, Begins-nil, check_byte-fits, check_byte-adds_up}
use Rattle.std.proofs.Math.Seq.{take-add, take-append-add}

-- ---- one message

-- if two spellings begin one list of bytes, they are one
pub one_front : (m n : Content) (a b x y : List ℕ) → Spells m a → Spells n b → a ++ x ≡ b ++ y → (m ≡ n) × (a ≡ b)
    × (x ≡ y)
one_front m n a b x y s t e =
    let same : found m (length a) ≡ found n (length b) = sym (head_of-spelt m a x s) ∙ ap head_of e
    ∙ head_of-spelt n b y t in
    let m_is : m ≡ n = cc in
    let size : length a ≡ length b = cc in
    let a_is : a ≡ b = sym (take_at a x (length a) refl) ∙ ap (take (length a)) e ∙ take_at b y (length a) (sym size) in
    (m_is, a_is, append_cancel_left a x y (e ∙ ap (λ (f : List ℕ). f ++ y) (sym a_is)))

-- what fits is spelt by its spelling
pub Spells-spelling : (m : Content) → Fits m → Spells m (spelling m)
Spells-spelling ack fits = refl
Spells-spelling (nak byte) fits = (fits, refl)
Spells-spelling (framed kind unit code rest) fits =
    let total : ℕ = 16 * kind + unit + code + sum rest in
    record {
      fits = fits;
      check = check_byte total;
      byte = check_byte-fits total;
      adds_up = check_byte-adds_up total;
      spelt = refl;
    }

-- a spelling has a byte
pub spelt_some : (m : Content) (bytes : List ℕ) → Spells m bytes → 0 < length bytes
spelt_some ack bytes s = rw s (omega arith)
spelt_some (nak byte) bytes s = rw s.1 (omega arith)
spelt_some (framed kind unit code rest) bytes s = rw s.spelt (omega arith)

-- ---- messages one after another

pub SpellsAll-push : (ms : List Content) (m : Content) (front bytes : List ℕ) → SpellsAll ms front → Spells m bytes
    → SpellsAll (ms ++ m ∷ []) (front ++ bytes)
SpellsAll-push [] m front bytes all s =
    (bytes, [], s, refl, ap (λ (f : List ℕ). f ++ bytes) all ∙ sym (append-nil bytes))
SpellsAll-push (first ∷ ms) m front bytes all s = (
  all.0,
  all.1 ++ bytes,
  all.2,
  SpellsAll-push ms m all.1 bytes all.3 s,
  ap (λ (f : List ℕ). f ++ bytes) all.4
      ∙ append_assoc all.0 all.1 bytes,
)

pub SpellsAll-append : (ms ns : List Content) (a b : List ℕ) → SpellsAll ms a → SpellsAll ns b
    → SpellsAll (ms ++ ns) (a ++ b)
SpellsAll-append [] ns a b p q = subst (SpellsAll ns) (ap (λ (f : List ℕ). f ++ b) (sym p)) q
SpellsAll-append (m ∷ ms) ns a b p q =
    (p.0, p.1 ++ b, p.2, SpellsAll-append ms ns p.1 b p.3 q, ap (λ (f : List ℕ). f ++ b) p.4 ∙ append_assoc p.0 p.1 b)

-- ---- one reading

pub same_whole : (ms ns : List Content) (a b x y : List ℕ) → SpellsAll ms a → SpellsAll ns b → HasNoFront x
    → HasNoFront y → a ++ x ≡ b ++ y
    → (ms ≡ ns) × (a ≡ b) × (x ≡ y)
same_whole [] [] a b x y p q no_x no_y e =
    (refl, p ∙ sym q, sym (ap (λ (f : List ℕ). f ++ x) p) ∙ e ∙ ap (λ (f : List ℕ). f ++ y) q)
same_whole [] (n ∷ ns) a b x y p q no_x no_y e =
    absurd (no_x n q.0 (q.1 ++ y) q.2 (sym (ap (λ (f : List ℕ). f ++ x) p) ∙ e ∙ ap (λ (f : List ℕ). f ++ y) q.4
    ∙ append_assoc q.0 q.1 y))
same_whole (m ∷ ms) [] a b x y p q no_x no_y e =
    absurd (no_y m p.0 (p.1 ++ x) p.2 (sym (ap (λ (f : List ℕ). f ++ y) q) ∙ sym e ∙ ap (λ (f : List ℕ). f ++ x) p.4
    ∙ append_assoc p.0 p.1 x))
same_whole (m ∷ ms) (n ∷ ns) a b x y p q no_x no_y e =
    let joined : p.0 ++ (p.1 ++ x) ≡ q.0 ++ (q.1 ++ y) =
    sym (ap (λ (f : List ℕ). f ++ x) p.4 ∙ append_assoc p.0 p.1 x) ∙ e ∙ ap (λ (f : List ℕ). f ++ y) q.4
    ∙ append_assoc q.0 q.1 y in
    let first = one_front m n p.0 q.0 (p.1 ++ x) (q.1 ++ y) p.2 q.2 joined in
    let more = same_whole ms ns p.1 q.1 x y p.3 q.3 no_x no_y first.2 in
    (cc, cc, more.2)

one_first_wrong : (bytes : List ℕ) (n m : ℕ) → IsFirstWrong bytes n → IsFirstWrong bytes m → n ≡ m
one_first_wrong bytes n m p q =
    elim (cases_lt n m) [
      | inl lt ↦ absurd (p.wrong (q.shorter n lt))
      | inr le ↦ elim (cases_lt m n) [
        | inl lt ↦ absurd (q.wrong (p.shorter m lt))
        | inr ge ↦ omega arith
      ]
    ]

-- a front that begins no spelling is part of nothing that begins one
no_wrong_part : (bytes : List ℕ) (n : ℕ) → IsFirstWrong bytes n → Begins bytes → ⊥
no_wrong_part bytes n w b = w.wrong (Begins-take n bytes b)

no_wrong_nil : (bytes : List ℕ) (n : ℕ) → IsFirstWrong bytes n → bytes ≡ [] → ⊥
no_wrong_nil bytes n w e =
    let none : take n bytes ≡ [] = ap (λ (b : List ℕ). take n b) e ∙ take_all n [] (omega arith) in
    w.wrong (subst Begins (sym none) Begins-nil)

one_end : (before : ℕ) (remainder : List ℕ) (e f : End) → Ends before remainder e → Ends before remainder f → e ≡ f
one_end before remainder clean clean p q = refl
one_end before remainder clean (cut count) p q = absurd (q.0 p)
one_end before remainder clean (fault which place) p q = absurd (no_wrong_nil remainder q.0 q.1 p)
one_end before remainder (cut count) clean p q = absurd (p.0 q)
one_end before remainder (cut count) (cut other) p q = ap cut (p.2 ∙ sym q.2)
one_end before remainder (cut count) (fault which place) p q = absurd (no_wrong_part remainder q.0 q.1 p.1)
one_end before remainder (fault which place) clean p q = absurd (no_wrong_nil remainder p.0 p.1 q)
one_end before remainder (fault which place) (cut count) p q = absurd (no_wrong_part remainder p.0 p.1 q.1)
one_end before remainder (fault which place) (fault other there) p q =
    let n_is : p.0 ≡ q.0 = one_first_wrong remainder p.0 q.0 p.1 q.1 in
    let kinds : which ≡ other = p.3 ∙ ap (λ (n : ℕ). fault_of (take n remainder)) n_is ∙ sym q.3 in
    let places : place ≡ there = p.2 ∙ ap (λ (n : ℕ). before + n) n_is ∙ sym q.2 in
    cc

one_short : (bytes : List ℕ) (ms ns : List Content) (e f : End) → ReadsShort bytes ms e → ReadsShort bytes ns f
    → (ms ≡ ns) × (e ≡ f)
one_short bytes ms ns e f p q =
    let same = same_whole ms ns p.whole q.whole p.remainder q.remainder p.spelt q.spelt p.no_front q.no_front
    (sym p.parts ∙ q.parts) in
    let there : Ends (length p.whole) p.remainder f =
    subst (λ (w : List ℕ). Ends (length w) p.remainder f) (sym same.1)
    (subst (λ (r : List ℕ). Ends (length q.whole) r f) (sym same.2) q.ends) in
    (same.0, one_end (length p.whole) p.remainder e f p.ends there)

-- a burst has one reading at most
pub one_reading : (limit : ℕ) (burst : List ℕ) (ms ns : List Content) (e f : End) → ReadsUpTo limit burst ms e
    → ReadsUpTo limit burst ns f
    → (ms ≡ ns) × (e ≡ f)
one_reading limit burst ms ns e f p q =
    let same = one_short (take limit burst) ms ns p.short q.short p.front q.front in
    (same.0, p.long ∙ ap (λ (s : End). cond (ltb limit (length burst)) (long_end limit s) s) same.1 ∙ sym q.long)

-- ---- an unfinished remainder

pub ends_unfinished : (before : ℕ) (held : List ℕ) → IsUnfinished held → Ends before held (unfinished_end held)
ends_unfinished before [] h = refl
ends_unfinished before (byte ∷ bytes) h = ((λ e. absurd cc), h.begins, refl)

long_unfinished : (limit : ℕ) (held : List ℕ) → long_end limit (unfinished_end held) ≡ fault Long (limit + 1)
long_unfinished limit [] = refl
long_unfinished limit (byte ∷ bytes) = refl

pub unfinished_clean : (held : List ℕ) → length held ≡ 0 → unfinished_end held ≡ clean
unfinished_clean [] none = refl
unfinished_clean (byte ∷ bytes) none = absurd (omega arith)

pub unfinished_cut : (held : List ℕ) (n : ℕ) → length held ≡ n → 0 < n → unfinished_end held ≡ cut n
unfinished_cut [] n size some = absurd (omega arith)
unfinished_cut (byte ∷ bytes) n size some = ap cut size

-- the bytes that are read are messages and an unfinished remainder
module _ (limit : ℕ) (burst : List ℕ) (ms : List Content) (whole held : List ℕ)
    (parts : take limit burst ≡ whole ++ held)
    (spelt : SpellsAll ms whole) (h : IsUnfinished held) where
  reads_unfinished : ReadsUpTo limit burst ms
      (cond (ltb limit (length burst)) (long_end limit (unfinished_end held)) (unfinished_end held))
  reads_unfinished = record {
    short = unfinished_end held;
    front = record {
      whole = whole;
      remainder = held;
      parts = parts;
      spelt = spelt;
      no_front = h.no_front;
      ends = ends_unfinished (length whole) held h;
    };
    long = refl;
  }

  pub reads_short : length burst ≤ limit → ReadsUpTo limit burst ms (unfinished_end held)
  reads_short short = subst
      (λ (b : Bool). ReadsUpTo limit burst ms (cond b (long_end limit (unfinished_end held)) (unfinished_end held)))
      (le-ltb limit (length burst) short) reads_unfinished

  -- a longer burst is a fault, if there was none before
  pub reads_long : limit < length burst → ReadsUpTo limit burst ms (fault Long (limit + 1))
  reads_long long = subst (ReadsUpTo limit burst ms) (long_unfinished limit held)
      (subst (λ (b : Bool). ReadsUpTo limit burst ms
      (cond b (long_end limit (unfinished_end held)) (unfinished_end held)))
      (lt-ltb limit (length burst) long) reads_unfinished)

-- ---- a step along a burst

pub either_way : (b : Bool) (end : End) → cond b end end ≡ end
either_way true end = refl
either_way false end = refl

-- the bytes that are left to read
abbrev pub left : ℕ → List ℕ → ℕ → List ℕ
left limit burst from = drop from (take limit burst)

module _ (limit : ℕ) (burst : List ℕ) (from : ℕ) (within : from ≤ limit) where
  front_of : take from (take limit burst) ≡ take from burst
  front_of = take-take from limit burst within

  pub left_parts : take limit burst ≡ take from burst ++ left limit burst from
  left_parts = sym (take-append-drop from (take limit burst)) ∙ ap (λ (f : List ℕ). f ++ left limit burst from) front_of

  found_within : (m : Content) (size : ℕ) → IsFound (left limit burst from) m size → from + size ≤ limit
  found_within m size f = omega (arith, f.some, f.within, length-drop from (take limit burst), length-take limit burst)

  -- a message that is found in what is left goes on the messages of the front
  pub next_front : (ms : List Content) (m : Content) (size : ℕ) → IsFound (left limit burst from) m size
      → SpellsAll ms (take from burst)
      → SpellsAll (ms ++ m ∷ []) (take (from + size) burst)
  next_front ms m size f all =
      let whole : take (from + size) burst ≡ take from burst ++ take size (left limit burst from) =
      sym (take-take (from + size) limit burst (found_within m size f)) ∙ take-add from size (take limit burst)
      ∙ ap (λ (b : List ℕ). b ++ take size (left limit burst from)) front_of in
      subst (SpellsAll (ms ++ m ∷ [])) (sym whole)
      (SpellsAll-push ms m (take from burst) (take size (left limit burst from)) all f.spelt)

  reads_left : (ms : List Content) (end : End) → SpellsAll ms (take from burst) → HasNoFront (left limit burst from)
      → Ends (length (take from burst)) (left limit burst from) end → ReadsShort (take limit burst) ms end
  reads_left ms end all none ends = record {
    whole = take from burst;
    remainder = left limit burst from;
    parts = left_parts;
    spelt = all;
    no_front = none;
    ends = ends;
  }

  reads_end : (ms : List Content) (end : End) → SpellsAll ms (take from burst) → HasNoFront (left limit burst from)
      → Ends (length (take from burst)) (left limit burst from) end →
      ReadsUpTo limit burst ms (cond (ltb limit (length burst)) (long_end limit end) end)
  reads_end ms end all none ends = record { short = end; front = reads_left ms end all none ends; long = refl }

  -- what is left begins with a fault
  pub reads_wrong : (ms : List Content) (which : Fault) (size : ℕ) → from ≤ length burst
      → SpellsAll ms (take from burst)
      → IsWrong (left limit burst from) which size → ReadsUpTo limit burst ms (fault which (from + size))
  reads_wrong ms which size fits all w =
      let before : length (take from burst) ≡ from = omega (arith, length-take from burst) in
      let ends : Ends (length (take from burst)) (left limit burst from) (fault which (from + size)) =
      (size, w.first, ap (λ (n : ℕ). n + size) (sym before), w.fault_is) in
      subst (ReadsUpTo limit burst ms) (either_way (ltb limit (length burst)) (fault which (from + size)))
      (reads_end ms (fault which (from + size)) all w.no_front ends)

  -- where the message that is found lies in the burst
  pub found_spelt : (m : Content) (size : ℕ) → IsFound (left limit burst from) m size
      → Spells m (take (from + size - from) (drop from burst))
  found_spelt m size f =
      let fits : from + size ≤ limit = found_within m size f in
      let whole : limit ≡ from + (limit - from) = omega arith in
      let less : size ≤ limit - from = omega arith in
      let same : left limit burst from ≡ take (limit - from) (drop from burst) =
      ap (λ (n : ℕ). drop from (take n burst)) whole
      ∙ drop-take from (limit - from) burst in
      let there : take size (left limit burst from) ≡ take size (drop from burst) =
      ap (λ (b : List ℕ). take size b) same
      ∙ take-take size (limit - from) (drop from burst) less in
      let count : size ≡ from + size - from = omega arith in
      subst (λ (n : ℕ). Spells m (take n (drop from burst))) count (subst (Spells m) there f.spelt)

  pub found_further : (m : Content) (size : ℕ) → IsFound (left limit burst from) m size
      → (from < from + size) × (from + size ≤ limit) × (from + size ≤ length burst)
  found_further m size f = (
    omega (arith, f.some),
    found_within m size f,
    omega (arith, f.some, f.within, length-drop from (take limit burst), length-take limit burst),
  )

-- ---- spellings

-- ---- written messages are read again

-- the messages of a longer list begin with those of a front
goes_on : (ms ns : List Content) (a b more remainder : List ℕ) → SpellsAll ms a → SpellsAll ns b → HasNoFront remainder
    → a ++ more ≡ b ++ remainder
    → (others : List Content) × (ns ≡ ms ++ others)
goes_on [] ns a b more remainder p q none e = (ns, refl)
goes_on (m ∷ ms) [] a b more remainder p q none e =
    absurd (none m p.0 (p.1 ++ more) p.2 (sym (ap (λ (f : List ℕ). f ++ remainder) q) ∙ sym e
    ∙ ap (λ (f : List ℕ). f ++ more) p.4 ∙ append_assoc p.0 p.1 more))
goes_on (m ∷ ms) (n ∷ ns) a b more remainder p q none e =
    let joined : p.0 ++ (p.1 ++ more) ≡ q.0 ++ (q.1 ++ remainder) =
    sym (ap (λ (f : List ℕ). f ++ more) p.4 ∙ append_assoc p.0 p.1 more) ∙ e ∙ ap (λ (f : List ℕ). f ++ remainder) q.4
    ∙ append_assoc q.0 q.1 remainder in
    let first = one_front m n p.0 q.0 (p.1 ++ more) (q.1 ++ remainder) p.2 q.2 joined in
    let tail = goes_on ms ns p.1 q.1 more remainder p.3 q.3 none first.2 in
    (tail.0, cc (first.0, tail.1))

pub front_up_to : (limit : ℕ) (bytes more : List ℕ) → length bytes ≤ limit
    → take limit (bytes ++ more) ≡ bytes ++ take (limit - length bytes) more
front_up_to limit bytes more fits =
    let whole : limit ≡ length bytes + (limit - length bytes) = omega arith in
    ap (λ (n : ℕ). take n (bytes ++ more)) whole ∙ take-append-add bytes more (limit - length bytes)

pub read_again : (limit : ℕ) (ms ns : List Content) (bytes more : List ℕ) (end : End) → SpellsAll ms bytes
    → length bytes ≤ limit
    → ReadsUpTo limit (bytes ++ more) ns end → (others : List Content) × (ns ≡ ms ++ others)
read_again limit ms ns bytes more end all fits reads =
    goes_on ms ns bytes reads.front.whole
    (take (limit - length bytes) more) reads.front.remainder all reads.front.spelt reads.front.no_front
    (sym (front_up_to limit bytes more fits) ∙ reads.front.parts)

pub read_alone : (limit : ℕ) (ms : List Content) (bytes : List ℕ) → SpellsAll ms bytes → length bytes ≤ limit
    → ReadsUpTo limit bytes ms clean
read_alone limit ms bytes all fits =
    let short : take limit bytes ≡ bytes = take_all limit bytes fits in
    record {
      short = clean;
      front = record {
        whole = bytes;
        remainder = [];
        parts = short
            ∙ sym (append-nil bytes);
        spelt = all;
        no_front = Unfinished-nil.no_front;
        ends = refl;
      };
      long = ap (λ (b : Bool). cond b (long_end limit clean) clean) (sym (le-ltb limit (length bytes) fits));
    }

-- ---- bytes after a fault change nothing

pub IsWrong-more : (w remainder : List ℕ) (which : Fault) → IsWrong w which (length w)
    → IsWrong (w ++ remainder) which (length w)
IsWrong-more w remainder which h =
    let same : (k : ℕ) → k ≤ length w → take k (w ++ remainder) ≡ take k w = λ k le. take-append-le k w remainder le in
    let at_end = same (length w) (omega arith) in
    record {
      first = record {
        within = omega (arith, length-append w remainder);
        wrong = λ b. h.first.wrong (subst Begins at_end b);
        shorter = λ k lt. let le : k ≤ length w = omega arith in subst Begins (sym (same k le)) (h.first.shorter k lt);
      };
      no_front = λ m front tail s e. elim (cases_lt (length w) (length front)) [
        | inl longer ↦
            let front_is : front ≡ w ++ drop (length w) front =
            sym (take-append-drop (length w) front)
            ∙ ap (λ (f : List ℕ). f ++ drop (length w) front)
            (sym (take-append-le (length w) front tail (omega arith)) ∙ ap (λ (f : List ℕ). take (length w) f) (sym e)
            ∙ take_at w remainder (length w) refl) in
            let begins : Begins w =
            record { message = m; more = drop (length w) front; spelt = subst (Spells m) front_is s } in
            h.first.wrong (subst Begins (sym (take_all (length w) w (omega arith))) begins)
        | inr fits ↦
            let front_is : front ≡ take (length front) w =
            sym (take_at front tail (length front) refl) ∙ ap (λ (f : List ℕ). take (length front) f) (sym e)
            ∙ take-append-le (length front) w remainder fits in
            h.no_front m front (drop (length front) w) s (sym (take-append-drop (length front) w)
            ∙ ap (λ (f : List ℕ). f ++ drop (length front) w) (sym front_is))
      ];
      fault_is = h.fault_is ∙ ap fault_of (sym at_end);
    }

-- a burst that is wrong after whole messages, whatever follows
pub wrong_reads : (limit : ℕ) (ms : List Content) (whole w remainder : List ℕ) (which : Fault) → SpellsAll ms whole
    → IsWrong w which (length w)
    → length whole + length w ≤ limit →
    ReadsUpTo limit ((whole ++ w) ++ remainder) ms (fault which (length whole + length w))
wrong_reads limit ms whole w remainder which all h room =
    let front : List ℕ = whole ++ w in
    let size : length front ≡ length whole + length w = length-append whole w in
    let tail : List ℕ = take (limit - length front) remainder in
    let read : take limit (front ++ remainder) ≡ whole ++ (w ++ tail) = front_up_to limit front remainder (omega arith)
    ∙ append_assoc whole w tail in
    let there = IsWrong-more w tail which h in
    record {
      short = fault which (length whole + length w);
      front = record {
        whole = whole;
        remainder = w ++ tail;
        parts = read;
        spelt = all;
        no_front = there.no_front;
        ends = (length w, there.first, refl, there.fault_is);
      };
      long = sym (either_way (ltb limit (length (front ++ remainder))) (fault which (length whole + length w)));
    }
