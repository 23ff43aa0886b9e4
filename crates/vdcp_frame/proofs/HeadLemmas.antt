-- What stands at the front of some bytes: the answer of head_of means what it says.
use Rattle.std.proofs.Common.{◌≡◌, ℕ, zero, suc, ◌+◌, ◌-◌, ◌*◌, ◌/◌, ◌%◌, ◌<◌, ◌≤◌, ◌==◌, true, false, ltb, List, [], ◌∷◌, ◌++◌, length, get_or, take}
use Rattle.std.proofs.Common.{drop, sum, refl, sym, ap, subst, ◌∙◌, append_assoc, arith, inl, inr, length-append, replicate}
use Rattle.std.specs.Prelude.{All}
use Rattle.std.proofs.lemmas.Bool.{cases_lt, cases_eq, lt-ltb, le-ltb, eq-eqb, ne_eqb}
use Rattle.std.proofs.lemmas.List.{take-append-drop, length-take, append-nil, take-take, take_more, length-replicate, nil_from_length}
use Rattle.std.proofs.lemmas.List.Elements.{All-nil, All-cons, All-replicate, All-append, All-take, All-head, All-tail, All-get_or}
use Rattle.vdcp_frame.specs.declared.message.Fault.{Fault}
use Rattle.vdcp_frame.specs.declared.message.Fault.TheVariants.{BadStart, BadCount, BadSum}
use Rattle.vdcp_frame.specs.Message.{Content, ack, nak, framed, AreOctets, SpellsFrame, Spells, check_byte}
use Rattle.vdcp_frame.specs.Reading.{Begins, HasNoFront, IsUnfinished}
use Rattle.vdcp_frame.specs.Head.{Head, part, wrong, found, data_head, body_head, frame_head, nak_head, head_of, IsPart, IsWrong, IsFound, HeadIs}

-- ---- what is spelt is found, whatever follows

at_check : (rest : List ℕ) (check : ℕ) (more : List ℕ) → get_or ((rest ++ check ∷ []) ++ more) (length rest) 0 ≡ check
at_check [] check more = refl
at_check (x ∷ rest) check more = at_check rest check more

front_of_data : (rest : List ℕ) (check : ℕ) (more : List ℕ) → take (length rest) ((rest ++ check ∷ []) ++ more) ≡ rest
front_of_data [] check more = refl
front_of_data (x ∷ rest) check more = ap (λ (xs : List ℕ). x ∷ xs) (front_of_data rest check more)

quotient : (kind unit : ℕ) → unit < 16 → (16 * kind + unit) / 16 ≡ kind
quotient kind unit h = omega arith

remainder : (kind unit : ℕ) → unit < 16 → (16 * kind + unit) % 16 ≡ unit
remainder kind unit h = omega arith

data_found : (kind unit code : ℕ) (rest : List ℕ) (check : ℕ) (more : List ℕ) → unit < 16
    → (16 * kind + unit + code + sum rest + check) % 256 ≡ 0 →
    data_head (length rest) (16 * kind + unit) code ((rest ++ check ∷ []) ++ more) ≡ found (framed kind unit code rest)
    (length rest + 5)
data_found kind unit code rest check more h adds_up =
    let long : ltb (length rest) (length ((rest ++ check ∷ []) ++ more)) ≡ true =
    lt-ltb _ _ (omega (arith, length-append (rest ++ check ∷ []) more, length-append rest (check ∷ []))) in
    rw (
      long,
      front_of_data rest check more,
      at_check rest check more,
      adds_up,
      quotient kind unit h,
      remainder kind unit h,
    ) refl

-- a frame whose bytes don't add up is wrong, whatever follows
pub data_bad : (n x code : ℕ) (rest : List ℕ) (check : ℕ) (more : List ℕ) → length rest ≡ n
    → ((x + code + sum rest + check) % 256 ≡ 0 → ⊥) →
    data_head n x code ((rest ++ check ∷ []) ++ more) ≡ wrong BadSum (n + 5)
data_bad n x code rest check more size bad =
    let long : ltb (length rest) (length ((rest ++ check ∷ []) ++ more)) ≡ true =
    lt-ltb _ _ (omega (arith, length-append (rest ++ check ∷ []) more, length-append rest (check ∷ []))) in
    let test : ((x + code + sum rest + check) % 256 == 0) ≡ false = ne_eqb _ _ bad in
    let is : data_head (length rest) x code ((rest ++ check ∷ []) ++ more) ≡ wrong BadSum (length rest + 5) =
    rw (long, front_of_data rest check more, at_check rest check more, test) refl in
    subst (λ (k : ℕ). data_head k x code ((rest ++ check ∷ []) ++ more) ≡ wrong BadSum (k + 5)) size is

pub spelt_list : (kind unit code : ℕ) (rest front : List ℕ) (s : SpellsFrame kind unit code rest front)
    → front ≡ 2 ∷ suc (suc (length rest)) ∷ (16 * kind + unit) ∷ code ∷ (rest ++ s.check ∷ [])
spelt_list kind unit code rest front s =
    let two : length rest + 2 ≡ suc (suc (length rest)) = omega arith in
    s.spelt ∙ ap (λ (n : ℕ). 2 ∷ n ∷ (16 * kind + unit) ∷ code ∷ (rest ++ s.check ∷ [])) two

pub head_of-spelt : (m : Content) (front more : List ℕ) → Spells m front
    → head_of (front ++ more) ≡ found m (length front)
head_of-spelt ack front more s = rw s refl
head_of-spelt (nak byte) front more s = rw s.1 refl
head_of-spelt (framed kind unit code rest) front more s =
    let size : length front ≡ length rest + 5 = omega (arith, ap length s.spelt, length-append rest (s.check ∷ [])) in
    ap (λ (f : List ℕ). head_of (f ++ more)) (spelt_list kind unit code rest front s)
    ∙ data_found kind unit code rest s.check more s.fits.unit_fits s.adds_up
    ∙ ap (λ (n : ℕ). found (framed kind unit code rest) n) (sym size)

-- ---- so if the head is no message, no front is a spelling

abbrev IsNoMessage : Head → Type 0
IsNoMessage (part needs) = Unit {0}
IsNoMessage (wrong which size) = Unit {0}
IsNoMessage (found message size) = ⊥

no_front_of : (bytes : List ℕ) (head : Head) → head_of bytes ≡ head → IsNoMessage head → HasNoFront bytes
no_front_of bytes head e none m front more s parts =
    let is : found m (length front) ≡ head = sym (head_of-spelt m front more s) ∙ ap head_of (sym parts) ∙ e in
    let P : Head → Type 0 = IsNoMessage in
    subst P (sym is) none

-- bytes that begin a spelling are wrong nowhere
not_wrong : (bytes : List ℕ) (which : Fault) (size : ℕ) → ((more : List ℕ) → head_of (bytes ++ more) ≡ wrong which size)
    → Begins bytes → ⊥
not_wrong bytes which size stays b =
    let is = head_of-spelt b.message (bytes ++ b.more) [] b.spelt in
    let same : wrong which size ≡ found b.message (length (bytes ++ b.more)) = sym (stays b.more)
    ∙ ap head_of (sym (append-nil (bytes ++ b.more))) ∙ is in
    absurd cc

-- ---- beginnings

pub Begins-front : (a b : List ℕ) → Begins (a ++ b) → Begins a
Begins-front a b h = record {
  message = h.message;
  more = b ++ h.more;
  spelt = subst (Spells h.message)
      (append_assoc a b h.more) h.spelt;
}

pub Begins-take : (k : ℕ) (bytes : List ℕ) → Begins bytes → Begins (take k bytes)
Begins-take k bytes h = Begins-front (take k bytes) (drop k bytes) (subst Begins (sym (take-append-drop k bytes)) h)

pub Begins-spelt : (m : Content) (bytes : List ℕ) → Spells m bytes → Begins bytes
Begins-spelt m bytes s = record { message = m; more = []; spelt = subst (Spells m) (sym (append-nil bytes)) s }

pub frame_spelt : (x code : ℕ) (rest : List ℕ) (check : ℕ) → x < 256 → code < 256 → check < 256 → AreOctets rest
    → length rest ≤ 253
    → (x + code + sum rest + check) % 256 ≡ 0 →
    Spells (framed (x / 16) (x % 16) code rest) (2 ∷ suc (suc (length rest)) ∷ x ∷ code ∷ (rest ++ check ∷ []))
frame_spelt x code rest check x_fits code_fits byte fits size adds_up =
    let whole : 16 * (x / 16) + x % 16 ≡ x = omega arith in
    let two : suc (suc (length rest)) ≡ length rest + 2 = omega arith in
    record {
      fits = record {
        kind_fits = omega arith;
        unit_fits = omega arith;
        code_fits = code_fits;
        rest_fits = fits;
        rest_size = size;
      };
      check = check;
      byte = byte;
      adds_up = rw whole adds_up;
      spelt = ap (λ (n : ℕ). 2 ∷ n ∷ x ∷ code ∷ (rest ++ check ∷ [])) two
          ∙ ap (λ (y : ℕ). 2 ∷ (length rest + 2) ∷ y ∷ code ∷ (rest ++ check ∷ [])) (sym whole);
    }

pub check_byte-fits : (total : ℕ) → check_byte total < 256
check_byte-fits total = omega arith

pub check_byte-adds_up : (total : ℕ) → (total + check_byte total) % 256 ≡ 0
check_byte-adds_up total = omega arith

-- whatever check byte would do, the bytes before it begin a spelling
Begins-body : (x code : ℕ) (rest : List ℕ) → x < 256 → code < 256 → AreOctets rest → length rest ≤ 253
    → Begins (2 ∷ suc (suc (length rest)) ∷ x ∷ code ∷ rest)
Begins-body x code rest x_fits code_fits fits size =
    let total = x + code + sum rest in
    Begins-front (2 ∷ suc (suc (length rest)) ∷ x ∷ code ∷ rest) (check_byte total ∷ [])
    (Begins-spelt (framed (x / 16) (x % 16) code rest)
    (2 ∷ suc (suc (length rest)) ∷ x ∷ code ∷ (rest ++ check_byte total ∷ []))
    (frame_spelt x code rest (check_byte total) x_fits code_fits (check_byte-fits total) fits size
    (check_byte-adds_up total)))

-- with fewer data bytes than its count says, filled up with zeros
Begins-short : (n x code : ℕ) (tail : List ℕ) → n ≤ 253 → x < 256 → code < 256 → AreOctets tail → length tail ≤ n
    → Begins (2 ∷ suc (suc n) ∷ x ∷ code ∷ tail)
Begins-short n x code tail n_fits x_fits code_fits fits short =
    let zeros : List ℕ = replicate (n - length tail) 0 in
    let size : length (tail ++ zeros) ≡ n =
    omega (arith, length-append tail zeros, length-replicate {A = ℕ} (n - length tail) 0) in
    let zero_fits : All (λ b. b < 256) zeros = All-replicate (λ b. b < 256) (n - length tail) 0 (omega arith) in
    let all = Begins-body x code (tail ++ zeros) x_fits code_fits (All-append (λ b. b < 256) tail zeros fits zero_fits)
    (omega arith) in
    Begins-front (2 ∷ suc (suc n) ∷ x ∷ code ∷ tail) zeros
    (subst (λ (k : ℕ). Begins (2 ∷ suc (suc k) ∷ x ∷ code ∷ (tail ++ zeros))) size all)

pub Begins-nil : Begins []
Begins-nil = Begins-front [] (4 ∷ []) (Begins-spelt ack (4 ∷ []) refl)

Begins-nak : Begins (5 ∷ [])
Begins-nak = Begins-front (5 ∷ []) (0 ∷ []) (Begins-spelt (nak 0) (5 ∷ 0 ∷ []) (omega arith, refl))

Begins-counted : (n x : ℕ) → n ≤ 253 → x < 256 → Begins (2 ∷ suc (suc n) ∷ x ∷ [])
Begins-counted n x n_fits x_fits =
    Begins-front (2 ∷ suc (suc n) ∷ x ∷ []) (0 ∷ [])
    (Begins-short n x 0 [] n_fits x_fits (omega arith) (All-nil (λ b. b < 256)) (omega arith))

Begins-count : (n : ℕ) → n ≤ 253 → Begins (2 ∷ suc (suc n) ∷ [])
Begins-count n n_fits = Begins-front (2 ∷ suc (suc n) ∷ []) (0 ∷ []) (Begins-counted n 0 n_fits (omega arith))

Begins-start : Begins (2 ∷ [])
Begins-start = Begins-front (2 ∷ []) (2 ∷ []) (Begins-count 0 (omega arith))

-- ---- what each answer means

pub Unfinished-nil : IsUnfinished []
Unfinished-nil = record { begins = Begins-nil; no_front = no_front_of [] (part 1) refl tt }

-- bytes to which each further one matters
part_next : (bytes : List ℕ) → IsUnfinished bytes → length bytes < 258 → IsPart bytes (length bytes + 1)
part_next bytes h lt = record {
  short = omega arith;
  most = omega arith;
  open_yet = λ more fits few.
      let none : more ≡ [] = nil_from_length more (omega (arith, length-append bytes more)) in
      subst (λ (l : List ℕ). IsUnfinished (bytes ++ l)) (sym none) (subst IsUnfinished (sym (append-nil bytes)) h);
}

pub part_first : IsPart [] 1
part_first = part_next [] Unfinished-nil (omega arith)

body_unfinished : (n : ℕ) (body : List ℕ) → n ≤ 253 → AreOctets body → length body < n + 3
    → IsUnfinished (2 ∷ suc (suc n) ∷ body)
body_unfinished n [] n_fits fits few =
    record { begins = Begins-count n n_fits; no_front = no_front_of (2 ∷ suc (suc n) ∷ []) (part (n + 5)) refl tt }
body_unfinished n (x ∷ []) n_fits fits few = record {
  begins = Begins-counted n x n_fits (All-head (λ b. b < 256) x [] fits);
  no_front = no_front_of (2 ∷ suc (suc n) ∷ x ∷ []) (part (n + 5)) refl tt;
}
body_unfinished n (x ∷ code ∷ tail) n_fits fits few =
    let rest_fits = All-tail (λ b. b < 256) x (code ∷ tail) fits in
    let short : length tail ≤ n = omega arith in
    record {
      begins = Begins-short n x code tail n_fits (All-head (λ b. b < 256) x (code ∷ tail) fits)
          (All-head (λ b. b < 256) code tail rest_fits)
          (All-tail (λ b. b < 256) code tail rest_fits) short;
      no_front = no_front_of (2 ∷ suc (suc n) ∷ x ∷ code ∷ tail) (part (n + 5))
          (rw (le-ltb n (length tail) short) refl) tt;
    }

-- a frame that lacks some of the bytes that its count announces
body_part : (n : ℕ) (body : List ℕ) → n ≤ 253 → AreOctets body → length body < n + 3
    → IsPart (2 ∷ suc (suc n) ∷ body) (n + 5)
body_part n body n_fits fits few = record {
  short = omega arith;
  most = omega arith;
  open_yet = λ more more_fits less. body_unfinished n (body ++ more) n_fits
      (All-append (λ b. b < 256) body more fits more_fits) (omega (arith, less));
}

shorter_than : (bytes : List ℕ) (j : ℕ) → Begins (take j bytes) → (k : ℕ) → k < suc j → Begins (take k bytes)
shorter_than bytes j h k lt =
    let le : k ≤ j = omega arith in
    subst Begins (take-take k j bytes le) (Begins-take k (take j bytes) h)

-- the front of one byte, or of two, is the shortest that begins no spelling
wrong_start : (b : ℕ) (bs : List ℕ) → ((more : List ℕ) → head_of (b ∷ more) ≡ wrong BadStart 1)
    → IsWrong (b ∷ bs) BadStart 1
wrong_start b bs e = record {
  first = record {
    within = omega arith;
    wrong = not_wrong (b ∷ []) BadStart 1 e;
    shorter = shorter_than (b ∷ bs) 0 Begins-nil;
  };
  no_front = no_front_of (b ∷ bs) (wrong BadStart 1) (e bs) tt;
  fault_is = refl;
}

wrong_count : (count : ℕ) (body : List ℕ) → ((more : List ℕ) → head_of (2 ∷ count ∷ more) ≡ wrong (BadCount count) 2)
    → IsWrong (2 ∷ count ∷ body) (BadCount count) 2
wrong_count count body e = record {
  first = record {
    within = omega arith;
    wrong = not_wrong (2 ∷ count ∷ []) (BadCount count) 2 e;
    shorter = shorter_than (2 ∷ count ∷ body) 1 Begins-start;
  };
  no_front = no_front_of (2 ∷ count ∷ body) (wrong (BadCount count) 2) (e body) tt;
  fault_is = refl;
}

module _ (n x code : ℕ) (tail : List ℕ) (n_fits : n ≤ 253) (x_fits : x < 256) (code_fits : code < 256)
    (fits : AreOctets tail) where
  data_part : length tail ≤ n → HeadIs (2 ∷ suc (suc n) ∷ x ∷ code ∷ tail) (data_head n x code tail)
  data_part short =
      let is : ltb n (length tail) ≡ false = le-ltb _ _ short in
      let all_fits = All-cons (λ b. b < 256) x (code ∷ tail) x_fits
      (All-cons (λ b. b < 256) code tail code_fits fits) in
      rw is (body_part n (x ∷ code ∷ tail) n_fits all_fits (omega arith))

  data_whole : n < length tail
      → take (n + 5) (2 ∷ suc (suc n) ∷ x ∷ code ∷ tail) ≡ 2 ∷ suc (suc n) ∷ x ∷ code ∷
      (take n tail ++ get_or tail n 0 ∷ [])
  data_whole long =
      let five : n + 5 ≡ suc (suc (suc (suc (n + 1)))) = omega arith in
      rw five (ap (λ (t : List ℕ). 2 ∷ suc (suc n) ∷ x ∷ code ∷ t) (take_more tail n 0 long))

  data_spelt : n < length tail → (x + code + sum (take n tail) + get_or tail n 0) % 256 ≡ 0
      → IsFound (2 ∷ suc (suc n) ∷ x ∷ code ∷ tail) (framed (x / 16) (x % 16) code (take n tail)) (n + 5)
  data_spelt long adds_up =
      let size : length (take n tail) ≡ n = omega (arith, length-take n tail) in
      let check_fits : get_or tail n 0 < 256 = All-get_or (λ b. b < 256) tail n 0 long fits in
      let spelt = frame_spelt x code (take n tail) (get_or tail n 0) x_fits code_fits check_fits
      (All-take (λ b. b < 256) n tail fits) (omega arith) adds_up in
      record {
        some = omega arith;
        within = omega arith;
        spelt = rw (data_whole long) (subst (λ (k : ℕ). Spells (framed (x / 16) (x % 16) code (take n tail))
            (2 ∷ suc (suc k) ∷ x ∷ code ∷ (take n tail ++ get_or tail n 0 ∷ []))) size spelt);
      }

  data_wrong : n < length tail → ((x + code + sum (take n tail) + get_or tail n 0) % 256 ≡ 0 → ⊥)
      → IsWrong (2 ∷ suc (suc n) ∷ x ∷ code ∷ tail) BadSum (n + 5)
  data_wrong long bad =
      let size : length (take n tail) ≡ n = omega (arith, length-take n tail) in
      let five : suc (n + 4) ≡ n + 5 = omega arith in
      let four : n + 4 ≡ suc (suc (suc (suc n))) = omega arith in
      let begins : Begins (take (n + 4) (2 ∷ suc (suc n) ∷ x ∷ code ∷ tail)) =
      rw four (Begins-short n x code (take n tail) n_fits x_fits code_fits (All-take (λ b. b < 256) n tail fits)
      (omega arith)) in
      let test : ((x + code + sum (take n tail) + get_or tail n 0) % 256 == 0) ≡ false = ne_eqb _ _ bad in
      let is : data_head n x code tail ≡ wrong BadSum (n + 5) = rw (lt-ltb _ _ long, test) refl in
      record {
        first = record {
          within = omega arith;
          wrong = rw (data_whole long)
              (not_wrong (2 ∷ suc (suc n) ∷ x ∷ code ∷ (take n tail ++ get_or tail n 0 ∷ [])) BadSum (n + 5)
              (λ more. data_bad n x code (take n tail) (get_or tail n 0) more size bad));
          shorter = subst (λ (m : ℕ). (k : ℕ) → k < m → Begins (take k (2 ∷ suc (suc n) ∷ x ∷ code ∷ tail))) five
              (shorter_than (2 ∷ suc (suc n) ∷ x ∷ code ∷ tail) (n + 4) begins);
        };
        no_front = no_front_of (2 ∷ suc (suc n) ∷ x ∷ code ∷ tail) (wrong BadSum (n + 5)) is tt;
        fault_is = rw (data_whole long) refl;
      }

  data_is : HeadIs (2 ∷ suc (suc n) ∷ x ∷ code ∷ tail) (data_head n x code tail)
  data_is =
      let sum_of : ℕ = x + code + sum (take n tail) + get_or tail n 0 in
      elim (cases_lt n (length tail)) [
        | inl long ↦ elim (cases_eq (sum_of % 256) 0) [
          | inl good ↦ rw (lt-ltb _ _ long, eq-eqb _ _ good) (data_spelt long good)
          | inr bad ↦ rw (lt-ltb _ _ long, ne_eqb _ _ bad) (data_wrong long bad)
        ]
        | inr short ↦ data_part short
      ]

body_is : (n : ℕ) (body : List ℕ) → n ≤ 253 → AreOctets body → HeadIs (2 ∷ suc (suc n) ∷ body) (body_head n body)
body_is n [] n_fits fits = body_part n [] n_fits fits (omega arith)
body_is n (x ∷ []) n_fits fits = body_part n (x ∷ []) n_fits fits (omega arith)
body_is n (x ∷ code ∷ tail) n_fits fits =
    let rest_fits = All-tail (λ b. b < 256) x (code ∷ tail) fits in
    data_is n x code tail n_fits (All-head (λ b. b < 256) x (code ∷ tail) fits)
    (All-head (λ b. b < 256) code tail rest_fits)
    (All-tail (λ b. b < 256) code tail rest_fits)

frame_is : (bytes : List ℕ) → AreOctets bytes → HeadIs (2 ∷ bytes) (frame_head bytes)
frame_is [] fits = part_next (2 ∷ [])
    (record { begins = Begins-start; no_front = no_front_of (2 ∷ []) (part 2) refl tt }) (omega arith)
frame_is (zero ∷ body) fits = wrong_count 0 body (λ more. refl)
frame_is (suc zero ∷ body) fits = wrong_count 1 body (λ more. refl)
frame_is (suc (suc n) ∷ body) fits =
    let count_fits = All-head (λ b. b < 256) (suc (suc n)) body fits in
    body_is n body (omega arith) (All-tail (λ b. b < 256) (suc (suc n)) body fits)

nak_is : (bytes : List ℕ) → AreOctets bytes → HeadIs (5 ∷ bytes) (nak_head bytes)
nak_is [] fits = part_next (5 ∷ []) (record { begins = Begins-nak; no_front = no_front_of (5 ∷ []) (part 2) refl tt })
    (omega arith)
nak_is (byte ∷ bytes) fits =
    record { some = omega arith; within = omega arith; spelt = (All-head (λ b. b < 256) byte bytes fits, refl) }

-- the answer of head_of means what it says
pub head_is : (bytes : List ℕ) → AreOctets bytes → HeadIs bytes (head_of bytes)
head_is [] fits = part_first
head_is (b ∷ bytes) fits =
    let rest_fits = All-tail (λ b. b < 256) b bytes fits in
    elim (cases_eq b 4) [
      | inl is_ack ↦ rw is_ack (record { some = omega arith; within = omega arith; spelt = refl })
      | inr no_ack ↦ elim (cases_eq b 5) [
        | inl is_nak ↦ rw is_nak (nak_is bytes rest_fits)
        | inr no_nak ↦ elim (cases_eq b 2) [
          | inl is_frame ↦ rw is_frame (frame_is bytes rest_fits)
          | inr no_frame ↦ rw (ne_eqb _ _ no_ack, ne_eqb _ _ no_nak, ne_eqb _ _ no_frame)
              (wrong_start b bytes (λ more. rw (ne_eqb _ _ no_ack, ne_eqb _ _ no_nak, ne_eqb _ _ no_frame) refl))
        ]
      ]
    ]

-- ---- part of a message

pub part_unfinished : (bytes : List ℕ) (needs : ℕ) → IsPart bytes needs → IsUnfinished bytes
part_unfinished bytes needs p =
    let same : bytes ++ [] ≡ bytes = append-nil bytes in
    subst IsUnfinished same
    (p.open_yet [] (All-nil (λ b. b < 256)) (subst (λ (l : List ℕ). length l < needs) (sym same) p.short))
