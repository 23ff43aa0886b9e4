-- How many bytes of those held and a piece to look at: with that many, they are no part of a message.
use Rattle.std.proofs.Common.{◌≡◌, ℕ, zero, suc, ◌+◌, ◌%◌, ◌<◌, ◌≤◌, List, [], ◌∷◌, ◌++◌, length, get_or, take, drop, sum, refl, sym, subst}
use Rattle.std.proofs.Common.{arith, inl, inr, length-append}
use Rattle.std.proofs.lemmas.Bool.{cases_lt, cases_eq, lt-ltb, le-ltb, eq-eqb, ne_eqb}
use Rattle.std.proofs.lemmas.List.{take-append-drop, length-take}
use Rattle.vdcp_frame.specs.Message.{AreOctets}
use Rattle.vdcp_frame.specs.Head.{Head, part, wrong, found, data_head, body_head, frame_head, head_of, size_of, IsPart, HeadIs}
use Rattle.vdcp_frame.specs.Front.{looked_at}
use Rattle.vdcp_frame.proofs.HeadLemmas.{Begins-take, head_is, part_unfinished}

abbrev IsDecided : Head → Type 0
IsDecided (part needs) = ⊥
IsDecided (wrong which size) = Unit {0}
IsDecided (found message size) = Unit {0}

data_decided : (n x code : ℕ) (tail : List ℕ) → n < length tail → IsDecided (data_head n x code tail)
data_decided n x code tail long = elim (cases_eq ((x + code + sum (take n tail) + get_or tail n 0) % 256) 0) [
  | inl good ↦ rw (lt-ltb _ _ long, eq-eqb _ _ good) tt
  | inr bad ↦ rw (lt-ltb _ _ long, ne_eqb _ _ bad) tt
]

body_decided : (n : ℕ) (body : List ℕ) → n + 3 ≤ length body → IsDecided (body_head n body)
body_decided n [] h = absurd (omega (arith, h))
body_decided n (x ∷ []) h = absurd (omega (arith, h))
body_decided n (x ∷ code ∷ tail) h = data_decided n x code tail (omega (arith, h))

data_size : (n x code : ℕ) (tail : List ℕ) → size_of (data_head n x code tail) ≡ n + 5
data_size n x code tail = elim (cases_lt n (length tail)) [
  | inl long ↦ elim (cases_eq ((x + code + sum (take n tail) + get_or tail n 0) % 256) 0) [
    | inl good ↦ rw (lt-ltb _ _ long, eq-eqb _ _ good) refl
    | inr bad ↦ rw (lt-ltb _ _ long, ne_eqb _ _ bad) refl
  ]
  | inr short ↦ rw (le-ltb _ _ short) refl
]

body_size : (n : ℕ) (body : List ℕ) → size_of (body_head n body) ≡ n + 5
body_size n [] = refl
body_size n (x ∷ []) = refl
body_size n (x ∷ code ∷ tail) = data_size n x code tail

frame_decided : (count : ℕ) (front more : List ℕ) → size_of (frame_head (count ∷ front)) ≤ 2 + length (front ++ more)
    → IsDecided (frame_head (count ∷ (front ++ more)))
frame_decided zero front more h = tt
frame_decided (suc zero) front more h = tt
frame_decided (suc (suc n)) front more h = body_decided n (front ++ more) (omega (arith, h, body_size n front))

-- as many bytes as the first ones show decide what stands there
decided : (x y : ℕ) (front more : List ℕ) → size_of (head_of (x ∷ y ∷ front)) ≤ 2 + length (front ++ more)
    → IsDecided (head_of (x ∷ y ∷ (front ++ more)))
decided x y front more h = elim (cases_eq x 4) [
  | inl is_ack ↦ rw is_ack tt
  | inr no_ack ↦ elim (cases_eq x 5) [
    | inl is_nak ↦ rw is_nak tt
    | inr no_nak ↦ elim (cases_eq x 2) [
      | inl is_frame ↦ rw is_frame
          (frame_decided y front more
          (subst (λ (s : ℕ). size_of (head_of (s ∷ y ∷ front)) ≤ 2 + length (front ++ more)) is_frame h))
      | inr no_frame ↦ rw (ne_eqb _ _ no_ack, ne_eqb _ _ no_nak, ne_eqb _ _ no_frame) tt
    ]
  ]
]

decided_part : (bytes : List ℕ) (head : Head) (needs : ℕ) → HeadIs bytes head → IsDecided head → IsPart bytes needs → ⊥
decided_part bytes (part others) needs is d p = d
decided_part bytes (wrong which size) needs is d p =
    is.first.wrong (Begins-take size bytes (part_unfinished bytes needs p).begins)
decided_part bytes (found message size) needs is d p =
    (part_unfinished bytes needs p).no_front message (take size bytes) (drop size bytes) is.spelt
    (sym (take-append-drop size bytes))

enough : (x y : ℕ) (front more : List ℕ) (needs : ℕ) → AreOctets (x ∷ y ∷ (front ++ more))
    → size_of (head_of (x ∷ y ∷ front)) ≤ 2 + length (front ++ more) → IsPart (x ∷ y ∷ (front ++ more)) needs → ⊥
enough x y front more needs fits h p =
    decided_part (x ∷ y ∷ (front ++ more)) (head_of (x ∷ y ∷ (front ++ more))) needs
    (head_is (x ∷ y ∷ (front ++ more)) fits) (decided x y front more h) p

-- with that many bytes, and more of the piece to come, what is held is no part
pub size_enough : (held piece : List ℕ) (n needs : ℕ) → AreOctets (held ++ take n piece)
    → size_of (head_of (looked_at held piece)) ≤ length held + n
    → 2 ≤ length held + n → n < length piece → IsPart (held ++ take n piece) needs → ⊥
size_enough [] [] n needs fits h two less p = absurd (omega (arith, less))
size_enough [] (x ∷ []) n needs fits h two less p = absurd (omega (arith, less, two))
size_enough [] (x ∷ y ∷ piece) zero needs fits h two less p = absurd (omega (arith, two))
size_enough [] (x ∷ y ∷ piece) (suc zero) needs fits h two less p = absurd (omega (arith, two))
size_enough [] (x ∷ y ∷ piece) (suc (suc k)) needs fits h two less p =
    enough x y [] (take k piece) needs fits (omega (arith, h, less, length-take k piece)) p
size_enough (x ∷ []) [] n needs fits h two less p = absurd (omega (arith, less))
size_enough (x ∷ []) (y ∷ piece) zero needs fits h two less p = absurd (omega (arith, two))
size_enough (x ∷ []) (y ∷ piece) (suc k) needs fits h two less p =
    enough x y [] (take k piece) needs fits (omega (arith, h, less, length-take k piece)) p
size_enough (x ∷ y ∷ held) piece n needs fits h two less p =
    enough x y held (take n piece) needs fits
    (omega (arith, h, less, length-append held (take n piece), length-take n piece)) p
