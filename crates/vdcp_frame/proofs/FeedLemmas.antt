-- What a call of feed gives, from what stands at the front of the bytes held and those that come.
use Rattle.std.proofs.Common.{◌≡◌, ℕ, ◌+◌, ◌-◌, ◌<◌, ◌≤◌, List, [], ◌∷◌, ◌++◌, length, take, drop, refl, sym, ap, subst, ◌∙◌, arith, inl, inr, append_assoc, length-append}
use Rattle.std.proofs.lemmas.Bool.{cases_lt}
use Rattle.std.proofs.lemmas.List.{take-append-drop, take-append-le, take-take, length-take, length-drop, drop_all}
use Rattle.std.proofs.Math.Seq.{take-append-add}
use Rattle.std.specs.Prelude.{IsTrue, ◌↔◌}
use Rattle.vdcp_frame.specs.declared.message.Fault.{Fault}
use Rattle.vdcp_frame.specs.declared.message.Fault.TheVariants.{BadStart, BadCount, BadSum, Long}
use Rattle.vdcp_frame.specs.declared.reader.Place.{Place}
use Rattle.vdcp_frame.specs.declared.reader.Place.TheVariants as place
use Rattle.vdcp_frame.specs.Message.{AreOctets, Content, Spells}
use Rattle.vdcp_frame.specs.Reading.{Begins, IsUnfinished, fault_of}
use Rattle.vdcp_frame.specs.Head.{Head, part, found, head_of, HeadIs, IsPart, IsWrong, IsFound}
use Rattle.vdcp_frame.specs.Head as spec
use Rattle.vdcp_frame.specs.Front.{IsFront, is_part}
use Rattle.vdcp_frame.specs.Place.{progress_at, Holds, IsPlace, place_after}
use Rattle.vdcp_frame.specs.Pieces.{GoesOn}
use Rattle.vdcp_frame.specs.Progress.{Progress, reading, failed}
use Rattle.vdcp_frame.specs.Reader.{Answer, message, more, wrong, TakesWrong, TakesLong, TakesFault, Gives, fed}
use Rattle.vdcp_frame.proofs.HeadLemmas.{Begins-take, Unfinished-nil, head_is, part_unfinished}

not_long : (front : List ℕ) → Long ≡ fault_of front → ⊥
not_long [] e = cc
not_long (start ∷ []) e = cc
not_long (start ∷ count ∷ []) e = cc
not_long (start ∷ count ∷ byte ∷ bytes) e = cc

fault_taken : (taken : ℕ) (held piece : List ℕ) (n : ℕ) (which : Fault) → TakesWrong taken held piece n which
    → TakesFault taken held piece n which
fault_taken taken held piece n BadStart t = t
fault_taken taken held piece n (BadCount count) t = t
fault_taken taken held piece n BadSum t = t
fault_taken taken held piece n Long t =
    absurd (not_long (take (length (held ++ take n piece)) (held ++ take n piece)) t.first.fault_is)

-- what is found, or wrong, ends after the bytes held
found_past : (held bytes : List ℕ) (m : Content) (size : ℕ) → IsUnfinished held → IsFound (held ++ bytes) m size
    → length held < size
found_past held bytes m size h f = elim (cases_lt (length held) size) [
  | inl past ↦ past
  | inr le ↦ absurd (h.no_front m (take size held) (drop size held)
      (subst (Spells m) (take-append-le size held bytes le) f.spelt)
      (sym (take-append-drop size held)))
]

wrong_past : (held bytes : List ℕ) (which : Fault) (size : ℕ) → IsUnfinished held → IsWrong (held ++ bytes) which size
    → length held < size
wrong_past held bytes which size h w = elim (cases_lt (length held) size) [
  | inl past ↦ past
  | inr le ↦ absurd (w.first.wrong
      (subst Begins (sym (take-append-le size held bytes le)) (Begins-take size held h.begins)))
]

-- only bytes of which a part stands at the front are part of a message
part_is : (bytes : List ℕ) (h : Head) → HeadIs bytes h → IsTrue (is_part h) ↔ IsUnfinished bytes
part_is bytes (part needs) is = ((λ _. part_unfinished bytes needs is), λ _. refl)
part_is bytes (spec.wrong which size) is = ((λ e. cc e), λ u. absurd (is.first.wrong (Begins-take size bytes u.begins)))
part_is bytes (found m size) is =
    ((λ e. cc e), λ u. absurd (u.no_front m (take size bytes) (drop size bytes) is.spelt (sym (take-append-drop size bytes))))

pub unfinished_is : (bytes : List ℕ) → AreOctets bytes → IsTrue (is_part (head_of bytes)) ↔ IsUnfinished bytes
unfinished_is bytes fits = part_is bytes (head_of bytes) (head_is bytes fits)

-- a wrong front is wrong by itself
IsWrong-front : (bytes : List ℕ) (which : Fault) (size : ℕ) → IsWrong bytes which size
    → IsWrong (take size bytes) which (length (take size bytes))
IsWrong-front bytes which size w =
    let n : length (take size bytes) ≡ size = omega (arith, length-take size bytes, w.first.within) in
    let same : (k : ℕ) → k ≤ size → take k (take size bytes) ≡ take k bytes = λ k le. take-take k size bytes le in
    subst (λ (l : ℕ). IsWrong (take size bytes) which l) (sym n) (record {
      first = record {
        within = omega (arith, n);
        wrong = λ b. w.first.wrong (subst Begins (same size (omega arith)) b);
        shorter = λ k lt. let le : k ≤ size = omega arith in subst Begins (sym (same k le)) (w.first.shorter k lt);
      };
      no_front = λ m front later s e. w.no_front m front (later ++ drop size bytes) s
          (sym (take-append-drop size bytes) ∙ ap (λ (l : List ℕ). l ++ drop size bytes) e
          ∙ append_assoc front later (drop size bytes));
      fault_is = w.fault_is ∙ ap fault_of (sym (same size (omega arith)));
    })

-- of the bytes that a reader looks at, what it gives for what stands at their front
module _ {piece : List ℕ} {taken held k : ℕ} {front : List ℕ} (i : IsFront taken held piece k front) where
  abbrev begun : List ℕ
  begun = take held front

  size_is : length begun ≡ held
  size_is = omega (arith, length-take held front, i.size)

  within_of : (size : ℕ) → size ≤ length (begun ++ take k piece) → size ≤ held + k
  within_of size le = omega (arith, length-append begun (take k piece), size_is, length-take k piece)

  -- the bytes up to there
  taken_of : (size : ℕ) → held < size → size ≤ held + k
      → take size (begun ++ take k piece) ≡ begun ++ take (size - held) piece
  taken_of size past within =
      let split : size ≡ length begun + (size - held) = omega (arith, size_is) in
      let less : size - held ≤ k = omega arith in
      ap (λ (n : ℕ). take n (begun ++ take k piece)) split ∙ take-append-add begun (take k piece) (size - held)
      ∙ ap (λ (l : List ℕ). begun ++ l) (take-take (size - held) k piece less)

  module _ (m : Content) (size : ℕ) (found : IsFound front m size) where
    found_there : IsFound (begun ++ take k piece) m size
    found_there = subst (λ (l : List ℕ). IsFound l m size) i.joined found

    pub found_after : held < size
    found_after = omega (arith, size_is, found_past begun (take k piece) m size i.can.unfinished found_there)

    pub message_gives : Gives (reading taken begun) piece (size - held) (message m)
    message_gives =
        let within : size ≤ held + k = within_of size found_there.within in
        record {
          some = omega (arith, found_after);
          within = omega (arith, i.within);
          limit = omega (arith, i.limit);
          spelt = subst (Spells m) (taken_of size found_after within) found_there.spelt;
        }

  module _ (which : Fault) (size : ℕ) (bad : IsWrong front which size) where
    wrong_there : IsWrong (begun ++ take k piece) which size
    wrong_there = subst (λ (l : List ℕ). IsWrong l which size) i.joined bad

    pub wrong_after : held < size
    wrong_after = omega (arith, size_is, wrong_past begun (take k piece) which size i.can.unfinished wrong_there)

    pub wrong_limit : taken + (size - held) ≤ 4096
    wrong_limit = omega (arith, i.limit, within_of size wrong_there.first.within)

    pub wrong_gives : Gives (reading taken begun) piece (size - held) (wrong which (taken + (size - held)))
    wrong_gives =
        let within : size ≤ held + k = within_of size wrong_there.first.within in
        let takes : TakesWrong taken begun piece (size - held) which = record {
          some = omega (arith, wrong_after);
          within = omega (arith, i.within);
          limit = wrong_limit;
          first = subst (λ (l : List ℕ). IsWrong l which (length l)) (taken_of size wrong_after within)
              (IsWrong-front (begun ++ take k piece) which size wrong_there);
        } in
        (fault_taken taken begun piece (size - held) which takes, refl)

  module _ (needs : ℕ) (part : IsPart front needs) where
    part_there : IsUnfinished (begun ++ take k piece)
    part_there = part_unfinished (begun ++ take k piece) needs (subst (λ (l : List ℕ). IsPart l needs) i.joined part)

    pub more_gives : k ≡ length piece → Gives (reading taken begun) piece k more
    more_gives all = record { all = all; limit = i.limit; unfinished = part_there }

    pub long_gives : (k ≡ length piece → ⊥) → Gives (reading taken begun) piece (k + 1) (wrong Long 4097)
    long_gives longer =
        let same : take k piece ≡ take (k + 1 - 1) piece = ap (λ (j : ℕ). take j piece) (omega arith) in
        let full : taken + k ≡ 4096 = elim (cases_lt (taken + k) 4096) [
          | inl less ↦ absurd (longer (i.all needs part less))
          | inr le ↦ omega (arith, i.limit)
        ] in
        let past : taken + (k + 1) ≡ 4096 + 1 = omega (arith, full) in
        let takes : TakesLong taken begun piece (k + 1) = record {
          some = omega arith;
          within = omega (arith, longer, i.within);
          past = past;
          unfinished = subst (λ (l : List ℕ). IsUnfinished (begun ++ l)) same part_there;
        } in
        (takes, sym past)

-- ---- the place after a call

-- a reader between two messages
pub between : (taken : ℕ) (buffer : List ℕ) → taken ≤ 4096 → IsPlace (place.Reading taken 0) buffer
between taken buffer limit =
    record { within = omega arith; can = record { limit = limit; within = omega arith; unfinished = Unfinished-nil } }

-- a reader that had no fault
pub record IsReading (now : Progress) (taken held : ℕ) (buffer : List ℕ) : Type 0 where
  pub now_is : reading taken (take held buffer) ≡ now
  pub holds : Holds taken held buffer

pub is_reading : (p : Place) (buffer : List ℕ) (now : Progress) (taken held : ℕ) → progress_at p buffer ≡ now
    → IsPlace p buffer → p ≡ place.Reading taken held → IsReading now taken held buffer
is_reading p buffer now taken held view_is inside is = record {
  now_is = ap (λ (q : Place). progress_at q buffer) (sym is) ∙ view_is;
  holds = subst (λ (q : Place). IsPlace q buffer) is inside;
}

-- what a call gives, and where the reader is then
pub record IsFed (now : Progress) (piece : List ℕ) (n : ℕ) (answer : Answer) (p : Place) (buffer : List ℕ) : Type 0 where
  pub gives : Gives now piece n answer
  pub after : progress_at p buffer ≡ fed now piece n answer
  pub inside : IsPlace p buffer

pub failed_fed : (p : Place) (buffer : List ℕ) (now : Progress) (piece : List ℕ) → progress_at p buffer ≡ now
    → p ≡ place.Failed → IsFed now piece (length piece) more p buffer
failed_fed p buffer now piece view_is is =
    subst (λ (q : Place). IsFed now piece (length piece) more q buffer) (sym is)
    (subst (λ (o : Progress). IsFed o piece (length piece) more place.Failed buffer)
    (ap (λ (q : Place). progress_at q buffer) (sym is) ∙ view_is)
    (record { gives = refl; after = refl; inside = tt }))

placed : (taken held k n : ℕ) (piece filled : List ℕ) (answer : Answer) → held + k ≤ length filled
    → IsFront taken held piece k (take (held + k) filled) → Gives (reading taken (take held filled)) piece n answer
    → (answer ≡ more → length (take (held + k) filled) ≡ held + n)
    → IsFed (reading taken (take held filled)) piece n answer (place_after taken held n answer) filled
placed taken held k n piece filled (message m) room i g whole =
    record { gives = g; after = refl; inside = between (taken + n) filled g.limit }
placed taken held k n piece filled more room i g whole =
    let same_held : take held (take (held + k) filled) ≡ take held filled =
    take-take held (held + k) filled (omega arith) in
    let same : held + n ≡ held + k = omega (arith, whole refl, i.size) in
    let joined : take (held + n) filled ≡ take held filled ++ take n piece =
    ap (λ (l : ℕ). take l filled) same ∙ i.joined
    ∙ ap (λ (l : List ℕ). l ++ take k piece) same_held
    ∙ ap (λ (l : ℕ). take held filled ++ take l piece) (omega (arith, same)) in
    record {
      gives = g;
      after = ap (reading (taken + n)) joined;
      inside = record {
        within = omega (arith, same, room);
        can = record {
          limit = g.limit;
          within = omega (
            arith,
            same,
            length-take (held + n) filled,
            length-take held filled,
            room,
            i.can.within,
            ap (length {A = ℕ}) same_held,
          );
          unfinished = subst IsUnfinished (sym joined) g.unfinished;
        };
      };
    }
placed taken held k n piece filled (wrong which at) room i g whole = record { gives = g; after = refl; inside = tt }

pub fed_at : (taken held k n : ℕ) (piece buffer filled : List ℕ) (now : Progress) (answer : Answer) (p : Place)
    → IsReading now taken held buffer → take held filled ≡ take held buffer → held + k ≤ length filled
    → IsFront taken held piece k (take (held + k) filled)
    → Gives (reading taken (take held (take (held + k) filled))) piece n answer
    → (answer ≡ more → length (take (held + k) filled) ≡ held + n)
    → p ≡ place_after taken held n answer → IsFed now piece n answer p filled
fed_at taken held k n piece buffer filled now answer p r kept room i g whole is =
    let same_held : take held (take (held + k) filled) ≡ take held filled =
    take-take held (held + k) filled (omega arith) in
    subst (λ (q : Place). IsFed now piece n answer q filled) (sym is)
    (subst (λ (o : Progress). IsFed o piece n answer (place_after taken held n answer) filled)
    (ap (reading taken) kept ∙ r.now_is)
    (placed taken held k n piece filled answer room i
    (subst (λ (l : List ℕ). Gives (reading taken l) piece n answer) same_held g) whole))

-- ---- of what a call gives

fault_within : (taken : ℕ) (held piece : List ℕ) (n : ℕ) (which : Fault) → TakesFault taken held piece n which → (0 < n)
    × (n ≤ length piece)
fault_within taken held piece n BadStart t = (t.some, t.within)
fault_within taken held piece n (BadCount count) t = (t.some, t.within)
fault_within taken held piece n BadSum t = (t.some, t.within)
fault_within taken held piece n Long t = (t.some, t.within)

pub gives_within : (old : Progress) (piece : List ℕ) (n : ℕ) (answer : Answer) → Gives old piece n answer
    → n ≤ length piece
gives_within (reading taken held) piece n (message m) g = g.within
gives_within (reading taken held) piece n more g = omega (arith, g.all)
gives_within (reading taken held) piece n (wrong which place) g = (fault_within taken held piece n which g.0).1
gives_within failed piece n (message m) g = absurd g
gives_within failed piece n more g = omega arith
gives_within failed piece n (wrong which place) g = absurd g

-- something is taken of a piece that has a byte
pub gives_some : (old : Progress) (piece : List ℕ) (n : ℕ) (answer : Answer) → Gives old piece n answer
    → 0 < length piece → 0 < n
gives_some (reading taken held) piece n (message m) g some = g.some
gives_some (reading taken held) piece n more g some = omega (arith, g.all)
gives_some (reading taken held) piece n (wrong which place) g some = (fault_within taken held piece n which g.0).0
gives_some failed piece n (message m) g some = absurd g
gives_some failed piece n more g some = omega arith
gives_some failed piece n (wrong which place) g some = absurd g

-- what is left of a piece
pub gives_on : (old : Progress) (piece : List ℕ) (n : ℕ) (answer : Answer) → Gives old piece n answer
    → GoesOn answer piece (drop n piece)
gives_on (reading taken held) piece n (message m) g = omega (arith, g.some, g.within, length-drop n piece)
gives_on (reading taken held) piece n more g = drop_all n piece (omega (arith, g.all))
gives_on (reading taken held) piece n (wrong which place) g =
    let within = fault_within taken held piece n which g.0 in
    omega (arith, within.0, within.1, length-drop n piece)
gives_on failed piece n (message m) g = absurd g
gives_on failed piece n more g = drop_all n piece (omega (arith, g))
gives_on failed piece n (wrong which place) g = absurd g
