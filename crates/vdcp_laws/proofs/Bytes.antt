-- Bytes that begin the spellings of messages, one after another: whole messages, and the beginning of one.
use Rattle.std.proofs.Common.{ℕ, ◌≡◌, All, List, [], ◌∷◌, ◌++◌, length, refl, sym, ap, ap₂, subst, ◌∙◌}
use Rattle.std.proofs.Common.{append_assoc, length-append, arith}
use Rattle.std.proofs.lemmas.Grind.{flat_map-append}
use Rattle.std.proofs.lemmas.List.Elements.{All-head, All-tail, All-cons, All-nil}
use Rattle.std.specs.List.{flat_map}
use Rattle.vdcp_frame.specs.Message.{Content, ack, Fits, Spells, spelling}
use Rattle.vdcp_frame.specs.Reading.{IsUnfinished, SpellsAll}
use Rattle.vdcp_drive.specs.Reading.{Held, holds, completed, held_after}
use Rattle.vdcp_laws.specs.Below.{Spelt, Completed}

-- the bytes of messages one after another
abbrev pub spelt : List Content → List ℕ
spelt ms = flat_map spelling ms

pub spelt_both : (ms ns : List Content) → spelt (ms ++ ns) ≡ spelt ms ++ spelt ns
spelt_both ms ns = flat_map-append spelling ms ns

pub spells_all : (law : Spelt) (ms : List Content) → All Fits ms → SpellsAll ms (spelt ms)
spells_all law [] fits = refl
spells_all law (m ∷ ms) fits =
    (spelling m, spelt ms, law.spelt m (All-head Fits m ms fits), spells_all law ms (All-tail Fits m ms fits), refl)

pub front_all : {X : Type 0} (P : X → Type 0) (xs ys : List X) → All P (xs ++ ys) → All P xs
front_all P [] ys all = All-nil P
front_all P (x ∷ xs) ys all = All-cons P x xs (All-head P x (xs ++ ys) all) (front_all P xs ys (All-tail P x (xs ++ ys) all))

pub fits_rest : (ms ns : List Content) → All Fits (ms ++ ns) → All Fits ns
fits_rest [] ns fits = fits
fits_rest (m ∷ ms) ns fits = fits_rest ms ns (All-tail Fits m (ms ++ ns) fits)

-- Lists that are cut at two places.

-- the second cut isn't before the first, or it is before it
pub data Cuts (a b c d : List ℕ) : Type 0 where
  after : (r : List ℕ) → a ≡ c ++ r → d ≡ r ++ b → Cuts a b c d
  within : (x : ℕ) (r : List ℕ) → c ≡ a ++ x ∷ r → b ≡ x ∷ r ++ d → Cuts a b c d

cuts_more : (x y : ℕ) (a b c d : List ℕ) → y ≡ x → Cuts a b c d → Cuts (y ∷ a) b (x ∷ c) d
cuts_more x y a b c d same (after r is rest) = after r (ap₂ (λ (n : ℕ) (l : List ℕ). n ∷ l) same is) rest
cuts_more x y a b c d same (within z r is rest) =
    within z r (ap₂ (λ (n : ℕ) (l : List ℕ). n ∷ l) (sym same) is) rest

pub cuts : (a b c d : List ℕ) → a ++ b ≡ c ++ d → Cuts a b c d
cuts a b [] d is = after a refl (sym is)
cuts [] b (x ∷ c) d is = within x c refl is
cuts (y ∷ a) b (x ∷ c) d is = cuts_more x y a b c d (grind (arith, is)) (cuts a b c d (grind (arith, is)))

-- Bytes that begin messages.

pub nothing_unfinished : (law : Spelt) → IsUnfinished []
nothing_unfinished law = record {
  begins = record { message = ack; more = 4 ∷ []; spelt = refl };
  no_front = λ m front more s is.
      let some = (law.size m front s).0 in
      absurd (omega (arith, some, ap (length {A = ℕ}) is, length-append front more));
}

-- a beginning of a spelling that isn't all of it
begins_unfinished : (law : Spelt) (m : Content) (xs more : List ℕ) (x : ℕ) → Spells m (xs ++ x ∷ more) → IsUnfinished xs
begins_unfinished law m xs more x s = record {
  begins = record { message = m; more = x ∷ more; spelt = s };
  no_front = λ n front rest t is.
      let e = law.no_other n m front (xs ++ x ∷ more) (rest ++ x ∷ more) t s
      (ap (λ (l : List ℕ). l ++ x ∷ more) is ∙ append_assoc front rest (x ∷ more)) in
      absurd (omega (arith, ap (length {A = ℕ}) e.1, length-append rest (x ∷ more)));
}

-- bytes that begin the spellings of messages: some messages are whole, the others are left
pub record IsFront (ms : List Content) (front : List ℕ) : Type 0 where
  pub done : List Content
  pub left : List Content
  pub held : List ℕ
  pub all_is : ms ≡ done ++ left
  pub front_is : front ≡ spelt done ++ held
  pub unfinished : IsUnfinished held

more_front : (m : Content) (ms : List Content) (front r : List ℕ) → front ≡ spelling m ++ r → IsFront ms r
    → IsFront (m ∷ ms) front
more_front m ms front r is f = record {
  done = m ∷ f.done;
  left = f.left;
  held = f.held;
  all_is = ap (λ (l : List Content). m ∷ l) f.all_is;
  front_is = is ∙ ap (λ (l : List ℕ). spelling m ++ l) f.front_is
      ∙ sym (append_assoc (spelling m) (spelt f.done) f.held);
  unfinished = f.unfinished;
}

front_by : (law : Spelt) (m : Content) (ms : List Content) → Fits m → (front rest : List ℕ)
    → ((q : List ℕ) → q ++ rest ≡ spelt ms → IsFront ms q)
    → Cuts front rest (spelling m) (spelt ms) → IsFront (m ∷ ms) front
front_by law m ms fits front rest more (after r is next) = more_front m ms front r is (more r (sym next))
front_by law m ms fits front rest more (within x r is next) = record {
  done = [];
  left = m ∷ ms;
  held = front;
  all_is = refl;
  front_is = refl;
  unfinished = begins_unfinished law m front r x (subst (Spells m) is (law.spelt m fits));
}

pub none_before : {A : Type 0} (xs ys : List A) → [] ≡ xs ++ ys → xs ≡ []
none_before [] ys is = refl
none_before (x ∷ xs) ys is = cc

pub front_of : (law : Spelt) (ms : List Content) → All Fits ms → (front rest : List ℕ) → front ++ rest ≡ spelt ms
    → IsFront ms front
front_of law [] fits front rest is = record {
  done = [];
  left = [];
  held = [];
  all_is = refl;
  front_is = none_before front rest (sym is);
  unfinished = nothing_unfinished law;
}
front_of law (m ∷ ms) fits front rest is =
    front_by law m ms (All-head Fits m ms fits) front rest (λ q e. front_of law ms (All-tail Fits m ms fits) q rest e)
    (cuts front rest (spelling m) (spelt ms) is)

-- Reading.

-- the same bytes one after another, in one piece or behind what is held
pub completes : (law : Spelt) (reads : Completed) (held piece : List ℕ) (new : List Content) (held' : List ℕ)
    → IsUnfinished held → All Fits new → IsUnfinished held' → held ++ piece ≡ spelt new ++ held'
    → (completed (holds held) piece ≡ new) × (held_after (holds held) piece ≡ holds held')
completes law reads held piece new held' u fits v is =
    let none : completed (holds []) held ≡ [] = reads.messages [] [] held refl u in
    let all : held_after (holds []) held ≡ holds held = reads.held [] [] held refl u in (
      sym (reads.pieces (holds []) held piece
          ∙ ap₂ (λ (l : List Content) (at : Held). l ++ completed at piece) none all)
          ∙ ap (completed (holds [])) is
          ∙ reads.messages new (spelt new) held' (spells_all law new fits) v,
      sym (reads.pieces_held (holds []) held piece ∙ ap (λ (at : Held). held_after at piece) all)
          ∙ ap (held_after (holds [])) is
          ∙ reads.held new (spelt new) held' (spells_all law new fits) v,
    )
