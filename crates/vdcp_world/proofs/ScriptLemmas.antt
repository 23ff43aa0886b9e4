-- What lines say, one after another.
use Rattle.std.proofs.Common.{◌≡◌, ℕ, zero, suc, ◌+◌, true, List, [], ◌∷◌, ◌++◌, refl, sym, ap, subst, ◌∙◌, arith, append-nil, append_assoc}
use Rattle.std.specs.List.{enumerate_from}
use Rattle.std.specs.Prelude.{Option, map}
use Rattle.std.specs.Borrow.{Bor}
use Rattle.vdcp_world.specs.Rounds.{times}
use Rattle.vdcp_world.specs.Script.{SaysMore, SayAll, skipped, word, repeats, one_more, Counts, IsLineOf, is_skipped, repeated_events, repeated_word, worded}
use Rattle.vdcp_world.specs.declared.event.Event.{Event}
use Rattle.vdcp_world.specs.declared.script.Repeated.{Repeated}

-- ---- one line

pub says_skipped : (line : List ℕ) (events : List Event) → is_skipped line ≡ true → SaysMore line events events
says_skipped line events e = record { said = []; more_are = sym (append-nil events); says = skipped e }

pub says_word : (line text : List ℕ) (events more : List Event) (event : Event) → text ≡ line → IsLineOf event text
    → more ≡ events ++ event ∷ [] → SaysMore line events more
says_word line text events more event same is e =
    record { said = event ∷ []; more_are = e; says = word event (subst (IsLineOf event) same is) }

pub says_again : (kind : Repeated) (line text : List ℕ) (argument : Option (List ℕ)) (events more : List Event)
    (count : ℕ) → text ≡ line → text ≡ worded (repeated_word kind) argument → Counts argument count
    → more ≡ events ++ times count (repeated_events kind) → SaysMore line events more
says_again kind line text argument events more count same is counts e =
    record {
      said = times count (repeated_events kind);
      more_are = e;
      says = repeats kind argument count (sym same ∙ is) counts;
    }

-- ---- what is repeated

times_last : (n : ℕ) (said : List Event) → times (suc n) said ≡ times n said ++ said
times_last zero said = append-nil said
times_last (suc n) said = ap (λ x. said ++ x) (times_last n said) ∙ sym (append_assoc said (times n said) said)

pub once_more : (n : ℕ) (said old : List Event) → (old ++ times n said) ++ said ≡ old ++ times (n + 1) said
once_more n said old =
    append_assoc old (times n said) said
    ∙ ap (λ l. old ++ l) (sym (times_last n said) ∙ ap (λ m. times m said) (next n))
  where
    next : (n : ℕ) → suc n ≡ n + 1
    next n = omega arith

-- ---- all lines

abbrev pub line_of : ℕ × Bor (List ℕ) → List ℕ
line_of p = p.1.now

map_both : {A B : Type 0} (f : A → B) (xs ys : List A) → map f (xs ++ ys) ≡ map f xs ++ map f ys
map_both f [] ys = refl
map_both f (x ∷ xs) ys = ap (λ l. f x ∷ l) (map_both f xs ys)

pub more_lines : (xs : List (ℕ × Bor (List ℕ))) (x : ℕ × Bor (List ℕ)) (line : List ℕ) (events more : List Event)
    → line ≡ line_of x → SayAll (map line_of xs) events → SaysMore line events more
    → SayAll (map line_of (xs ++ x ∷ [])) more
more_lines xs x line events more same all says =
    subst (λ l. SayAll l more) (sym (map_both line_of xs (x ∷ [])))
    (subst (λ l. SayAll (map line_of xs ++ l ∷ []) more) same (one_more (map line_of xs) events line more all says))

seconds : (k : ℕ) (ys : List (List ℕ)) → map (λ (p : ℕ × List ℕ). p.1) (enumerate_from k ys) ≡ ys
seconds k [] = refl
seconds k (y ∷ ys) = ap (λ l. y ∷ l) (seconds (k + 1) ys)

both : (xs : List (ℕ × Bor (List ℕ))) → map (λ (p : ℕ × List ℕ). p.1) (map (λ (p : ℕ × Bor (List ℕ)). (p.0, p.1.now))
    xs) ≡ map line_of xs
both [] = refl
both (x ∷ xs) = ap (λ l. line_of x ∷ l) (both xs)

pub all_lines : (xs : List (ℕ × Bor (List ℕ))) (ys : List (List ℕ)) → map (λ (p : ℕ × Bor (List ℕ)). (p.0, p.1.now))
    xs ≡ enumerate_from 0 ys
    → map line_of xs ≡ ys
all_lines xs ys e = sym (both xs) ∙ ap (map (λ (p : ℕ × List ℕ). p.1)) e ∙ seconds 0 ys
