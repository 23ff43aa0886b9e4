-- Any count of turns reads the same records.
use Rattle.csv.specs.Machine.{Read, next_record, step, is_end, fields_after, field_after}
use Rattle.csv.specs.Reading.{default_config, records_from, records_next}
use Rattle.csv.specs.declared.parser.State.TheVariants as st
use Rattle.csv.specs.declared.parser.State.{State}
use Rattle.std.proofs.Common.{◌≡◌, ℕ, ◌+◌, ◌-◌, ◌≤◌, Bool, true, false, List, [], ◌∷◌, ◌++◌, length, refl, ap, arith, zero, suc, add-one}
use Rattle.std.specs.Prelude.{Option, None, Some, if◌then◌else◌}
use Rattle.vdcp_list.specs.Rows.{rows_from}

-- a state between two records
abbrev pub is_between : State → Bool
is_between st.StartRecord = true
is_between st.AfterCr = true
is_between other = false

-- the byte that ends a record leaves the reader between two
between_at_end : (s : State) (c : ℕ) → is_end (step default_config s c).1 ≡ true
    → is_between (step default_config s c).0 ≡ true
between_at_end st.StartRecord c e = grind arith
between_at_end other c e = grind arith

-- what a record leaves: a state between two, and fewer bytes
record Left (p : Read) (size : ℕ) : Type 0 where
  pub between : is_between p.1 ≡ true
  pub fewer : length p.2 ≤ size - 1

some_is : {A : Type 0} (a b : A) → ◌≡◌ {A = Option A} (Some a) (Some b) → a ≡ b
some_is a b e = cc

ended : (fields : List (List ℕ)) (field : List ℕ) (p : Read)
    → ◌≡◌ {A = Option Read} (Some (fields ++ (field ∷ []), st.StartRecord, [])) (Some p) → Left p 0
ended fields field p e =
    rw (← some_is _ p e) (record { between = refl; fewer = omega arith })

left_end : (s : State) (fields : List (List ℕ)) (field : List ℕ) (p : Read)
    → next_record default_config s fields field [] ≡ Some p → Left p 0
unfolding next_record
left_end st.StartRecord fields field p e = cc
left_end st.AfterCr fields field p e = cc
left_end other fields field p e = ended fields field p e

left_here : (b : Bool) (s s' : State) (c : ℕ) (fields : List (List ℕ)) (rest : List ℕ) (p : Read) (more : Option Read)
    → is_end (step default_config s c).1 ≡ b → s' ≡ (step default_config s c).0
    → (b ≡ false → more ≡ Some p → Left p (length rest))
    → (if b then Some (fields, s', rest) else more) ≡ Some p → Left p (suc (length rest))
left_here true s s' c fields rest p more ends is later e =
    rw (← some_is _ p e, is) (record { between = between_at_end s c ends; fewer = omega arith })
left_here false s s' c fields rest p more ends is later e =
    let h = later refl e in record { between = h.between; fewer = omega arith }

left : (xs : List ℕ) (s : State) (fields : List (List ℕ)) (field : List ℕ) (p : Read)
    → next_record default_config s fields field xs ≡ Some p → Left p (length xs)
unfolding next_record
left [] s fields field p e = left_end s fields field p e
left (c ∷ rest) s fields field p e =
    let a = (step default_config s c).1 in
    left_here (is_end a) s (step default_config s c).0 c (fields_after a fields field) rest p
    (next_record default_config (step default_config s c).0 (fields_after a fields field) (field_after a c field) rest)
    refl refl (λ _ later. left rest (step default_config s c).0 (fields_after a fields field) (field_after a c field) p
    later) e

-- between two records no byte is no record
none_between : (s : State) → is_between s ≡ true → ◌≡◌ {A = Option Read} (next_record default_config s [] [] []) None
unfolding next_record
none_between st.StartRecord e = refl
none_between st.AfterCr e = refl
none_between other e = cc

enough_next : (n m : ℕ) (next : Option Read) → ((r : Read) → next ≡ Some r
    → records_from default_config n r.1 r.2 ≡ records_from default_config m r.1 r.2)
    → records_next (records_from default_config n) next ≡ records_next (records_from default_config m) next
enough_next n m None h = refl
enough_next n m (Some r) h = ap (λ t. r.0 ∷ t) (h r refl)

-- any count that reaches the bytes gives the same records
enough : (n m : ℕ) (s : State) (xs : List ℕ) → is_between s ≡ true → length xs ≤ n → length xs ≤ m
    → records_from default_config n s xs ≡ records_from default_config m s xs
unfolding records_from
enough zero zero s xs b p q = refl
enough zero (suc m) s [] b p q = rw (none_between s b) refl
enough (suc n) zero s [] b p q = rw (none_between s b) refl
enough zero (suc m) s (c ∷ rest) b p q = absurd (omega arith)
enough (suc n) zero s (c ∷ rest) b p q = absurd (omega arith)
enough (suc n) (suc m) s xs b p q = enough_next n m (next_record default_config s [] [] xs)
    (λ r e. let h = left xs s [] [] r e in enough n m r.1 r.2 h.between (omega arith) (omega arith))

-- the rows from a state on are the next one and those after it
pub rows_from-some : (s : State) (xs : List ℕ) (p : Read) → next_record default_config s [] [] xs ≡ Some p
    → rows_from s xs ≡ p.0 ∷ rows_from p.1 p.2
unfolding records_from
rows_from-some s xs p e =
    let h = left xs s [] [] p e in
    rw (add-one (length xs), e)
    (ap (λ t. p.0 ∷ t) (enough (length xs) (length p.2 + 1) p.1 p.2 h.between (omega arith) (omega arith)))

pub rows_from-none : (s : State) (xs : List ℕ) → next_record default_config s [] [] xs ≡ None → rows_from s xs ≡ []
unfolding records_from
rows_from-none s xs e = rw (add-one (length xs), e) refl
