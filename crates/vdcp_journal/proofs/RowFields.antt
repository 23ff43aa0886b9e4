-- Rows of a journal as fields.
use Rattle.std.proofs.Common.{◌≡◌, ℕ, ◌<◌, zero, suc, List, [], ◌∷◌, length, refl, arith, ◌∙◌}
use Rattle.csv.specs.Records.{field_at}
use Rattle.std.specs.Prelude.{None, Option, Some, is_some, option_map, slice_get, true}
use Rattle.vdcp_journal.specs.Journals.{HasNoNote, IsFaultOfWord, IsRowFault}
use Rattle.vdcp_journal.specs.Rows.{Fields}
use Rattle.vdcp_journal.specs.declared.faults.JournalRowFault.TheVariants.{Fields as Many, Time, Digest, Mode, Number}
use Rattle.vdcp_journal.specs.declared.faults.JournalRowFault.{JournalRowFault}

pub row_fault : (unit : ℕ) (time word text detail : List ℕ) (fault : JournalRowFault) → IsFaultOfWord word fault
    → HasNoNote unit (time ∷ word ∷ text ∷ detail ∷ []) → IsRowFault unit (time ∷ word ∷ text ∷ detail ∷ []) fault
row_fault unit time word text detail Many h n = absurd h
row_fault unit time word text detail Time h n = absurd h
row_fault unit time word text detail Digest h n = absurd h
row_fault unit time word text detail Mode h n = absurd h
row_fault unit time word text detail Number h n = absurd h
row_fault unit time word text detail other h n = record { none = n; word = word; second = refl; of_word = h }

-- a list of this length is the fields at its places

one_field : (a b : List ℕ) → ◌≡◌ {A = Option (List ℕ)} (Some a) (Some b) → a ≡ b
one_field a b e = cc e

first_is : (xs rest : Fields) (x : List ℕ) → (n : ℕ) → length xs ≡ suc n → slice_get xs 0 ≡ Some x
    → ((ys : Fields) → length ys ≡ n → ((k : ℕ) → slice_get ys k ≡ slice_get xs (suc k)) → ys ≡ rest) → xs ≡ x ∷ rest
first_is [] rest x n size e more = absurd (omega (arith, size))
first_is (y ∷ ys) rest x n size e more =
    cc (one_field y x e, more ys (omega (arith, size)) (λ k. refl))

none_left : (xs : Fields) → length xs ≡ 0 → xs ≡ []
none_left [] e = refl
none_left (x ∷ xs) e = absurd (omega (arith, e))

pub four : (xs : Fields) (a b c d : List ℕ) → length xs ≡ 4 → slice_get xs 0 ≡ Some a → slice_get xs 1 ≡ Some b
    → slice_get xs 2 ≡ Some c
    → slice_get xs 3 ≡ Some d → xs ≡ a ∷ b ∷ c ∷ d ∷ []
four xs a b c d size e0 e1 e2 e3 =
    first_is xs (b ∷ c ∷ d ∷ []) a 3 size e0 (λ xs1 size1 at1.
    first_is xs1 (c ∷ d ∷ []) b 2 size1 (at1 0 ∙ e1) (λ xs2 size2 at2.
    first_is xs2 (d ∷ []) c 1 size2 (at2 0 ∙ at1 1 ∙ e2) (λ xs3 size3 at3.
    first_is xs3 [] d 0 size3 (at3 0 ∙ at2 1 ∙ at1 2 ∙ e3) (λ xs4 size4 at4. none_left xs4 size4))))

pub seven : (xs : Fields) (a b c d e f g : List ℕ) → length xs ≡ 7 → slice_get xs 0 ≡ Some a → slice_get xs 1 ≡ Some b
    → slice_get xs 2 ≡ Some c
    → slice_get xs 3 ≡ Some d → slice_get xs 4 ≡ Some e → slice_get xs 5 ≡ Some f → slice_get xs 6 ≡ Some g
    → xs ≡ a ∷ b ∷ c ∷ d ∷ e ∷ f ∷ g ∷ []
seven xs a b c d e f g size e0 e1 e2 e3 e4 e5 e6 =
    first_is xs (b ∷ c ∷ d ∷ e ∷ f ∷ g ∷ []) a 6 size e0 (λ xs1 size1 at1.
    first_is xs1 (c ∷ d ∷ e ∷ f ∷ g ∷ []) b 5 size1 (at1 0 ∙ e1) (λ xs2 size2 at2.
    first_is xs2 (d ∷ e ∷ f ∷ g ∷ []) c 4 size2 (at2 0 ∙ at1 1 ∙ e2) (λ xs3 size3 at3.
    four xs3 d e f g size3 (at3 0 ∙ at2 1 ∙ at1 2 ∙ e3) (at3 1 ∙ at2 2 ∙ at1 3 ∙ e4) (at3 2 ∙ at2 3 ∙ at1 4 ∙ e5)
    (at3 3 ∙ at2 4 ∙ at1 5 ∙ e6))))

-- ---- places

pub at-is : (fields : Fields) (k : ℕ) → field_at fields k ≡ slice_get fields k
unfolding field_at
at-is [] k = refl
at-is (f ∷ fields) zero = refl
at-is (f ∷ fields) (suc k) = at-is fields k

pub at-some : (fields : Fields) (k : ℕ) → k < length fields → is_some (slice_get fields k) ≡ true
at-some [] k below = absurd (omega (arith, below))
at-some (f ∷ fields) zero below = refl
at-some (f ∷ fields) (suc k) below = at-some fields k (omega (arith, below))

pub some-before : {A B : Type 0} (f : A → B) (o : Option A) → is_some (option_map f o) ≡ true → is_some o ≡ true
some-before f None e = cc e
some-before f (Some a) e = refl
