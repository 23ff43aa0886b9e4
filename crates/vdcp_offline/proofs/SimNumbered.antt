-- Numbered lines of a list: those of its first k things, and one line more.
use Rattle.std.proofs.Common.{◌≡◌, ℕ, ◌+◌, List, [], ◌∷◌, ◌++◌, length, take, refl, sym, ap, ◌∙◌, arith, suc, add-one, add-zero, append_assoc, append-nil}
use Rattle.std.proofs.Math.Seq.{take-suc}
use Rattle.std.proofs.lemmas.List.{length-take-le}
use Rattle.std.proofs.lemmas.Option.{get_or_from_slice_get, slice_get_within}
use Rattle.std.specs.Io.KnownBytes.{Appends, Keeps}
use Rattle.std.specs.Prelude.{Option, None, Some, slice_get}
use Rattle.vdcp_offline.specs.Sim.{numbered}

take_more : {A : Type 0} (xs : List A) (k : ℕ) (x : A) → slice_get xs k ≡ Some x
    → take (k + 1) xs ≡ take k xs ++ x ∷ []
take_more xs k x e =
    let last = take-suc xs k x (slice_get_within xs k x e) in
    rw (add-one k, last, get_or_from_slice_get xs k x x e) refl

taken : {A : Type 0} (xs : List A) (k : ℕ) (x : A) → slice_get xs k ≡ Some x → length (take k xs) ≡ k
taken xs k x e = length-take-le k xs (omega (arith, slice_get_within xs k x e))

numbered-push : {A : Type 0} (text : ℕ → A → List ℕ) (n : ℕ) (xs : List A) (x : A)
    → numbered text n (xs ++ x ∷ []) ≡ numbered text n xs ++ text (n + length xs) x
numbered-push text n [] x = rw add-zero (append-nil (text n x))
numbered-push text n (first ∷ xs) x =
    let size : suc n + length xs ≡ n + suc (length xs) = omega arith in
    ap (λ rest. text n first ++ rest)
    (numbered-push text (suc n) xs x ∙ ap (λ m. numbered text (suc n) xs ++ text m x) size)
    ∙ sym (append_assoc (text n first) (numbered text (suc n) xs) (text (n + suc (length xs)) x))

-- the texts of the things before k, and that of thing k
numbered-take : {A : Type 0} (text : ℕ → A → List ℕ) (n : ℕ) (xs : List A) (k : ℕ) (x : A) (number : ℕ)
    → slice_get xs k ≡ Some x
    → number ≡ n + k → numbered text n (take k xs) ++ text number x ≡ numbered text n (take (k + 1) xs)
numbered-take text n xs k x number at e =
    let size : number ≡ n + length (take k xs) = omega (arith, e, taken xs k x at) in
    ap (λ m. numbered text n (take k xs) ++ text m x) size ∙ sym (numbered-push text n (take k xs) x)
    ∙ ap (numbered text n) (sym (take_more xs k x at))

pub appends_next : {A : Type 0} (text : ℕ → A → List ℕ) (n : ℕ) (xs : List A) (k : ℕ) (x : A) (number : ℕ)
    (old middle new : Option (List ℕ))
    → slice_get xs k ≡ Some x → number ≡ n + k → Appends old middle (numbered text n (take k xs))
    → Appends middle new (text number x)
    → Appends old new (numbered text n (take (k + 1) xs))
appends_next text n xs k x number None middle new at e before now = tt
appends_next text n xs k x number (Some old) None new at e before now = absurd before
appends_next text n xs k x number (Some old) (Some middle) None at e before now = now
appends_next text n xs k x number (Some old) (Some middle) (Some new) at e before now =
    now ∙ ap (λ bytes. bytes ++ text number x) before ∙ append_assoc old (numbered text n (take k xs)) (text number x)
    ∙ ap (λ more. old ++ more) (numbered-take text n xs k x number at e)

pub kept : (bytes : Option (List ℕ)) → Keeps bytes bytes
kept None = tt
kept (Some xs) = refl
