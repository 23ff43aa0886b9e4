-- Logs that grow by one exchange, and what they settle.
use Rattle.std.proofs.Common.{◌≡◌, ℕ, ◌+◌, ◌≤◌, Bool, true, false, not, ◌&&◌, List, [], ◌∷◌, ◌++◌, length, ◌⊎◌, inl, inr, refl, sym, ap, ◌∙◌, arith, append_assoc}
use Rattle.std.proofs.lemmas.List.{append-nil}
use Rattle.std.proofs.lemmas.List.FromFn.{length-range_with_len}
use Rattle.std.proofs.lemmas.List.Sums.{count_by-le-length}
use Rattle.std.specs.List.{range_with_len}
use Rattle.std.specs.Prelude.{if◌then◌else◌}
use Rattle.vdcp_auto.specs.Log.{is_answered, is_play}
use Rattle.vdcp_auto.specs.Settled.{has_open_play, settled, settles, settles_at, tells_of_play}
use Rattle.vdcp_auto.specs.declared.exchange.Exchange.{Exchange}
use Rattle.vdcp_auto.specs.declared.phase.Mode.{Mode}

-- what the law of a growing log says
abbrev pub OpenGrows : Type 0
OpenGrows = (log : List Exchange) (e : Exchange) → has_open_play (log ++ e ∷ [])
    ≡ (if tells_of_play e then is_play e && not (is_answered e) else has_open_play log)

abbrev pub SettledGrows : Type 0
SettledGrows = (mode : Mode) (log : List Exchange) (e : Exchange) → settled mode (log ++ e ∷ [])
    ≡ (if settles mode log e then settled mode log + 1 else settled mode log)

-- a list that has grown by one is cut within what was there
pub record Within {X : Type 0} (log front rest : List X) (x e : X) : Type 0 where
  pub last : List X
  pub before : log ≡ front ++ (x ∷ last)
  pub after : rest ≡ last ++ e ∷ []

-- or it is cut at its end
pub cut : {X : Type 0} (log front rest : List X) (x e : X) → log ++ e ∷ [] ≡ front ++ (x ∷ rest)
    → ((log ≡ front) × (e ≡ x) × (rest ≡ [])) ⊎ Within log front rest x e
cut [] [] rest x e is =
    let head : e ≡ x = cc in
    let tail : [] ≡ rest = cc in
    inl (refl, head, sym tail)
cut [] (f ∷ []) rest x e is = absurd (let same : [] ≡ x ∷ rest = cc in let no_way : ⊥ = cc in no_way)
cut [] (f ∷ g ∷ fs) rest x e is =
    absurd (let same : [] ≡ g ∷ (fs ++ (x ∷ rest)) = cc in let no_way : ⊥ = cc in no_way)
cut (y ∷ log) [] rest x e is =
    let head : y ≡ x = cc in
    let tail : log ++ e ∷ [] ≡ rest = cc in
    inr (record { last = log; before = ap (λ z. z ∷ log) head; after = sym tail })
cut (y ∷ log) (f ∷ fs) rest x e is =
    let head : y ≡ f = cc in
    let tail : log ++ e ∷ [] ≡ fs ++ (x ∷ rest) = cc in
    elim (cut log fs rest x e tail) [
      | inl w ↦ inl (let front : log ≡ fs = w.0 in let all : y ∷ log ≡ f ∷ fs = cc in all, w.1, w.2)
      | inr w ↦ inr (let before : log ≡ fs ++ (x ∷ w.last) = w.before in
          let all : y ∷ log ≡ f ∷ (fs ++ (x ∷ w.last)) = cc in
          record { last = w.last; before = all; after = w.after })
    ]

at_least : (n : ℕ) (b : Bool) → n ≤ (if b then n + 1 else n)
at_least n true = omega arith
at_least n false = omega arith

-- a longer log settles no less
pub settles_more : SettledGrows → (mode : Mode) (before rest : List Exchange)
    → settled mode before ≤ settled mode (before ++ rest)
settles_more law mode before [] = omega (arith, ap (settled mode) (append-nil before))
settles_more law mode before (e ∷ rest) =
    omega (
      arith,
      at_least (settled mode before) (settles mode before e),
      law mode before e,
      settles_more law mode (before ++ e ∷ []) rest,
      ap (settled mode) (append_assoc before (e ∷ []) rest),
    )

-- and no more than it has exchanges
pub settles_few : (mode : Mode) (log : List Exchange) → settled mode log ≤ length log
settles_few mode log =
    omega (
      arith,
      count_by-le-length (settles_at mode log) (range_with_len 0 (length log)),
      length-range_with_len 0 (length log),
    )

pub one_more : SettledGrows → (mode : Mode) (log : List Exchange) (e : Exchange) (b : Bool) → settles mode log e ≡ b
    → settled mode (log ++ e ∷ []) ≡ (if b then settled mode log + 1 else settled mode log)
one_more law mode log e b is = law mode log e ∙ ap (λ t. if t then settled mode log + 1 else settled mode log) is
