-- Steps one after another.
use Rattle.std.proofs.Common.{ℕ, ◌≡◌, ◌+◌, ◌-◌, ◌∙◌, List, [], ◌∷◌, ◌++◌, length, take, drop, map, refl, sym, ap, subst, append_assoc}
use Rattle.std.proofs.Math.Seq.{take-add}
use Rattle.std.proofs.lemmas.List.{map-append, take_rest}
use Rattle.std.specs.Prelude.{Option, Some}
use Rattle.vdcp_auto.specs.Plan.{Plan}
use Rattle.vdcp_auto.specs.State.{State}
use Rattle.vdcp_auto.specs.Turn.{came_to}
use Rattle.vdcp_auto.specs.declared.exchange.Heard.{Heard}
use Rattle.vdcp_wire.specs.Acts.{Act}
use Rattle.vdcp_drive.specs.Steps.{Chain, ended_notes}
use Rattle.vdcp_drive.specs.Auto.{ended, receives}
use Rattle.vdcp_drive.specs.Ears.{Fold, IsPiecewise}
use Rattle.vdcp_drive.specs.Leaves.{HearsPiece}
use Rattle.vdcp_drive.specs.Steps.{acts, keeps, Rules, World, Happens}
use Rattle.vdcp_drive.specs.declared.hooks.Kept.{Kept}

pub chain_both : {A W : Type 0} (does : A → W → W → Type 0) (xs ys : List A) (u v w : W) → Chain does xs u v
    → Chain does ys v w → Chain does (xs ++ ys) u w
chain_both {A} {W} does [] ys u v w first next = subst (λ (x : W). Chain does ys x w) first next
chain_both {A} {W} does (x ∷ xs) ys u v w first next = (first.0, first.1, chain_both does xs ys first.0 v w first.2 next)

-- it was somewhere in between
pub chain_split : {A W : Type 0} (does : A → W → W → Type 0) (xs ys : List A) (u w : W) → Chain does (xs ++ ys) u w
    → (v : W) × Chain does xs u v × Chain does ys v w
chain_split does [] ys u w h = (u, refl, h)
chain_split does (x ∷ xs) ys u w h =
    let r = chain_split does xs ys h.0 w h.2 in (r.0, (h.0, h.1, r.1), r.2)

abbrev pub at : {W J : Type 0} → W → J → World W J
at w k = record { wire = w; keep = k }

pub on_line : {W J : Type 0} (rules : Rules W J) (xs : List Act) (w w' : W) (k : J) → Chain rules.does xs w w'
    → Happens rules (map acts xs) (at w k) (at w' k)
on_line {W} {J} rules [] w w' k h = ap (λ (x : W). at x k) h
on_line {W} {J} rules (x ∷ xs) w w' k h = (at h.0 k, (h.1, refl), on_line rules xs h.0 w' k h.2)

pub on_journal : {W J : Type 0} (rules : Rules W J) (xs : List Kept) (w : W) (k k' : J)
    → Chain rules.adds xs k k' → Happens rules (map keeps xs) (at w k) (at w k')
on_journal {W} {J} rules [] w k k' h = ap (λ (x : J). at w x) h
on_journal {W} {J} rules (x ∷ xs) w k k' h = (at w h.0, (h.1, refl), on_journal rules xs w h.0 k' h.2)

-- What the controller hears.

pub receives_both : (plan : Plan) (xs ys : List (Option Heard)) (s : State)
    → receives plan (xs ++ ys) s ≡ receives plan ys (receives plan xs s)
receives_both plan [] ys s = refl
receives_both plan (x ∷ xs) ys s = receives_both plan xs ys (came_to plan x s)

pub ended_both : (plan : Plan) (xs ys : List (Option Heard)) (s : State)
    → ended plan (xs ++ ys) s ≡ ended plan xs s ++ ended plan ys (receives plan xs s)
ended_both plan [] ys s = refl
ended_both plan (x ∷ xs) ys s = simp (append_assoc, ended_both plan xs ys (came_to plan x s))

-- Pieces.

-- one message more
pub hears_further : {E K : Type 0} (fold : Fold E) (adds : Kept → K → K → Type 0) (plan : Plan) (unit : ℕ)
    (laws : IsPiecewise fold) (xs : List ℕ) (at n : ℕ) (heard : List Heard) (s₀ s₁ s₂ : State) (e₀ e₁ e₂ : E) (k₀ k₁ k₂ : K)
    → HearsPiece fold adds plan unit (take at xs) s₀ e₀ k₀ s₁ e₁ k₁
    → heard ≡ fold.hears unit (take n (take (length xs - at) (drop at xs))) e₁
    → e₂ ≡ fold.takes unit (take n (take (length xs - at) (drop at xs))) e₁ → s₂ ≡ receives plan (map Some heard) s₁
    → Chain adds (ended_notes (ended plan (map Some heard) s₁)) k₁ k₂
    → HearsPiece fold adds plan unit (take (at + n) xs) s₀ e₀ k₀ s₂ e₂ k₂
hears_further fold adds plan unit laws xs at n heard s₀ s₁ s₂ e₀ e₁ e₂ k₀ k₁ k₂ first hears takes received noted =
    let front : List ℕ = take at xs in
    let more : List ℕ = take n (take (length xs - at) (drop at xs)) in
    let both : front ++ more ≡ take (at + n) xs =
    ap (λ (l : List ℕ). front ++ take n l) (take_rest xs at) ∙ sym (take-add at n xs) in
    let whole : HearsPiece fold adds plan unit (front ++ more) s₀ e₀ k₀ s₂ e₂ k₂ = record {
      state_is = rw (laws.hears_both unit front more e₀, map-append, receives_both)
          (rw (hears, first.ear_is, first.state_is) at received);
      ear_is = rw (laws.takes_both unit front more e₀) (rw first.ear_is at takes);
      noted = rw (laws.hears_both unit front more e₀, map-append, ended_both, map-append)
          (chain_both adds _ _ k₀ k₁ k₂ first.noted (rw (hears, first.ear_is, first.state_is) at noted));
    } in
    rw both at whole
