-- What a judge knows, exchange by exchange.
use Rattle.std.proofs.Common.{◌≡◌, ℕ, ◌+◌, ◌<◌, ◌^◌, Bool, true, false, not, ◌||◌, ◌&&◌, List, [], ◌∷◌, ◌++◌, length, ◌⊎◌, inl, inr, refl, sym, ap, subst, ◌∙◌, arith}
use Rattle.std.proofs.lemmas.List.Folds.{list_any-append}
use Rattle.std.specs.List.{list_any}
use Rattle.std.specs.Prelude.{◌↔◌, IsTrue, if◌then◌else◌}
use Rattle.vdcp_auto.specs.Log.{is_close, is_cue, is_done_status, is_grant, is_play, is_stop}
use Rattle.vdcp_auto.specs.RuleBook.{MayPlay}
use Rattle.vdcp_auto.specs.Settled.{has_open_play, may_have_aired, settled, settles}
use Rattle.vdcp_auto.specs.declared.exchange.Exchange.{Exchange}
use Rattle.vdcp_auto.specs.declared.phase.Mode.{Mode}
use Rattle.vdcp_auto.proofs.Cues.{done_before, done_from, done_now, old_cue, old_cue_from, play_stands}
use Rattle.vdcp_auto.proofs.Logs.{SettledGrows, settles_few}
use Rattle.vdcp_auto.specs.Judging.{CueStands, Knows, View, is_done, stands}
use Rattle.vdcp_value.specs.declared.part.Item.{Item}

pub false_is : {A X : Type 0} → ¬ X → (false ≡ true → A) × (X → false ≡ true)
false_is no_x = (λ e. absurd (let no_way : ⊥ = cc in no_way), λ x. absurd (no_x x))

pub any_after : (p : Exchange → Bool) (log : List Exchange) (e : Exchange) (had : Bool) → had ≡ list_any p log
    → (had || p e) ≡ list_any p (log ++ e ∷ [])
any_after p log e had is =
    let all : list_any p (log ++ e ∷ []) ≡ (list_any p log || (p e || false)) = list_any-append p log (e ∷ []) in
    grind (arith, is, all)

pub settled_after : SettledGrows → (mode : Mode) (log : List Exchange) (e : Exchange) (n m : ℕ) (b : Bool)
    → n ≡ settled mode log → b ≡ settles mode log e
    → length log + 1 < 2 ^ 64
    → (n + 1 < 2 ^ 64 → m ≡ (if b then n + 1 else n))
    → m ≡ settled mode (log ++ e ∷ [])
settled_after law mode log e n m b is which few h =
    h (omega (arith, is, settles_few mode log, few))
    ∙ ap (λ k. if b then k + 1 else k) is
    ∙ ap (λ t. if t then settled mode log + 1 else settled mode log) which
    ∙ sym (law mode log e)

-- what the law of a growing log says
abbrev pub AiringGrows : Type 0
AiringGrows = (mode : Mode) (log : List Exchange) (e : Exchange) → may_have_aired mode (log ++ e ∷ [])
    ≡ (not (settles mode log e) && (is_play e || may_have_aired mode log))

pub airing_after : AiringGrows → (mode : Mode) (log : List Exchange) (e : Exchange) (had has b : Bool)
    → had ≡ may_have_aired mode log → b ≡ settles mode log e → has ≡ (not b && (is_play e || had))
    → has ≡ may_have_aired mode (log ++ e ∷ [])
airing_after law mode log e had has b was which is =
    is ∙ ap (λ x. not b && (is_play e || x)) was
    ∙ ap (λ x. not x && (is_play e || may_have_aired mode log)) which
    ∙ sym (law mode log e)

pub stands_after : SettledGrows → (mode : Mode) (list : List Item) (log : List Exchange) (e : Exchange)
    (before after : Bool)
    → is_cue e ≡ false → settles mode log e ≡ false
    → (IsTrue before ↔ CueStands mode list log) → after ≡ before
    → IsTrue after ↔ CueStands mode list (log ++ e ∷ [])
stands_after law mode list log e before after other still known same = (
  λ t. old_cue law mode list log e other still (known.0 (sym same ∙ t)),
  λ s. same ∙ known.1 (old_cue_from law mode list log e other still s),
)

both : (s d m p : Bool) → (s && (d || m && not p)) ≡ true → (s ≡ true) × ((d ≡ true) ⊎ ((m ≡ true) × (p ≡ false)))
both true true m p h = (refl, inl refl)
both true false true false h = (refl, inr (refl, refl))
both true false true true h = absurd (let no_way : ⊥ = cc in no_way)
both true false false p h = absurd (let no_way : ⊥ = cc in no_way)
both false d m p h = absurd (let no_way : ⊥ = cc in no_way)

either_done : (s d m p : Bool) → s ≡ true → d ≡ true → (s && (d || m && not p)) ≡ true
either_done s d m p hs hd = grind arith

either_before : (s d m p : Bool) → s ≡ true → m ≡ true → p ≡ false → (s && (d || m && not p)) ≡ true
either_before s d m p hs hm hp = grind arith

pub done_after : SettledGrows → (mode : Mode) (list : List Item) (log : List Exchange) (e : Exchange)
    (stood done after : Bool)
    → is_cue e ≡ false → settles mode log e ≡ false
    → (IsTrue stood ↔ CueStands mode list log) → (IsTrue done ↔ MayPlay mode list log)
    → after ≡ (stood && (is_done_status e || done && not (is_play e)))
    → IsTrue after ↔ MayPlay mode list (log ++ e ∷ [])
done_after law mode list log e stood done after other still stands may is = (
  λ t.
      let h = both stood (is_done_status e) done (is_play e) (sym is ∙ t) in
      elim h.1 [
        | inl w ↦ done_now law mode list log e still w (stands.0 h.0)
        | inr w ↦ done_before law mode list log e other still w.1 (may.0 w.0)
      ],
  λ m.
      let stood_is = stands.1 (old_cue_from law mode list log e other still (play_stands m)) in
      elim (done_from law mode list log e other still m) [
        | inl w ↦ is ∙ either_done stood (is_done_status e) done (is_play e) stood_is w
        | inr w ↦ is ∙ either_before stood (is_done_status e) done (is_play e) stood_is (may.1 w.0) w.1
      ],
)

pub knows_after : {S : Type 0} (items : S → List Item) (log : List Exchange) (old new : View S)
    → new.source ≡ old.source → new.mode ≡ old.mode → new.settled ≡ settled old.mode log
    → new.has_open_play ≡ has_open_play log → new.may_have_aired ≡ may_have_aired old.mode log
    → new.stopped ≡ list_any is_stop log
    → new.closed ≡ list_any is_close log → new.granted ≡ list_any is_grant log
    → (IsTrue (stands new.last_cue) ↔ CueStands old.mode (items old.source) log)
    → (IsTrue (is_done new.last_cue) ↔ MayPlay old.mode (items old.source) log)
    → Knows items log new
knows_after items log old new source mode count opened airing stopped closed granted cue play = record {
  settled = count ∙ ap (λ m. settled m log) (sym mode);
  open_play = opened;
  airing = airing ∙ ap (λ m. may_have_aired m log) (sym mode);
  stopped = stopped;
  closed = closed;
  granted = granted;
  cue_stands =
      subst (λ m. IsTrue (stands new.last_cue) ↔ CueStands m (items new.source) log) (sym mode)
      (subst (λ s. IsTrue (stands new.last_cue) ↔ CueStands old.mode (items s) log) (sym source) cue);
  may_play =
      subst (λ m. IsTrue (is_done new.last_cue) ↔ MayPlay m (items new.source) log) (sym mode)
      (subst (λ s. IsTrue (is_done new.last_cue) ↔ MayPlay old.mode (items s) log) (sym source) play);
}
