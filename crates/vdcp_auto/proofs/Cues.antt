-- The last cue of a log that has grown by one exchange.
use Rattle.std.proofs.Common.{◌≡◌, ℕ, Bool, true, false, ◌||◌, ◌&&◌, Option, None, Some, List, [], ◌∷◌, ◌++◌, ◌⊎◌, inl, inr, refl, sym, ap, subst, ◌∙◌, arith, append_assoc}
use Rattle.std.proofs.lemmas.List.Folds.{list_any-append}
use Rattle.std.specs.List.{list_any}
use Rattle.std.specs.Prelude.{IsSomeAnd, IsTrue, slice_get}
use Rattle.vdcp_auto.specs.Commands.{cue_for, cue_of, is_cue_command, is_play_command, is_status_command}
use Rattle.vdcp_auto.specs.Log.{hears, is_acked, is_cue, is_done_status, is_play}
use Rattle.vdcp_auto.specs.Replies.{is_done, is_empty}
use Rattle.vdcp_auto.specs.RuleBook.{CuesItemAt, IsTaken, MayPlay}
use Rattle.vdcp_auto.specs.Settled.{has_open_play, settled, settles}
use Rattle.vdcp_auto.specs.declared.exchange.Exchange.{Exchange}
use Rattle.vdcp_auto.specs.declared.phase.Mode.{Mode}
use Rattle.vdcp_auto.specs.declared.phase.Mode.TheVariants.{Plain, Confirming}
use Rattle.vdcp_auto.proofs.Logs.{SettledGrows, cut, one_more, settles_more}
use Rattle.vdcp_auto.specs.Judging.{CueStands}
use Rattle.vdcp_value.specs.declared.clip_id.ClipId.{ClipId}
use Rattle.vdcp_value.specs.declared.part.Item.{Item}
use Rattle.vdcp_value.specs.declared.part.Part.{Part}
use Rattle.vdcp_words.specs.declared.command.Command.{Command}
use Rattle.vdcp_words.specs.declared.command.Command.TheVariants as command

-- Which command is of which kind.

false_is_true : {A : Type 0} → false ≡ true → A
false_is_true e = absurd (let no_way : ⊥ = cc in no_way)

cue_kind : (c : Command) → is_cue_command c ≡ true → (is_play_command c ≡ false) × (is_status_command c ≡ false)
cue_kind (command.PlayCue id) is = (refl, refl)
cue_kind (command.CueData id start duration) is = (refl, refl)
cue_kind other is = false_is_true is

status_kind : (c : Command) → is_status_command c ≡ true → (is_play_command c ≡ false) × (is_cue_command c ≡ false)
status_kind (command.Status groups) is = (refl, refl)
status_kind other is = false_is_true is

play_kind : (c : Command) → is_play_command c ≡ true → is_status_command c ≡ false
play_kind (command.PlayCue id) is = false_is_true is
play_kind (command.CueData id start duration) is = false_is_true is
play_kind command.Play is = refl
play_kind other is = false_is_true is

cues : (id : ClipId) (part : Option Part) → is_cue_command (cue_for id part) ≡ true
cues id None = refl
cues id (Some part) = refl

cues_some : (o : Option Item) (c : Command) → IsSomeAnd o (λ item. c ≡ cue_of item) → is_cue_command c ≡ true
cues_some None c h = absurd h
cues_some (Some item) c h = ap is_cue_command h ∙ cues item.id item.part

pub item_is_cued : (list : List Item) (k : ℕ) (c : Command) → CuesItemAt list k c → is_cue_command c ≡ true
item_is_cued list k c h = cues_some (slice_get list k) c h

left_of : (a b : Bool) → (a && b) ≡ true → a ≡ true
left_of true b h = refl
left_of false b h = h

pub done_status_is : (e : Exchange) → is_done_status e ≡ true → (is_play e ≡ false) × (is_cue e ≡ false)
done_status_is e is = status_kind e.command (left_of (is_status_command e.command) (hears is_done e.heard) is)

no_settling : (p a s y o : Bool) → p ≡ false → s ≡ false → (p && a || s && y && o) ≡ false
no_settling p a s y o np ns = grind arith

no_confirming : (s y o : Bool) → s ≡ false → (s && y && o) ≡ false
no_confirming s y o ns = grind arith

-- a cue settles nothing
pub cue_settles_nothing : (mode : Mode) (log : List Exchange) (e : Exchange) → is_cue e ≡ true
    → settles mode log e ≡ false
cue_settles_nothing Plain log e is =
    let kind = cue_kind e.command is in
    no_settling (is_play e) (is_acked e) (is_status_command e.command) (hears is_empty e.heard) (has_open_play log)
    kind.0 kind.1
cue_settles_nothing Confirming log e is =
    no_confirming (is_status_command e.command) (hears is_empty e.heard) (has_open_play log) (cue_kind e.command is).1

-- Logs that are cut.

any_within : (p : Exchange → Bool) (rest last : List Exchange) (e : Exchange) → rest ≡ last ++ e ∷ []
    → list_any p rest ≡ false → (list_any p last ≡ false) × (p e ≡ false)
any_within p rest last e is nowhere =
    let all : (list_any p last || (p e || false)) ≡ false =
    sym (list_any-append p last (e ∷ [])) ∙ ap (list_any p) (sym is) ∙ nowhere in
    (grind (arith, all), grind (arith, all))

any_more : (p : Exchange → Bool) (last : List Exchange) (e : Exchange) → list_any p last ≡ false → p e ≡ false
    → list_any p (last ++ e ∷ []) ≡ false
any_more p last e before here = list_any-append p last (e ∷ []) ∙ grind arith

in_order_more : (log before : List Exchange) (cue : Exchange) (after : List Exchange) (e : Exchange)
    → log ≡ before ++ (cue ∷ after) → log ++ e ∷ [] ≡ before ++ (cue ∷ (after ++ e ∷ []))
in_order_more log before cue after e is = ap (λ xs. xs ++ e ∷ []) is ∙ append_assoc before (cue ∷ after) (e ∷ [])

-- The last cue that stands.

pub play_stands : {mode : Mode} {list : List Item} {log : List Exchange} → MayPlay mode list log
    → CueStands mode list log
play_stands m = record {
  before = m.before;
  cue = m.cue;
  after = m.between ++ (m.status ∷ m.after);
  in_order = m.in_order;
  cues_next = m.cues_next;
  taken = m.taken;
  last_cue = m.last_cue;
  none_settles = m.none_settles;
}

true_is_false : {A : Type 0} → true ≡ false → A
true_is_false e = absurd (let no_way : ⊥ = cc in no_way)

-- no cue stands if something has just settled
pub settled_cue : SettledGrows → (mode : Mode) (list : List Item) (log : List Exchange) (e : Exchange)
    → settles mode log e ≡ true → ¬ CueStands mode list (log ++ e ∷ [])
settled_cue law mode list log e is s =
    elim (cut log s.before s.after s.cue e s.in_order) [
      | inl w ↦ true_is_false (sym is ∙ cue_settles_nothing mode log e
          (ap is_cue w.1 ∙ item_is_cued list (settled mode (log ++ e ∷ [])) s.cue.command s.cues_next))
      | inr w ↦ absurd (omega (
        arith,
        one_more law mode log e true is,
        s.none_settles,
        settles_more law mode s.before (s.cue ∷ w.last),
        ap (settled mode) w.before,
      ))
    ]

-- if a cue that was just sent stands, it is the next item's, and was taken
pub new_cue_from : SettledGrows → (mode : Mode) (list : List Item) (log : List Exchange) (e : Exchange)
    → is_cue e ≡ true → CueStands mode list (log ++ e ∷ [])
    → CuesItemAt list (settled mode log) e.command × IsTaken mode e
new_cue_from law mode list log e is s =
    let same = one_more law mode log e false (cue_settles_nothing mode log e is) in
    elim (cut log s.before s.after s.cue e s.in_order) [
      | inl w ↦ (
        subst (λ n. CuesItemAt list n e.command) same
            (subst (λ x. CuesItemAt list (settled mode (log ++ e ∷ [])) x.command) (sym w.1) s.cues_next),
        subst (IsTaken mode) (sym w.1) s.taken,
      )
      | inr w ↦ true_is_false (sym is ∙ (any_within is_cue s.after w.last e w.after s.last_cue).1)
    ]

pub new_cue : SettledGrows → (mode : Mode) (list : List Item) (log : List Exchange) (e : Exchange)
    → is_cue e ≡ true → CuesItemAt list (settled mode log) e.command → IsTaken mode e
    → CueStands mode list (log ++ e ∷ [])
new_cue law mode list log e is next taken =
    let same = one_more law mode log e false (cue_settles_nothing mode log e is) in
    record {
      before = log;
      cue = e;
      after = [];
      in_order = refl;
      cues_next = subst (λ n. CuesItemAt list n e.command) (sym same) next;
      taken = taken;
      last_cue = refl;
      none_settles = sym same;
    }

-- after a cue that was just sent there is no status yet
pub new_cue_waits : (mode : Mode) (list : List Item) (log : List Exchange) (e : Exchange) → is_cue e ≡ true
    → ¬ MayPlay mode list (log ++ e ∷ [])
new_cue_waits mode list log e is m =
    let at : log ++ e ∷ [] ≡ (m.before ++ (m.cue ∷ m.between)) ++ (m.status ∷ m.after) =
    m.in_order ∙ sym (append_assoc m.before (m.cue ∷ m.between) (m.status ∷ m.after)) in
    elim (cut log (m.before ++ (m.cue ∷ m.between)) m.after m.status e at) [
      | inl w ↦ true_is_false (sym is ∙ ap is_cue w.1 ∙ (done_status_is m.status m.done).1)
      | inr w ↦ true_is_false (sym is ∙ (any_within is_cue (m.between ++ (m.status ∷ m.after))
          (m.between ++ (m.status ∷ w.last)) e
          (ap (λ xs. m.between ++ (m.status ∷ xs)) w.after ∙ sym (append_assoc m.between (m.status ∷ w.last) (e ∷ [])))
          m.last_cue).1)
    ]

-- another exchange changes nothing of the cue

pub old_cue_from : SettledGrows → (mode : Mode) (list : List Item) (log : List Exchange) (e : Exchange)
    → is_cue e ≡ false → settles mode log e ≡ false → CueStands mode list (log ++ e ∷ [])
    → CueStands mode list log
old_cue_from law mode list log e other still s =
    let same = one_more law mode log e false still in
    elim (cut log s.before s.after s.cue e s.in_order) [
      | inl w ↦ true_is_false (sym (item_is_cued list (settled mode (log ++ e ∷ [])) s.cue.command s.cues_next)
          ∙ ap is_cue (sym w.1) ∙ other)
      | inr w ↦ record {
        before = s.before;
        cue = s.cue;
        after = w.last;
        in_order = w.before;
        cues_next = subst (λ n. CuesItemAt list n s.cue.command) same s.cues_next;
        taken = s.taken;
        last_cue = (any_within is_cue s.after w.last e w.after s.last_cue).0;
        none_settles = s.none_settles ∙ same;
      }
    ]

pub old_cue : SettledGrows → (mode : Mode) (list : List Item) (log : List Exchange) (e : Exchange)
    → is_cue e ≡ false → settles mode log e ≡ false → CueStands mode list log
    → CueStands mode list (log ++ e ∷ [])
old_cue law mode list log e other still s =
    let same = one_more law mode log e false still in
    record {
      before = s.before;
      cue = s.cue;
      after = s.after ++ e ∷ [];
      in_order = in_order_more log s.before s.cue s.after e s.in_order;
      cues_next = subst (λ n. CuesItemAt list n s.cue.command) (sym same) s.cues_next;
      taken = s.taken;
      last_cue = any_more is_cue s.after e s.last_cue other;
      none_settles = s.none_settles ∙ sym same;
    }

-- PLAY may come: a done status has just come, or one had come and this is no PLAY

pub done_now : SettledGrows → (mode : Mode) (list : List Item) (log : List Exchange) (e : Exchange)
    → settles mode log e ≡ false → is_done_status e ≡ true → CueStands mode list log
    → MayPlay mode list (log ++ e ∷ [])
unfolding old_cue
done_now law mode list log e still done s =
    let now = old_cue law mode list log e (done_status_is e done).1 still s in
    record {
      before = now.before;
      cue = now.cue;
      between = s.after;
      status = e;
      after = [];
      in_order = now.in_order;
      cues_next = now.cues_next;
      taken = now.taken;
      last_cue = now.last_cue;
      none_settles = now.none_settles;
      done = done;
      no_play = refl;
    }

pub done_before : SettledGrows → (mode : Mode) (list : List Item) (log : List Exchange) (e : Exchange)
    → is_cue e ≡ false → settles mode log e ≡ false → is_play e ≡ false → MayPlay mode list log
    → MayPlay mode list (log ++ e ∷ [])
unfolding old_cue play_stands
done_before law mode list log e other still no_play m =
    let now = old_cue law mode list log e other still (play_stands m) in
    let same : (m.between ++ (m.status ∷ m.after)) ++ e ∷ [] ≡ m.between ++ (m.status ∷ (m.after ++ e ∷ [])) =
    append_assoc m.between (m.status ∷ m.after) (e ∷ []) in
    record {
      before = m.before;
      cue = m.cue;
      between = m.between;
      status = m.status;
      after = m.after ++ e ∷ [];
      in_order = now.in_order ∙ ap (λ xs. m.before ++ (m.cue ∷ xs)) same;
      cues_next = now.cues_next;
      taken = m.taken;
      last_cue = ap (list_any is_cue) (sym same) ∙ now.last_cue;
      none_settles = now.none_settles;
      done = m.done;
      no_play = any_more is_play m.after e m.no_play no_play;
    }

pub done_from : SettledGrows → (mode : Mode) (list : List Item) (log : List Exchange) (e : Exchange)
    → is_cue e ≡ false → settles mode log e ≡ false → MayPlay mode list (log ++ e ∷ [])
    → IsTrue (is_done_status e) ⊎ (MayPlay mode list log × (is_play e ≡ false))
done_from law mode list log e other still m =
    let same = one_more law mode log e false still in
    let at : log ++ e ∷ [] ≡ (m.before ++ (m.cue ∷ m.between)) ++ (m.status ∷ m.after) =
    m.in_order ∙ sym (append_assoc m.before (m.cue ∷ m.between) (m.status ∷ m.after)) in
    elim (cut log (m.before ++ (m.cue ∷ m.between)) m.after m.status e at) [
      | inl w ↦ inl (ap is_done_status w.1 ∙ m.done)
      | inr w ↦
          let rest : m.between ++ (m.status ∷ m.after) ≡ (m.between ++ (m.status ∷ w.last)) ++ e ∷ [] =
          ap (λ xs. m.between ++ (m.status ∷ xs)) w.after
          ∙ sym (append_assoc m.between (m.status ∷ w.last) (e ∷ [])) in
          let plays = any_within is_play m.after w.last e w.after m.no_play in
          inr (
            record {
              before = m.before;
              cue = m.cue;
              between = m.between;
              status = m.status;
              after = w.last;
              in_order = w.before ∙ append_assoc m.before (m.cue ∷ m.between) (m.status ∷ w.last);
              cues_next = subst (λ n. CuesItemAt list n m.cue.command) same m.cues_next;
              taken = m.taken;
              last_cue = (any_within is_cue (m.between ++ (m.status ∷ m.after)) (m.between ++ (m.status ∷ w.last)) e
                  rest m.last_cue).0;
              none_settles = m.none_settles ∙ same;
              done = m.done;
              no_play = plays.0;
            },
            plays.1,
          )
    ]

nowhere : (before : List Exchange) (cue : Exchange) (after : List Exchange) → [] ≡ before ++ (cue ∷ after) → ⊥
nowhere [] cue after e = cc
nowhere (x ∷ before) cue after e = cc

-- an empty log has no cue
pub no_cue_yet : (mode : Mode) (list : List Item) → ¬ CueStands mode list []
no_cue_yet mode list s = nowhere s.before s.cue s.after s.in_order
