-- A judge of a lent list knows what one of its items knows.
use Rattle.std.proofs.Common.{◌≡◌, ◌<◌, ◌+◌, ◌^◌, List, [], ◌∷◌, ◌++◌, length, sym, ap, ◌∙◌, subst}
use Rattle.std.specs.Prelude.{IsTrue, ◌↔◌, Bool, false}
use Rattle.vdcp_value.specs.declared.part.Item.{Item}
use Rattle.vdcp_auto.specs.declared.exchange.Exchange.{Exchange}
use Rattle.vdcp_auto.specs.declared.phase.Mode.{Mode}
use Rattle.vdcp_auto.specs.RuleBook.{May, MayPlay}
use Rattle.vdcp_auto.specs.Judging.{Knows, CueStands, View, stands, is_done}
use Rattle.vdcp_auto.specs.Notes.{view_of}
use Rattle.vdcp_auto.specs.declared.notes.Notes.{Notes}
use Rattle.vdcp_words.specs.declared.command.Command.{Command}
use Rattle.vdcp_c.specs.Judgings.{IsAdded, KnowsOf}

pub lent_knows : {S : Type 0} (items : S → List Item) (source : S) (list : List Item) (log : List Exchange) (n : Notes)
    → items source ≡ list → KnowsOf list log n → Knows items log (view_of source n)
lent_knows items source list log n same k = record {
  settled = k.settled;
  open_play = k.open_play;
  airing = k.airing;
  stopped = k.stopped;
  closed = k.closed;
  granted = k.granted;
  cue_stands = subst (λ (l : List Item). IsTrue (stands n.last_cue) ↔ CueStands n.mode l log) (sym same)
      k.cue_stands;
  may_play = subst (λ (l : List Item). IsTrue (is_done n.last_cue) ↔ MayPlay n.mode l log) (sym same)
      k.may_play;
}

pub knows_lent : {S : Type 0} (items : S → List Item) (source : S) (list : List Item) (log : List Exchange) (n : Notes)
    → items source ≡ list → Knows items log (view_of source n) → KnowsOf list log n
knows_lent items source list log n same k = record {
  settled = k.settled;
  open_play = k.open_play;
  airing = k.airing;
  stopped = k.stopped;
  closed = k.closed;
  granted = k.granted;
  cue_stands = subst (λ (l : List Item). IsTrue (stands n.last_cue) ↔ CueStands n.mode l log) same
      k.cue_stands;
  may_play = subst (λ (l : List Item). IsTrue (is_done n.last_cue) ↔ MayPlay n.mode l log) same
      k.may_play;
}

-- with no exchange there is no cue
no_join : (before : List Exchange) (e : Exchange) (after : List Exchange) → [] ≡ before ++ (e ∷ after) → ⊥
no_join [] e after h = cc h
no_join (first ∷ before) e after h = cc h

pub no_cue : (mode : Mode) (list : List Item) → IsTrue false ↔ CueStands mode list []
no_cue mode list = ((λ e. cc e), λ s. absurd (no_join s.before s.cue s.after s.in_order))

pub no_play : (mode : Mode) (list : List Item) → IsTrue false ↔ MayPlay mode list []
no_play mode list = ((λ e. cc e), λ m. absurd (no_join m.before m.cue (m.between ++ (m.status ∷ m.after)) m.in_order))

pub ruled : {S : Type 0} (items : S → List Item) (source : S) (list : List Item) (log : List Exchange) (n : Notes)
    (v : View S) (ok : Bool) (c : Command) → items source ≡ list → v ≡ view_of source n
    → (Knows items log v → (IsTrue ok ↔ May v.mode (items v.source) log c)) → KnowsOf list log n
    → (IsTrue ok ↔ May n.mode list log c)
ruled {S} items source list log n v ok c same is f k =
    let at = subst (λ (w : View S). Knows items log w → (IsTrue ok ↔ May w.mode (items w.source) log c)) is f in
    subst (λ (l : List Item). IsTrue ok ↔ May n.mode l log c) same
    (at (lent_knows items source list log n same k))

pub added : {S : Type 0} (items : S → List Item) (source : S) (list : List Item) (n m : Notes) (e : Exchange)
    (v w : View S) → items source ≡ list → v ≡ view_of source n → w ≡ view_of w.source m → w.source ≡ v.source
    → w.mode ≡ v.mode
    → ((log : List Exchange) → length log + 1 < 2 ^ 64 → Knows items log v → Knows items (log ++ e ∷ []) w)
    → IsAdded list n e m
added {S} items source list n m e v w same v_is w_is sources modes f = record {
  mode = ap (λ (x : View S). x.mode) (sym w_is) ∙ modes ∙ ap (λ (x : View S). x.mode) v_is;
  knows = λ log less k.
      let old : Knows items log v = subst (λ (x : View S). Knows items log x) (sym v_is)
      (lent_knows items source list log n same k) in
      let there : items w.source ≡ list =
      ap items sources ∙ ap (λ (x : View S). items x.source) v_is ∙ same in
      knows_lent items w.source list (log ++ e ∷ []) m there
      (subst (λ (x : View S). Knows items (log ++ e ∷ []) x) w_is (f log less old));
}
