-- Logs that keep the rules, front by front.
use Rattle.std.proofs.Common.{◌≡◌, ℕ, ◌+◌, ◌<◌, List, [], ◌∷◌, ◌++◌, length, get_or, take, inl, inr, sym, subst}
use Rattle.std.proofs.lemmas.List.{take_more}
use Rattle.vdcp_auto.specs.RuleBook.{KeepsRules, May}
use Rattle.vdcp_auto.specs.declared.exchange.Exchange.{Exchange}
use Rattle.vdcp_auto.specs.declared.phase.Mode.{Mode}
use Rattle.vdcp_auto.proofs.Logs.{cut}
use Rattle.vdcp_value.specs.declared.part.Item.{Item}

-- an empty log keeps them
nowhere : {A : Type 0} (before : List Exchange) (e : Exchange) (after : List Exchange)
    → ◌≡◌ {A = List Exchange} [] (before ++ (e ∷ after)) → A
nowhere [] e after is = absurd (let no_way : ⊥ = cc in no_way)
nowhere (x ∷ before) e after is = absurd (let no_way : ⊥ = cc in no_way)

pub none_keeps : (mode : Mode) (list : List Item) → KeepsRules mode list []
none_keeps mode list before e after is = nowhere before e after is

pub more_keeps : (mode : Mode) (list : List Item) (log : List Exchange) (e : Exchange) → KeepsRules mode list log
    → May mode list log e.command
    → KeepsRules mode list (log ++ e ∷ [])
more_keeps mode list log e keeps may before x after is =
    elim (cut log before after x e is) [
      | inl w ↦ subst (λ b. May mode list b x.command) w.0 (subst (λ y. May mode list log y.command) w.1 may)
      | inr w ↦ keeps before x w.last w.before
    ]

-- the front of a log that is one longer
pub front_keeps : (mode : Mode) (list : List Item) (log : List Exchange) (k : ℕ) (d : Exchange) → k < length log
    → KeepsRules mode list (take k log)
    → May mode list (take k log) (get_or log k d).command
    → KeepsRules mode list (take (k + 1) log)
front_keeps mode list log k d below keeps may =
    subst (KeepsRules mode list) (sym (take_more log k d below))
    (more_keeps mode list (take k log) (get_or log k d) keeps may)
