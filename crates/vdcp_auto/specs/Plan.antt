-- What a controller was made with, and what callers see of it.
use Rattle.std.specs.Prelude.{ℕ, List}
use Rattle.vdcp_value.specs.declared.part.Item.{Item}
use Rattle.vdcp_auto.specs.declared.phase.Mode.{Mode}
use Rattle.vdcp_auto.specs.State.{State}

-- what a controller was made with
pub record Plan : Type 0 where
  pub mode : Mode
  pub list : List Item
  pub port : ℕ
  pub limit : ℕ

-- a controller, as callers see it
pub record View (S : Type 0) : Type 0 where
  pub source : S
  pub mode : Mode
  pub port : ℕ
  pub limit : ℕ
  pub state : State

-- what it was made with, if items gives a source's list
abbrev pub plan_of : {S : Type 0} → (S → List Item) → View S → Plan
plan_of items view =
    record { mode = view.mode; list = items view.source; port = view.port; limit = view.limit }
