-- A list from an event on.
use Rattle.std.specs.Prelude.{ℕ, List, drop}
use Rattle.vdcp_value.specs.declared.part.Item.{Item}

-- a list and the event with which it begins here, as callers see them
pub record FromEvent (S : Type 0) : Type 0 where
  pub source : S
  pub from : ℕ

-- the events that are left of it, if items gives a source's list
abbrev pub items_left : {S : Type 0} → (S → List Item) → FromEvent S → List Item
items_left items rest = drop rest.from (items rest.source)
