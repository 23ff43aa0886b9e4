-- Several runs of one list, one after another.
use Rattle.std.specs.Prelude.{ℕ, ◌≡◌, ◌+◌, ◌<◌, IsTrue, List, [], ◌∷◌, ◌++◌, All, Some, drop, slice_get}
use Rattle.vdcp_value.specs.declared.part.Item.{Item}
use Rattle.vdcp_words.specs.declared.command.Command.{Command}
use Rattle.vdcp_port.specs.Clock.{ClockedPort}
use Rattle.vdcp_auto.specs.Plan.{Plan}
use Rattle.vdcp_journal.specs.Thinned.{asks_state}
use Rattle.vdcp_journal.specs.declared.row.Row.{Row}
use Rattle.vdcp_laws.specs.TwoEnds.{AreJoined, CanJoin, Ends, aired_now}

-- An event that went to air: its number in the list, from 0, and its item.
pub record AiredEvent : Type 0 where
  pub number : ℕ
  pub item : Item

-- what a run put to air that began with the event of this number
abbrev pub aired_from : ℕ → List Item → List AiredEvent
aired_from first [] = []
aired_from first (item ∷ items) = record { number = first; item = item } ∷ aired_from (first + 1) items

-- the list has it under its number
abbrev pub IsEvent : List Item → AiredEvent → Type 0
IsEvent list a = slice_get list a.number ≡ Some a.item

-- What aired in runs of this list, each of which begins with an event behind all that aired before it. Each may have
-- another server, mode and limit, and ask first.
pub data HaveAired (list : List Item) : List AiredEvent → Type 0 where
  nothing : HaveAired list []
  ran : {before : List AiredEvent} → HaveAired list before → (first : ℕ) → All (λ (a : AiredEvent). a.number < first) before
      → (plan : Plan) (port : ClockedPort) (asked : List Command) (e : Ends) → CanJoin plan port asked
      → AreJoined plan port asked e → plan.list ≡ drop first list → HaveAired list (before ++ aired_from first (aired_now e))

-- what went out without a row is a request for the state at the most
pub data AsksAtMost : List Row → Type 0 where
  none : AsksAtMost []
  once : (row : Row) → IsTrue (asks_state row.note) → AsksAtMost (row ∷ [])
