-- The call among what a request gets, and what it is shown.
use Rattle.std.specs.Prelude.{ℕ, List, Option, None, Some}
use Rattle.vdcp_panel.specs.declared.call.Call.{Call}
use Rattle.vdcp_panel.specs.declared.wish.Wish.{Wish}
use Rattle.vdcp_panel.specs.declared.wish.Wish.TheVariants as wishes

abbrev pub wish_call : Wish → Option Call
wish_call (wishes.Call c) = Some c
wish_call _ = None

abbrev pub shown_by : (page state : List ℕ) → Wish → Option (List ℕ)
shown_by page state wishes.Page = Some page
shown_by page state wishes.State = Some state
shown_by page state _ = None
