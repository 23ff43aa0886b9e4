-- In confirm mode a receipt changes nothing and ends nothing.
use Rattle.std.proofs.Common.{◌≡◌, true, false, Option, None, Some, refl, arith, ap, ◌∙◌}
use Rattle.std.specs.Option.{option_map_or}
use Rattle.vdcp_words.specs.declared.command.Command.{Command}
use Rattle.vdcp_auto.specs.declared.exchange.Heard.{Heard}
use Rattle.vdcp_auto.specs.declared.exchange.Heard.TheVariants as heard
use Rattle.vdcp_auto.specs.declared.phase.Mode.TheVariants.{Confirming}
use Rattle.vdcp_auto.specs.State.{State}
use Rattle.vdcp_auto.specs.Heard.{hears_receipt}
use Rattle.vdcp_auto.specs.Plan.{Plan}
use Rattle.vdcp_auto.specs.Turn.{is_end, awaited, ended_in, exchange_of, ended_by, came_to}

no_end : (c : Command) (came : Option Heard) → hears_receipt came ≡ true → is_end Confirming c came ≡ false
no_end c None is = cc
no_end c (Some heard.Other) is = cc
no_end c (Some (heard.Reply r)) is = grind arith

no_exchange : (came : Option Heard) (c : Option Command) → hears_receipt came ≡ true
    → exchange_of Confirming came c ≡ None
no_exchange came None is = refl
no_exchange came (Some c) is = rw (no_end c came is) refl

pub receipt_ends_nothing : (plan : Plan) (s : State) (came : Option Heard) → plan.mode ≡ Confirming
    → hears_receipt came ≡ true → ended_by plan came s ≡ None
receipt_ends_nothing plan s came mode is = ap (λ m. exchange_of m came (awaited plan s)) mode
    ∙ no_exchange came (awaited plan s) is

pub receipt_changes_nothing : (plan : Plan) (s : State) (came : Option Heard) → plan.mode ≡ Confirming
    → hears_receipt came ≡ true → came_to plan came s ≡ s
receipt_changes_nothing plan s came mode is = ap (λ o. option_map_or (λ e. ended_in plan s.stage e s) o s)
    (receipt_ends_nothing plan s came mode is)
