-- What the log says if a controller has ended Lost or, in confirm mode, Refused.
use Rattle.std.specs.Prelude.{◌≡◌, ◌≢◌, ℕ, ◌-◌, ◌≤◌, false, List, [], ◌∷◌, ◌++◌, length, drop, filter, count_by}
use Rattle.std.specs.List.{list_any}
use Rattle.vdcp_value.specs.declared.part.Item.{Item}
use Rattle.vdcp_auto.specs.declared.exchange.Exchange.{Exchange}
use Rattle.vdcp_auto.specs.declared.phase.Mode.{Mode}
use Rattle.vdcp_auto.specs.declared.phase.Mode.TheVariants.{Confirming}
use Rattle.vdcp_auto.specs.Log.{is_answered, is_counted, is_empty_status}
use Rattle.vdcp_auto.specs.Settled.{settled}
use Rattle.vdcp_auto.specs.RuleBook.{CuesItemAt}

-- the exchanges among which unanswered ones in a row are counted
abbrev pub counted : Mode → List Exchange → List Exchange
counted mode log = filter (is_counted mode) log

-- there are limit of them at least, and none of the last limit is answered
abbrev pub EndsUnanswered : Mode → ℕ → List Exchange → Type 0
EndsUnanswered mode limit log =
    (limit ≤ length (counted mode log))
    × (list_any is_answered (drop (length (counted mode log) - limit) (counted mode log)) ≡ false)

-- so ends the log, and no shorter front of it
pub record IsLost (mode : Mode) (limit : ℕ) (log : List Exchange) : Type 0 where
  pub now : EndsUnanswered mode limit log
  pub not_before : (front rest : List Exchange) → rest ≢ [] → log ≡ front ++ rest
      → ¬ EndsUnanswered mode limit front

-- nothing from a cue of the item at this place on settles, and at least limit empty statuses stand
-- after it
pub record IsRefused (list : List Item) (limit : ℕ) (log : List Exchange) (place : ℕ) : Type 0 where
  pub before : List Exchange
  pub cue : Exchange
  pub after : List Exchange
  pub in_order : log ≡ before ++ (cue ∷ after)
  pub cues : CuesItemAt list place cue.command
  pub none_settles : settled Confirming before ≡ settled Confirming log
  pub empties : limit ≤ count_by is_empty_status after
