-- What a judge keeps of a log, and that this is what the rule book asks of it.
use Rattle.std.specs.Prelude.{◌≡◌, ◌↔◌, ℕ, Bool, true, false, IsTrue, List, ◌∷◌, ◌++◌}
use Rattle.std.specs.List.{list_any}
use Rattle.vdcp_value.specs.declared.part.Item.{Item}
use Rattle.vdcp_auto.specs.declared.exchange.Exchange.{Exchange}
use Rattle.vdcp_auto.specs.declared.phase.Mode.{Mode}
use Rattle.vdcp_auto.specs.Log.{is_cue, is_stop, is_close, is_grant}
use Rattle.vdcp_auto.specs.RuleBook.{CuesItemAt, IsTaken, MayPlay}
use Rattle.vdcp_auto.specs.Settled.{has_open_play, may_have_aired, settled}
use Rattle.vdcp_auto.specs.declared.judge.LastCue.{LastCue}
use Rattle.vdcp_auto.specs.declared.judge.LastCue.TheVariants.{Void, Stands, Done}

-- a judge, as callers see it
pub record View (S : Type 0) : Type 0 where
  pub source : S
  pub mode : Mode
  pub settled : ℕ
  pub has_open_play : Bool
  pub may_have_aired : Bool
  pub stopped : Bool
  pub closed : Bool
  pub granted : Bool
  pub last_cue : LastCue

-- the last cue that was sent is the next item's, and it was taken; since then nothing has settled
pub record CueStands (mode : Mode) (list : List Item) (log : List Exchange) : Type 0 where
  pub before : List Exchange
  pub cue : Exchange
  pub after : List Exchange
  pub in_order : log ≡ before ++ (cue ∷ after)
  pub cues_next : CuesItemAt list (settled mode log) cue.command
  pub taken : IsTaken mode cue
  pub last_cue : list_any is_cue after ≡ false
  pub none_settles : settled mode before ≡ settled mode log

abbrev pub stands : LastCue → Bool
stands Void = false
stands Stands = true
stands Done = true

abbrev pub is_done : LastCue → Bool
is_done Void = false
is_done Stands = false
is_done Done = true

-- what the judge keeps is so in the log
pub record Knows {S : Type 0} (items : S → List Item) (log : List Exchange) (view : View S) : Type 0 where
  pub settled : view.settled ≡ settled view.mode log
  pub open_play : view.has_open_play ≡ has_open_play log
  pub airing : view.may_have_aired ≡ may_have_aired view.mode log
  pub stopped : view.stopped ≡ list_any is_stop log
  pub closed : view.closed ≡ list_any is_close log
  pub granted : view.granted ≡ list_any is_grant log
  pub cue_stands : IsTrue (stands view.last_cue) ↔ CueStands view.mode (items view.source) log
  pub may_play : IsTrue (is_done view.last_cue) ↔ MayPlay view.mode (items view.source) log
