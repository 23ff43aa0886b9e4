-- The bounded end in confirm mode, of channels in which something has happened.
use Rattle.std.specs.Prelude.{ℕ, ◌+◌, ◌-◌, ◌*◌, ◌≡◌, ◌≤◌, ◌<◌, true, false, IsTrue, [], length}
use Rattle.std.specs.List.{list_any}
use Rattle.vdcp_port.specs.Port.{PortState, is_open, is_selected, is_empty}
use Rattle.vdcp_auto.specs.Log.{is_stop}
use Rattle.vdcp_auto.specs.State.{Stage}
use Rattle.vdcp_auto.specs.State.{Ready, Awaiting, Ended}
use Rattle.vdcp_auto.specs.Turn.{is_ready}
use Rattle.vdcp_auto.specs.declared.outcome.Outcome.TheVariants as outcome
use Rattle.vdcp_auto.specs.declared.phase.Mode.TheVariants.{Confirming}
use Rattle.vdcp_auto.specs.declared.phase.Phase.{Phase}
use Rattle.vdcp_auto.specs.declared.phase.Phase.TheVariants as phase
use Rattle.vdcp_world.specs.BoundedEnd.{IsDone, IsAllPlayable}
use Rattle.vdcp_world.specs.Channel.{Channel, after_events}
use Rattle.vdcp_world.specs.Rounds.{good_round, times}

-- The port did what the controller's stage presumes.

-- before the phase's command is sent; after the operator's stop nothing leads to Done
abbrev pub IsReadyFor : PortState → Phase → Type 0
IsReadyFor p phase.Open = Unit {0}
IsReadyFor p phase.Select = is_open p ≡ true
IsReadyFor p phase.Seen = is_selected p ≡ true
IsReadyFor p (phase.Exists k) = is_selected p ≡ true
IsReadyFor p (phase.Cue k) = is_selected p ≡ true
IsReadyFor p (phase.Wait k) = (is_selected p ≡ true) × (is_empty p.cued ≡ false)
IsReadyFor p (phase.Play k) = is_selected p ≡ true
IsReadyFor p (phase.Probe k) = (is_selected p ≡ true) × (is_empty p.cued ≡ true)
IsReadyFor p (phase.Check k) = is_selected p ≡ true
IsReadyFor p phase.Drain = is_selected p ≡ true
IsReadyFor p phase.Close = Unit {0}
IsReadyFor p phase.Halt = ⊥
IsReadyFor p phase.HaltClose = ⊥

-- while the phase's command is awaited: it is one that only a receipt answers, and the port executed it
abbrev pub HasExecuted : PortState → Phase → Type 0
HasExecuted p phase.Select = is_selected p ≡ true
HasExecuted p (phase.Cue k) = (is_selected p ≡ true) × (is_empty p.cued ≡ false)
HasExecuted p (phase.Play k) = (is_selected p ≡ true) × (is_empty p.cued ≡ true)
HasExecuted p phase.Close = Unit {0}
HasExecuted p _ = ⊥

abbrev pub IsInStep : PortState → Stage → Type 0
IsInStep p (Ready q) = IsReadyFor p q
IsInStep p (Awaiting q) = HasExecuted p q
IsInStep p (Ended outcome.Done) = Unit {0}
IsInStep p (Ended outcome.Stopped) = ⊥
IsInStep p (Ended outcome.Lost) = ⊥
IsInStep p (Ended outcome.Denied) = ⊥
IsInStep p (Ended (outcome.Missing k)) = ⊥
IsInStep p (Ended (outcome.Refused k)) = ⊥
IsInStep p (Ended (outcome.Foreign k)) = ⊥
IsInStep p (Ended (outcome.Strange k)) = ⊥

-- nothing is on the way, no stop is wished for, and the port is in step
pub record GoesInStep (c : Channel) : Type 0 where
  pub confirming : c.plan.mode ≡ Confirming
  pub nothing_down : c.down ≡ []
  pub nothing_up : c.up ≡ []
  pub no_wish : c.state.stop ≡ false
  pub in_step : IsInStep c.port.state c.state.stage
  pub playable : IsAllPlayable c

-- nothing is awaited, the controller hasn't ended, no stop is wished for, and none was sent; and neither one
-- empty status more nor one unanswered exchange more ends it
pub record CanCatchUp (c : Channel) : Type 0 where
  pub confirming : c.plan.mode ≡ Confirming
  pub ready : IsTrue (is_ready c.state.stage)
  pub no_wish : c.state.stop ≡ false
  pub no_stop : list_any is_stop c.log ≡ false
  pub spare_try : c.state.tries + 1 < c.plan.limit
  pub spare_exchange : c.state.unanswered + 1 < c.plan.limit
  pub playable : IsAllPlayable c

-- six good rounds for each event that isn't reported, and six
abbrev pub rounds_in_step : Channel → ℕ
rounds_in_step c = 6 * (length c.plan.list - c.state.settled) + 6

pub record InStepEnd (c : Channel) : Type 0 where
  pub in_step : GoesInStep c → (n : ℕ) → rounds_in_step c ≤ n → IsDone (after_events c (times n good_round))
  pub catches_up : CanCatchUp c → (n : ℕ) → rounds_in_step c ≤ n → IsDone (after_events c (times n good_round))
