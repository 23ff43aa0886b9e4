-- The bounded end: how many good rounds bring the whole playlist to air.
use Rattle.std.specs.Prelude.{ℕ, ◌+◌, ◌-◌, ◌*◌, ◌≡◌, ◌≤◌, false, IsTrue, Some, All, length}
use Rattle.std.specs.List.{list_any}
use Rattle.vdcp_port.specs.Clips.{is_playable}
use Rattle.vdcp_auto.specs.Log.{is_stop}
use Rattle.vdcp_auto.specs.Turn.{is_ready, outcome_of}
use Rattle.vdcp_auto.specs.declared.outcome.Outcome.TheVariants.{Done}
use Rattle.vdcp_auto.specs.declared.phase.Mode.TheVariants.{Plain, Confirming}
use Rattle.vdcp_world.specs.Channel.{Channel, channel_to, after_events}
use Rattle.vdcp_world.specs.Rounds.{good_round, times}

-- the whole playlist went to air, and all of it is reported
pub record IsDone (c : Channel) : Type 0 where
  pub ended : outcome_of c.state.stage ≡ Some Done
  pub all_aired : c.aired ≡ c.plan.list
  pub all_reported : c.state.settled ≡ length c.plan.list

-- each item of the playlist is in the catalogue, and its part, if it has one, fits its clip
abbrev pub IsAllPlayable : Channel → Type 0
IsAllPlayable c = All (λ item. IsTrue (is_playable c.port.clips item)) c.plan.list

-- plain mode, whatever happened before: nothing is awaited, the controller hasn't ended, no stop is wished
-- for, and none was sent
pub record CanGoOn (c : Channel) : Type 0 where
  pub plain : c.plan.mode ≡ Plain
  pub ready : IsTrue (is_ready c.state.stage)
  pub no_wish : c.state.stop ≡ false
  pub no_stop : list_any is_stop c.log ≡ false
  pub playable : IsAllPlayable c

-- confirm mode: nothing happened before
pub record CanBegin (c : Channel) : Type 0 where
  pub confirming : c.plan.mode ≡ Confirming
  pub is_new : c ≡ channel_to c.plan c.port
  pub playable : IsAllPlayable c

-- as many good rounds as it takes at most: five an event that isn't reported, and four; and from a new channel
-- in confirm mode six an event, and six

abbrev pub rounds_to_go_on : Channel → ℕ
rounds_to_go_on c = 5 * (length c.plan.list - c.state.settled) + 4

abbrev pub rounds_from_new : Channel → ℕ
rounds_from_new c = 6 * length c.plan.list + 6

pub record BoundedEnd (c : Channel) : Type 0 where
  pub plain : CanGoOn c → (n : ℕ) → rounds_to_go_on c ≤ n → IsDone (after_events c (times n good_round))
  pub confirming : CanBegin c → (n : ℕ) → rounds_from_new c ≤ n → IsDone (after_events c (times n good_round))
