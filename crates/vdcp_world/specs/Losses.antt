-- A line that loses: which exchanges of a log show a loss, and how many exchanges a list takes with them.
use Rattle.std.specs.Prelude.{ℕ, ◌+◌, ◌*◌, ◌≡◌, ◌≤◌, ◌⊎◌, Bool, true, false, not, ◌||◌, ◌&&◌, if◌then◌else◌, IsSome, List, [], ◌∷◌, filter, length}
use Rattle.vdcp_auto.specs.Commands.{is_sense}
use Rattle.vdcp_auto.specs.Endings.{EndsUnanswered, IsRefused}
use Rattle.vdcp_auto.specs.Log.{is_answered, is_cue, is_done_status, is_empty_status, is_play}
use Rattle.vdcp_auto.specs.Plan.{Plan}
use Rattle.vdcp_auto.specs.State.{State}
use Rattle.vdcp_auto.specs.Turn.{outcome_of}
use Rattle.vdcp_auto.specs.declared.exchange.Exchange.{Exchange}
use Rattle.vdcp_auto.specs.declared.phase.Mode.{Mode}
use Rattle.vdcp_auto.specs.declared.phase.Mode.TheVariants.{Plain, Confirming}
use Rattle.vdcp_world.specs.InTime.{exchanges_for, not_yets}
use Rattle.vdcp_world.specs.declared.event.Event.{Event}
use Rattle.vdcp_world.specs.declared.event.Event.TheVariants.{DownCopy, UpCopy, LoseDown, LoseUp, AlterDown, AlterUp, StrayAck, StrayNak}

-- The exchange shows a loss: it is unanswered; in confirm mode it is a request that is, or a state that shows that the last cue
-- or PLAY before it wasn't executed: nothing is cued behind a cue, or a cue stands behind a PLAY.
abbrev pub shows_loss : Mode → Bool → Exchange → Bool
shows_loss Plain cued e = not (is_answered e)
shows_loss Confirming cued e =
    is_sense e.command && not (is_answered e) || (if cued then is_empty_status e else is_done_status e)

-- of the cues and PLAYs so far, the last is a cue
abbrev pub cued_after : Bool → Exchange → Bool
cued_after cued e = is_cue e || cued && not (is_play e)

abbrev pub losses_from : Mode → Bool → List Exchange → ℕ
losses_from mode cued [] = 0
losses_from mode cued (e ∷ log) =
    (if shows_loss mode cued e then 1 else 0) + losses_from mode (cued_after cued e) log

-- how many of a log's exchanges show a loss
abbrev pub losses : Mode → List Exchange → ℕ
losses mode log = losses_from mode false log

-- something is lost, copied, damaged or forged in it
abbrev pub loses : Event → Bool
loses DownCopy = true
loses UpCopy = true
loses LoseDown = true
loses LoseUp = true
loses (AlterDown bytes) = true
loses (AlterUp bytes) = true
loses StrayAck = true
loses (StrayNak byte) = true
loses _ = false

-- in how many events that is so
abbrev pub losing : List Event → ℕ
losing events = length (filter loses events)

-- as many as the list takes, one more for each state that says *not yet*, and two for each exchange that shows a loss
abbrev pub most_exchanges : Plan → List Exchange → ℕ
most_exchanges plan log =
    exchanges_for plan.mode (length plan.list) + not_yets log + 2 * losses plan.mode log

-- a controller that isn't stopped makes no more exchanges, and has ended by then
pub record ComesToEnd (plan : Plan) (state : State) (log : List Exchange) : Type 0 where
  pub few : length log ≤ most_exchanges plan log
  pub ends : most_exchanges plan log ≤ length log → IsSome (outcome_of state.stage)

-- `limit` exchanges at least show a loss, and the last `limit` (in confirm mode, of the requests) are unanswered, or in confirm
-- mode `limit` states since a cue of one event show that nothing is cued
pub record IsGivenUp (plan : Plan) (log : List Exchange) : Type 0 where
  pub many : plan.limit ≤ losses plan.mode log
  pub how : EndsUnanswered plan.mode plan.limit log
      ⊎ ((plan.mode ≡ Confirming) × (k : ℕ) × IsRefused plan.list plan.limit log k)
