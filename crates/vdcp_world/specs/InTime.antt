-- A line in time on which nothing is lost: where its bursts are, and how its exchanges bring a list to its end.
use Rattle.std.specs.Prelude.{ℕ, ◌+◌, ◌*◌, ◌≡◌, ◌≤◌, ◌⊎◌, Bool, false, ◌||◌, ◌&&◌, IfSome, List, [], Some, filter, length}
use Rattle.vdcp_value.specs.declared.part.Item.{Item}
use Rattle.vdcp_auto.specs.Commands.{is_status_command}
use Rattle.vdcp_auto.specs.Log.{hears}
use Rattle.vdcp_auto.specs.Plan.{Plan}
use Rattle.vdcp_auto.specs.Replies.{is_cueing, is_playing}
use Rattle.vdcp_auto.specs.State.{State}
use Rattle.vdcp_auto.specs.Turn.{is_awaiting, outcome_of}
use Rattle.vdcp_auto.specs.declared.exchange.Exchange.{Exchange}
use Rattle.vdcp_auto.specs.declared.outcome.Outcome.TheVariants.{Done}
use Rattle.vdcp_auto.specs.declared.phase.Mode.{Mode}
use Rattle.vdcp_auto.specs.declared.phase.Mode.TheVariants.{Plain, Confirming}
use Rattle.vdcp_world.specs.Channel.{Channel}
use Rattle.vdcp_world.specs.declared.event.Event.{Event}
use Rattle.vdcp_world.specs.declared.event.Event.TheVariants.{DownCopy, UpCopy, LoseDown, LoseUp, AlterDown, AlterUp, StrayAck, StrayNak, Stop}

-- nothing is lost, copied, damaged or forged in it
abbrev pub LosesNone : Event → Type 0
LosesNone DownCopy = ⊥
LosesNone UpCopy = ⊥
LosesNone LoseDown = ⊥
LosesNone LoseUp = ⊥
LosesNone (AlterDown bytes) = ⊥
LosesNone (AlterUp bytes) = ⊥
LosesNone StrayAck = ⊥
LosesNone (StrayNak byte) = ⊥
LosesNone _ = Unit {0}

-- the operator doesn't stop
abbrev pub IsNoStop : Event → Type 0
IsNoStop Stop = ⊥
IsNoStop _ = Unit {0}

-- at most one way has something, and none if no answer is awaited
pub record HasOneWay (c : Channel) : Type 0 where
  pub one : (c.down ≡ []) ⊎ (c.up ≡ [])
  pub rests : is_awaiting c.state.stage ≡ false → (c.down ≡ []) × (c.up ≡ [])

-- a state that says *not yet*: something is being cued, or a clip plays
abbrev pub is_not_yet : Exchange → Bool
is_not_yet e = is_status_command e.command && (hears is_cueing e.heard || hears is_playing e.heard)

-- how many of a log's exchanges hear such a state
abbrev pub not_yets : List Exchange → ℕ
not_yets log = length (filter is_not_yet log)

-- how many exchanges a list of this many events takes, with none of these
abbrev pub exchanges_for : Mode → ℕ → ℕ
exchanges_for Plain events = 5 * events + 4
exchanges_for Confirming events = 6 * events + 5

-- The exchanges are as many as the list takes, one more for each state that says *not yet*, and two for each loss, at most; if
-- they are as many, the whole list went to air and is reported; and the controller never ends in another way.
pub record PlaysOn (plan : Plan) (state : State) (aired : List Item) (log : List Exchange) (losses : ℕ) : Type 0 where
  pub few : length log ≤ exchanges_for plan.mode (length plan.list) + not_yets log + 2 * losses
  pub done : exchanges_for plan.mode (length plan.list) + not_yets log + 2 * losses ≤ length log
      → (outcome_of state.stage ≡ Some Done) × (aired ≡ plan.list) × (state.settled ≡ length plan.list)
  pub ended : IfSome (outcome_of state.stage) (λ outcome. outcome ≡ Done)
