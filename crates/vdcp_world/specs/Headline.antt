-- The headline: what holds of every channel that events have led to, whatever they were.
use Rattle.std.specs.Prelude.{ℕ, ◌≡◌, ◌≤◌, Bool, true, false, IsTrue, IsSome, IfSome, IsSomeAnd, List, ◌++◌, length, take, slice_get}
use Rattle.vdcp_value.specs.declared.clip_id.ClipId.{ClipId}
use Rattle.vdcp_value.specs.declared.part.Item.{Item}
use Rattle.vdcp_value.specs.declared.timecode.Timecode.{Timecode}
use Rattle.vdcp_port.specs.Clips.{is_known, is_playable}
use Rattle.vdcp_auto.specs.Endings.{IsLost, IsRefused}
use Rattle.vdcp_auto.specs.Plan.{Plan}
use Rattle.vdcp_auto.specs.RuleBook.{May, KeepsRules}
use Rattle.vdcp_auto.specs.Settled.{settled}
use Rattle.vdcp_auto.specs.Turn.{awaited, outcome_of}
use Rattle.vdcp_auto.specs.declared.exchange.Exchange.{Exchange}
use Rattle.vdcp_auto.specs.declared.outcome.Outcome.{Outcome}
use Rattle.vdcp_auto.specs.declared.outcome.Outcome.TheVariants as outcome
use Rattle.vdcp_auto.specs.declared.phase.Mode.{Mode}
use Rattle.vdcp_auto.specs.declared.phase.Mode.TheVariants.{Plain, Confirming}
use Rattle.vdcp_world.specs.Channel.{Channel}

-- the clip of the list's item at this place isn't in the catalogue
abbrev pub IsUnknownAt : List (ClipId × Timecode) → List Item → ℕ → Type 0
IsUnknownAt clips list place = IsSomeAnd (slice_get list place) (λ item. is_known clips item.id ≡ false)

-- the item is a part of a clip in the catalogue, and doesn't fit it
pub record IsOutside (clips : List (ClipId × Timecode)) (item : Item) : Type 0 where
  pub is_part : IsSome item.part
  pub known : IsTrue (is_known clips item.id)
  pub does_not_fit : is_playable clips item ≡ false

-- why the event at this place was refused: in confirm mode the log shows it
abbrev pub IsRefusedIn : Mode → List (ClipId × Timecode) → Plan → List Exchange → ℕ → Type 0
IsRefusedIn Plain clips plan log place = IsSomeAnd (slice_get plan.list place) (IsOutside clips)
IsRefusedIn Confirming clips plan log place = IsRefused plan.list plan.limit log place

-- this number of events went to air, and as many are reported
pub record AreReported (plan : Plan) (aired : List Item) (log : List Exchange) (count : ℕ) : Type 0 where
  pub aired_count : length aired ≡ count
  pub reported_count : settled plan.mode log ≡ count

-- what it means that a controller ended so
abbrev pub Means : List (ClipId × Timecode) → Plan → List Item → List Exchange → Outcome → Type 0
Means clips plan aired log outcome.Done = (aired ≡ plan.list) × AreReported plan aired log (length plan.list)
Means clips plan aired log (outcome.Missing k) = IsUnknownAt clips plan.list k × AreReported plan aired log k
Means clips plan aired log (outcome.Refused k) = IsRefusedIn plan.mode clips plan log k × AreReported plan aired log k
Means clips plan aired log outcome.Lost = IsLost plan.mode plan.limit log
Means clips plan aired log outcome.Stopped = Unit {0}
Means clips plan aired log outcome.Denied = ⊥
Means clips plan aired log (outcome.Foreign k) = ⊥
Means clips plan aired log (outcome.Strange k) = ⊥

-- the outcomes after which all that went to air is reported
abbrev pub is_complete : Outcome → Bool
is_complete outcome.Done = true
is_complete (outcome.Missing k) = true
is_complete (outcome.Refused k) = true
is_complete _ = false

-- the events that are reported as aired
abbrev pub reported_of : Channel → List Item
reported_of c = take c.state.settled c.plan.list

-- What went to air is a beginning of the playlist, each event once and in order; and the events reported as
-- aired are a beginning of these, shorter by one at most.
pub record Headline (c : Channel) : Type 0 where
  pub beginning : (more : List Item) × (c.plan.list ≡ c.aired ++ more)
  pub reported : (last : List Item) × (c.aired ≡ reported_of c ++ last) × (length last ≤ 1)
  -- and that many are reported
  pub count : length (reported_of c) ≡ c.state.settled
  -- what is reported is what the exchanges between the two ends show to be aired
  pub is_settled : c.state.settled ≡ settled c.plan.mode c.log
  -- the rule book allows each command of the log where it stands, and the one that is awaited
  pub keeps_rules : KeepsRules c.plan.mode c.plan.list c.log
  pub may_await : IfSome (awaited c.plan c.state) (λ command. May c.plan.mode c.plan.list c.log command)
  -- and if the controller has ended
  pub ended : IfSome (outcome_of c.state.stage) (Means c.port.clips c.plan c.aired c.log)
