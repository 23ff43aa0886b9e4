-- The headline of a line that keeps order: what holds of every channel that events have led to, however late the
-- answers came, and whichever end was started anew.
use Rattle.std.specs.List.{list_any}
use Rattle.std.specs.Prelude.{ℕ, ◌+◌, ◌≡◌, ◌≤◌, Bool, true, false, None, IfSome, IsTrue, List, ◌++◌, length, take}
use Rattle.vdcp_value.specs.declared.clip_id.ClipId.{ClipId}
use Rattle.vdcp_value.specs.declared.part.Item.{Item}
use Rattle.vdcp_value.specs.declared.timecode.Timecode.{Timecode}
use Rattle.vdcp_auto.specs.Course.{logged}
use Rattle.vdcp_auto.specs.Endings.{IsLost, IsRefused}
use Rattle.vdcp_auto.specs.Log.{is_stop}
use Rattle.vdcp_auto.specs.Plan.{Plan}
use Rattle.vdcp_auto.specs.RuleBook.{May, KeepsRules}
use Rattle.vdcp_auto.specs.Settled.{may_have_aired, settled}
use Rattle.vdcp_auto.specs.Turn.{awaited, ended_by, outcome_of}
use Rattle.vdcp_auto.specs.declared.exchange.Exchange.{Exchange}
use Rattle.vdcp_auto.specs.declared.outcome.Outcome.{Outcome}
use Rattle.vdcp_auto.specs.declared.outcome.Outcome.TheVariants as outcome
use Rattle.vdcp_auto.specs.declared.phase.Mode.{Mode}
use Rattle.vdcp_auto.specs.declared.phase.Mode.TheVariants.{Plain, Confirming}
use Rattle.vdcp_world.specs.Headline.{IsUnknownAt, AreReported}
use Rattle.vdcp_world.specs.LateLine.LateChannel.{LateChannel}
use Rattle.vdcp_world.specs.Losses.{ComesToEnd}

-- in confirm mode the log shows why the event at this place was refused, and the report is complete
abbrev pub IsLateRefused : Mode → Plan → List Item → List Exchange → ℕ → Type 0
IsLateRefused Plain plan aired log place = Unit {0}
IsLateRefused Confirming plan aired log place =
    IsRefused plan.list plan.limit log place × AreReported plan aired log place

-- What it means that a controller ended so. A stale answer, a forged NAK or a server that was started anew may end it
-- Denied, Refused, Foreign or Strange, whatever the playlist.
abbrev pub LateMeans : List (ClipId × Timecode) → Plan → List Item → List Exchange → Outcome → Type 0
LateMeans clips plan aired log outcome.Done = (aired ≡ plan.list) × AreReported plan aired log (length plan.list)
LateMeans clips plan aired log (outcome.Missing k) = IsUnknownAt clips plan.list k × AreReported plan aired log k
LateMeans clips plan aired log (outcome.Refused k) = IsLateRefused plan.mode plan aired log k
LateMeans clips plan aired log outcome.Lost = IsLost plan.mode plan.limit log
LateMeans clips plan aired log outcome.Stopped = Unit {0}
LateMeans clips plan aired log outcome.Denied = AreReported plan aired log 0
LateMeans clips plan aired log (outcome.Foreign k) = AreReported plan aired log (k + 1)
LateMeans clips plan aired log (outcome.Strange k) = AreReported plan aired log k

-- the outcomes after which all that went to air is reported; in plain mode a refusal may be a stale one
abbrev pub is_late_complete : Mode → Outcome → Bool
is_late_complete mode outcome.Lost = false
is_late_complete mode outcome.Stopped = false
is_late_complete Plain (outcome.Refused k) = false
is_late_complete mode _ = true

-- the events that are reported as aired
abbrev pub reported_of : LateChannel → List Item
reported_of c = take c.state.settled c.plan.list

-- the log, at whose end is what is awaited, as an exchange without an answer
abbrev pub log_so_far : LateChannel → List Exchange
log_so_far c = logged c.log (ended_by c.plan None c.state)

-- What went to air is a beginning of the playlist, each event once and in order; and the events reported as
-- aired are a beginning of these, shorter by one at most.
pub record LateHeadline (c : LateChannel) : Type 0 where
  pub beginning : (more : List Item) × (c.plan.list ≡ c.aired ++ more)
  pub reported : (last : List Item) × (c.aired ≡ reported_of c ++ last) × (length last ≤ 1)
  -- and all that went to air, where no PLAY stands after the last exchange that settles
  pub exact : may_have_aired c.plan.mode (log_so_far c) ≡ false → c.aired ≡ reported_of c
  -- and that many are reported
  pub count : length (reported_of c) ≡ c.state.settled
  -- what is reported is what the exchanges between the two ends show to be aired
  pub is_settled : c.state.settled ≡ settled c.plan.mode c.log
  -- the rule book allows each command of the log where it stands, and the one that is awaited
  pub keeps_rules : KeepsRules c.plan.mode c.plan.list c.log
  pub may_await : IfSome (awaited c.plan c.state) (λ command. May c.plan.mode c.plan.list c.log command)
  -- and where the controller has ended: what that means, and whether the report is complete
  pub ended : IfSome (outcome_of c.state.stage) (LateMeans c.port.clips c.plan c.aired c.log)
  pub complete : IfSome (outcome_of c.state.stage) (λ outcome. IsTrue (is_late_complete c.plan.mode outcome)
      → c.aired ≡ reported_of c)
  -- and if it isn't stopped it comes to an end
  pub to_end : list_any is_stop c.log ≡ false → ComesToEnd c.plan c.state c.log
