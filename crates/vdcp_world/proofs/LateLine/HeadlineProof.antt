-- The headline, from what holds of the clips that went to air, and from the law of the controller.
use Rattle.std.proofs.Common.{ℕ, ◌+◌, ◌≡◌, Bool, false, List, length, take, refl, arith, sym, ap, ◌∙◌}
use Rattle.std.proofs.Math.Seq.{take-length}
use Rattle.std.specs.Prelude.{Some, IsTrue, IfSome, slice_get}
use Rattle.vdcp_value.specs.declared.clip_id.ClipId.{ClipId}
use Rattle.vdcp_value.specs.declared.part.Item.{Item}
use Rattle.vdcp_value.specs.declared.timecode.Timecode.{Timecode}
use Rattle.vdcp_auto.specs.Course.{Reached}
use Rattle.vdcp_auto.specs.Endings.{IsRefused}
use Rattle.vdcp_auto.specs.Law.{IsLawful}
use Rattle.vdcp_auto.specs.Plan.{Plan}
use Rattle.vdcp_auto.specs.Settled.{may_have_aired, settled}
use Rattle.vdcp_auto.specs.Turn.{outcome_of}
use Rattle.vdcp_auto.specs.declared.exchange.Exchange.{Exchange}
use Rattle.vdcp_auto.specs.declared.outcome.Outcome.{Outcome}
use Rattle.vdcp_auto.specs.declared.outcome.Outcome.TheVariants as outcome
use Rattle.vdcp_auto.specs.declared.phase.Mode.{Mode}
use Rattle.vdcp_auto.specs.declared.phase.Mode.TheVariants.{Plain, Confirming}
use Rattle.vdcp_auto.specs.State.{Stage, Ended}
use Rattle.vdcp_world.specs.Headline.{AreReported}
use Rattle.vdcp_world.specs.LateLine.LateChannel.{LateChannel}
use Rattle.vdcp_world.specs.LateLine.LateHeadline.{IsLateRefused, LateMeans, LateHeadline, is_late_complete, log_so_far, reported_of}
use Rattle.vdcp_world.proofs.LateLine.Endings.{Misses, complete_settles, settled_at}
use Rattle.vdcp_world.proofs.LateLine.Places.{At}
use Rattle.vdcp_world.proofs.PhaseTable.{Near}
use Rattle.vdcp_world.proofs.Exchanges.{taken}
use Rattle.vdcp_world.proofs.HeadlineProof.{begins, reports, unknown_at}
use Rattle.vdcp_world.proofs.Losses.{comes_to_end}

-- what an end says of the clips that went to air
abbrev pub EndHolds : Mode → List Item → List (ClipId × Timecode) → List Item → ℕ → Outcome → Type 0
EndHolds mode list clips aired settled o =
    IfSome (settled_at mode (length list) o) (At list aired settled) × Misses list clips o

abbrev pub EndHoldsAt : Mode → List Item → List (ClipId × Timecode) → List Item → ℕ → Stage → Type 0
EndHoldsAt mode list clips aired settled (Ended o) = EndHolds mode list clips aired settled o
EndHoldsAt mode list clips aired settled _ = Unit {0}

-- what a channel's clips have to keep
pub record Airs (mode : Mode) (list : List Item) (clips : List (ClipId × Timecode)) (aired : List Item) (settled : ℕ)
    (may : Bool) (stage : Stage) : Type 0 where
  pub near : Near list aired settled
  pub exact : may ≡ false → aired ≡ take settled list
  pub end_holds : EndHoldsAt mode list clips aired settled stage

abbrev pub AirsIn : LateChannel → Type 0
AirsIn c =
    Airs c.plan.mode c.plan.list c.port.clips c.aired c.state.settled (may_have_aired c.plan.mode (log_so_far c))
    c.state.stage

-- ---- what the outcome means

exactly : (plan : Plan) (aired : List Item) (log : List Exchange) (reported k : ℕ) → At plan.list aired reported k
    → reported ≡ settled plan.mode log
    → AreReported plan aired log k
exactly plan aired log reported k a counted = record {
  aired_count = ap length a.aired_is ∙ taken plan.list k a.within;
  reported_count = sym counted ∙ a.settled_is;
}

refused_in : (mode : Mode) (plan : Plan) (aired : List Item) (log : List Exchange) (reported k : ℕ)
    → IfSome (settled_at mode (length plan.list) (outcome.Refused k)) (At plan.list aired reported)
    → reported ≡ settled plan.mode log
    → (mode ≡ Confirming → IsRefused plan.list plan.limit log k)
    → IsLateRefused mode plan aired log k
refused_in Plain plan aired log reported k h counted by_log = tt
refused_in Confirming plan aired log reported k h counted by_log =
    (by_log refl, exactly plan aired log reported k h counted)

means : (c : LateChannel) (o : Outcome) → EndHolds c.plan.mode c.plan.list c.port.clips c.aired c.state.settled o
    → IsLawful c.plan c.state c.log
    → outcome_of c.state.stage ≡ Some o → LateMeans c.port.clips c.plan c.aired c.log o
means c outcome.Done h l e = (
  h.0.aired_is ∙ take-length c.plan.list,
  exactly c.plan c.aired c.log c.state.settled (length c.plan.list) h.0 l.is_settled,
)
means c outcome.Stopped h l e = tt
means c outcome.Lost h l e = l.is_lost.0 e
means c outcome.Denied h l e = exactly c.plan c.aired c.log c.state.settled 0 h.0 l.is_settled
means c (outcome.Missing k) h l e = (
  unknown_at c.port.clips c.plan.list k (slice_get c.plan.list k) refl h.1.0 h.1.1,
  exactly c.plan c.aired c.log c.state.settled k h.0 l.is_settled,
)
means c (outcome.Refused k) h l e = refused_in c.plan.mode c.plan c.aired c.log c.state.settled k h.0 l.is_settled
    (λ confirms. l.is_refused confirms k e)
means c (outcome.Foreign k) h l e = exactly c.plan c.aired c.log c.state.settled (k + 1) h.0 l.is_settled
means c (outcome.Strange k) h l e = exactly c.plan c.aired c.log c.state.settled k h.0 l.is_settled

module _ (c : LateChannel) where
  means_at : (stage : Stage) → c.state.stage ≡ stage → EndHoldsAt c.plan.mode c.plan.list c.port.clips c.aired
      c.state.settled stage → IsLawful c.plan c.state c.log → IfSome (outcome_of stage) (LateMeans c.port.clips c.plan
      c.aired c.log)
  means_at (Ended o) e h l = means c o h l (ap outcome_of e)
  means_at _ e h l = tt

  -- all that went to air is reported
  complete_at : (stage : Stage) → EndHoldsAt c.plan.mode c.plan.list c.port.clips c.aired c.state.settled stage
      → IfSome (outcome_of stage) (λ outcome. IsTrue (is_late_complete c.plan.mode outcome) → c.aired ≡ reported_of c)
  complete_at (Ended o) h = λ e.
      let (k, at) = complete_settles c.plan.mode (length c.plan.list) o e h.0 in
      at.aired_is ∙ ap (λ (n : ℕ). take n c.plan.list) (sym at.settled_is)
  complete_at _ h = tt

  pub headline : AirsIn c → Reached c.plan c.state c.log → IsLawful c.plan c.state c.log → LateHeadline c
  headline a r l = record {
    beginning = begins c.plan.list c.aired c.state.settled a.near;
    reported = reports c.plan.list c.aired c.state.settled a.near;
    exact = a.exact;
    count = taken c.plan.list c.state.settled (omega (arith, a.near.low, a.near.within));
    is_settled = l.is_settled;
    keeps_rules = l.keeps_rules;
    may_await = l.may_await;
    ended = means_at c.state.stage refl a.end_holds l;
    complete = complete_at c.state.stage a.end_holds;
    to_end = comes_to_end c.plan c.state c.log r;
  }
