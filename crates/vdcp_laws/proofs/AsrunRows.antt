-- The as-run list of a channel that keeps the headline.
use Rattle.std.proofs.Common.{◌≡◌, ◌-◌, ℕ, List, [], ◌∷◌, ◌++◌, length, take, Option, Some, None, refl, sym, ◌∙◌, ap, arith, append-nil, length-append}
use Rattle.std.specs.Prelude.{IfSome, IsTrue}
use Rattle.vdcp_value.specs.declared.clip_id.ClipId.{ClipId}
use Rattle.vdcp_value.specs.declared.part.Item.{Item}
use Rattle.vdcp_value.specs.declared.rate.Rate.{Rate}
use Rattle.vdcp_value.specs.declared.timecode.Timecode.{Timecode}
use Rattle.vdcp_list.specs.Asrun.{asrun_text}
use Rattle.vdcp_auto.specs.Plan.{Plan}
use Rattle.vdcp_auto.specs.State.{State}
use Rattle.vdcp_auto.specs.Turn.{outcome_of}
use Rattle.vdcp_auto.specs.declared.exchange.Exchange.{Exchange}
use Rattle.vdcp_auto.specs.declared.outcome.Outcome.{Outcome}
use Rattle.vdcp_auto.specs.declared.outcome.Outcome.TheVariants as outcome
use Rattle.vdcp_world.specs.Channel.{Channel}
use Rattle.vdcp_world.specs.Headline as in_time
use Rattle.vdcp_world.specs.Headline.{AreReported, Headline, Means, is_complete}
use Rattle.vdcp_world.specs.LateLine.LateChannel.{LateChannel}
use Rattle.vdcp_world.specs.LateLine.LateHeadline as late
use Rattle.vdcp_world.specs.LateLine.LateHeadline.{LateHeadline, is_late_complete}
use Rattle.vdcp_run.specs.Ends.{Reports}
use Rattle.vdcp_run.specs.Run.{reported_text}
use Rattle.vdcp_run.specs.declared.run_end.RunEnd.{RunEnd}
use Rattle.vdcp_laws.specs.EndsHeadline.{EndsHeadline}
use Rattle.vdcp_laws.specs.AsrunLaw.{IsOfAired, IsOfAllAired, rows_for}

-- what went to air begins so, and is no more than that if it is no longer
nothing_more : (aired front last : List Item) → aired ≡ front ++ last → length aired ≡ length front → aired ≡ front
nothing_more aired front [] e same = e ∙ append-nil front
nothing_more aired front (item ∷ last) e same =
    absurd (omega (arith, ap length e, length-append front (item ∷ last), same))

pub but_one : (rate : Rate) (c : Channel) → Headline c → IsOfAired rate c.plan.list c.aired c.state.settled
but_one rate c h =
    record {
      beginning = in_time.reported_of c;
      last = h.reported.0;
      aired_are = h.reported.1;
      but_one = h.reported.2;
      text = refl;
    }

pub complete : (rate : Rate) (c : Channel) → Headline c → IfSome (outcome_of c.state.stage)
    (λ outcome. IsTrue (is_complete outcome) → IsOfAllAired rate c.plan.list c.aired c.state.settled)
complete rate c h = by (outcome_of c.state.stage) h.ended
  where
    all : (k : ℕ) → AreReported c.plan c.aired c.log k → IsOfAllAired rate c.plan.list c.aired c.state.settled
    all k a = ap (rows_for rate c.plan.list) (sym (nothing_more c.aired (in_time.reported_of c) h.reported.0
        h.reported.1
        (a.aired_count ∙ sym (h.count ∙ h.is_settled ∙ a.reported_count))))

    by : (o : Option Outcome) → IfSome o (Means c.port.clips c.plan c.aired c.log)
        → IfSome o (λ outcome. IsTrue (is_complete outcome) → IsOfAllAired rate c.plan.list c.aired c.state.settled)
    by None m = tt
    by (Some outcome.Done) m = λ _. all (length c.plan.list) m.1
    by (Some (outcome.Missing k)) m = λ _. all k m.1
    by (Some (outcome.Refused k)) m = λ _. all k m.1
    by (Some outcome.Lost) m = λ e. cc
    by (Some outcome.Stopped) m = λ e. cc
    by (Some outcome.Denied) m = absurd m
    by (Some (outcome.Foreign k)) m = absurd m
    by (Some (outcome.Strange k)) m = absurd m

pub late_but_one : (rate : Rate) (c : LateChannel) → LateHeadline c
    → IsOfAired rate c.plan.list c.aired c.state.settled
late_but_one rate c h =
    record {
      beginning = late.reported_of c;
      last = h.reported.0;
      aired_are = h.reported.1;
      but_one = h.reported.2;
      text = refl;
    }

pub late_complete : (rate : Rate) (c : LateChannel) → LateHeadline c → IfSome (outcome_of c.state.stage)
    (λ outcome. IsTrue (is_late_complete c.plan.mode outcome) →
    IsOfAllAired rate c.plan.list c.aired c.state.settled)
late_complete rate c h = by (outcome_of c.state.stage) h.complete
  where
    by : (o : Option Outcome)
        → IfSome o (λ outcome. IsTrue (is_late_complete c.plan.mode outcome) → c.aired ≡ late.reported_of c)
        → IfSome o (λ outcome. IsTrue (is_late_complete c.plan.mode outcome) →
        IsOfAllAired rate c.plan.list c.aired c.state.settled)
    by None h = tt
    by (Some outcome) h = λ whole. ap (rows_for rate c.plan.list) (sym (h whole))

pub reported_rows : (rate : Rate) (plan : Plan) (clips : List (ClipId × Timecode)) (state : State) (log : List Exchange)
    (aired : List Item) (end : RunEnd) → EndsHeadline plan clips state log aired → Reports 0 state end
    → IsOfAired rate plan.list aired end.reported
    × (reported_text rate plan.list 0 end.reported ≡ asrun_text rate plan.list end.reported)
reported_rows rate plan clips state log aired end h reports =
    let is : end.reported ≡ state.settled = omega arith in
    let all : end.reported - 0 ≡ end.reported = omega arith in (
      record {
        beginning = take state.settled plan.list;
        last = h.reported.0;
        aired_are = h.reported.1;
        but_one = h.reported.2;
        text = ap (asrun_text rate plan.list) is;
      },
      ap (asrun_text rate plan.list) all,
    )
