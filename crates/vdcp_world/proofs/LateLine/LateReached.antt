-- Late channels that events have led to.
use Rattle.std.proofs.Common.{ℕ, ◌≡◌, List, [], ◌∷◌, length, arith, refl, sym, subst, ◌∙◌}
use Rattle.vdcp_port.specs.Clock.{ClockedPort}
use Rattle.vdcp_port.specs.Port.{is_selected}
use Rattle.vdcp_auto.specs.Course.{Reached, begun}
use Rattle.vdcp_auto.specs.Plan.{Plan}
use Rattle.vdcp_auto.specs.State.{Stage, Ready, Ended}
use Rattle.vdcp_auto.specs.declared.phase.Mode.{Mode}
use Rattle.vdcp_auto.specs.declared.phase.Mode.TheVariants.{Plain, Confirming}
use Rattle.vdcp_auto.specs.declared.phase.Phase.TheVariants as phase
use Rattle.vdcp_world.specs.LateLine.LateChannel.{LateChannel, CanStart, IsLateReached, after_late_event, after_late_events, new_late_channel}
use Rattle.vdcp_world.specs.LateLine.LateEvent.{LateEvent}
use Rattle.vdcp_world.specs.Below.{Below}
use Rattle.vdcp_world.proofs.LateLine.Claims.{Claim, Covers}
use Rattle.vdcp_world.proofs.LateLine.HeadlineProof.{Airs, AirsIn, EndHoldsAt}
use Rattle.vdcp_world.proofs.LateLine.Kept.{IsKept, UpCarries}
use Rattle.vdcp_world.proofs.LateLine.KeptEvents.{ExactlyIn, kept_event, may}
use Rattle.vdcp_world.proofs.LateLine.LateController.{controller_event}
use Rattle.vdcp_world.proofs.LateLine.Started.{Downs, Ups, answered_up, asked_down}
use Rattle.vdcp_world.proofs.LateLine.PlainCovers.{plain_tended}
use Rattle.vdcp_world.proofs.LateLine.ConfirmedCovers.{confirming_tended}
use Rattle.vdcp_world.proofs.LateLine.Held.{Holds, covered}
use Rattle.vdcp_world.proofs.LateLine.ConfirmedPlaces.{Secured, Spot}
use Rattle.vdcp_world.proofs.LateLine.Places.{Place, Safe}

-- a new channel keeps the claim
kept_new : (mode : Mode) (S : Claim) → Covers mode S → (plan : Plan) (port : ClockedPort) (down up : List (List ℕ))
    → plan.mode ≡ mode → CanStart plan port down up
    → IsKept mode (ExactlyIn S (new_late_channel plan port down up)) (new_late_channel plan port down up)
kept_new mode S covers plan port down up is start = record {
  fits = record {
    mode_is = is;
    unit_fits = omega (arith, start.unit_fits);
    port_fits = start.port_fits;
    of_bytes = start.of_bytes;
  };
  downs = d.downs;
  ups = u.ups;
  down_is = d.down_is;
  up_is = subst (λ (m : Mode). UpCarries m port.state.unit up u.ups) is u.up_is;
  stands = record {
    stands = stands;
    exact = λ _. covers.closed.exact plan.list port.clips 0 (is_selected port.state) port.state.cued [] u.ups d.downs
        (Ready phase.Open) refl stands;
  };
}
  where
    d : Downs mode (length plan.list) plan port.state.unit down
    d = asked_down mode (length plan.list) port.clips plan port.state.unit down start.asked

    u : Ups mode (length plan.list) port.clips plan port.state.unit up d.downs
    u = answered_up mode (length plan.list) port.clips plan port.state.unit up d.downs start.answered d.climbs

    stands : S plan.list port.clips 0 (is_selected port.state) port.state.cued [] u.ups d.downs (Ready phase.Open)
    stands = covers.begins plan.list port.clips (is_selected port.state) port.state.cued u.ups d.downs
        (λ confirms. start.nothing_cued (is ∙ confirms)) u.fit u.true_told u.climbs

kept_events : (mode : Mode) (S : Claim) → Covers mode S → Below → (c : LateChannel) (es : List LateEvent)
    → Reached c.plan c.state c.log → IsKept mode (ExactlyIn S c) c
    → IsKept mode (ExactlyIn S (after_late_events c es)) (after_late_events c es)
kept_events mode S covers below c [] r k = k
kept_events mode S covers below c (e ∷ es) r k =
    kept_events mode S covers below (after_late_event c e) es (controller_event c e r)
    (kept_event mode S covers.closed below c e r k)

airs : (mode : Mode) (S : Claim) → Covers mode S → (c : LateChannel) → IsKept mode (ExactlyIn S c) c → AirsIn c
airs mode S covers c k =
    subst (λ (m : Mode). Airs m c.plan.list c.port.clips c.aired c.state.settled (may c) c.state.stage) (sym k.mode_is)
    (record {
      near = covers.near c.plan.list c.port.clips c.state.settled (is_selected c.port.state) c.port.state.cued c.aired
          k.ups k.downs c.state.stage k.stands.stands;
      exact = λ e. (k.stands.exact e).at.aired_is;
      end_holds = by c.state.stage k.stands.stands;
    })
  where
    by : (stage : Stage) → S c.plan.list c.port.clips c.state.settled (is_selected c.port.state) c.port.state.cued
        c.aired k.ups k.downs stage → EndHoldsAt mode c.plan.list c.port.clips c.aired c.state.settled stage
    by (Ended o) h = covers.ends c.plan.list c.port.clips c.state.settled (is_selected c.port.state) c.port.state.cued
        c.aired k.ups k.downs o h
    by _ h = tt

pub reached_airs : Below → (c : LateChannel) → IsLateReached c → AirsIn c
reached_airs below c r = by r.plan.mode refl
  where
    of : (mode : Mode) (S : Claim) → Covers mode S → r.plan.mode ≡ mode → AirsIn c
    of mode S covers is = subst AirsIn (sym r.led)
        (airs mode S covers (after_late_events (new_late_channel r.plan r.port r.down r.up) r.events)
        (kept_events mode S covers below (new_late_channel r.plan r.port r.down r.up) r.events
        (begun r.can_start.some r.can_start.few) (kept_new mode S covers r.plan r.port r.down r.up is r.can_start)))

    by : (mode : Mode) → r.plan.mode ≡ mode → AirsIn c
    by Plain is = of Plain (Holds Plain Place Safe) (covered Plain Place Safe plain_tended) is
    by Confirming is =
        of Confirming (Holds Confirming Spot Secured) (covered Confirming Spot Secured confirming_tended) is
