-- Late channels that events have led to, and what they keep of a channel.
use Rattle.std.proofs.Common.{◌≡◌, ◌<◌, ◌≤◌, All, List, [], ◌∷◌, ◌++◌, refl, sym, ap, arith, ◌∙◌}
use Rattle.std.proofs.lemmas.List.Elements.{All-nil}
use Rattle.std.specs.Prelude.{Option, None, Some, bit_and}
use Rattle.vdcp_value.specs.Parts.{IsItem}
use Rattle.vdcp_value.specs.declared.part.Item.{Item}
use Rattle.vdcp_frame.specs.Burst.{messages_of}
use Rattle.vdcp_port.specs.Clock.{ClockedPort}
use Rattle.vdcp_port.specs.Port.{Cued, empty, cueing, done, state_byte_of}
use Rattle.vdcp_auto.specs.Plan.{Plan}
use Rattle.vdcp_world.proofs.Reached.{make_frame, make_messages}
use Rattle.vdcp_auto.specs.declared.phase.Mode.TheVariants.{Confirming}
use Rattle.vdcp_world.specs.LateLine.LateChannel.{AnswersOnly, AsksOnly, LateChannel, CanStart, IsLateReached, new_late_channel, after_late_event, after_late_events, late_make_of, oldest}
use Rattle.vdcp_world.specs.LateLine.LateEvent.{LateEvent}
use Rattle.vdcp_world.specs.LateLine.LateEvent as event

pub after_all : (c : LateChannel) (events more : List LateEvent)
    → after_late_events c (events ++ more) ≡ after_late_events (after_late_events c events) more
after_all c [] more = refl
after_all c (e ∷ events) more = after_all (after_late_event c e) events more

step_reached : (c : LateChannel) (e : LateEvent) → IsLateReached c → IsLateReached (after_late_event c e)
step_reached c e r = record {
  plan = r.plan;
  port = r.port;
  down = r.down;
  up = r.up;
  events = r.events ++ e ∷ [];
  can_start = r.can_start;
  led = ap (λ x. after_late_event x e) r.led
      ∙ sym (after_all (new_late_channel r.plan r.port r.down r.up) r.events (e ∷ []));
}

pub events_reached : (c : LateChannel) (es : List LateEvent) → IsLateReached c → IsLateReached (after_late_events c es)
events_reached c [] r = r
events_reached c (e ∷ es) r = events_reached (after_late_event c e) es (step_reached c e r)

-- a port whose state byte has the bits of a cue off has nothing cued
pub nothing_cued : (cued : Cued) (playing : Option Item) → bit_and (state_byte_of cued playing) 0x82 ≡ 0 → cued ≡ empty
nothing_cued empty playing off = refl
nothing_cued (cueing item) None off = absurd (omega (arith, off))
nothing_cued (cueing item) (Some clip) off = absurd (omega (arith, off))
nothing_cued (done item) None off = absurd (omega (arith, off))
nothing_cued (done item) (Some clip) off = absurd (omega (arith, off))

-- where nothing is on the way
pub quiet_start : (plan : Plan) (port : ClockedPort) → 1 ≤ plan.limit → plan.limit ≤ 1000 → port.state.unit ≤ 15
    → plan.port < 256 → All IsItem plan.list → (plan.mode ≡ Confirming → port.state.cued ≡ empty)
    → CanStart plan port [] []
quiet_start plan port some few unit_fits port_fits of_bytes nothing_cued = record {
  some = some;
  few = few;
  unit_fits = unit_fits;
  port_fits = port_fits;
  of_bytes = of_bytes;
  nothing_cued = nothing_cued;
  asked = All-nil (AsksOnly plan port.state.unit);
  answered = All-nil (AnswersOnly plan port.state.unit);
}

-- ---- what a channel was made with stays

make_stays : (c : LateChannel) (e : LateEvent) → late_make_of (after_late_event c e) ≡ late_make_of c
make_stays c event.Down = make_messages c.plan (messages_of (oldest c.down)) c.port
make_stays c event.DownCopy = make_messages c.plan (messages_of (oldest c.down)) c.port
make_stays c event.Frame = make_frame c.plan c.port
make_stays c _ = refl

pub make_after_all : (c : LateChannel) (es : List LateEvent)
    → late_make_of (after_late_events c es) ≡ late_make_of c
make_after_all c [] = refl
make_after_all c (e ∷ es) = make_after_all (after_late_event c e) es ∙ make_stays c e
