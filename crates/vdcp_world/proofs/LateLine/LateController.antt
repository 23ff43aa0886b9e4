-- The controller of a late channel has had calls alone, and its log is of the exchanges that these ended.
use Rattle.std.proofs.Common.{List, [], ◌∷◌, sym, subst}
use Rattle.std.specs.Prelude.{None}
use Rattle.vdcp_auto.specs.Course as call
use Rattle.vdcp_auto.specs.Course.{Reached, begun, called, Receive}
use Rattle.vdcp_auto.specs.Heard.{heard_in}
use Rattle.vdcp_words.specs.declared.reply.Reply.TheVariants.{Ack, Nak}
use Rattle.vdcp_world.specs.LateLine.LateChannel.{LateChannel, new_late_channel, after_late_event, after_late_events, IsLateReached, oldest}
use Rattle.vdcp_world.specs.LateLine.LateEvent.{LateEvent}
use Rattle.vdcp_world.specs.LateLine.LateEvent as event
use Rattle.vdcp_world.proofs.HeadlineProof.{hears_reached, strays_reached}

pub controller_event : (c : LateChannel) (e : LateEvent) → Reached c.plan c.state c.log
    → Reached (after_late_event c e).plan (after_late_event c e).state (after_late_event c e).log
controller_event c event.Tick r = called r call.Tick
controller_event c event.Up r = hears_reached c.plan c.state c.log (heard_in c.port.state.unit (oldest c.up)) r
controller_event c event.UpCopy r = hears_reached c.plan c.state c.log (heard_in c.port.state.unit (oldest c.up)) r
controller_event c event.Timeout r = called r (Receive None)
controller_event c event.Take r = called r call.Take
controller_event c event.Stop r = called r call.Stop
controller_event c event.AutomationAnew r = called (called r (Receive None)) call.Forget
controller_event c event.StrayAck r = strays_reached c.plan.mode c.plan c.state c.log Ack r
controller_event c (event.StrayNak byte) r = strays_reached c.plan.mode c.plan c.state c.log (Nak byte) r
controller_event c _ r = r

controller_events : (c : LateChannel) (es : List LateEvent) → Reached c.plan c.state c.log
    → Reached (after_late_events c es).plan (after_late_events c es).state (after_late_events c es).log
controller_events c [] r = r
controller_events c (e ∷ es) r = controller_events (after_late_event c e) es (controller_event c e r)

pub controller_reached : (c : LateChannel) → IsLateReached c → Reached c.plan c.state c.log
controller_reached c r =
    subst (λ (x : LateChannel). Reached x.plan x.state x.log) (sym r.led)
    (controller_events (new_late_channel r.plan r.port r.down r.up) r.events (begun r.can_start.some r.can_start.few))
