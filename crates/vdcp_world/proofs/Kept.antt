-- What every event keeps of a channel.
use Rattle.std.proofs.Common.{◌<◌, ◌≡◌, inl, true, All, List, [], ◌∷◌, refl, sym, subst}
use Rattle.std.proofs.lemmas.Bool.{or_left, or_right}
use Rattle.std.specs.List.{list_any}
use Rattle.vdcp_value.specs.Parts.{IsItem}
use Rattle.vdcp_words.specs.declared.reply.Reply.TheVariants as reply
use Rattle.vdcp_auto.specs.Heard.{heard_in}
use Rattle.vdcp_auto.specs.State.{State}
use Rattle.vdcp_auto.specs.Turn.{awaited, given}
use Rattle.vdcp_world.specs.Channel.{Channel, Make, make_of, after_event, after_events, can_become, can_become_up}
use Rattle.vdcp_world.specs.NoCut.{is_take}
use Rattle.vdcp_world.specs.declared.event.Event.{Event}
use Rattle.vdcp_world.specs.declared.event.Event.TheVariants as event
use Rattle.vdcp_world.specs.Below.{Below}
use Rattle.vdcp_world.proofs.Claims.{Claim, Telling, ClosedFor, Holds, IsKept, StandsIn, TellsIn, Takes, claim_event}
use Rattle.vdcp_world.proofs.OnTheWay.{Way}
use Rattle.vdcp_world.proofs.Reached.{make_stays}
use Rattle.vdcp_world.proofs.TableKept.{closed_table}
use Rattle.vdcp_world.proofs.WayKept.{tick_way, hear_way, quiet_way, alter_down, alter_up, wait_way, stray_same}

module _ (below : Below) (c : Channel) (k : IsKept c) where
  way_event : (e : Event) → Way c.plan.mode c.port.state.unit (awaited c.plan (after_event c e).state)
      (after_event c e).down (after_event c e).up
  way_event event.Tick =
      tick_way below c.plan.mode c.port.state.unit c.plan c.state c.down c.up (given c.plan c.state) refl k.unit_fits
      k.of_bytes k.port_fits k.way
  way_event event.Down = inl refl
  way_event event.Up =
      quiet_way c.plan.mode c.port.state.unit _ c.down c.up [] tt
      (hear_way below c.plan.mode c.port.state.unit c.plan c.state c.down c.up (heard_in c.port.state.unit c.up) refl
      refl k.way)
  way_event event.UpCopy =
      hear_way below c.plan.mode c.port.state.unit c.plan c.state c.down c.up (heard_in c.port.state.unit c.up) refl
      refl k.way
  way_event event.LoseDown = inl refl
  way_event event.LoseUp = quiet_way c.plan.mode c.port.state.unit _ c.down c.up [] tt k.way
  way_event (event.AlterDown bytes) =
      alter_down c.plan.mode c.port.state.unit (awaited c.plan c.state) c.down c.up bytes (can_become c.down bytes) refl
      k.way
  way_event (event.AlterUp bytes) =
      alter_up c.plan.mode c.port.state.unit (awaited c.plan c.state) c.down c.up bytes
      (can_become_up c.plan.mode c.port.state.unit c.up bytes) refl k.way
  way_event event.Timeout = wait_way c.plan.mode c.port.state.unit c.plan c.state c.down c.up k.way
  way_event event.StrayAck = subst (λ (s : State). Way c.plan.mode c.port.state.unit (awaited c.plan s) c.down c.up)
      (sym (stray_same below c.plan.mode c.plan c.state reply.Ack refl refl)) k.way
  way_event (event.StrayNak byte) =
      subst (λ (s : State). Way c.plan.mode c.port.state.unit (awaited c.plan s) c.down c.up)
      (sym (stray_same below c.plan.mode c.plan c.state (reply.Nak byte) refl refl)) k.way
  way_event _ = k.way

  pub kept_event : (e : Event) → IsKept (after_event c e)
  kept_event e = record {
    unit_fits = subst (λ (m : Make). m.unit < 16) made k.unit_fits;
    port_fits = subst (λ (m : Make). m.plan.port < 256) made k.port_fits;
    of_bytes = subst (λ (m : Make). All IsItem m.plan.list) made k.of_bytes;
    way = subst (λ (m : Make). Way m.plan.mode m.unit (awaited m.plan (after_event c e).state) (after_event c e).down
        (after_event c e).up) made (way_event e);
    stands = holds.stands;
    told = holds.told;
  }
    where
      made : make_of c ≡ make_of (after_event c e)
      made = sym (make_stays c e)

      holds : Holds (StandsIn (make_of (after_event c e))) (TellsIn (make_of (after_event c e))) (after_event c e)
      holds = subst (λ (m : Make). Holds (StandsIn m) (TellsIn m) (after_event c e)) made
          (claim_event below (StandsIn (make_of c)) (TellsIn (make_of c)) c e (closed_table (make_of c)) k
          (λ _ take p aired settled stage h. h) (record { stands = k.stands; told = k.told }))

-- events, of which the operator takes in none, or the claim is kept where he does
pub claim_events : Below → (S : Claim) (T : Telling) (c : Channel) (es : List Event) → ClosedFor (make_of c) S T
    → IsKept c
    → (list_any is_take es ≡ true → Takes S) → Holds S T c → Holds S T (after_events c es)
claim_events below S T c [] closed k takes h = h
claim_events below S T c (e ∷ es) closed k takes h =
    claim_events below S T (after_event c e) es (subst (λ (m : Make). ClosedFor m S T) (sym (make_stays c e)) closed)
    (kept_event below c k e)
    (λ some. takes (or_right (is_take e) (list_any is_take es) some))
    (claim_event below S T c e closed k (λ some. takes (or_left (is_take e) (list_any is_take es) some)) h)
