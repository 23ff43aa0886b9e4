-- The headline of every channel that events have led to.
use Rattle.std.proofs.Common.{ℕ, zero, suc, ◌+◌, ◌≡◌, ◌<◌, ◌≤◌, Bool, true, false, not, ◌&&◌, List, [], ◌∷◌, ◌++◌, All, length, take, drop, refl, arith, sym, ap, subst, ◌∙◌, inl, take-append-drop, length-append, length-drop, append-nil}
use Rattle.std.proofs.Math.Seq.{take-length}
use Rattle.std.specs.Prelude.{Option, None, Some, IsTrue, IsSome, IfSome, IsSomeAnd, slice_get, is_some}
use Rattle.vdcp_value.specs.Parts.{IsItem}
use Rattle.vdcp_value.specs.declared.clip_id.ClipId.{ClipId}
use Rattle.vdcp_value.specs.declared.part.Item.{Item}
use Rattle.vdcp_value.specs.declared.part.Part.{Part}
use Rattle.vdcp_value.specs.declared.timecode.Timecode.{Timecode}
use Rattle.vdcp_port.specs.Clips.{length_of, is_known, is_playable, can_cue}
use Rattle.vdcp_port.specs.Clock.{ClockedPort}
use Rattle.vdcp_port.specs.Port.{PortState, Cued, empty}
use Rattle.vdcp_auto.specs.Course as call
use Rattle.vdcp_auto.specs.Course.{Reached, begun, called, Receive}
use Rattle.vdcp_auto.specs.Endings.{IsRefused}
use Rattle.vdcp_auto.specs.Law.{IsLawful}
use Rattle.vdcp_auto.specs.Plan.{Plan}
use Rattle.vdcp_auto.specs.Settled.{settled}
use Rattle.vdcp_auto.specs.Turn.{outcome_of}
use Rattle.vdcp_auto.specs.declared.exchange.Exchange.{Exchange}
use Rattle.vdcp_auto.specs.declared.exchange.Heard.{Heard}
use Rattle.vdcp_auto.specs.declared.exchange.Heard.TheVariants as heard
use Rattle.vdcp_auto.specs.declared.outcome.Outcome.{Outcome}
use Rattle.vdcp_auto.specs.declared.outcome.Outcome.TheVariants as outcome
use Rattle.vdcp_auto.specs.declared.phase.Mode.{Mode}
use Rattle.vdcp_auto.specs.declared.phase.Mode.TheVariants.{Plain, Confirming}
use Rattle.vdcp_auto.specs.State.{Stage, Ready, Awaiting, Ended, State}
use Rattle.vdcp_words.specs.declared.reply.Reply.{Reply}
use Rattle.vdcp_words.specs.declared.reply.Reply.TheVariants as reply
use Rattle.vdcp_world.specs.Channel.{Channel, channel_to, after_event, after_events, IsReached, state_hearing, log_hearing, state_waiting, log_waiting, state_straying, log_straying}
use Rattle.vdcp_auto.specs.Heard.{heard_in}
use Rattle.vdcp_world.specs.Headline.{IsUnknownAt, IsOutside, IsRefusedIn, AreReported, Means, is_complete, reported_of, Headline}
use Rattle.vdcp_world.specs.declared.event.Event.{Event}
use Rattle.vdcp_world.specs.declared.event.Event.TheVariants as event
use Rattle.vdcp_world.specs.Below.{Below}
use Rattle.vdcp_world.proofs.Exchanges.{near, taken, sent_place, near_of, no_item}
use Rattle.vdcp_world.proofs.Kept.{kept_event}
use Rattle.vdcp_world.proofs.Claims.{IsKept, Stands}
use Rattle.vdcp_world.proofs.PhaseTable.{Aired, Near, plays_before, PlaceAt, PlaceEnded, FirmIn, knows, refuses}
use Rattle.vdcp_world.proofs.LateLine.Exactness.{none_taken}

-- ---- channels that events have led to

pub kept_new : (plan : Plan) (port : ClockedPort) → port.state.unit ≤ 15 → plan.port < 256 → All IsItem plan.list
    → port.state.number ≡ plan.port → port.state.cued ≡ empty → IsKept (channel_to plan port)
kept_new plan port u h items numbered nothing = record {
  unit_fits = omega (arith, u);
  port_fits = h;
  of_bytes = items;
  way = inl refl;
  stands = record {
    numbered = numbered;
    plays = plays_before plan.list port.state.playing;
    place = (record { aired_is = none_taken plan.list; within = omega arith; cued_is = nothing }, refl);
    firm = λ _. tt;
  };
  told = tt;
}

pub kept_events : Below → (c : Channel) (es : List Event) → IsKept c → IsKept (after_events c es)
kept_events below c [] k = k
kept_events below c (e ∷ es) k = kept_events below (after_event c e) es (kept_event below c k e)

pub reached_kept : Below → (c : Channel) → IsReached c → IsKept c
reached_kept below c r = subst IsKept (sym r.led) (kept_events below _ r.events
    (kept_new r.plan r.port r.unit_fits r.port_fits r.of_bytes r.numbered r.nothing_cued))

-- ---- their controllers

pub hears_reached : (plan : Plan) (state : State) (log : List Exchange) (h : Option Heard) → Reached plan state log
    → Reached plan (state_hearing plan h state) (log_hearing plan h state log)
hears_reached plan state log None r = r
hears_reached plan state log (Some h) r = called r (Receive (Some h))

waits_reached : (plan : Plan) (state : State) (log : List Exchange) (down up : List ℕ) → Reached plan state log
    → Reached plan (state_waiting plan down up state) (log_waiting plan down up state log)
waits_reached plan state log [] [] r = called r (Receive None)
waits_reached plan state log [] (b ∷ up) r = r
waits_reached plan state log (b ∷ down) up r = r

pub strays_reached : (mode : Mode) (plan : Plan) (state : State) (log : List Exchange) (h : Reply)
    → Reached plan state log
    → Reached plan (state_straying mode plan h state) (log_straying mode plan h state log)
strays_reached Plain plan state log h r = r
strays_reached Confirming plan state log h r = called r (Receive (Some (heard.Reply h)))

controller_event : (c : Channel) (e : Event) → Reached c.plan c.state c.log
    → Reached (after_event c e).plan (after_event c e).state (after_event c e).log
controller_event c event.Tick r = called r call.Tick
controller_event c event.Up r = hears_reached c.plan c.state c.log (heard_in c.port.state.unit c.up) r
controller_event c event.UpCopy r = hears_reached c.plan c.state c.log (heard_in c.port.state.unit c.up) r
controller_event c event.Timeout r = waits_reached c.plan c.state c.log c.down c.up r
controller_event c event.Take r = called r call.Take
controller_event c event.Stop r = called r call.Stop
controller_event c event.StrayAck r = strays_reached c.plan.mode c.plan c.state c.log reply.Ack r
controller_event c (event.StrayNak byte) r = strays_reached c.plan.mode c.plan c.state c.log (reply.Nak byte) r
controller_event c _ r = r

controller_events : (c : Channel) (es : List Event) → Reached c.plan c.state c.log
    → Reached (after_events c es).plan (after_events c es).state (after_events c es).log
controller_events c [] r = r
controller_events c (e ∷ es) r = controller_events (after_event c e) es (controller_event c e r)

pub controller_reached : (c : Channel) → IsReached c → Reached c.plan c.state c.log
controller_reached c r =
    subst (λ (x : Channel). Reached x.plan x.state x.log) (sym r.led)
    (controller_events (channel_to r.plan r.port) r.events (begun r.some r.few))

-- ---- what went to air and what is reported

near_aired : (list aired : List Item) (settled k : ℕ) → Aired list aired k → settled ≡ k → Near list aired settled
near_aired list aired settled k a e =
    near_of list aired settled k a.aired_is a.within (omega (arith, e)) (omega (arith, e))

module _ (list : List Item) where
  near_at : (clips : List (ClipId × Timecode)) (cued : Cued) (aired : List Item) (settled : ℕ) (stage : Stage)
      → PlaceAt list clips cued aired settled stage → Near list aired settled
  near_at clips cued aired settled (Ready q) h = near list cued aired settled q (sent_place list cued aired settled q h)
  near_at clips cued aired settled (Awaiting q) h = near list cued aired settled q h
  near_at clips cued aired settled (Ended outcome.Done) h = near_aired list aired settled (length list) h.0 h.1
  near_at clips cued aired settled (Ended outcome.Stopped) h = h
  near_at clips cued aired settled (Ended outcome.Lost) h = h
  near_at clips cued aired settled (Ended (outcome.Missing k)) h = near_aired list aired settled k h.0 h.1
  near_at clips cued aired settled (Ended (outcome.Refused k)) h = near_aired list aired settled k h.0 h.1
  near_at clips cued aired settled _ h = absurd h

  pub begins : (aired : List Item) (settled : ℕ) → Near list aired settled → (more : List Item) × (list ≡ aired ++ more)
  begins aired settled n = (
    drop (length aired) list,
    sym (take-append-drop (length aired) list)
        ∙ ap (λ (front : List Item). front ++ drop (length aired) list) (sym n.aired_is),
  )

take_within : {A : Type 0} → (s a : ℕ) (xs : List A) → s ≤ a → take s (take a xs) ≡ take s xs
take_within zero a xs l = refl
take_within (suc s) zero xs l = absurd (omega arith)
take_within (suc s) (suc a) [] l = refl
take_within (suc s) (suc a) (x ∷ xs) l = ap (λ ys. x ∷ ys) (take_within s a xs (omega arith))

pub reports : (list aired : List Item) (settled : ℕ) → Near list aired settled
    → (last : List Item) × (aired ≡ take settled list ++ last) × (length last ≤ 1)
reports list aired settled n =
    let front : take settled aired ≡ take settled list =
    ap (take settled) n.aired_is ∙ take_within settled (length aired) list n.low in
    let size : length (drop settled aired) + settled ≡ length aired =
    omega (arith, length-drop settled aired, n.low) in (
      drop settled aired,
      sym (take-append-drop settled aired) ∙ ap (λ (x : List Item). x ++ drop settled aired) front,
      omega (arith, size, n.high),
    )

-- ---- all that went to air is reported

without_last : (aired front last : List Item) → aired ≡ front ++ last → length aired ≡ length front → aired ≡ front
without_last aired front [] e same = e ∙ append-nil front
without_last aired front (item ∷ last) e same =
    absurd (omega (arith, ap length e, length-append front (item ∷ last), same))

pub complete : (c : Channel) → Headline c → IfSome (outcome_of c.state.stage)
    (λ outcome. IsTrue (is_complete outcome) → c.aired ≡ reported_of c)
complete c h = by (outcome_of c.state.stage) h.ended
  where
    all : (k : ℕ) → AreReported c.plan c.aired c.log k → c.aired ≡ reported_of c
    all k a = without_last c.aired (reported_of c) h.reported.0 h.reported.1
        (a.aired_count ∙ sym (h.count ∙ h.is_settled ∙ a.reported_count))

    by : (o : Option Outcome) → IfSome o (Means c.port.clips c.plan c.aired c.log)
        → IfSome o (λ outcome. IsTrue (is_complete outcome) → c.aired ≡ reported_of c)
    by None m = tt
    by (Some outcome.Done) m = λ _. all (length c.plan.list) m.1
    by (Some (outcome.Missing k)) m = λ _. all k m.1
    by (Some (outcome.Refused k)) m = λ _. all k m.1
    by (Some outcome.Lost) m = λ e. cc
    by (Some outcome.Stopped) m = λ e. cc
    by _ m = absurd m

pub fewer : (c : Channel) → Headline c → c.state.settled ≤ length c.aired
fewer c h = omega (arith, ap length h.reported.1, length-append (reported_of c) h.reported.0, h.count)

pub but_one : (c : Channel) → Headline c → length c.aired ≤ c.state.settled + 1
but_one c h = omega (arith, ap length h.reported.1, length-append (reported_of c) h.reported.0, h.count, h.reported.2)

-- ---- no other outcome

-- what never comes
pub never : (c : Channel) (o : Outcome) → Headline c → outcome_of c.state.stage ≡ Some o
    → Means c.port.clips c.plan c.aired c.log o
never c o h e = subst (λ (x : Option Outcome). IfSome x (Means c.port.clips c.plan c.aired c.log)) e h.ended

-- ---- what the outcome means

module _ (clips : List (ClipId × Timecode)) where
  pub unknown_at : (list : List Item) (k : ℕ) (o : Option Item) → slice_get list k ≡ o → k < length list
      → knows clips o ≡ false → IsUnknownAt clips list k
  unknown_at list k None is below e = absurd (no_item list k below is)
  unknown_at list k (Some item) is below e =
      subst (λ (o : Option Item). IsSomeAnd o (λ item. is_known clips item.id ≡ false)) (sym is) e

  outside : (item : Item) → refuses clips (Some item) ≡ true → IsOutside clips item
  outside item e = record {
    is_part = part item.part (length_of clips item.id) e;
    known = first (is_known clips item.id) (not (is_playable clips item)) e;
    does_not_fit = second (is_known clips item.id) (is_playable clips item) e;
  }
    where
      first : (a b : Bool) → (a && b) ≡ true → IsTrue a
      first true b e = refl
      first false b e = cc

      second : (a b : Bool) → (a && not b) ≡ true → b ≡ false
      second a b e = grind arith

      part : (o : Option Part) (clip : Option Timecode) → (is_some clip && not (can_cue clip o)) ≡ true → IsSome o
      part None None e = cc
      part None (Some clip) e = cc
      part (Some p) clip e = refl

  outside_at : (list : List Item) (k : ℕ) (o : Option Item) → slice_get list k ≡ o → refuses clips o ≡ true
      → IsSomeAnd (slice_get list k) (IsOutside clips)
  outside_at list k None is e = cc
  outside_at list k (Some item) is e =
      subst (λ (o : Option Item). IsSomeAnd o (IsOutside clips)) (sym is) (outside item e)

exactly : (plan : Plan) (aired : List Item) (log : List Exchange) (reported k : ℕ) → Aired plan.list aired k
    → reported ≡ k → reported ≡ settled plan.mode log
    → AreReported plan aired log k
exactly plan aired log reported k a e counted = record {
  aired_count = ap length a.aired_is ∙ taken plan.list k a.within;
  reported_count = sym counted ∙ e;
}

refused_in : (mode : Mode) (clips : List (ClipId × Timecode)) (plan : Plan) (log : List Exchange) (p : PortState)
    (k : ℕ)
    → FirmIn mode plan.list clips p (Ended (outcome.Refused k))
    → (mode ≡ Confirming → IsRefused plan.list plan.limit log k) → IsRefusedIn mode clips plan log k
refused_in Plain clips plan log p k firm by_log = outside_at clips plan.list k (slice_get plan.list k) refl (firm refl)
refused_in Confirming clips plan log p k firm by_log = by_log refl

means : (c : Channel) (o : Outcome) → PlaceEnded c.plan.list c.port.clips c.aired c.state.settled o
    → FirmIn c.plan.mode c.plan.list c.port.clips c.port.state (Ended o)
    → IsLawful c.plan c.state c.log → outcome_of c.state.stage ≡ Some o → Means c.port.clips c.plan c.aired c.log o
means c outcome.Done h firm l e = (
  h.0.aired_is ∙ take-length c.plan.list,
  exactly c.plan c.aired c.log c.state.settled (length c.plan.list) h.0 h.1
      l.is_settled,
)
means c outcome.Stopped h firm l e = tt
means c outcome.Lost h firm l e = l.is_lost.0 e
means c (outcome.Missing k) h firm l e = (
  unknown_at c.port.clips c.plan.list k (slice_get c.plan.list k) refl h.2 h.3,
  exactly c.plan c.aired c.log
      c.state.settled k h.0 h.1 l.is_settled,
)
means c (outcome.Refused k) h firm l e = (
  refused_in c.plan.mode c.port.clips c.plan c.log c.port.state k firm (λ confirms. l.is_refused confirms k e),
  exactly c.plan c.aired c.log c.state.settled k h.0 h.1 l.is_settled,
)
means c _ h firm l e = h

module _ (c : Channel) where
  means_at : (stage : Stage) → c.state.stage ≡ stage → Stands c.plan c.port.clips c.port.state c.aired c.state.settled
      stage → IsLawful c.plan c.state c.log → IfSome (outcome_of stage) (Means c.port.clips c.plan c.aired c.log)
  means_at (Ended o) e s l = means c o s.place s.firm l (ap outcome_of e)
  means_at _ e s l = tt

  pub headline : IsKept c → IsLawful c.plan c.state c.log → Headline c
  headline k l =
      let near = near_at c.plan.list c.port.clips c.port.state.cued c.aired c.state.settled c.state.stage k.stands.place
      in
      record {
        beginning = begins c.plan.list c.aired c.state.settled near;
        reported = reports c.plan.list c.aired c.state.settled near;
        count = taken c.plan.list c.state.settled (omega (arith, near.low, near.within));
        is_settled = l.is_settled;
        keeps_rules = l.keeps_rules;
        may_await = l.may_await;
        ended = means_at c.state.stage refl k.stands l;
      }
