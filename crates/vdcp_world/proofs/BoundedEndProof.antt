-- The bounded end of every channel that events have led to.
use Rattle.std.proofs.Common.{ℕ, zero, suc, nat_le, ◌+◌, ◌-◌, ◌*◌, ◌≡◌, ◌<◌, ◌≤◌, Bool, true, false, ◌&&◌, not, List, [], ◌∷◌, All, length, refl, sym, ap, subst, ◌∙◌, arith}
use Rattle.std.proofs.Math.Seq.{take-length}
use Rattle.std.proofs.lemmas.List.Elements.{All-get_or}
use Rattle.std.proofs.lemmas.Option.{slice_get_within, get_or_from_slice_get}
use Rattle.std.specs.Prelude.{Option, None, Some, IsTrue, slice_get}
use Rattle.vdcp_value.specs.declared.clip_id.ClipId.{ClipId}
use Rattle.vdcp_value.specs.declared.part.Item.{Item}
use Rattle.vdcp_value.specs.declared.timecode.Timecode.{Timecode}
use Rattle.vdcp_words.specs.declared.command.Command.{Command}
use Rattle.vdcp_words.specs.declared.command.Command.TheVariants as command
use Rattle.vdcp_port.specs.Clips.{is_playable}
use Rattle.vdcp_port.specs.Clock.{ClockedPort}
use Rattle.vdcp_port.specs.Port.{PortState, Cued, empty, made_ready, is_cueing as is_cueing_slot}
use Rattle.vdcp_auto.specs.Commands.{is_sense}
use Rattle.vdcp_auto.specs.Course.{Reached}
use Rattle.vdcp_auto.specs.Law.{IsLawful}
use Rattle.vdcp_auto.specs.Log.{answer_in, is_counted}
use Rattle.vdcp_auto.specs.Plan.{Plan}
use Rattle.vdcp_auto.specs.Replies.{is_receipt}
use Rattle.vdcp_auto.specs.Table.{command_in, is_halting, on_no_answer}
use Rattle.vdcp_auto.specs.Turn.{start, stage_after, settled_after, is_ready, outcome_of, awaited_in, ticked, tick_in, sent, take_after_sending, is_end, transition_of, state_after, unanswered_after}
use Rattle.vdcp_auto.specs.declared.exchange.Exchange.{Exchange}
use Rattle.vdcp_auto.specs.declared.exchange.Heard.TheVariants as heard
use Rattle.vdcp_auto.specs.declared.outcome.Outcome.{Outcome}
use Rattle.vdcp_auto.specs.declared.outcome.Outcome.TheVariants as outcome
use Rattle.vdcp_auto.specs.declared.phase.Mode.{Mode}
use Rattle.vdcp_auto.specs.declared.phase.Mode.TheVariants.{Plain, Confirming}
use Rattle.vdcp_auto.specs.declared.phase.Phase.{Phase}
use Rattle.vdcp_auto.specs.declared.phase.Phase.TheVariants as phase
use Rattle.vdcp_auto.specs.State.{Stage, Ready, Awaiting, Ended, State}
use Rattle.vdcp_auto.specs.declared.phase.Transition.{Transition}
use Rattle.vdcp_auto.specs.declared.phase.Transition.TheVariants as transition
use Rattle.vdcp_world.specs.BoundedEnd.{IsDone, IsAllPlayable, CanGoOn, CanBegin, rounds_to_go_on, rounds_from_new, BoundedEnd}
use Rattle.vdcp_world.specs.Channel.{Channel, Make, IsReached, after_events, state_hearing, state_waiting}
use Rattle.vdcp_world.specs.InStep.{IsReadyFor, HasExecuted, IsInStep}
use Rattle.vdcp_world.specs.Rounds.{round, good_round, times}
use Rattle.vdcp_world.specs.declared.event.Event.TheVariants as event
use Rattle.vdcp_world.specs.Below.{Below}
use Rattle.vdcp_world.proofs.ConfirmedRounds.{left_before, left_behind, left_from, senses, sense_of, before_stays, Steps, sense_steps, Stays, receipt_stays}
use Rattle.vdcp_world.proofs.Exchanges.{sent_place, turn_by}
use Rattle.vdcp_world.proofs.GoodRound.{Exchanged, exchanged, exchange, waits_still, hears_still, waits_over, ticks_on, gives_own, turns_on}
use Rattle.vdcp_world.proofs.HeadlineProof.{reached_kept, controller_reached}
use Rattle.vdcp_world.proofs.Claims.{IsKept}
use Rattle.vdcp_world.proofs.Kept.{kept_event}
use Rattle.vdcp_world.proofs.PhaseTable.{PlaceAt, PlaceReady, Firm, FirmAt, answer_after, port_after}
use Rattle.vdcp_world.proofs.Reached.{events_reached, make_after_all}
use Rattle.vdcp_world.proofs.RoundsLeft.{left, left_at, Goes, Nears, answer_at, plays, plain_nears, left_most}
use Rattle.vdcp_world.proofs.Exchanges.{gives_some, turn_same}

-- ---- where it ends

-- nothing times out of an ended controller, and it hears nothing
ended_round : (c : Channel) (o : Outcome) → c.state.stage ≡ Ended o → (after_events c round).state ≡ c.state
ended_round c o e =
    ap (state_hearing c.plan _) (ap (λ (stage : Stage). tick_in stage c.state) e)
    ∙ hears_still c.plan _ c.state (ap (awaited_in c.plan) e)

ended_stays : (c : Channel) (o : Outcome) → c.state.stage ≡ Ended o → (after_events c good_round).state ≡ c.state
ended_stays c o e =
    let still : state_waiting c.plan c.down c.up c.state ≡ c.state =
    waits_still c.plan c.down c.up c.state (ap (awaited_in c.plan) e) in
    ended_round (after_events c (event.Timeout ∷ event.Ready ∷ event.End ∷ [])) o
    (ap (λ (z : State). z.stage) still ∙ e) ∙ still

ended_stays_on : (n : ℕ) (c : Channel) (o : Outcome) → c.state.stage ≡ Ended o
    → (after_events c (times n good_round)).state.stage ≡ Ended o
ended_stays_on zero c o e = e
ended_stays_on (suc n) c o e =
    ended_stays_on n (after_events c good_round) o (ap (λ (s : State). s.stage) (ended_stays c o e) ∙ e)

pub is_done : Below → (c : Channel) → IsReached c → c.state.stage ≡ Ended outcome.Done → IsDone c
is_done below c r e =
    let k = reached_kept below c r in
    let place = subst (PlaceAt c.plan.list c.port.clips c.port.state.cued c.aired c.state.settled) e k.stands.place in
    record {
      ended = ap outcome_of e;
      all_aired = place.0.aired_is ∙ take-length c.plan.list;
      all_reported = place.1;
    }

-- ---- the playlist

pub plays_at : (clips : List (ClipId × Timecode)) (list : List Item)
    → All (λ item. IsTrue (is_playable clips item)) list → (k : ℕ)
    → plays clips (slice_get list k) ≡ true
plays_at clips list all k = by (slice_get list k) refl
  where
    by : (o : Option Item) → slice_get list k ≡ o → plays clips o ≡ true
    by None e = refl
    by (Some item) e =
        subst (λ (x : Item). is_playable clips x ≡ true) (get_or_from_slice_get list k item item e)
        (All-get_or (λ x. IsTrue (is_playable clips x)) list k item (slice_get_within list k item e) all)

pub still_playable : (c : Channel) → IsAllPlayable c → IsAllPlayable (after_events c good_round)
still_playable c all = subst (λ (clips : List (ClipId × Timecode)). All (λ item. IsTrue (is_playable clips item))
    c.plan.list)
    (sym (ap (λ (m : Make). m.clips) (make_after_all c good_round))) all

-- ---- plain mode

-- after a good round: no stop is wished for, and fewer rounds are left
record Onwards (old : ℕ) (now : Channel) : Type 0 where
  pub no_wish : now.state.stop ≡ false
  pub goes : Goes now.state.stage
  pub fewer : left_at (length now.plan.list - now.state.settled) now.state.stage < old

plain_round : Below → (c : Channel) (q : Phase) → IsKept c → c.plan.mode ≡ Plain
    → ((k : ℕ) → plays c.port.clips (slice_get c.plan.list k) ≡ true)
    → c.port.state.playing ≡ None → is_cueing_slot c.port.state.cued ≡ false
    → c.state.stage ≡ Ready q → c.state.stop ≡ false → is_halting q ≡ false
    → Onwards (left (length c.plan.list - c.state.settled) q) (after_events c round)
plain_round below c q k plain all idle ready e none on = by (command_in c.plan.list c.plan.port q) refl
  where
    place : PlaceReady c.plan.list c.port.state.cued c.aired c.state.settled q
    place = subst (PlaceAt c.plan.list c.port.clips c.port.state.cued c.aired c.state.settled) e k.stands.place

    firm : Firm c.plan.list c.port.clips c.port.state q
    firm =
        subst (FirmAt c.plan.list c.port.clips c.port.state) e (k.stands.firm plain)

    go : (d : Command) → command_in c.plan.list c.plan.port q ≡ Some d
        → Onwards (left (length c.plan.list - c.state.settled) q) (after_events c round)
    go d is =
        record {
          no_wish = ap (λ (s : State). s.stop) leads;
          goes = subst (λ (s : State). Goes s.stage) (sym leads) nears.0;
          fewer = subst (λ (s : State). left_at (length c.plan.list - s.settled) s.stage < left
              (length c.plan.list - c.state.settled) q) (sym leads) nears.1;
        }
      where
        x : Exchanged c d (after_events c round)
        x = exchanged below c d k (gives_own c.plan c.state q e none ∙ is)

        over : is_end c.plan.mode d (Some (heard.Reply x.answer)) ≡ true
        over = ap (λ (mode : Mode). is_end mode d (Some (heard.Reply x.answer))) plain

        transition : Transition
        transition = transition_of c.plan (sent q c.state) q (exchange d x.answer)

        leads : (after_events c round).state ≡ state_after transition
            (unanswered_after c.plan.mode (exchange d x.answer) c.state.unanswered) (sent q c.state)
        leads = x.state ∙ turns_on c.plan c.state q d x.answer e none is over

        same : turn_by Plain c.plan.list c.plan.limit (take_after_sending q c.state.take) c.state.tries
            c.state.unanswered
            (is_counted c.plan.mode (exchange d x.answer)) q (answer_at (command_in c.plan.list c.plan.port q) x.answer)
            ≡ transition
        same =
            ap (λ (o : Option Command). turn_by Plain c.plan.list c.plan.limit (take_after_sending q c.state.take)
            c.state.tries c.state.unanswered
            (is_counted c.plan.mode (exchange d x.answer)) q (answer_at o x.answer)) is
            ∙ ap (λ (mode : Mode). turn_by mode c.plan.list c.plan.limit (take_after_sending q c.state.take)
            c.state.tries c.state.unanswered
            (is_counted c.plan.mode (exchange d x.answer)) q (answer_in (exchange d x.answer))) (sym plain)
            ∙ turn_same c.plan (take_after_sending q c.state.take) c.state.tries c.state.unanswered
            (is_counted c.plan.mode (exchange d x.answer)) q
            (answer_in (exchange d x.answer))

        nears : Nears (length c.plan.list) c.state.settled (left (length c.plan.list - c.state.settled) q) transition
        nears = subst (Nears (length c.plan.list) c.state.settled (left (length c.plan.list - c.state.settled) q)) same
            (plain_nears c.plan.list c.port.clips c.port.state c.aired c.state.settled c.plan.port c.plan.limit
            c.state.tries c.state.unanswered
            (take_after_sending q c.state.take) (is_counted c.plan.mode (exchange d x.answer)) q x.answer
            k.stands.numbered idle ready all place firm on
            (ap (answer_after c.port.clips c.port.state) is ∙ x.answers))

    by : (o : Option Command) → command_in c.plan.list c.plan.port q ≡ o
        → Onwards (left (length c.plan.list - c.state.settled) q) (after_events c round)
    by None is =
        absurd (gives_some c.plan.list c.plan.port c.port.state.cued c.aired c.state.settled q
        (sent_place c.plan.list c.port.state.cued c.aired c.state.settled q place) is)
    by (Some d) is = go d is

-- what the port waits for has come
pub ready_slot : (cued : Cued) → is_cueing_slot (made_ready cued) ≡ false
ready_slot empty = refl
ready_slot _ = refl

pub waited_kept : Below → (c : Channel) → IsKept c → IsKept
    (after_events c (event.Timeout ∷ event.Ready ∷ event.End ∷ []))
waited_kept below c k =
    kept_event below _ (kept_event below _ (kept_event below c k event.Timeout) event.Ready) event.End

plain_good_round : Below → (c : Channel) (q : Phase) → IsKept c → c.plan.mode ≡ Plain → IsAllPlayable c
    → c.state.stage ≡ Ready q → c.state.stop ≡ false → is_halting q ≡ false
    → Onwards (left (length c.plan.list - c.state.settled) q) (after_events c good_round)
plain_good_round below c q k plain all e none on =
    subst (λ (s : State). Onwards (left (length c.plan.list - s.settled) q) (after_events c good_round)) still
    (plain_round below (after_events c (event.Timeout ∷ event.Ready ∷ event.End ∷ [])) q (waited_kept below c k) plain
    (plays_at c.port.clips c.plan.list all) refl (ready_slot c.port.state.cued)
    (ap (λ (s : State). s.stage) still ∙ e) (ap (λ (s : State). s.stop) still ∙ none) on)
  where
    still : state_waiting c.plan c.down c.up c.state ≡ c.state
    still = waits_still c.plan c.down c.up c.state (ap (awaited_in c.plan) e)

plain_rounds : Below → (n : ℕ) (c : Channel) → IsReached c → c.plan.mode ≡ Plain → IsAllPlayable c
    → c.state.stop ≡ false
    → (stage : Stage) → c.state.stage ≡ stage → Goes stage → left_at (length c.plan.list - c.state.settled) stage ≤ n
    → (after_events c (times n good_round)).state.stage ≡ Ended outcome.Done
plain_rounds below n c r plain all none (Ended outcome.Done) e goes few = ended_stays_on n c outcome.Done e
plain_rounds below zero c r plain all none (Ready q) e goes few =
    absurd (impossible (plain_good_round below c q (reached_kept below c r) plain all e none goes).fewer)
  where
    impossible : {m : ℕ} → m < left (length c.plan.list - c.state.settled) q → ⊥
    impossible fewer = omega (arith, fewer, few)
plain_rounds below (suc n) c r plain all none (Ready q) e goes few =
    let on = plain_good_round below c q (reached_kept below c r) plain all e none goes in
    let now = after_events c good_round in
    plain_rounds below n now (events_reached c good_round r) plain (still_playable c all) on.no_wish now.state.stage
    refl on.goes
    (omega (arith, on.fewer, few))
plain_rounds below n c r plain all none _ e goes few = absurd goes

plain_goes : (c : Channel) → CanGoOn c → IsLawful c.plan c.state c.log → (stage : Stage) → c.state.stage ≡ stage
    → IsTrue (is_ready stage) → Goes stage
plain_goes c can lawful (Ready q) e ready = by (is_halting q) refl
  where
    by : (b : Bool) → is_halting q ≡ b → is_halting q ≡ false
    by true halts = absurd (impossible (sym (lawful.is_stopped q e halts) ∙ can.no_stop))
      where
        impossible : true ≡ false → ⊥
        impossible e = cc
    by false halts = halts
plain_goes c can lawful _ e ready = cc

few_left : (r : ℕ) (stage : Stage) → left_at r stage ≤ 5 * r + 4
few_left r (Ready q) = left_most r q
few_left r _ = omega arith

plain_end : Below → (c : Channel) → IsReached c → IsLawful c.plan c.state c.log → CanGoOn c → (n : ℕ)
    → rounds_to_go_on c ≤ n
    → IsDone (after_events c (times n good_round))
plain_end below c r lawful can n enough =
    is_done below (after_events c (times n good_round)) (events_reached c (times n good_round) r)
    (plain_rounds below n c r can.plain can.playable can.no_wish c.state.stage refl
    (plain_goes c can lawful c.state.stage refl can.ready)
    (omega (arith, few_left (length c.plan.list - c.state.settled) c.state.stage, enough)))

-- ---- confirm mode

-- after a good round: no stop is wished for, nothing is on the way, and fewer rounds are left
pub record Ahead (old : ℕ) (now : Channel) : Type 0 where
  pub no_wish : now.state.stop ≡ false
  pub down : now.down ≡ []
  pub up : now.up ≡ []
  pub comes : IsInStep now.port.state now.state.stage
  pub fewer : left_from (length now.plan.list - now.state.settled) now.state.stage < old

-- a command that asks for a reply is answered, and the transition of that leads on
pub sensed : (c : Channel) (q : Phase) (d : Command) (old : ℕ) → c.plan.mode ≡ Confirming → c.state.stage ≡ Ready q
    → c.state.stop ≡ false
    → command_in c.plan.list c.plan.port q ≡ Some d → senses q ≡ true → (x : Exchanged c d (after_events c round))
    → Steps (length c.plan.list) c.state.settled old
    (port_after c.port.clips c.port.state (command_in c.plan.list c.plan.port q)) x.answer
    (turn_by Confirming c.plan.list c.plan.limit (take_after_sending q c.state.take) c.state.tries c.state.unanswered
    (is_counted c.plan.mode (exchange d x.answer)) q (answer_at (command_in c.plan.list c.plan.port q) x.answer))
    → Ahead old (after_events c round)
sensed c q d old confirms e none is s x steps_by =
    record {
      no_wish = ap (λ (z : State). z.stop) leads;
      down = x.down;
      up = x.up;
      comes = subst (λ (p : PortState). IsInStep p (after_events c round).state.stage)
          (sym (ap (λ (p : ClockedPort). p.state) x.port))
          (subst (λ (z : State). IsInStep left z.stage) (sym leads) steps.1);
      fewer = subst (λ (z : State). left_from (length c.plan.list - z.settled) z.stage < old) (sym leads) steps.2;
    }
  where
    e_is : Exchange
    e_is = exchange d x.answer

    left : PortState
    left = port_after c.port.clips c.port.state (Some d)

    transition : Transition
    transition = transition_of c.plan (sent q c.state) q e_is

    same : turn_by Confirming c.plan.list c.plan.limit (take_after_sending q c.state.take) c.state.tries
        c.state.unanswered
        (is_counted c.plan.mode e_is) q (answer_in e_is) ≡ transition
    same =
        ap (λ (mode : Mode). turn_by mode c.plan.list c.plan.limit (take_after_sending q c.state.take) c.state.tries
        c.state.unanswered
        (is_counted c.plan.mode e_is) q (answer_in e_is)) (sym confirms)
        ∙ turn_same c.plan (take_after_sending q c.state.take) c.state.tries c.state.unanswered
        (is_counted c.plan.mode e_is) q (answer_in e_is)

    steps : Steps (length c.plan.list) c.state.settled old left x.answer transition
    steps = subst (Steps (length c.plan.list) c.state.settled old left x.answer) same
        (subst (λ (o : Option Command). Steps (length c.plan.list) c.state.settled old
        (port_after c.port.clips c.port.state o) x.answer
        (turn_by Confirming c.plan.list c.plan.limit (take_after_sending q c.state.take) c.state.tries
        c.state.unanswered
        (is_counted c.plan.mode e_is) q (answer_at o x.answer))) is steps_by)

    over : is_end c.plan.mode d (Some (heard.Reply x.answer)) ≡ true
    over =
        ap (λ (mode : Mode). is_end mode d (Some (heard.Reply x.answer))) confirms
        ∙ ap (λ (b : Bool). b && not (is_receipt x.answer)) (sense_of c.plan.list c.plan.port q d is ∙ s)
        ∙ ap not steps.0

    leads : (after_events c round).state ≡ state_after transition (unanswered_after c.plan.mode e_is c.state.unanswered)
        (sent q c.state)
    leads = x.state ∙ turns_on c.plan c.state q d x.answer e none is over

confirmed_round : Below → (c : Channel) (q : Phase) → IsKept c → c.plan.mode ≡ Confirming
    → ((k : ℕ) → plays c.port.clips (slice_get c.plan.list k) ≡ true)
    → c.port.state.playing ≡ None → is_cueing_slot c.port.state.cued ≡ false
    → c.state.stage ≡ Ready q → c.state.stop ≡ false → IsReadyFor c.port.state q
    → Ahead (left_before (length c.plan.list - c.state.settled) q) (after_events c round)
confirmed_round below c q k confirms all idle ready e none before = by (command_in c.plan.list c.plan.port q) refl
  where
    place : PlaceReady c.plan.list c.port.state.cued c.aired c.state.settled q
    place = subst (PlaceAt c.plan.list c.port.clips c.port.state.cued c.aired c.state.settled) e k.stands.place

    go : (d : Command) → command_in c.plan.list c.plan.port q ≡ Some d
        → Ahead (left_before (length c.plan.list - c.state.settled) q) (after_events c round)
    go d is = which (senses q) refl
      where
        x : Exchanged c d (after_events c round)
        x = exchanged below c d k (gives_own c.plan c.state q e none ∙ is)

        left : PortState
        left = port_after c.port.clips c.port.state (Some d)

        port : (after_events c round).port.state ≡ left
        port = ap (λ (p : ClockedPort). p.state) x.port

        asked : answer_after c.port.clips c.port.state (command_in c.plan.list c.plan.port q) ≡ Some x.answer
        asked = ap (answer_after c.port.clips c.port.state) is ∙ x.answers

        which : (b : Bool) → senses q ≡ b → Ahead (left_before (length c.plan.list - c.state.settled) q)
            (after_events c round)
        which true s = sensed c q d (left_before (length c.plan.list - c.state.settled) q) confirms e none is s x
            (sense_steps c.plan.list c.port.clips c.port.state c.aired c.state.settled c.plan.port c.plan.limit
            c.state.tries c.state.unanswered
            (take_after_sending q c.state.take) (is_counted c.plan.mode (exchange d x.answer)) q x.answer
            k.stands.numbered idle ready all place before s
            asked)
        which false s =
            record {
              no_wish = ap (λ (z : State). z.stop) leads;
              down = refl;
              up = refl;
              comes = subst (λ (p : PortState). IsInStep p (after_events c round).state.stage) (sym port)
                  (subst (λ (z : State). IsInStep left z.stage) (sym leads) stays.1);
              fewer = subst (λ (z : State). left_from (length c.plan.list - z.settled) z.stage < left_before
                  (length c.plan.list - c.state.settled) q)
                  (sym leads) stays.2;
            }
          where
            stays : Stays (length c.plan.list - c.state.settled) left q x.answer
            stays = subst (λ (o : Option Command). Stays (length c.plan.list - c.state.settled)
                (port_after c.port.clips c.port.state o) q x.answer) is
                (receipt_stays c.plan.list c.port.clips c.port.state c.aired c.state.settled c.plan.port q x.answer
                k.stands.numbered all place before s
                asked)

            leads : (after_events c round).state ≡ sent q c.state
            leads =
                x.state
                ∙ below.receipt_stays c.plan (ticked c.state) (Some (heard.Reply x.answer)) confirms stays.0
                ∙ ticks_on c.state q e none

    by : (o : Option Command) → command_in c.plan.list c.plan.port q ≡ o
        → Ahead (left_before (length c.plan.list - c.state.settled) q) (after_events c round)
    by None is =
        absurd (gives_some c.plan.list c.plan.port c.port.state.cued c.aired c.state.settled q
        (sent_place c.plan.list c.port.state.cued c.aired c.state.settled q place) is)
    by (Some d) is = go d is

-- the round after a time-out
pub confirmed_behind : Below → (c : Channel) (q : Phase) (s : State) → IsKept c → c.plan.mode ≡ Confirming
    → IsAllPlayable c
    → state_waiting c.plan c.down c.up c.state ≡ s → s.stage ≡ Ready q → s.stop ≡ false → s.settled ≡ c.state.settled
    → IsReadyFor c.port.state q
    → Ahead (left_before (length c.plan.list - c.state.settled) q) (after_events c good_round)
confirmed_behind below c q s k confirms all is e none same before =
    subst (λ (n : ℕ). Ahead (left_before (length c.plan.list - n) q) (after_events c good_round))
    (ap (λ (z : State). z.settled) is ∙ same)
    (confirmed_round below (after_events c (event.Timeout ∷ event.Ready ∷ event.End ∷ [])) q (waited_kept below c k)
    confirms
    (plays_at c.port.clips c.plan.list all) refl (ready_slot c.port.state.cued)
    (ap (λ (z : State). z.stage) is ∙ e) (ap (λ (z : State). z.stop) is ∙ none) (before_stays c.port.state q before))

-- nothing is on the way: what is awaited times out
pub times_out : (c : Channel) (down up : List ℕ) (q : Phase) (d : Command) → down ≡ [] → up ≡ []
    → c.plan.mode ≡ Confirming → c.state.stage ≡ Awaiting q
    → command_in c.plan.list c.plan.port q ≡ Some d
    → (is_sense d && nat_le c.plan.limit (c.state.unanswered + 1)) ≡ false
    → state_waiting c.plan down up c.state
    ≡ state_after (on_no_answer Confirming q) (unanswered_after c.plan.mode (record { command = d; heard = None })
    c.state.unanswered) c.state
times_out c [] [] q d x y confirms e is spare = waits_over c.plan c.state q d confirms e is spare
times_out c [] (b ∷ up) q d x y confirms e is spare = cc
times_out c (b ∷ down) up q d x y confirms e is spare = cc

-- what only a receipt answers doesn't count
uncounted : (limit unanswered : ℕ) (d : Command) → is_sense d ≡ false
    → (is_sense d && nat_le limit (unanswered + 1)) ≡ false
uncounted limit unanswered d no_sense = ap (λ (b : Bool). b && nat_le limit (unanswered + 1)) no_sense

-- a receipt has answered the phase's command: it times out, and the next phase asks what came of it
confirmed_lapse : Below → (c : Channel) (q next : Phase) → IsKept c → c.plan.mode ≡ Confirming → IsAllPlayable c
    → c.state.stop ≡ false
    → c.down ≡ [] → c.up ≡ [] → c.state.stage ≡ Awaiting q → senses q ≡ false
    → on_no_answer Confirming q ≡ transition.Goes next → IsReadyFor c.port.state next
    → Ahead (left_before (length c.plan.list - c.state.settled) next) (after_events c good_round)
confirmed_lapse below c q next k confirms all none down up e no_sense leads before =
    by (command_in c.plan.list c.plan.port q) refl
  where
    by : (o : Option Command) → command_in c.plan.list c.plan.port q ≡ o
        → Ahead (left_before (length c.plan.list - c.state.settled) next) (after_events c good_round)
    by None is =
        absurd (gives_some c.plan.list c.plan.port c.port.state.cued c.aired c.state.settled q
        (subst (PlaceAt c.plan.list c.port.clips c.port.state.cued c.aired c.state.settled) e k.stands.place) is)
    by (Some d) is =
        confirmed_behind below c next _ k confirms all
        (times_out c c.down c.up q d down up confirms e is
        (uncounted c.plan.limit c.state.unanswered d (sense_of c.plan.list c.plan.port q d is ∙ no_sense)))
        (ap stage_after leads) none (ap (λ (transition : Transition). settled_after transition c.state.settled) leads)
        before

-- the port has closed, and says so by a receipt: the controller is done
confirmed_close : (c : Channel) → c.plan.mode ≡ Confirming → c.state.stop ≡ false → c.down ≡ [] → c.up ≡ []
    → c.state.stage ≡ Awaiting phase.Close
    → Ahead 1 (after_events c good_round)
confirmed_close c confirms none down up e = record {
  no_wish = ap (λ (z : State). z.stop) (ended ∙ over) ∙ none;
  down = refl;
  up = refl;
  comes = subst (IsInStep (after_events c good_round).port.state) (sym (ap (λ (z : State). z.stage) (ended ∙ over))) tt;
  fewer = subst (λ (stage : Stage). left_from (length c.plan.list - (after_events c good_round).state.settled) stage <
      1)
      (sym (ap (λ (z : State). z.stage) (ended ∙ over))) (omega arith);
}
  where
    over : state_waiting c.plan c.down c.up c.state
        ≡ state_after (on_no_answer Confirming phase.Close)
        (unanswered_after c.plan.mode (record { command = command.Close c.plan.port; heard = None }) c.state.unanswered)
        c.state
    over = times_out c c.down c.up phase.Close (command.Close c.plan.port) down up confirms e refl refl

    ended : (after_events c good_round).state ≡ state_waiting c.plan c.down c.up c.state
    ended = ended_round (after_events c (event.Timeout ∷ event.Ready ∷ event.End ∷ [])) outcome.Done
        (ap (λ (z : State). z.stage) over)

-- fewer rounds are left, wherever it is
confirmed_awaiting : Below → (c : Channel) (q : Phase) → IsKept c → c.plan.mode ≡ Confirming → IsAllPlayable c
    → c.state.stop ≡ false
    → c.down ≡ [] → c.up ≡ [] → c.state.stage ≡ Awaiting q → HasExecuted c.port.state q
    → Ahead (left_behind (length c.plan.list - c.state.settled) q) (after_events c good_round)
confirmed_awaiting below c phase.Select k confirms all none down up e comes =
    confirmed_lapse below c phase.Select phase.Seen k confirms all none down up e refl refl comes
confirmed_awaiting below c (phase.Cue i) k confirms all none down up e comes =
    confirmed_lapse below c (phase.Cue i) (phase.Wait i) k confirms all none down up e refl refl comes
confirmed_awaiting below c (phase.Play i) k confirms all none down up e comes =
    confirmed_lapse below c (phase.Play i) (phase.Probe i) k confirms all none down up e refl refl comes
confirmed_awaiting below c phase.Close k confirms all none down up e comes = confirmed_close c confirms none down up e
confirmed_awaiting below c _ k confirms all none down up e comes = absurd comes

pub confirmed_ready : Below → (c : Channel) (q : Phase) → IsKept c → c.plan.mode ≡ Confirming → IsAllPlayable c
    → c.state.stop ≡ false
    → c.state.stage ≡ Ready q → IsReadyFor c.port.state q
    → Ahead (left_before (length c.plan.list - c.state.settled) q) (after_events c good_round)
confirmed_ready below c q k confirms all none e comes =
    confirmed_behind below c q c.state k confirms all
    (waits_still c.plan c.down c.up c.state (ap (awaited_in c.plan) e)) e none refl comes

none_fewer : {m left : ℕ} → m < left → left ≤ 0 → ⊥
none_fewer fewer few = omega (arith, fewer, few)

pub confirmed_rounds : Below → (n : ℕ) (c : Channel) → IsReached c → c.plan.mode ≡ Confirming → IsAllPlayable c
    → c.state.stop ≡ false
    → c.down ≡ [] → c.up ≡ [] → (stage : Stage) → c.state.stage ≡ stage → IsInStep c.port.state stage
    → left_from (length c.plan.list - c.state.settled) stage ≤ n
    → (after_events c (times n good_round)).state.stage ≡ Ended outcome.Done
confirmed_rounds below n c r confirms all none down up (Ended outcome.Done) e comes few =
    ended_stays_on n c outcome.Done e
confirmed_rounds below zero c r confirms all none down up (Ready q) e comes few =
    absurd (none_fewer (confirmed_ready below c q (reached_kept below c r) confirms all none e comes).fewer few)
confirmed_rounds below zero c r confirms all none down up (Awaiting q) e comes few =
    absurd (none_fewer (confirmed_awaiting below c q (reached_kept below c r) confirms all none down up e comes).fewer
    few)
confirmed_rounds below (suc n) c r confirms all none down up (Ready q) e comes few =
    let on = confirmed_ready below c q (reached_kept below c r) confirms all none e comes in
    let now = after_events c good_round in
    confirmed_rounds below n now (events_reached c good_round r) confirms (still_playable c all) on.no_wish on.down
    on.up now.state.stage refl on.comes
    (omega (arith, on.fewer, few))
confirmed_rounds below (suc n) c r confirms all none down up (Awaiting q) e comes few =
    let on = confirmed_awaiting below c q (reached_kept below c r) confirms all none down up e comes in
    let now = after_events c good_round in
    confirmed_rounds below n now (events_reached c good_round r) confirms (still_playable c all) on.no_wish on.down
    on.up now.state.stage refl on.comes
    (omega (arith, on.fewer, few))
confirmed_rounds below n c r confirms all none down up _ e comes few = absurd comes

confirmed_end : Below → (c : Channel) → IsReached c → CanBegin c → (n : ℕ) → rounds_from_new c ≤ n
    → IsDone (after_events c (times n good_round))
confirmed_end below c r can n enough =
    let begins : c.state ≡ start = ap (λ (x : Channel). x.state) can.is_new in
    let stage : c.state.stage ≡ Ready phase.Open = ap (λ (z : State). z.stage) begins in
    is_done below (after_events c (times n good_round)) (events_reached c (times n good_round) r)
    (confirmed_rounds below n c r can.confirming can.playable (ap (λ (z : State). z.stop) begins)
    (ap (λ (x : Channel). x.down) can.is_new)
    (ap (λ (x : Channel). x.up) can.is_new) (Ready phase.Open) stage tt (omega (arith, enough)))

pub bounded_end : Below → ((plan : Plan) (state : State) (log : List Exchange) → Reached plan state log → IsLawful plan
    state log)
    → (c : Channel) → IsReached c → BoundedEnd c
bounded_end below lawful c r = record {
  plain = λ can n enough. plain_end below c r (lawful c.plan c.state c.log (controller_reached c r)) can n enough;
  confirming = λ can n enough. confirmed_end below c r can n enough;
}
