-- The bounded end in confirm mode, of channels in which something has happened.
use Rattle.std.proofs.Common.{ℕ, zero, suc, nat_le, ◌+◌, ◌-◌, ◌*◌, ◌≡◌, ◌<◌, ◌≤◌, Bool, true, false, List, [], ◌∷◌, length, refl, sym, ap, subst, ◌∙◌, arith}
use Rattle.std.specs.Prelude.{None, Some, IsTrue}
use Rattle.vdcp_value.specs.declared.clip_id.ClipId.{ClipId}
use Rattle.vdcp_value.specs.declared.part.Item.{Item}
use Rattle.vdcp_value.specs.declared.timecode.Timecode.{Timecode}
use Rattle.vdcp_words.specs.declared.command.Command.{Command}
use Rattle.vdcp_words.specs.declared.command.Command.TheVariants as command
use Rattle.vdcp_words.specs.declared.reply.Reply.{Reply}
use Rattle.vdcp_port.specs.Clock.{ClockedPort}
use Rattle.vdcp_port.specs.Port.{PortState, is_open, is_selected, is_empty as is_empty_slot, is_cueing as is_cueing_slot}
use Rattle.vdcp_auto.specs.Course.{Reached}
use Rattle.vdcp_auto.specs.Law.{IsLawful}
use Rattle.vdcp_auto.specs.Log.{is_counted}
use Rattle.vdcp_auto.specs.Plan.{Plan}
use Rattle.vdcp_auto.specs.Replies.{is_receipt}
use Rattle.vdcp_auto.specs.Table.{is_halting}
use Rattle.vdcp_auto.specs.Turn.{is_ready, awaited_in, sent, ticked}
use Rattle.vdcp_auto.specs.declared.exchange.Exchange.{Exchange}
use Rattle.vdcp_auto.specs.declared.exchange.Heard.TheVariants as heard
use Rattle.vdcp_auto.specs.declared.outcome.Outcome.TheVariants as outcome
use Rattle.vdcp_auto.specs.declared.phase.Mode.TheVariants.{Confirming}
use Rattle.vdcp_auto.specs.declared.phase.Phase.{Phase}
use Rattle.vdcp_auto.specs.declared.phase.Phase.TheVariants as phase
use Rattle.vdcp_auto.specs.State.{Stage, Ready, Awaiting, Ended, State}
use Rattle.vdcp_world.specs.BoundedEnd.{IsDone, IsAllPlayable}
use Rattle.vdcp_world.specs.Channel.{Channel, IsReached, after_events}
use Rattle.vdcp_world.specs.InStep.{IsReadyFor, GoesInStep, CanCatchUp, rounds_in_step, InStepEnd}
use Rattle.vdcp_world.specs.Rounds.{round, good_round, times}
use Rattle.vdcp_world.specs.declared.event.Event.TheVariants as event
use Rattle.vdcp_world.specs.Below.{Below}
use Rattle.vdcp_world.proofs.BoundedEndProof.{Ahead, sensed, times_out, is_done, still_playable, ready_slot, waited_kept, confirmed_behind, confirmed_ready, confirmed_rounds}
use Rattle.vdcp_world.proofs.ConfirmedRounds.{left_from, left_before, Steps, slot_stays}
use Rattle.vdcp_world.proofs.Exchanges.{turn_by}
use Rattle.vdcp_world.proofs.GoodRound.{exchanged, exchange, waits_still, ticks_on, gives_own}
use Rattle.vdcp_world.proofs.HeadlineProof.{reached_kept, controller_reached}
use Rattle.vdcp_world.proofs.Opened.{Opened, OpenedAt, reached_opened}
use Rattle.vdcp_world.proofs.PhaseTable.{answer_after, port_after}
use Rattle.vdcp_world.proofs.Reached.{events_reached}
use Rattle.vdcp_world.proofs.RoundsLeft.{answer_at}
use Rattle.vdcp_world.proofs.Claims.{IsKept}

-- ---- in step

left_most : (r : ℕ) (stage : Stage) → left_from r stage ≤ 6 * r + 6
left_most r (Ended o) = omega arith
left_most r _ = grind arith

in_step_end : Below → (c : Channel) → IsReached c → GoesInStep c → (n : ℕ) → rounds_in_step c ≤ n
    → IsDone (after_events c (times n good_round))
in_step_end below c r goes n enough =
    is_done below (after_events c (times n good_round)) (events_reached c (times n good_round) r)
    (confirmed_rounds below n c r goes.confirming goes.playable goes.no_wish goes.nothing_down goes.nothing_up
    c.state.stage refl goes.in_step
    (omega (arith, left_most (length c.plan.list - c.state.settled) c.state.stage, enough)))

-- ---- after a good round that leads on

ahead_done : Below → (n : ℕ) (c : Channel) → IsReached c → c.plan.mode ≡ Confirming → IsAllPlayable c → (old : ℕ)
    → Ahead old (after_events c good_round) → old ≤ n
    → (after_events c (times n good_round)).state.stage ≡ Ended outcome.Done
ahead_done below zero c r confirms all old on enough = absurd (omega (arith, on.fewer, enough))
ahead_done below (suc n) c r confirms all old on enough =
    let now = after_events c good_round in
    confirmed_rounds below n now (events_reached c good_round r) confirms (still_playable c all) on.no_wish on.down
    on.up now.state.stage refl on.comes
    (omega (arith, on.fewer, enough))

-- ---- a cue or a PLAY that was lost: a status shows it, and the command is sent again

status : Command
status = command.Status 1

module _ (list : List Item) (clips : List (ClipId × Timecode)) (p : PortState) (settled limit tries unanswered : ℕ)
    (take counts : Bool) where
  lost_cue : (k : ℕ) (r : Reply) → p.playing ≡ None → is_selected p ≡ true → is_empty_slot p.cued ≡ true
      → tries + 1 < limit → answer_after clips p (Some (command.Status 1)) ≡ Some r
      → Steps (length list) settled (6 * (length list - settled) + 3) (port_after clips p (Some (command.Status 1))) r
      (turn_by Confirming list limit take tries unanswered counts (phase.Wait k) (answer_at (Some (command.Status 1))
      r))
  lost_cue k r idle selected lost spare a = grind arith

  lost_play : (k : ℕ) (r : Reply) → p.playing ≡ None → is_selected p ≡ true → is_empty_slot p.cued ≡ false
      → is_cueing_slot p.cued ≡ false → answer_after clips p (Some (command.Status 1)) ≡ Some r
      → Steps (length list) settled (6 * (length list - settled) + 1) (port_after clips p (Some (command.Status 1))) r
      (turn_by Confirming list limit take tries unanswered counts (phase.Probe k) (answer_at (Some (command.Status 1))
      r))
  lost_play k r idle selected lost ready a = grind arith

wait_round : Below → (c : Channel) (k : ℕ) → IsKept c → c.plan.mode ≡ Confirming → c.state.stage ≡ Ready (phase.Wait k)
    → c.state.stop ≡ false
    → c.port.state.playing ≡ None → is_selected c.port.state ≡ true → is_empty_slot c.port.state.cued ≡ true
    → c.state.tries + 1 < c.plan.limit
    → Ahead (6 * (length c.plan.list - c.state.settled) + 3) (after_events c round)
wait_round below c k kept confirms e none idle selected lost spare =
    let x = exchanged below c (command.Status 1) kept (gives_own c.plan c.state (phase.Wait k) e none) in
    sensed c (phase.Wait k) (command.Status 1) _ confirms e none refl refl x
    (lost_cue c.plan.list c.port.clips c.port.state c.state.settled c.plan.limit c.state.tries c.state.unanswered
    c.state.take
    (is_counted c.plan.mode (exchange (command.Status 1) x.answer)) k x.answer idle selected lost spare x.answers)

probe_round : Below → (c : Channel) (k : ℕ) → IsKept c → c.plan.mode ≡ Confirming
    → c.state.stage ≡ Ready (phase.Probe k) → c.state.stop ≡ false
    → c.port.state.playing ≡ None → is_selected c.port.state ≡ true → is_empty_slot c.port.state.cued ≡ false
    → is_cueing_slot c.port.state.cued ≡ false
    → Ahead (6 * (length c.plan.list - c.state.settled) + 1) (after_events c round)
probe_round below c k kept confirms e none idle selected lost ready =
    let x = exchanged below c (command.Status 1) kept (gives_own c.plan c.state (phase.Probe k) e none) in
    sensed c (phase.Probe k) (command.Status 1) _ confirms e none refl refl x
    (lost_play c.plan.list c.port.clips c.port.state c.state.settled c.plan.limit c.state.tries c.state.unanswered
    c.state.take
    (is_counted c.plan.mode (exchange (command.Status 1) x.answer)) k x.answer idle selected lost ready x.answers)

-- what the port waits for has come before the round

abbrev waited : Channel → Channel
waited c = after_events c (event.Timeout ∷ event.Ready ∷ event.End ∷ [])

still : (c : Channel) (q : Phase) → c.state.stage ≡ Ready q → (waited c).state ≡ c.state
still c q e = waits_still c.plan c.down c.up c.state (ap (awaited_in c.plan) e)

wait_ahead : Below → (c : Channel) (k : ℕ) → IsKept c → c.plan.mode ≡ Confirming → c.state.stage ≡ Ready (phase.Wait k)
    → c.state.stop ≡ false
    → is_selected c.port.state ≡ true → is_empty_slot c.port.state.cued ≡ true → c.state.tries + 1 < c.plan.limit
    → Ahead (6 * (length c.plan.list - c.state.settled) + 3) (after_events c good_round)
wait_ahead below c k kept confirms e none selected lost spare =
    let same = still c (phase.Wait k) e in
    subst (λ (s : State). Ahead (6 * (length c.plan.list - s.settled) + 3) (after_events c good_round)) same
    (wait_round below (waited c) k (waited_kept below c kept) confirms (ap (λ (s : State). s.stage) same ∙ e)
    (ap (λ (s : State). s.stop) same ∙ none)
    refl selected (slot_stays c.port.state.cued ∙ lost) (subst (λ (s : State). s.tries + 1 < c.plan.limit) (sym same)
    spare))

probe_ahead : Below → (c : Channel) (k : ℕ) → IsKept c → c.plan.mode ≡ Confirming
    → c.state.stage ≡ Ready (phase.Probe k) → c.state.stop ≡ false
    → is_selected c.port.state ≡ true → is_empty_slot c.port.state.cued ≡ false
    → Ahead (6 * (length c.plan.list - c.state.settled) + 1) (after_events c good_round)
probe_ahead below c k kept confirms e none selected lost =
    let same = still c (phase.Probe k) e in
    subst (λ (s : State). Ahead (6 * (length c.plan.list - s.settled) + 1) (after_events c good_round)) same
    (probe_round below (waited c) k (waited_kept below c kept) confirms (ap (λ (s : State). s.stage) same ∙ e)
    (ap (λ (s : State). s.stop) same ∙ none)
    refl selected (slot_stays c.port.state.cued ∙ lost) (ready_slot c.port.state.cued))

-- ---- a SELECT that was lost: the port refuses the status, which times out, and SELECT is sent again

-- after a round: the status is awaited, and nothing is on the way
record AwaitsSeen (old now : Channel) : Type 0 where
  pub stage : now.state.stage ≡ Awaiting phase.Seen
  pub no_wish : now.state.stop ≡ false
  pub down : now.down ≡ []
  pub up : now.up ≡ []
  pub is_open : is_open now.port.state ≡ true
  pub settled : now.state.settled ≡ old.state.settled
  pub unanswered : now.state.unanswered ≡ old.state.unanswered

refuses_status : (clips : List (ClipId × Timecode)) (p : PortState) (r : Reply) → is_selected p ≡ false
    → answer_after clips p (Some (command.Status 1)) ≡ Some r → is_receipt r ≡ true
refuses_status clips p r s a = grind arith

keeps_open : (clips : List (ClipId × Timecode)) (p : PortState) → is_open p ≡ true
    → is_open (port_after clips p (Some (command.Status 1))) ≡ true
keeps_open clips p o = grind arith

seen_round : Below → (c : Channel) → IsKept c → c.plan.mode ≡ Confirming → c.state.stage ≡ Ready phase.Seen
    → c.state.stop ≡ false
    → is_open c.port.state ≡ true → is_selected c.port.state ≡ false → AwaitsSeen c (after_events c round)
seen_round below c kept confirms e none is_open unselected =
    let x = exchanged below c (command.Status 1) kept (gives_own c.plan c.state phase.Seen e none) in
    let leads : (after_events c round).state ≡ sent phase.Seen c.state = x.state
    ∙ below.receipt_stays c.plan (ticked c.state) (Some (heard.Reply x.answer)) confirms
    (refuses_status c.port.clips c.port.state x.answer unselected x.answers)
    ∙ ticks_on c.state phase.Seen e none in
    record {
      stage = ap (λ (s : State). s.stage) leads;
      no_wish = ap (λ (s : State). s.stop) leads;
      down = x.down;
      up = x.up;
      is_open = ap (λ (p : ClockedPort). is_open_of p) x.port ∙ keeps_open c.port.clips c.port.state is_open;
      settled = ap (λ (s : State). s.settled) leads;
      unanswered = ap (λ (s : State). s.unanswered) leads;
    }
  where
    is_open_of : ClockedPort → Bool
    is_open_of p = Rattle.vdcp_port.specs.Port.is_open p.state

more : (limit unanswered : ℕ) → unanswered + 1 < limit → nat_le limit (unanswered + 1) ≡ false
more limit unanswered spare = grind arith

seen_ahead : Below → (c old : Channel) → IsKept c → c.plan.mode ≡ Confirming → IsAllPlayable c
    → old.state.unanswered + 1 < c.plan.limit
    → AwaitsSeen old c → Ahead (6 * (length c.plan.list - c.state.settled) + 5) (after_events c good_round)
seen_ahead below c old kept confirms all spare a =
    confirmed_behind below c phase.Select _ kept confirms all
    (times_out c c.down c.up phase.Seen (command.Status 1) a.down a.up confirms a.stage refl
    (more c.plan.limit c.state.unanswered (subst (λ (n : ℕ). n + 1 < c.plan.limit) (sym a.unanswered) spare)))
    refl a.no_wish refl a.is_open

seen_settled : Below → (c : Channel) → IsKept c → c.plan.mode ≡ Confirming → c.state.stage ≡ Ready phase.Seen
    → c.state.stop ≡ false
    → is_open c.port.state ≡ true → is_selected c.port.state ≡ false → AwaitsSeen c (after_events c good_round)
seen_settled below c kept confirms e none is_open unselected =
    let same = still c phase.Seen e in
    subst (λ (s : State). AwaitsSeen (record c { state = s }) (after_events c good_round)) same
    (again (seen_round below (waited c) (waited_kept below c kept) confirms (ap (λ (s : State). s.stage) same ∙ e)
    (ap (λ (s : State). s.stop) same ∙ none) is_open unselected))
  where
    again : AwaitsSeen (waited c) (after_events c good_round) → AwaitsSeen (record c { state = (waited c).state })
        (after_events c good_round)
    again a = record {
      stage = a.stage;
      no_wish = a.no_wish;
      down = a.down;
      up = a.up;
      is_open = a.is_open;
      settled = a.settled;
      unanswered = a.unanswered;
    }

-- ---- all of it

catches_up : Below → (c : Channel) (q : Phase) → IsReached c → CanCatchUp c → c.state.stage ≡ Ready q
    → is_halting q ≡ false → Opened c.port.state q
    → (n : ℕ) → rounds_in_step c ≤ n → (after_events c (times n good_round)).state.stage ≡ Ended outcome.Done
catches_up below c q r can e goes opened n enough = by q e goes opened
  where
    kept : IsKept c
    kept = reached_kept below c r

    most : (r : ℕ) (q : Phase) → left_before r q ≤ 6 * r + 6
    most r q = grind arith

    in_step : (q : Phase) → c.state.stage ≡ Ready q → IsReadyFor c.port.state q
        → (after_events c (times n good_round)).state.stage ≡ Ended outcome.Done
    in_step q e fits =
        ahead_done below n c r can.confirming can.playable _ (confirmed_ready below c q kept can.confirming can.playable
        can.no_wish e fits)
        (omega (arith, most (length c.plan.list - c.state.settled) q, enough))

    seen : (n : ℕ) → rounds_in_step c ≤ n → c.state.stage ≡ Ready phase.Seen → is_open c.port.state ≡ true
        → is_selected c.port.state ≡ false
        → (after_events c (times n good_round)).state.stage ≡ Ended outcome.Done
    seen zero enough e is_open unselected = absurd (omega (arith, enough))
    seen (suc n) enough e is_open unselected =
        let now = after_events c good_round in
        let a = seen_settled below c kept can.confirming e can.no_wish is_open unselected in
        ahead_done below n now (events_reached c good_round r) can.confirming (still_playable c can.playable) _
        (seen_ahead below now c (reached_kept below now (events_reached c good_round r)) can.confirming
        (still_playable c can.playable) can.spare_exchange a)
        (omega (arith, enough, a.settled))

    by : (q : Phase) → c.state.stage ≡ Ready q → is_halting q ≡ false → Opened c.port.state q
        → (after_events c (times n good_round)).state.stage ≡ Ended outcome.Done
    by phase.Open e goes opened = in_step phase.Open e tt
    by phase.Seen e goes opened = which (is_selected c.port.state) refl
      where
        which : (b : Bool) → is_selected c.port.state ≡ b → (after_events c (times n good_round)).state.stage ≡ Ended
            outcome.Done
        which true selected = in_step phase.Seen e selected
        which false unselected = seen n enough e opened unselected
    by (phase.Wait k) e goes opened = which (is_empty_slot c.port.state.cued) refl
      where
        which : (b : Bool) → is_empty_slot c.port.state.cued ≡ b
            → (after_events c (times n good_round)).state.stage ≡ Ended outcome.Done
        which true lost =
            ahead_done below n c r can.confirming can.playable _
            (wait_ahead below c k kept can.confirming e can.no_wish opened lost can.spare_try) (omega (arith, enough))
        which false there = in_step (phase.Wait k) e (opened, there)
    by (phase.Probe k) e goes opened = which (is_empty_slot c.port.state.cued) refl
      where
        which : (b : Bool) → is_empty_slot c.port.state.cued ≡ b
            → (after_events c (times n good_round)).state.stage ≡ Ended outcome.Done
        which true played = in_step (phase.Probe k) e (opened, played)
        which false lost =
            ahead_done below n c r can.confirming can.playable _
            (probe_ahead below c k kept can.confirming e can.no_wish opened lost) (omega (arith, enough))
    by phase.Close e goes opened = in_step phase.Close e tt
    by phase.Halt e goes opened = cc
    by phase.HaltClose e goes opened = cc
    by q e goes opened = in_step q e opened

catch_up_end : Below → (c : Channel) → IsReached c → IsLawful c.plan c.state c.log → CanCatchUp c → (n : ℕ)
    → rounds_in_step c ≤ n
    → IsDone (after_events c (times n good_round))
catch_up_end below c r lawful can n enough =
    is_done below (after_events c (times n good_round)) (events_reached c (times n good_round) r)
    (by c.state.stage refl can.ready (reached_opened below c r))
  where
    impossible : true ≡ false → ⊥
    impossible e = cc

    on : (q : Phase) (b : Bool) → c.state.stage ≡ Ready q → is_halting q ≡ b → is_halting q ≡ false
    on q true e halts = absurd (impossible (sym (lawful.is_stopped q e halts) ∙ can.no_stop))
    on q false e halts = halts

    by : (stage : Stage) → c.state.stage ≡ stage → IsTrue (is_ready stage) → OpenedAt c.port.state stage
        → (after_events c (times n good_round)).state.stage ≡ Ended outcome.Done
    by (Ready q) e ready opened = catches_up below c q r can e (on q (is_halting q) e refl) opened n enough
    by _ e ready opened = cc

pub in_step_ends : Below → ((plan : Plan) (state : State) (log : List Exchange) → Reached plan state log
    → IsLawful plan state log)
    → (c : Channel) → IsReached c → InStepEnd c
in_step_ends below lawful c r = record {
  in_step = λ goes n enough. in_step_end below c r goes n enough;
  catches_up = λ can n enough. catch_up_end below c r (lawful c.plan c.state c.log (controller_reached c r)) can n
      enough;
}
