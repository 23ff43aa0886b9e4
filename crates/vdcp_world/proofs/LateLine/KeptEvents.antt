-- Every event keeps what holds of a late channel, where the claim is closed.
use Rattle.std.proofs.Common.{ℕ, ◌≡◌, ◌⊎◌, inl, inr, Bool, true, false, List, [], ◌∷◌, ◌++◌, refl, arith, sym, ap, subst, ◌∙◌, if◌then◌else◌}
use Rattle.std.proofs.lemmas.Bool.{or_cases}
use Rattle.std.specs.Prelude.{Option, None, Some, remove}
use Rattle.vdcp_value.specs.declared.clip_id.ClipId.{ClipId}
use Rattle.vdcp_value.specs.declared.part.Item.{Item}
use Rattle.vdcp_value.specs.declared.timecode.Timecode.{Timecode}
use Rattle.vdcp_frame.specs.Burst.{messages_of}
use Rattle.vdcp_frame.specs.Message.{Content, spelling}
use Rattle.vdcp_words.specs.Commands.{command_message}
use Rattle.vdcp_words.specs.declared.command.Command.{Command}
use Rattle.vdcp_words.specs.declared.reply.Reply.{Reply}
use Rattle.vdcp_words.specs.declared.reply.Reply.TheVariants.{Ack, Nak}
use Rattle.vdcp_port.specs.Answers.{sent_for, aired_for, after_burst}
use Rattle.vdcp_port.specs.Clock.{ClockedPort, after_ready, after_ended, after_frame, counted_down, completes_cue, ends_clip}
use Rattle.vdcp_port.specs.Port.{Cued, is_selected}
use Rattle.vdcp_auto.specs.Course.{Reached, called, logged, Receive}
use Rattle.vdcp_auto.specs.Heard.{heard_in, heard_first}
use Rattle.vdcp_auto.specs.Replies.{is_receipt}
use Rattle.vdcp_auto.specs.Settled.{may_have_aired}
use Rattle.vdcp_auto.specs.Table.{command_in}
use Rattle.vdcp_auto.specs.Turn.{awaited_in, ended_by, exchange_of, given, given_in, ticked, tick_in, taken, stopped, came_to, phase_to_send}
use Rattle.vdcp_auto.specs.declared.exchange.Exchange.{Exchange}
use Rattle.vdcp_auto.specs.declared.exchange.Heard.{Heard}
use Rattle.vdcp_auto.specs.declared.exchange.Heard.TheVariants as heard
use Rattle.vdcp_auto.specs.declared.phase.Mode.{Mode}
use Rattle.vdcp_auto.specs.declared.phase.Mode.TheVariants.{Plain, Confirming}
use Rattle.vdcp_auto.specs.declared.phase.Phase.{Phase}
use Rattle.vdcp_auto.specs.State.{Stage, Ready, Awaiting, State}
use Rattle.std.specs.Option.{option_and_then}
use Rattle.vdcp_auto.specs.declared.phase.Phase.TheVariants as phase
use Rattle.vdcp_world.specs.LateLine.Asking.{asked_by, asked_in}
use Rattle.vdcp_world.specs.LateLine.Asking.{Question}
use Rattle.vdcp_world.specs.LateLine.Asking as question
use Rattle.vdcp_world.specs.Channel.{state_hearing, log_hearing, state_straying, log_straying, Make}
use Rattle.vdcp_world.specs.LateLine.Damage.{can_become, can_become_up, is_junk_down, is_junk_up, is_no_answer}
use Rattle.vdcp_world.specs.LateLine.LateHeadline.{log_so_far}
use Rattle.vdcp_world.specs.LateLine.LateChannel.{LateChannel, after_late_event, without_oldest, oldest, command_bursts, bursts_of, made_anew}
use Rattle.vdcp_world.specs.LateLine.LateEvent.{LateEvent}
use Rattle.vdcp_world.specs.LateLine.LateEvent as event
use Rattle.vdcp_world.proofs.Beginnings.{is_beginning_of}
use Rattle.vdcp_world.specs.Below.{Below}
use Rattle.vdcp_world.proofs.LateLine.Carrying.{carries_pushed, carries_same, Left, left_same, left_rest, left_without, carries_junk, Damages, left_damaged}
use Rattle.vdcp_world.proofs.LateLine.Claims.{Claim, Closed, Comes, Exactly, Steady, exactly, thins}
use Rattle.vdcp_world.proofs.LateLine.Exactness.{came_may, exact_sends, is_exact_at, is_exact_in, may_in, no_arm, sent_may}
use Rattle.vdcp_world.proofs.LateLine.Kept.{IsJunkDown, IsCommand, IsJunkUp, IsAnswer, DownCarries, UpCarries, StandsAt, IsKept, writable, Delivered, delivered_nothing, delivered_command, with_state, with_port, with_down, with_up, with_delivery, with_hearing}
use Rattle.vdcp_world.proofs.LateLine.Places.{Answer, Exact, arms, plays}
use Rattle.vdcp_world.proofs.OnTheWay.{ReadsCommand}
use Rattle.vdcp_world.proofs.WayLemmas.{reads_nothing, reads_command}
use Rattle.vdcp_world.proofs.LateLine.Thinning.{Thins, all_left}
use Rattle.vdcp_world.proofs.WayKept.{front_of_none}
use Rattle.vdcp_world.proofs.Reached.{make_frame}
use Rattle.vdcp_world.proofs.LateLine.Lessening.{Ages, same_ages, ready_ages, anew_ages, copied, unwrapped}

-- ---- a tick

-- by the log and what is awaited, one event more than are settled may have aired
abbrev pub may : LateChannel → Bool
may c = may_have_aired c.plan.mode (log_so_far c)

abbrev pub ExactlyIn : Claim → LateChannel → Claim
ExactlyIn S c = Exactly S (may c)

last_left : {X : Type 0} → (xs : List X) (x : X) → Thins (xs ++ x ∷ []) xs
last_left [] x = inl refl
last_left (y ∷ xs) x = inr (xs, refl, last_left xs x)

-- what joins the queue down
pub record Ticked (mode : Mode) (S : Claim) (c : LateChannel) (ups : List Answer) : Type 0 where
  pub downs : List Phase
  pub down_is : DownCarries c.plan.list c.plan.port c.port.state.unit
      (c.down ++ command_bursts c.port.state.unit (given c.plan c.state)) downs
  pub stands : StandsAt (ExactlyIn S (after_late_event c event.Tick)) c.plan.list c.port (ticked c.state).settled
      (ticked c.state).stage c.aired ups downs

module _ (mode : Mode) (S : Claim) where
  -- what is sent neither plays nor arms, or its phase says what aired
  exact_sent : Closed mode S → (list : List Item) (clips : List (ClipId × Timecode)) (settled : ℕ) (s : Bool) (a : Cued)
      (aired : List Item) (ups : List Answer) (downs : List Phase) (q : Phase) (b : Bool) → is_exact_in q ≡ b
      → plays q ≡ false → S list clips settled s a aired ups (downs ++ q ∷ []) (Awaiting q)
      → Exact list settled s a aired downs → Exact list settled s a aired (downs ++ q ∷ [])
  exact_sent closed list clips settled s a aired ups downs q true is silent h e =
      closed.exact list clips settled s a aired ups (downs ++ q ∷ []) (Awaiting q) is h
  exact_sent closed list clips settled s a aired ups downs q false is silent h e =
      exact_sends list settled s a aired downs q silent (no_arm q is) e

  ticked_kept : Closed mode S → Below → (c : LateChannel) (k : IsKept mode (ExactlyIn S c) c) → Ticked mode S c k.ups
  ticked_kept closed below c k =
      let (downs, queue, h) = at c.state.stage k.stands in record { downs = downs; down_is = queue; stands = h }
    where
      unit : ℕ
      unit = c.port.state.unit

      -- what may have aired, if the controller is at this stage
      may_at : Stage → Bool
      may_at stage =
          may_have_aired c.plan.mode (logged c.log (exchange_of c.plan.mode None (awaited_in c.plan stage)))

      Queue : Option Command → List Phase → Type 0
      Queue o downs = DownCarries c.plan.list c.plan.port unit (c.down ++ command_bursts unit o) downs

      After : State → List Phase → Type 0
      After state downs =
          StandsAt (Exactly S (may_at state.stage)) c.plan.list c.port state.settled state.stage c.aired k.ups downs

      Goal : Stage → Type 0
      Goal stage =
          (downs : List Phase) × Queue (given_in c.plan c.state.stop stage) downs × After (tick_in stage c.state) downs

      sent : (q : Phase) → (o : Option Command) → command_in c.plan.list c.plan.port q ≡ o
          → StandsAt (Exactly S (may_at (Awaiting q))) c.plan.list c.port c.state.settled (Awaiting q) c.aired k.ups
          (k.downs ++ q ∷ [])
          → (downs : List Phase) × Queue o downs × StandsAt (Exactly S (may_at (Awaiting q))) c.plan.list c.port
          c.state.settled (Awaiting q) c.aired k.ups downs
      sent q None is h = (
        k.downs,
        carries_same IsJunkDown (IsCommand c.plan.list c.plan.port unit) c.down k.downs k.down_is,
        thins (exactly S (may_at (Awaiting q)) closed.steady) c.plan.list c.port.clips c.state.settled
            (is_selected c.port.state) c.port.state.cued c.aired k.ups k.ups (k.downs ++ q ∷ []) k.downs (Awaiting q)
            (all_left k.ups) (last_left k.downs q) h,
      )
      sent q (Some d) is h = (
        k.downs ++ q ∷ [],
        carries_pushed IsJunkDown (IsCommand c.plan.list c.plan.port unit) c.down k.downs
            (spelling (command_message unit d)) q (
              d,
              is,
              below.alone (command_message unit d) (below.command_fits unit d (omega (arith, k.unit_fits))
                  (writable below c.plan q d k.of_bytes k.port_fits is)),
            )
            k.down_is,
        h,
      )

      sending : (q : Phase) → S c.plan.list c.port.clips c.state.settled (is_selected c.port.state) c.port.state.cued
          c.aired k.ups (k.downs ++ q ∷ []) (Awaiting q)
          → (may_have_aired c.plan.mode c.log ≡ false → Exact c.plan.list c.state.settled (is_selected c.port.state)
          c.port.state.cued c.aired k.downs)
          → StandsAt (Exactly S (may_at (Awaiting q))) c.plan.list c.port c.state.settled (Awaiting q) c.aired k.ups
          (k.downs ++ q ∷ [])
      sending q h was = record {
        stands = h;
        exact = λ e.
            let none = sent_may below.airing_grows c.plan c.log q (command_in c.plan.list c.plan.port q) refl e in
            exact_sent closed c.plan.list c.port.clips c.state.settled (is_selected c.port.state) c.port.state.cued
            c.aired k.ups k.downs q (is_exact_in q) refl none.0 h (was none.1);
      }

      at : (stage : Stage)
          → StandsAt (Exactly S (may_at stage)) c.plan.list c.port c.state.settled stage c.aired k.ups k.downs
          → Goal stage
      at (Ready q) h =
          sent (phase_to_send c.state.stop q) (command_in c.plan.list c.plan.port (phase_to_send c.state.stop q)) refl
          (sending (phase_to_send c.state.stop q)
          (closed.sends c.plan.list c.port.clips c.state.settled (is_selected c.port.state) c.port.state.cued c.aired
          k.ups k.downs c.state.stop q h.stands) h.exact)
      at _ h =
          (k.downs, carries_same IsJunkDown (IsCommand c.plan.list c.plan.port unit) c.down k.downs k.down_is, k.stands)

-- ---- the automation asks beside the controller

-- what joins the queue down; the controller stays
pub record Asked (mode : Mode) (S : Claim) (c : LateChannel) (ups : List Answer) (o : Option Command) : Type 0 where
  pub downs : List Phase
  pub down_is : DownCarries c.plan.list c.plan.port c.port.state.unit (c.down ++ command_bursts c.port.state.unit o) downs
  pub stands : StandsAt (ExactlyIn S c) c.plan.list c.port c.state.settled c.state.stage c.aired ups downs

-- where the place says what aired, or nothing that plays is sent
no_play : (asks : Question) (q d : Phase) → asked_by asks q ≡ Some d → plays d ≡ false
no_play question.Open phase.Open d is = ap plays (sym (unwrapped is))
no_play question.Select phase.Open d is = ap plays (sym (unwrapped is))
no_play question.State phase.Open d is = ap plays (sym (unwrapped is))
no_play question.State phase.Select d is = ap plays (sym (unwrapped is))
no_play question.State phase.Seen d is = ap plays (sym (unwrapped is))
no_play question.State (phase.Wait k) d is = ap plays (sym (unwrapped is))
no_play question.State (phase.Play k) d is = ap plays (sym (unwrapped is))
no_play question.State (phase.Probe k) d is = ap plays (sym (unwrapped is))
no_play question.State phase.Drain d is = ap plays (sym (unwrapped is))
no_play asks q d is = cc

arms_nothing : (asks : Question) (q d : Phase) → asked_by asks q ≡ Some d → is_exact_in q ≡ false → arms d ≡ false
arms_nothing question.State (phase.Play k) d is e = ap arms (sym (unwrapped is))
arms_nothing question.State (phase.Probe k) d is e = ap arms (sym (unwrapped is))
arms_nothing question.Open phase.Open d is e = cc
arms_nothing question.Select phase.Open d is e = cc
arms_nothing asks q d is e = cc

module _ (mode : Mode) (S : Claim) where
  exact_asked : Closed mode S → (list : List Item) (clips : List (ClipId × Timecode)) (settled : ℕ) (s : Bool) (a : Cued)
      (aired : List Item) (ups : List Answer) (downs : List Phase) (asks : Question) (q d : Phase) → asked_by asks q ≡ Some d
      → (b : Bool) → is_exact_in q ≡ b → S list clips settled s a aired ups (downs ++ d ∷ []) (Ready q)
      → Exact list settled s a aired downs → Exact list settled s a aired (downs ++ d ∷ [])
  exact_asked closed list clips settled s a aired ups downs asks q d by true is h e =
      closed.exact list clips settled s a aired ups (downs ++ d ∷ []) (Ready q) is h
  exact_asked closed list clips settled s a aired ups downs asks q d by false is h e =
      exact_sends list settled s a aired downs d (no_play asks q d by) (arms_nothing asks q d by is) e

  asked_kept : Closed mode S → Below → (c : LateChannel) (k : IsKept mode (ExactlyIn S c) c) (asks : Question)
      → Asked mode S c k.ups (asked_in c.plan asks c.state.stage)
  asked_kept closed below c k asks = at c.state.stage refl
    where
      unit : ℕ
      unit = c.port.state.unit

      none : Asked mode S c k.ups None
      none = record {
        downs = k.downs;
        down_is = carries_same IsJunkDown (IsCommand c.plan.list c.plan.port unit) c.down k.downs k.down_is;
        stands = k.stands;
      }

      one : (q d : Phase) → c.state.stage ≡ Ready q → asked_by asks q ≡ Some d → (o : Option Command)
          → command_in c.plan.list c.plan.port d ≡ o → Asked mode S c k.ups o
      one q d at by None is = none
      one q d at by (Some x) is = record {
        downs = k.downs ++ d ∷ [];
        down_is = carries_pushed IsJunkDown (IsCommand c.plan.list c.plan.port unit) c.down k.downs
            (spelling (command_message unit x)) d (
              x,
              is,
              below.alone (command_message unit x) (below.command_fits unit x (omega (arith, k.unit_fits))
                  (writable below c.plan d x k.of_bytes k.port_fits is)),
            )
            k.down_is;
        stands = subst Stands (sym at) (pushed (subst Before at k.stands));
      }
        where
          Before : Stage → Type 0
          Before stage = StandsAt (ExactlyIn S c) c.plan.list c.port c.state.settled stage c.aired k.ups k.downs

          Stands : Stage → Type 0
          Stands stage = StandsAt (ExactlyIn S c) c.plan.list c.port c.state.settled stage c.aired k.ups (k.downs ++ d ∷ [])

          pushed : Before (Ready q) → Stands (Ready q)
          pushed h =
              let after = closed.asks c.plan.list c.port.clips c.state.settled (is_selected c.port.state)
              c.port.state.cued c.aired k.ups k.downs asks q d by h.stands in
              record {
                stands = after;
                exact = λ e. exact_asked closed c.plan.list c.port.clips c.state.settled (is_selected c.port.state)
                    c.port.state.cued c.aired k.ups k.downs asks q d by (is_exact_in q) refl after (h.exact e);
              }

      ready : (q : Phase) → c.state.stage ≡ Ready q → (o : Option Phase) → asked_by asks q ≡ o
          → Asked mode S c k.ups (option_and_then (command_in c.plan.list c.plan.port) o)
      ready q at None by = none
      ready q at (Some d) by = one q d at by (command_in c.plan.list c.plan.port d) refl

      at : (stage : Stage) → c.state.stage ≡ stage → Asked mode S c k.ups (asked_in c.plan asks stage)
      at (Ready q) is = ready q is (asked_by asks q) refl
      at _ is = none

-- ---- the port reads the oldest burst

-- the queue's oldest burst is taken, or stays
pub record Deliveries (mode : Mode) (S : Claim) (c : LateChannel) (k : IsKept mode S c) (burst : List ℕ)
    (down rest : List (List ℕ)) : Type 0 where
  pub downs : List Phase
  pub down_is : DownCarries c.plan.list c.plan.port c.port.state.unit rest downs
  pub taken : Delivered mode S c.plan c.state c.port c.up c.aired burst downs
  pub kept : Delivered mode S c.plan c.state c.port c.up c.aired burst k.downs

delivers : (mode : Mode) (S : Claim) → Steady S → Below
    → (c : LateChannel) (k : IsKept mode S c) (burst : List ℕ) (rest : List (List ℕ))
    → DownCarries c.plan.list c.plan.port c.port.state.unit (burst ∷ rest) k.downs
    → Deliveries mode S c k burst (burst ∷ rest) rest
delivers mode S steady below c k burst rest (inl (junk, more)) =
    let d = delivered_nothing mode S steady c.plan c.state c.port c.up c.aired burst k.ups k.downs
    (reads_nothing below c.port burst junk) k.up_is k.stands in
    record { downs = k.downs; down_is = more; taken = d; kept = d }
delivers mode S steady below c k burst rest (inr (q, downs, first, (d, is, ms), more)) = record {
  downs = downs;
  down_is = more;
  taken =
      delivered_command mode S steady c.plan c.state c.port c.up c.aired burst k.ups q downs d is read k.up_is there;
  kept = subst (Delivered mode S c.plan c.state c.port c.up c.aired burst) (sym first)
      (delivered_command mode S steady c.plan c.state c.port c.up c.aired burst k.ups q (q ∷ downs) d is read k.up_is
      (steady.lessens c.plan.list c.port.clips c.state.settled (is_selected c.port.state) c.port.state.cued c.aired
      k.ups (q ∷ downs) (is_selected c.port.state) c.port.state.cued k.ups (q ∷ q ∷ downs) c.state.stage
      (copied (is_selected c.port.state) c.port.state.cued k.ups q downs) there));
}
  where
    read : ReadsCommand c.port burst d
    read = reads_command below c.port burst d k.unit_fits (writable below c.plan q d k.of_bytes k.port_fits is) ms

    there : StandsAt S c.plan.list c.port c.state.settled c.state.stage c.aired k.ups (q ∷ downs)
    there = subst (λ (ds : List Phase). StandsAt S c.plan.list c.port c.state.settled c.state.stage c.aired k.ups ds)
        first k.stands

down_kept : (mode : Mode) (S : Claim) → Steady S → Below → (c : LateChannel) (k : IsKept mode S c)
    → IsKept mode S (after_late_event c event.Down)
down_kept mode S steady below c k = by c.down refl
  where
    nothing : Delivered mode S c.plan c.state c.port c.up c.aired [] k.downs
    nothing = delivered_nothing mode S steady c.plan c.state c.port c.up c.aired [] k.ups k.downs
        (reads_nothing below c.port [] refl) k.up_is k.stands

    Goal : List (List ℕ) → Type 0
    Goal down = IsKept mode S (record c {
      port = after_burst c.port (oldest down);
      down = without_oldest down;
      up = c.up ++ bursts_of (sent_for c.port (oldest down));
      aired = c.aired ++ aired_for c.port (oldest down);
    })

    by : (down : List (List ℕ)) → c.down ≡ down → Goal c.down
    by [] e = subst Goal (sym e) (with_delivery mode S steady c k [] [] k.downs
        (subst (λ (q : List (List ℕ)). DownCarries c.plan.list c.plan.port c.port.state.unit q k.downs) e k.down_is)
        nothing)
    by (burst ∷ rest) e =
        let d = delivers mode S steady below c k burst rest
        (subst (λ (q : List (List ℕ)). DownCarries c.plan.list c.plan.port c.port.state.unit q k.downs) e k.down_is) in
        subst Goal (sym e) (with_delivery mode S steady c k burst rest d.downs d.down_is d.taken)

down_copy_kept : (mode : Mode) (S : Claim) → Steady S → Below → (c : LateChannel) (k : IsKept mode S c)
    → IsKept mode S (after_late_event c event.DownCopy)
down_copy_kept mode S steady below c k = by c.down refl
  where
    Goal : List (List ℕ) → Type 0
    Goal down = IsKept mode S (record c {
      port = after_burst c.port (oldest down);
      down = c.down;
      up = c.up ++ bursts_of (sent_for c.port (oldest down));
      aired = c.aired ++ aired_for c.port (oldest down);
    })

    by : (down : List (List ℕ)) → c.down ≡ down → Goal c.down
    by [] e = subst Goal (sym e) (with_delivery mode S steady c k [] c.down k.downs k.down_is
        (delivered_nothing mode S steady c.plan c.state c.port c.up c.aired [] k.ups k.downs
        (reads_nothing below c.port [] refl) k.up_is k.stands))
    by (burst ∷ rest) e =
        let d = delivers mode S steady below c k burst rest
        (subst (λ (q : List (List ℕ)). DownCarries c.plan.list c.plan.port c.port.state.unit q k.downs) e k.down_is) in
        subst Goal (sym e) (with_delivery mode S steady c k burst c.down k.downs k.down_is d.kept)

-- ---- something comes to the controller, or nothing in time

-- the claim of another controller and log
abbrev Heard_at : Claim → LateChannel → List Answer → List Phase → State → List Exchange → Type 0
Heard_at S c ups downs state log =
    StandsAt (Exactly S (may_in c.plan state log)) c.plan.list c.port state.settled state.stage c.aired ups downs

came_kept : (mode : Mode) (S : Claim) → Closed mode S → Below
    → (c : LateChannel) (k : IsKept mode (ExactlyIn S c) c) → Reached c.plan c.state c.log → (came : Option Heard)
    → Comes mode k.ups came
    → Heard_at S c k.ups k.downs (came_to c.plan came c.state) (logged c.log (ended_by c.plan came c.state))
came_kept mode S closed below c k r came comes = record {
  stands = stands;
  exact = λ e.
      by (came_may below.airing_grows below.settled_grows c.plan c.state c.log came
      (below.lawful c.plan c.state c.log r).is_settled
      (below.lawful c.plan now (logged c.log (ended_by c.plan came c.state)) (called r (Receive came))).is_settled e);
}
  where
    now : State
    now = came_to c.plan came c.state

    stands : S c.plan.list c.port.clips (came_to c.plan came c.state).settled (is_selected c.port.state)
        c.port.state.cued c.aired k.ups k.downs (came_to c.plan came c.state).stage
    stands = closed.comes c.plan c.port.clips (is_selected c.port.state) c.port.state.cued c.aired k.ups k.downs c.state
        came k.mode_is comes k.stands.stands

    by : (is_exact_at (came_to c.plan came c.state).stage ≡ true)
        ⊎ ((may c ≡ false) × ((came_to c.plan came c.state).settled ≡ c.state.settled))
        → Exact c.plan.list (came_to c.plan came c.state).settled (is_selected c.port.state) c.port.state.cued c.aired
        k.downs
    by (inl is) = closed.exact c.plan.list c.port.clips (came_to c.plan came c.state).settled (is_selected c.port.state)
        c.port.state.cued c.aired k.ups k.downs (came_to c.plan came c.state).stage is stands
    by (inr (none, same)) =
        subst (λ (n : ℕ). Exact c.plan.list n (is_selected c.port.state) c.port.state.cued c.aired k.downs) (sym same)
        (k.stands.exact none)

-- of the oldest burst on the way up
hears : (mode : Mode) (S : Claim) (c : LateChannel) (k : IsKept mode S c) (up : List (List ℕ))
    → c.up ≡ up → Comes mode k.ups (heard_in c.port.state.unit (oldest up))
hears mode S c k [] e = inl refl
hears mode S c k (burst ∷ rest) e =
    by (subst (λ (q : List (List ℕ)). UpCarries mode c.port.state.unit q k.ups) e k.up_is)
  where
    by : UpCarries mode c.port.state.unit (burst ∷ rest) k.ups → Comes mode k.ups (heard_in c.port.state.unit burst)
    by (inl (junk, more)) = inl junk
    by (inr (x, others, first, is, more)) = inr (x, others, first, is)

module _ (mode : Mode) where
  hearing_kept : (S : Claim) → Closed mode S → Below → (c : LateChannel) (k : IsKept mode (ExactlyIn S c) c)
      → Reached c.plan c.state c.log → (came : Option Heard) → Comes mode k.ups came
      → Heard_at S c k.ups k.downs (state_hearing c.plan came c.state) (log_hearing c.plan came c.state c.log)
  hearing_kept S closed below c k r None comes = k.stands
  hearing_kept S closed below c k r (Some h) comes = came_kept mode S closed below c k r (Some h) comes

  up_copy_kept : (S : Claim) → Closed mode S → Below → (c : LateChannel) (k : IsKept mode (ExactlyIn S c) c)
      → Reached c.plan c.state c.log → IsKept mode (ExactlyIn S (after_late_event c event.UpCopy))
      (after_late_event c event.UpCopy)
  up_copy_kept S closed below c k r =
      let came : Option Heard = heard_in c.port.state.unit (oldest c.up) in
      with_state mode (ExactlyIn S c) (ExactlyIn S (after_late_event c event.UpCopy)) c k
      (state_hearing c.plan came c.state) (log_hearing c.plan came c.state c.log)
      (hearing_kept S closed below c k r came (hears mode (ExactlyIn S c) c k c.up refl))

  -- a receipt from nowhere
  stray_kept : (S : Claim) → Closed mode S → Below → (c : LateChannel) (k : IsKept mode (ExactlyIn S c) c)
      → Reached c.plan c.state c.log → (receipt : Reply) → is_receipt receipt ≡ true
      → Heard_at S c k.ups k.downs (state_straying c.plan.mode c.plan receipt c.state) (log_straying c.plan.mode c.plan
      receipt c.state c.log)
  stray_kept S closed below c k r receipt is = subst Goal (sym k.mode_is) (by mode refl)
    where
      Goal : Mode → Type 0
      Goal m = Heard_at S c k.ups k.downs (state_straying m c.plan receipt c.state)
          (log_straying m c.plan receipt c.state c.log)

      by : (m : Mode) → mode ≡ m → Goal m
      by Plain e = k.stands
      by Confirming e = came_kept mode S closed below c k r (Some (heard.Reply receipt))
          (inl (ap (λ (x : Mode). is_no_answer x (Some (heard.Reply receipt))) e ∙ is))

up_kept : (mode : Mode) (S : Claim) → Closed mode S → Below
    → (c : LateChannel) (k : IsKept mode (ExactlyIn S c) c) → Reached c.plan c.state c.log
    → IsKept mode (ExactlyIn S (after_late_event c event.Up)) (after_late_event c event.Up)
up_kept mode S closed below c k r =
    with_hearing mode (ExactlyIn S c) (ExactlyIn S (after_late_event c event.Up))
    (exactly S (may (after_late_event c event.Up)) closed.steady) c k (state_hearing c.plan came c.state)
    (without_oldest c.up) (log_hearing c.plan came c.state c.log) (by c.up refl)
    (hearing_kept mode S closed below c k r came (hears mode (ExactlyIn S c) c k c.up refl))
  where
    unit : ℕ
    unit = c.port.state.unit

    came : Option Heard
    came = heard_in unit (oldest c.up)

    by : (up : List (List ℕ)) → c.up ≡ up → Left (IsJunkUp mode unit) (IsAnswer unit) (without_oldest c.up) k.ups
    by [] e = subst (λ (q : List (List ℕ)). Left (IsJunkUp mode unit) (IsAnswer unit) (without_oldest q) k.ups) (sym e)
        (left_same (IsJunkUp mode unit) (IsAnswer unit) [] k.ups
        (subst (λ (q : List (List ℕ)). UpCarries mode unit q k.ups) e k.up_is))
    by (burst ∷ rest) e =
        subst (λ (q : List (List ℕ)). Left (IsJunkUp mode unit) (IsAnswer unit) (without_oldest q) k.ups) (sym e)
        (left_rest (IsJunkUp mode unit) (IsAnswer unit) burst rest k.ups
        (subst (λ (q : List (List ℕ)). UpCarries mode unit q k.ups) e k.up_is))

-- ---- damage and junk

one_front : (ms others : List Content) (m : Content) → m ∷ [] ≡ ms ++ others → (ms ≡ m ∷ []) ⊎ (ms ≡ [])
one_front [] others m e = inr refl
one_front (x ∷ ms) others m e = inl (ap (λ (front : List Content). x ∷ front) (front_of_none ms others (rest e)) ∙ ap
    (λ (y : Content). y ∷ []) (sym (first e)))
  where
    first : m ∷ [] ≡ x ∷ (ms ++ others) → m ≡ x
    first e = cc

    rest : m ∷ [] ≡ x ∷ (ms ++ others) → [] ≡ ms ++ others
    rest e = cc

damages_down : (list : List Item) (port unit : ℕ) (bytes : List ℕ)
    → Damages IsJunkDown (IsCommand list port unit) (λ was. can_become was bytes) bytes
damages_down list port unit bytes = record { of_junk = junk; of_one = one }
  where
    junk : (was : List ℕ) → can_become was bytes ≡ true → messages_of was ≡ [] → messages_of bytes ≡ []
    junk was can none =
        let (others, is) = is_beginning_of (messages_of bytes) (messages_of was) can in
        front_of_none (messages_of bytes) others (sym none ∙ is)

    one : (was : List ℕ) (d : Phase) → can_become was bytes ≡ true → IsCommand list port unit was d
        → IsCommand list port unit bytes d ⊎ IsJunkDown bytes
    one was d can (c, is, ms) =
        let (others, front) = is_beginning_of (messages_of bytes) (messages_of was) can in
        by (one_front (messages_of bytes) others (command_message unit c) (sym ms ∙ front))
      where
        by : (messages_of bytes ≡ command_message unit c ∷ []) ⊎ (messages_of bytes ≡ [])
            → IsCommand list port unit bytes d ⊎ IsJunkDown bytes
        by (inl same) = inl (c, is, same)
        by (inr none) = inr none

-- what is heard of a beginning of messages: the same, or nothing
heard_front : (unit : ℕ) (ms others : List Content)
    → (heard_first unit ms ≡ heard_first unit (ms ++ others)) ⊎ (heard_first unit ms ≡ None)
heard_front unit [] others = inr refl
heard_front unit (m ∷ ms) others = inl refl

hears_front : (unit : ℕ) (was bytes : List ℕ) → can_become was bytes ≡ true
    → (heard_in unit bytes ≡ heard_in unit was) ⊎ (heard_in unit bytes ≡ None)
hears_front unit was bytes can =
    let (others, is) = is_beginning_of (messages_of bytes) (messages_of was) can in
    by others is (heard_front unit (messages_of bytes) others)
  where
    by : (others : List Content) → messages_of was ≡ messages_of bytes ++ others
        → (heard_first unit (messages_of bytes) ≡ heard_first unit (messages_of bytes ++ others)) ⊎
        (heard_first unit (messages_of bytes) ≡ None)
        → (heard_in unit bytes ≡ heard_in unit was) ⊎ (heard_in unit bytes ≡ None)
    by others is (inl same) = inl (same ∙ ap (heard_first unit) (sym is))
    by others is (inr none) = inr none

damages_up : (mode : Mode) (unit : ℕ) (bytes : List ℕ)
    → Damages (IsJunkUp mode unit) (IsAnswer unit) (λ was. can_become_up mode unit was bytes) bytes
damages_up mode unit bytes = record { of_junk = junk; of_one = one }
  where
    none_is_junk : heard_in unit bytes ≡ None → IsJunkUp mode unit bytes
    none_is_junk none = ap (is_no_answer mode) none

    junk : (was : List ℕ) → can_become_up mode unit was bytes ≡ true → IsJunkUp mode unit was → IsJunkUp mode unit bytes
    junk was can j = by (or_cases (can_become was bytes) (is_junk_up mode unit bytes) can)
      where
        heard_same : (heard_in unit bytes ≡ heard_in unit was) ⊎ (heard_in unit bytes ≡ None) → IsJunkUp mode unit bytes
        heard_same (inl same) = ap (is_no_answer mode) same ∙ j
        heard_same (inr none) = none_is_junk none

        by : (can_become was bytes ≡ true) ⊎ (is_junk_up mode unit bytes ≡ true) → IsJunkUp mode unit bytes
        by (inl front) = heard_same (hears_front unit was bytes front)
        by (inr is) = is

    one : (was : List ℕ) (x : Answer) → can_become_up mode unit was bytes ≡ true → IsAnswer unit was x
        → IsAnswer unit bytes x ⊎ IsJunkUp mode unit bytes
    one was x can i = by (or_cases (can_become was bytes) (is_junk_up mode unit bytes) can)
      where
        heard_same : (heard_in unit bytes ≡ heard_in unit was) ⊎ (heard_in unit bytes ≡ None)
            → IsAnswer unit bytes x ⊎ IsJunkUp mode unit bytes
        heard_same (inl same) = inl (same ∙ i)
        heard_same (inr none) = inr (none_is_junk none)

        by : (can_become was bytes ≡ true) ⊎ (is_junk_up mode unit bytes ≡ true)
            → IsAnswer unit bytes x ⊎ IsJunkUp mode unit bytes
        by (inl front) = heard_same (hears_front unit was bytes front)
        by (inr is) = inr is

junk_down : (bytes : List ℕ) → is_junk_down bytes ≡ true → IsJunkDown bytes
junk_down bytes can =
    let (others, is) = is_beginning_of (messages_of bytes) [] can in
    front_of_none (messages_of bytes) others is

-- ---- the port by itself

frame_ages : (p : ClockedPort) → Ages (is_selected p.state) p.state.cued (is_selected (after_frame p).state)
    (after_frame p).state.cued
frame_ages p = by (completes_cue p) (ends_clip p)
  where
    by : (cue clip : Bool)
        → Ages (is_selected p.state) p.state.cued
        (is_selected (if clip then after_ended (if cue then after_ready (counted_down p) else counted_down p)
        else (if cue then after_ready (counted_down p) else counted_down p)).state)
        (if clip then after_ended (if cue then after_ready (counted_down p) else counted_down p)
        else (if cue then after_ready (counted_down p) else counted_down p)).state.cued
    by true true = ready_ages (is_selected p.state) p.state.cued
    by true false = ready_ages (is_selected p.state) p.state.cued
    by false true = same_ages (is_selected p.state) p.state.cued
    by false false = same_ages (is_selected p.state) p.state.cued

-- ---- all events

pub kept_event : (mode : Mode) (S : Claim) → Closed mode S → Below → (c : LateChannel) (e : LateEvent)
    → Reached c.plan c.state c.log → IsKept mode (ExactlyIn S c) c
    → IsKept mode (ExactlyIn S (after_late_event c e)) (after_late_event c e)
kept_event mode S closed below c event.Tick r k =
    let t = ticked_kept mode S closed below c k in
    record {
      fits = k.fits;
      downs = t.downs;
      ups = k.ups;
      down_is = t.down_is;
      up_is = k.up_is;
      stands = t.stands;
    }
kept_event mode S closed below c (event.Ask asks) r k =
    let t = asked_kept mode S closed below c k asks in
    record {
      fits = k.fits;
      downs = t.downs;
      ups = k.ups;
      down_is = t.down_is;
      up_is = k.up_is;
      stands = t.stands;
    }
kept_event mode S closed below c event.Down r k =
    down_kept mode (ExactlyIn S c) (exactly S (may c) closed.steady) below c k
kept_event mode S closed below c event.Up r k = up_kept mode S closed below c k r
kept_event mode S closed below c event.DownCopy r k =
    down_copy_kept mode (ExactlyIn S c) (exactly S (may c) closed.steady) below c k
kept_event mode S closed below c event.UpCopy r k = up_copy_kept mode S closed below c k r
kept_event mode S closed below c (event.LoseDown place) r k =
    with_down mode (ExactlyIn S c) (exactly S (may c) closed.steady) c k (remove c.down place) (left_without IsJunkDown
    (IsCommand c.plan.list c.plan.port c.port.state.unit) c.down k.downs place k.down_is)
kept_event mode S closed below c (event.LoseUp place) r k =
    with_up mode (ExactlyIn S c) (exactly S (may c) closed.steady) c k (remove c.up place)
    (left_without (IsJunkUp mode c.port.state.unit)
    (IsAnswer c.port.state.unit) c.up k.ups place k.up_is)
kept_event mode S closed below c (event.AlterDown place bytes) r k =
    with_down mode (ExactlyIn S c) (exactly S (may c) closed.steady) c k _ (left_damaged IsJunkDown
    (IsCommand c.plan.list c.plan.port c.port.state.unit)
    (λ was. can_become was bytes) bytes place c.down k.downs
    (damages_down c.plan.list c.plan.port c.port.state.unit bytes) k.down_is)
kept_event mode S closed below c (event.AlterUp place bytes) r k =
    with_up mode (ExactlyIn S c) (exactly S (may c) closed.steady) c k _ (left_damaged (IsJunkUp mode c.port.state.unit)
    (IsAnswer c.port.state.unit)
    (λ was. can_become_up c.plan.mode c.port.state.unit was bytes) bytes
    place c.up k.ups
    (subst (λ (m : Mode). Damages (IsJunkUp mode c.port.state.unit) (IsAnswer c.port.state.unit)
    (λ was. can_become_up m c.port.state.unit was bytes) bytes) (sym k.mode_is)
    (damages_up mode c.port.state.unit bytes)) k.up_is)
kept_event mode S closed below c (event.JunkDown place bytes) r k =
    with_down mode (ExactlyIn S c) (exactly S (may c) closed.steady) c k _ (left_same IsJunkDown (IsCommand c.plan.list
    c.plan.port c.port.state.unit) _ k.downs
    (carries_junk IsJunkDown (IsCommand c.plan.list c.plan.port c.port.state.unit) c.down k.downs place bytes
    (is_junk_down bytes) (junk_down bytes) k.down_is))
kept_event mode S closed below c (event.JunkUp place bytes) r k =
    with_up mode (ExactlyIn S c) (exactly S (may c) closed.steady) c k _ (left_same (IsJunkUp mode c.port.state.unit)
    (IsAnswer c.port.state.unit) _ k.ups
    (carries_junk (IsJunkUp mode c.port.state.unit) (IsAnswer c.port.state.unit) c.up k.ups place bytes
    (is_junk_up c.plan.mode c.port.state.unit bytes)
    (λ e. ap (λ (m : Mode). is_junk_up m c.port.state.unit bytes) (sym k.mode_is) ∙ e) k.up_is))
kept_event mode S closed below c event.Timeout r k =
    with_state mode (ExactlyIn S c) (ExactlyIn S (after_late_event c event.Timeout)) c k (came_to c.plan None c.state) _
    (came_kept mode S closed below c k r None (inl refl))
kept_event mode S closed below c event.Ready r k =
    with_port mode (ExactlyIn S c) (exactly S (may c) closed.steady) c k (after_ready c.port) refl refl
    (ready_ages (is_selected c.port.state) c.port.state.cued)
kept_event mode S closed below c event.End r k =
    with_port mode (ExactlyIn S c) (exactly S (may c) closed.steady) c k (after_ended c.port) refl refl
    (same_ages (is_selected c.port.state) c.port.state.cued)
kept_event mode S closed below c event.Frame r k =
    with_port mode (ExactlyIn S c) (exactly S (may c) closed.steady) c k (after_frame c.port) (below.unit_frame c.port)
    (ap (λ (m : Make). m.clips) (make_frame c.plan c.port)) (frame_ages c.port)
kept_event mode S closed below c event.Take r k =
    with_state mode (ExactlyIn S c) (ExactlyIn S (after_late_event c event.Take)) c k (taken c.state) c.log k.stands
kept_event mode S closed below c event.Stop r k =
    with_state mode (ExactlyIn S c) (ExactlyIn S (after_late_event c event.Stop)) c k (stopped c.state) c.log k.stands
kept_event mode S closed below c event.ServerAnew r k =
    with_port mode (ExactlyIn S c) (exactly S (may c) closed.steady) c k (made_anew c.port) refl refl
    (anew_ages (is_selected c.port.state) c.port.state.cued)
kept_event mode S closed below c event.AutomationAnew r k =
    with_state mode (ExactlyIn S c) (ExactlyIn S (after_late_event c event.AutomationAnew)) c k _ _
    (came_kept mode S closed below c k r None (inl refl))
kept_event mode S closed below c event.StrayAck r k =
    with_state mode (ExactlyIn S c) (ExactlyIn S (after_late_event c event.StrayAck)) c k _ _ (stray_kept mode S closed
    below c k r Ack refl)
kept_event mode S closed below c (event.StrayNak byte) r k =
    with_state mode (ExactlyIn S c) (ExactlyIn S (after_late_event c (event.StrayNak byte))) c k _ _
    (stray_kept mode S closed below c k r (Nak byte) refl)
