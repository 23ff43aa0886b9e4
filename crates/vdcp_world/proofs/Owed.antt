-- What is lost shows once: each event that loses anything makes one exchange of the log show a loss, at most.
use Rattle.std.proofs.Common.{ℕ, ◌+◌, ◌≡◌, ◌≤◌, ◌⊎◌, inl, inr, Bool, true, false, ◌||◌, ◌&&◌, not, nat_lt, All, List, [], ◌∷◌, ◌++◌, length, refl, sym, ap, ap₂, subst, ◌∙◌, arith, if◌then◌else◌}
use Rattle.std.proofs.lemmas.List.Elements.{All-head, All-tail}
use Rattle.std.proofs.lemmas.List.Folds.{list_any-append}
use Rattle.std.specs.List.{list_any}
use Rattle.std.specs.Option.{option_map, option_map_or}
use Rattle.std.specs.Prelude.{Option, None, Some, is_some, IfSome, IsTrue, filter, slice_get}
use Rattle.vdcp_value.specs.declared.clip_id.ClipId.{ClipId}
use Rattle.vdcp_value.specs.declared.part.Item.{Item}
use Rattle.vdcp_value.specs.declared.part.Part.{Part}
use Rattle.vdcp_value.specs.declared.timecode.Timecode.{Timecode}
use Rattle.vdcp_frame.specs.Burst.{messages_of}
use Rattle.vdcp_frame.specs.Message.{Content}
use Rattle.vdcp_words.specs.Commands.{command_message, IsWritableCommand}
use Rattle.vdcp_words.specs.declared.command.Command.{Command}
use Rattle.vdcp_words.specs.declared.command.Command.TheVariants as command
use Rattle.vdcp_words.specs.declared.reply.Reply.{Reply}
use Rattle.vdcp_words.specs.declared.reply.Reply.TheVariants as reply
use Rattle.vdcp_port.specs.Answers.{aired_for, after_burst}
use Rattle.vdcp_port.specs.Clips.{is_playable}
use Rattle.vdcp_port.specs.Clock.{ClockedPort, after_change, after_ended, after_frame, after_ready, completes_cue, counted_down, ends_clip}
use Rattle.vdcp_port.specs.Port.{PortState, Cued, empty, cueing, done, is_selected, is_empty as is_empty_slot, is_done as is_done_slot, ended_state, made_ready, ready_state}
use Rattle.vdcp_port.specs.Row.{command_row}
use Rattle.vdcp_auto.specs.Commands.{cue_for, cue_of, fits, is_sense}
use Rattle.vdcp_auto.specs.Course.{logged}
use Rattle.vdcp_auto.specs.Heard.{heard_in}
use Rattle.vdcp_auto.specs.Log.{answer_in, answer_to, is_answered, is_counted, is_stop}
use Rattle.vdcp_auto.specs.Plan.{Plan}
use Rattle.vdcp_auto.specs.Replies.{is_done, is_empty, is_receipt, is_refusal}
use Rattle.vdcp_auto.specs.State.{Stage, Ready, Awaiting, Ended, State}
use Rattle.vdcp_auto.specs.Table.{command_in, is_halting, next, on_no_answer, on_refusal, on_reply}
use Rattle.vdcp_auto.specs.Turn.{awaited, awaited_in, came_to, ended_by, ended_in, exchange_of, given, given_in, is_end, on_unanswered, phase_to_send, sent, stage_after, state_after, tick_in, ticked, transition_of, transition_on, unanswered_after}
use Rattle.vdcp_auto.specs.declared.exchange.Exchange.{Exchange}
use Rattle.vdcp_auto.specs.declared.exchange.Heard.{Heard}
use Rattle.vdcp_auto.specs.declared.exchange.Heard.TheVariants as heard
use Rattle.vdcp_auto.specs.declared.phase.Mode.{Mode}
use Rattle.vdcp_auto.specs.declared.phase.Mode.TheVariants.{Plain, Confirming}
use Rattle.vdcp_auto.specs.declared.phase.Phase.{Phase}
use Rattle.vdcp_auto.specs.declared.phase.Phase.TheVariants as phase
use Rattle.vdcp_auto.specs.declared.phase.Transition.{Transition}
use Rattle.vdcp_world.specs.Below.{Below}
use Rattle.vdcp_world.specs.BoundedEnd.{IsAllPlayable}
use Rattle.vdcp_world.specs.Channel.{Channel, IsReached, Make, channel_to, make_of, after_event, after_events, answered, down_behind, log_hearing, log_straying, log_waiting, state_hearing, state_straying, state_waiting, up_behind}
use Rattle.vdcp_world.specs.InTime.{IsNoStop}
use Rattle.vdcp_world.specs.Losses.{losing, loses, losses, shows_loss}
use Rattle.vdcp_world.specs.declared.event.Event.{Event}
use Rattle.vdcp_world.specs.declared.event.Event.TheVariants as event
use Rattle.vdcp_world.proofs.BoundedEndProof.{plays_at}
use Rattle.vdcp_world.proofs.Claims.{IsKept, ToldOf, told_none, told_quiet}
use Rattle.vdcp_world.proofs.ConfirmedRounds.{senses}
use Rattle.vdcp_world.proofs.Exchanges.{came_cases, either, gives_some, no_receipt, no_refusal, on_refused, on_replied, sent_place}
use Rattle.vdcp_world.proofs.GoodRound.{answers_all, gives_own, ticks_on}
use Rattle.vdcp_world.proofs.HeadlineProof.{controller_reached, reached_kept}
use Rattle.vdcp_world.proofs.Losses.{Counts, InTurn, Kinds, TurnAt, asks_state, counts, cued_by, going, kinds, loss_heard, losses_more, says, sends_stop, answer_shows, silence_is, counts_so}
use Rattle.vdcp_world.proofs.OnTheWay.{IsQuiet, ReadsCommand, Way}
use Rattle.vdcp_world.proofs.Opened.{Opened, OpenedAt, TellsOpened, reached_opened, reached_told}
use Rattle.vdcp_world.proofs.PhaseTable.{Idle, Place, PlaceAt, Standing, answer_after, is_asked, port_after}
use Rattle.vdcp_world.proofs.Reached.{make_after_all, make_change, make_stays, step_reached}
use Rattle.vdcp_world.proofs.RoundsLeft.{plays}
use Rattle.vdcp_world.proofs.WayLemmas.{reads_command}

-- ---- what is owed

-- how many exchanges more will show a loss, before the phase's command goes out: of a port that is selected, with an empty slot
abbrev owed : Mode → Bool → Bool → Phase → ℕ
owed Confirming s e phase.Seen = if s then 0 else 1
owed Confirming s e (phase.Wait k) = if e then 1 else 0
owed Confirming s e (phase.Probe k) = if e then 0 else 1
owed mode s e q = 0

-- and where an exchange has ended
abbrev owed_behind : Mode → Bool → Bool → Stage → ℕ
owed_behind mode s e (Ready q) = owed mode s e q
owed_behind mode s e _ = 0

-- and while the command is awaited, if nothing answers it
abbrev most : Mode → Bool → Bool → Phase → ℕ
most mode s e q = says (counts mode q) + owed_behind mode s e (stage_after (on_no_answer mode q))

abbrev most_at : Mode → Bool → Bool → Stage → ℕ
most_at mode s e (Ready q) = owed mode s e q
most_at mode s e (Awaiting q) = most mode s e q
most_at mode s e (Ended o) = 0

most_low : (mode : Mode) (s e : Bool) (q : Phase) → most mode s e q ≤ owed mode s e q + 1
most_low Plain s e q = grind arith
most_low Confirming s e q = grind arith

most_high : (mode : Mode) (s e : Bool) (q : Phase) → counts mode q ≡ true → owed mode s e q ≤ most mode s e q
most_high Plain s e q c = grind arith
most_high Confirming s e q c = grind arith

behind_at : (mode : Mode) (s e : Bool) (t : Transition) → most_at mode s e (stage_after t) ≡ owed_behind mode s e (stage_after t)
behind_at mode s e t = grind arith

-- ---- the end of an exchange

-- where nothing is cued
abbrev rests : Phase → Bool
rests phase.Seen = true
rests phase.Drain = true
rests _ = false

-- what a state says of the slot
abbrev TellsSlot : Bool → Phase → Reply → Type 0
TellsSlot e q r = asks_state q ≡ true → (is_empty r ≡ true → e ≡ true) × (is_done r ≡ true → e ≡ false)

next_owes : (mode : Mode) (s e : Bool) (list : List Item) (k : ℕ) → owed mode s e (next list k) ≡ 0
next_owes mode s e list k = by mode (nat_lt k (length list))
  where
    by : (mode : Mode) (b : Bool) → owed mode s e (if b then phase.Exists k else phase.Drain) ≡ 0
    by Plain true = refl
    by Plain false = refl
    by Confirming true = refl
    by Confirming false = refl

answer_owes : (mode : Mode) (s e : Bool) (list : List Item) (limit tries : ℕ) (take cued : Bool) (q : Phase) (r : Reply)
    → (mode ≡ Confirming → senses q ≡ true) → (rests q ≡ true → e ≡ true) → InTurn (length list) cued q → TellsSlot e q r
    → says (loss_heard mode cued q r) + owed_behind mode s e (stage_after (on_reply mode list limit take tries q r))
    ≤ owed mode s e q
answer_owes Plain s e list limit tries take cued phase.Select r c i h t = grind (arith, next_owes)
answer_owes Plain s e list limit tries take cued phase.Seen r c i h t = grind (arith, next_owes)
answer_owes Plain s e list limit tries take cued (phase.Check k) r c i h t = grind (arith, next_owes)
answer_owes Plain s e list limit tries take cued _ r c i h t = grind arith
answer_owes Confirming s e list limit tries take cued phase.Seen r c i h t = grind (arith, next_owes)
answer_owes Confirming s e list limit tries take cued (phase.Check k) r c i h t = grind (arith, next_owes)
answer_owes Confirming s e list limit tries take cued _ r c i h t = grind arith

refusal_owes : (s e : Bool) (n : ℕ) (q : Phase) → owed_behind Plain s e (stage_after (on_refusal n q)) ≡ 0
refusal_owes s e n q = grind arith

silence_owes : (mode : Mode) (s e : Bool) (limit unanswered : ℕ) (q : Phase)
    → says (counts mode q) + owed_behind mode s e (stage_after (on_unanswered mode limit unanswered (counts mode q) q))
    ≤ most mode s e q
silence_owes Plain s e limit unanswered q = grind arith
silence_owes Confirming s e limit unanswered q = grind arith

module _ (plan : Plan) (state : State) (q : Phase) (d : Command) (cued s e : Bool)
    (is : command_in plan.list plan.port q ≡ Some d) (turn : InTurn (length plan.list) cued q) (idle : rests q ≡ true → e ≡ true)
  where
    kind : Kinds d q
    kind = kinds plan.list plan.port d q is

    -- what is shown, and what is owed then
    abbrev shown : Option Heard → Transition → ℕ
    shown came t = says (shows_loss plan.mode cued (record { command = d; heard = came }))
        + owed_behind plan.mode s e (stage_after t)

    abbrev turns : Option Heard → Option Reply → Transition
    turns came o = transition_on plan state.take state.tries state.unanswered
        (is_counted plan.mode (record { command = d; heard = came })) q o

    silent : (came : Option Heard) → is_answered (record { command = d; heard = came }) ≡ false
        → shown came (turns came None) ≤ most plan.mode s e q
    silent came none =
        subst (λ (b : Bool). says b + owed_behind plan.mode s e (stage_after (turns came None)) ≤ most plan.mode s e q)
        (sym (silence_is d q kind cued plan.mode came none))
        (subst (λ (b : Bool). says (counts plan.mode q)
        + owed_behind plan.mode s e (stage_after (on_unanswered plan.mode plan.limit state.unanswered b q)) ≤ most plan.mode s e q)
        (sym (counts_so d q kind cued plan.mode came))
        (silence_owes plan.mode s e plan.limit state.unanswered q))

    senses_so : (r : Reply) (mode : Mode) → is_end mode d (Some (heard.Reply r)) ≡ true → mode ≡ Confirming → senses q ≡ true
    senses_so r Plain ends confirms = cc
    senses_so r Confirming ends confirms = sym kind.sense ∙ first (is_sense d) (not (is_receipt r)) ends
      where
        first : (a b : Bool) → (a && b) ≡ true → a ≡ true
        first true b e = refl
        first false b e = cc

    -- an answer shows no more than was owed
    answered_owes : (r : Reply) → is_end plan.mode d (Some (heard.Reply r)) ≡ true
        → ((plan.mode ≡ Confirming → is_receipt r ≡ false) → TellsSlot e q r) → (is_refusal r || fits d r) ≡ true
        → shown (Some (heard.Reply r)) (turns (Some (heard.Reply r)) (answer_to d (Some (heard.Reply r)))) ≤ owed plan.mode s e q
    answered_owes r ends told fit =
        subst (λ (b : Bool). shown came (turns came (if b then Some r else None)) ≤ owed plan.mode s e q) (sym fit)
        (by plan.mode refl (either (is_refusal r) (fits d r) fit))
      where
        came : Option Heard
        came = Some (heard.Reply r)

        a : is_answered (record { command = d; heard = came }) ≡ true
        a = ap (λ (b : Bool). is_some (if b then Some r else None)) fit

        honest : (mode : Mode) → is_end mode d came ≡ true → mode ≡ Confirming → is_receipt r ≡ false
        honest Plain ends confirms = cc
        honest Confirming ends confirms = no_receipt d r ends

        apart : is_refusal r ≡ true → is_refusal r ≡ false → ⊥
        apart a b = grind arith

        shows : says (shows_loss plan.mode cued (record { command = d; heard = came })) ≡ says (loss_heard plan.mode cued q r)
        shows = ap says (answer_shows d q kind cued plan.mode r a)

        by : (mode : Mode) → plan.mode ≡ mode → (is_refusal r ≡ true) ⊎ ((is_refusal r ≡ false) × (fits d r ≡ true))
            → shown came (turns came (Some r)) ≤ owed plan.mode s e q
        by Confirming m (inl refused) =
            absurd (apart refused (no_refusal r (no_receipt d r (subst (λ (mode : Mode). is_end mode d came ≡ true) m ends))))
        by Plain m (inl refused) =
            omega (
              arith,
              shows,
              ap (λ (mode : Mode). says (loss_heard mode cued q r)) m,
              ap (λ (t : Transition). owed_behind plan.mode s e (stage_after t))
                  (on_refused plan.mode plan.list plan.limit state.tries state.take q r refused),
              ap (λ (mode : Mode). owed_behind mode s e (stage_after (on_refusal (length plan.list) q))) m,
              refusal_owes s e (length plan.list) q,
            )
        by mode m (inr (none, fit)) =
            omega (
              arith,
              shows,
              ap (λ (t : Transition). owed_behind plan.mode s e (stage_after t))
                  (on_replied plan.mode plan.list plan.limit state.tries state.take q r none),
              answer_owes plan.mode s e plan.list plan.limit state.tries state.take cued q r (senses_so r plan.mode ends) idle turn
                  (told (honest plan.mode ends)),
            )

    -- and the end of any exchange no more than is owed if nothing answers
    ends_owe : (came : Option Heard) → is_end plan.mode d came ≡ true
        → ((r : Reply) → came ≡ Some (heard.Reply r) → (plan.mode ≡ Confirming → is_receipt r ≡ false) → TellsSlot e q r)
        → shown came (turns came (answer_to d came)) ≤ most plan.mode s e q
    ends_owe None ends told = silent None refl
    ends_owe (Some heard.Other) ends told = silent (Some heard.Other) refl
    ends_owe (Some (heard.Reply r)) ends told = by (is_refusal r || fits d r) refl
      where
        came : Option Heard
        came = Some (heard.Reply r)

        counts_in : (mode : Mode) → (mode ≡ Confirming → senses q ≡ true) → counts mode q ≡ true
        counts_in Plain c = refl
        counts_in Confirming c = c refl

        by : (b : Bool) → (is_refusal r || fits d r) ≡ b → shown came (turns came (if b then Some r else None)) ≤ most plan.mode s e q
        by true fit = omega (
          arith,
          subst (λ (b : Bool). shown came (turns came (if b then Some r else None)) ≤ owed plan.mode s e q) fit
              (answered_owes r ends (told r refl) fit),
          most_high plan.mode s e q (counts_in plan.mode (senses_so r plan.mode ends)),
        )
        by false fit = silent came (ap (λ (b : Bool). is_some (if b then Some r else None)) fit)

-- ---- the port reads the phase's command

-- no more is owed then; and where nothing has to answer, all of it is paid
abbrev Less : Mode → Bool → Bool → Bool → Bool → Phase → Type 0
Less mode s e s' e' q = (most mode s' e' q ≤ most mode s e q)
    × (counts mode q ≡ false → most mode s' e' q ≤ owed mode s e q)
    × (counts mode q ≡ true → owed mode s' e' q ≤ owed mode s e q)

abbrev LessFor : PortState → PortState → Phase → Type 0
LessFor p now q = Less Confirming (is_selected p) (is_empty_slot p.cued) (is_selected now) (is_empty_slot now.cued) q

module _ (clips : List (ClipId × Timecode)) (p : PortState) where
  exists_less : (k : ℕ) (o : Option Item)
      → LessFor p (port_after clips p (option_map (λ item. command.IdRequest item.id) o)) (phase.Exists k)
  exists_less k None = grind arith
  exists_less k (Some item) = grind arith

  cue_less : (k : ℕ) (id : ClipId) (part : Option Part) → is_playable clips (record { id = id; part = part }) ≡ true
      → is_selected p ≡ true → LessFor p (port_after clips p (Some (cue_for id part))) (phase.Cue k)
  cue_less k id None f s = grind arith
  cue_less k id (Some part) f s = grind arith

  cues_less : (k : ℕ) (o : Option Item) → plays clips o ≡ true → is_selected p ≡ true
      → (o ≡ None → ⊥) → LessFor p (port_after clips p (option_map cue_of o)) (phase.Cue k)
  cues_less k None f s some = absurd (some refl)
  cues_less k (Some item) f s some = cue_less k item.id item.part f s

  plays_less : (k : ℕ) (cued : Cued) → p.cued ≡ cued → is_selected p ≡ true → (is_empty_slot p.cued ≡ true) ⊎ (is_done_slot p.cued ≡ true)
      → LessFor p (port_after clips p (Some command.Play)) (phase.Play k)
  plays_less k empty c s h = grind arith
  plays_less k (cueing item) c s h = grind arith
  plays_less k (done item) c s h = grind arith

confirmed_less : (list : List Item) (clips : List (ClipId × Timecode)) (p : PortState) (port : ℕ) (aired : List Item)
    (settled : ℕ) (q : Phase) → p.number ≡ port → ((k : ℕ) → plays clips (slice_get list k) ≡ true) → Opened p q
    → Place list p.cued aired settled q → (command_in list port q ≡ None → ⊥)
    → LessFor p (port_after clips p (command_in list port q)) q
confirmed_less list clips p port aired settled (phase.Exists k) n f o h some = exists_less clips p k (slice_get list k)
confirmed_less list clips p port aired settled (phase.Cue k) n f o h some =
    cues_less clips p k (slice_get list k) (f k) o (λ none. some (ap (option_map cue_of) none))
confirmed_less list clips p port aired settled (phase.Play k) n f o h some = plays_less clips p k p.cued refl o (slot h.0)
  where
    slot : (Standing list p.cued aired k ⊎ Idle list p.cued aired (k + 1))
        → (is_empty_slot p.cued ≡ true) ⊎ (is_done_slot p.cued ≡ true)
    slot (inl standing) = inr standing.ready
    slot (inr idle) = inl (ap is_empty_slot idle.cued_is)
confirmed_less list clips p port aired settled q n f o h some = grind arith

plain_less : (s e s' e' : Bool) (q : Phase) → Less Plain s e s' e' q
plain_less s e s' e' q = grind arith

-- the answer is of the kind that the command asks for, or NAK 01
answer_fits : (list : List Item) (clips : List (ClipId × Timecode)) (p : PortState) (port : ℕ) (q : Phase) (r : Reply)
    → answer_after clips p (command_in list port q) ≡ Some r → (is_refusal r || is_asked q r) ≡ true
answer_fits list clips p port (phase.Exists k) r a = of (slice_get list k) a
  where
    of : (o : Option Item) → answer_after clips p (option_map (λ item. command.IdRequest item.id) o) ≡ Some r
        → (is_refusal r || is_asked (phase.Exists k) r) ≡ true
    of None a = cc
    of (Some item) a = grind arith
answer_fits list clips p port (phase.Cue k) r a = of (slice_get list k) a
  where
    of_part : (id : ClipId) (part : Option Part) → answer_after clips p (Some (cue_for id part)) ≡ Some r
        → (is_refusal r || is_asked (phase.Cue k) r) ≡ true
    of_part id None a = grind arith
    of_part id (Some part) a = grind arith

    of : (o : Option Item) → answer_after clips p (option_map cue_of o) ≡ Some r
        → (is_refusal r || is_asked (phase.Cue k) r) ≡ true
    of None a = cc
    of (Some item) a = of_part item.id item.part a
answer_fits list clips p port (phase.Play k) r a = by p.cued refl
  where
    by : (cued : Cued) → p.cued ≡ cued → (is_refusal r || is_asked (phase.Play k) r) ≡ true
    by empty c = grind arith
    by (cueing item) c = grind arith
    by (done item) c = grind arith
answer_fits list clips p port q r a = grind arith

-- and in confirm mode it is none, or all of that is paid
answer_confirms : (list : List Item) (clips : List (ClipId × Timecode)) (p : PortState) (port : ℕ) (q : Phase) (r : Reply)
    → Opened p q → senses q ≡ true → answer_after clips p (command_in list port q) ≡ Some r
    → (is_receipt r ≡ false) ⊎ ((e : Bool) → most Confirming (is_selected p) e q ≤ owed Confirming (is_selected p) e q)
answer_confirms list clips p port (phase.Exists k) r o s a = inl (of (slice_get list k) a)
  where
    of : (o : Option Item) → answer_after clips p (option_map (λ item. command.IdRequest item.id) o) ≡ Some r
        → is_receipt r ≡ false
    of None a = cc
    of (Some item) a = grind arith
answer_confirms list clips p port phase.Seen r o s a = by (is_selected p) refl
  where
    by : (b : Bool) → is_selected p ≡ b
        → (is_receipt r ≡ false) ⊎ ((e : Bool) → most Confirming b e phase.Seen ≤ owed Confirming b e phase.Seen)
    by true e = inl (grind arith)
    by false e = inr (λ e. omega arith)
answer_confirms list clips p port q r o s a = inl (grind arith)

asked_fits : (list : List Item) (port : ℕ) (q : Phase) (d : Command) (r : Reply) → command_in list port q ≡ Some d
    → is_asked q r ≡ true → fits d r ≡ true
asked_fits list port (phase.Exists k) d r e a = of (slice_get list k) e
  where
    of : (o : Option Item) → option_map (λ item. command.IdRequest item.id) o ≡ Some d → fits d r ≡ true
    of None e = cc
    of (Some item) e = grind arith
asked_fits list port (phase.Cue k) d r e a = of (slice_get list k) e
  where
    of_part : (id : ClipId) (part : Option Part) → cue_for id part ≡ d → fits d r ≡ true
    of_part id None e = grind arith
    of_part id (Some part) e = grind arith

    same : (a b : Command) → Some a ≡ Some b → a ≡ b
    same a b e = cc

    of : (o : Option Item) → option_map cue_of o ≡ Some d → fits d r ≡ true
    of None e = cc
    of (Some item) e = of_part item.id item.part (same (cue_of item) d e)
asked_fits list port q d r e a = grind arith

-- ---- where an exchange that ends leads

module _ (plan : Plan) (state : State) (came : Option Heard) where
  ended_so : (q : Phase) (d : Command) → state.stage ≡ Awaiting q → command_in plan.list plan.port q ≡ Some d
      → is_end plan.mode d came ≡ true → ended_by plan came state ≡ Some (record { command = d; heard = came })
  ended_so q d e is over =
      ap (λ (stage : Stage). exchange_of plan.mode came (awaited_in plan stage)) e
      ∙ ap (exchange_of plan.mode came) is
      ∙ ap (λ (b : Bool). if b then Some (record { command = d; heard = came }) else None) over

  leads_so : (q : Phase) (x : Exchange) → state.stage ≡ Awaiting q → ended_by plan came state ≡ Some x
      → came_to plan came state
      ≡ state_after (transition_of plan state q x) (unanswered_after plan.mode x state.unanswered) state
  leads_so q x e is =
      ap (λ (o : Option Exchange). option_map_or (λ y. ended_in plan state.stage y state) o state) is
      ∙ ap (λ (stage : Stage). ended_in plan stage x state) e

-- ---- a channel

-- how many losses the log shows, and will show if nothing that is on the way comes
abbrev most_in : Channel → ℕ
most_in c = losses c.plan.mode c.log
    + most_at c.plan.mode (is_selected c.port.state) (is_empty_slot c.port.state.cued) c.state.stage

-- whatever happens, but for a tick
abbrev IsNoTick : Event → Type 0
IsNoTick event.Tick = ⊥
IsNoTick _ = Unit {0}

-- the awaited command is on its way, or its answer

record IsSent (plan : Plan) (unit : ℕ) (q : Phase) (down up : List ℕ) : Type 0 where
  nothing_up : up ≡ []
  asks : Command
  is : command_in plan.list plan.port q ≡ Some asks
  reads : messages_of down ≡ command_message unit asks ∷ []

record IsReplied (plan : Plan) (unit : ℕ) (q : Phase) (down up : List ℕ) : Type 0 where
  nothing_down : down ≡ []
  asks : Command
  is : command_in plan.list plan.port q ≡ Some asks
  answer : Reply
  hears : heard_in unit up ≡ Some (heard.Reply answer)
  ends : is_end plan.mode asks (Some (heard.Reply answer)) ≡ true
  fit : (is_refusal answer || fits asks answer) ≡ true

abbrev IsOnWay : Plan → ℕ → Phase → List ℕ → List ℕ → Type 0
IsOnWay plan unit q down up = IsSent plan unit q down up ⊎ IsReplied plan unit q down up

-- so much is paid by what was lost
abbrev Owes : Channel → ℕ → Type 0
Owes c lost = (most_in c ≤ lost)
    ⊎ ((q : Phase) × (c.state.stage ≡ Awaiting q) × IsOnWay c.plan c.port.state.unit q c.down c.up
    × (losses c.plan.mode c.log + owed c.plan.mode (is_selected c.port.state) (is_empty_slot c.port.state.cued) q ≤ lost))

owes_most : (c : Channel) (lost : ℕ) → Owes c lost → most_in c ≤ lost + 1
owes_most c lost (inl few) = omega (arith, few)
owes_most c lost (inr (q, at, safe, few)) =
    let s : Bool = is_selected c.port.state in
    let e : Bool = is_empty_slot c.port.state.cued in
    omega (arith, few, ap (most_at c.plan.mode s e) at, most_low c.plan.mode s e q)

module _ (below : Below) (c : Channel) (r : IsReached c) (playable : IsAllPlayable c)
    (unstopped : list_any is_stop c.log ≡ false) where
  k : IsKept c
  k = reached_kept below c r

  abbrev s : Bool
  s = is_selected c.port.state

  abbrev e : Bool
  e = is_empty_slot c.port.state.cued

  all : (n : ℕ) → plays c.port.clips (slice_get c.plan.list n) ≡ true
  all = plays_at c.port.clips c.plan.list playable

  g : Counts c.plan c.state c.log
  g = going c.plan c.state c.log (controller_reached c r) unstopped

  place_at : (q : Phase) → c.state.stage ≡ Awaiting q → Place c.plan.list c.port.state.cued c.aired c.state.settled q
  place_at q at = subst (PlaceAt c.plan.list c.port.clips c.port.state.cued c.aired c.state.settled) at k.stands.place

  opened_at : (q : Phase) → c.state.stage ≡ Awaiting q → Opened c.port.state q
  opened_at q at = subst (OpenedAt c.port.state) at (reached_opened below c r)

  idle_at : (q : Phase) → c.state.stage ≡ Awaiting q → rests q ≡ true → e ≡ true
  idle_at q at = by q (place_at q at)
    where
      by : (q : Phase) → Place c.plan.list c.port.state.cued c.aired c.state.settled q → rests q ≡ true → e ≡ true
      by phase.Seen h i = ap is_empty_slot h.0.cued_is
      by phase.Drain h i = ap is_empty_slot h.0.cued_is
      by _ h i = cc

  turn_at : (q : Phase) → c.state.stage ≡ Awaiting q → InTurn (length c.plan.list) (cued_by false c.log) q
  turn_at q at =
      subst (TurnAt c.plan.mode c.plan.limit (length c.plan.list) (cued_by false c.log) (losses c.plan.mode c.log)) at g.turn

  asks_some : (q : Phase) → c.state.stage ≡ Awaiting q → command_in c.plan.list c.plan.port q ≡ None → ⊥
  asks_some q at = gives_some c.plan.list c.plan.port c.port.state.cued c.aired c.state.settled q (place_at q at)

  -- ---- something comes, or nothing does

  -- a reply that tells as it has to
  abbrev IsHonest : Option Heard → Type 0
  IsHonest came = ToldOf c.plan.mode (λ p aired. TellsOpened p) c.port.state c.aired c.state.stage came

  slot_told : (came : Option Heard) → IsHonest came → (q : Phase) → c.state.stage ≡ Awaiting q → (x : Reply)
      → came ≡ Some (heard.Reply x) → (c.plan.mode ≡ Confirming → is_receipt x ≡ false) → TellsSlot e q x
  slot_told came honest q at x is own =
      by q (subst (λ (stage : Stage). ToldOf c.plan.mode (λ p aired. TellsOpened p) c.port.state c.aired stage came) at honest
      x is own)
    where
      by : (q : Phase) → TellsOpened c.port.state q x → TellsSlot e q x
      by phase.Seen t = λ _. t.1
      by (phase.Wait n) t = λ _. t
      by (phase.Probe n) t = λ _. t
      by phase.Drain t = λ _. t
      by _ t = λ asks. cc

  came_less : (came : Option Heard) → IsHonest came
      → losses c.plan.mode (logged c.log (ended_by c.plan came c.state))
      + most_at c.plan.mode s e (came_to c.plan came c.state).stage ≤ most_in c
  came_less came honest = came_cases After c.plan c.state c.log came (omega arith) over
    where
      After : State → List Exchange → Type 0
      After state log = losses c.plan.mode log + most_at c.plan.mode s e state.stage ≤ most_in c

      over : (q : Phase) (d : Command) → c.state.stage ≡ Awaiting q → command_in c.plan.list c.plan.port q ≡ Some d
          → is_end c.plan.mode d came ≡ true
          → After (ended_in c.plan (Awaiting q) (record { command = d; heard = came }) c.state)
          (c.log ++ record { command = d; heard = came } ∷ [])
      over q d at is ends =
          let x : Exchange = record { command = d; heard = came } in
          omega (
            arith,
            ends_owe c.plan c.state q d (cued_by false c.log) s e is (turn_at q at) (idle_at q at) came ends
                (slot_told came honest q at),
            losses_more c.plan.mode false c.log x,
            behind_at c.plan.mode s e (transition_of c.plan c.state q x),
            ap (most_at c.plan.mode s e) at,
          )

  -- ---- the port reads

  abbrev same_port : ClockedPort → Type 0
  same_port p = most_at c.plan.mode (is_selected p.state) (is_empty_slot p.state.cued) c.state.stage
      ≤ most_at c.plan.mode s e c.state.stage

  reads_less : (q : Phase) (d : Command) → c.state.stage ≡ Awaiting q → command_in c.plan.list c.plan.port q ≡ Some d
      → Less c.plan.mode s e (is_selected (port_after c.port.clips c.port.state (Some d)))
      (is_empty_slot (port_after c.port.clips c.port.state (Some d)).cued) q
  reads_less q d at is = by c.plan.mode
    where
      by : (mode : Mode) → Less mode s e (is_selected (port_after c.port.clips c.port.state (Some d)))
          (is_empty_slot (port_after c.port.clips c.port.state (Some d)).cued) q
      by Plain = plain_less s e (is_selected (port_after c.port.clips c.port.state (Some d)))
          (is_empty_slot (port_after c.port.clips c.port.state (Some d)).cued) q
      by Confirming = subst (λ (o : Option Command). LessFor c.port.state (port_after c.port.clips c.port.state o) q) is
          (confirmed_less c.plan.list c.port.clips c.port.state c.plan.port c.aired c.state.settled q k.stands.numbered all
          (opened_at q at) (place_at q at) (asks_some q at))

  reads : (d : Command) → awaited c.plan c.state ≡ Some d → messages_of c.down ≡ command_message c.port.state.unit d ∷ []
      → ReadsCommand c.port c.down d
  reads d is = reads_command below c.port c.down d k.unit_fits
      (subst (λ (o : Option Command). IfSome o IsWritableCommand) is
      (below.awaited_written c.plan c.state k.of_bytes k.port_fits))

  port_less : same_port (after_burst c.port c.down)
  port_less = by k.way
    where
      awaits : (d : Command) (stage : Stage) → awaited_in c.plan stage ≡ Some d
          → (q : Phase) × (stage ≡ Awaiting q) × (command_in c.plan.list c.plan.port q ≡ Some d)
      awaits d (Awaiting q) is = (q, refl, is)
      awaits d (Ready q) is = cc
      awaits d (Ended o) is = cc

      by : Way c.plan.mode c.port.state.unit (awaited c.plan c.state) c.down c.up → same_port (after_burst c.port c.down)
      by (inl none) = subst same_port (sym (below.none_left c.port c.down none)) (omega arith)
      by (inr (d, is, command_reads, quiet)) =
          let (q, at, asks) = awaits d c.state.stage is in
          subst same_port (sym (reads d is command_reads).leaves)
          (subst (λ (stage : Stage). most_at c.plan.mode (is_selected (port_after c.port.clips c.port.state (Some d)))
          (is_empty_slot (port_after c.port.clips c.port.state (Some d)).cued) stage ≤ most_at c.plan.mode s e stage) (sym at)
          (reads_less q d at asks).0)

  -- ---- whatever happens

  -- what is owed of a port whose cue gets done, or whose clip ends
  slot_ready : (cued : Cued) → is_empty_slot (made_ready cued) ≡ is_empty_slot cued
  slot_ready empty = refl
  slot_ready (cueing item) = refl
  slot_ready (done item) = refl

  honest : IsHonest (heard_in c.port.state.unit c.up)
  honest = reached_told below c r

  none_honest : IsHonest None
  none_honest = told_none c.plan.mode (λ p aired. TellsOpened p) c.port.state c.aired c.state.stage

  hearing_less : (h : Option Heard) → IsHonest h → losses c.plan.mode (log_hearing c.plan h c.state c.log)
      + most_at c.plan.mode s e (state_hearing c.plan h c.state).stage ≤ most_in c
  hearing_less None t = omega arith
  hearing_less (Some h) t = came_less (Some h) t

  waiting_less : (down up : List ℕ) → losses c.plan.mode (log_waiting c.plan down up c.state c.log)
      + most_at c.plan.mode s e (state_waiting c.plan down up c.state).stage ≤ most_in c
  waiting_less [] [] = came_less None none_honest
  waiting_less [] (b ∷ up) = omega arith
  waiting_less (b ∷ down) up = omega arith

  straying_less : (mode : Mode) → c.plan.mode ≡ mode → (x : Reply) → is_receipt x ≡ true
      → losses c.plan.mode (log_straying mode c.plan x c.state c.log)
      + most_at c.plan.mode s e (state_straying mode c.plan x c.state).stage ≤ most_in c
  straying_less Plain m x receipt = omega arith
  straying_less Confirming m x receipt =
      came_less (Some (heard.Reply x))
      (told_quiet c.plan.mode (λ p aired. TellsOpened p) c.port.state c.aired c.state.stage (Some (heard.Reply x))
      (subst (λ (mode : Mode). IsQuiet mode (Some (heard.Reply x))) (sym m) receipt))

  clock_less : (p : PortState) → is_selected p ≡ s → is_empty_slot p.cued ≡ e
      → losses c.plan.mode c.log + most_at c.plan.mode (is_selected p) (is_empty_slot p.cued) c.state.stage ≤ most_in c
  clock_less p a b = omega (arith, ap₂ (λ (x y : Bool). most_at c.plan.mode x y c.state.stage) a b)

  -- what is so of the slots of a port is so a frame later
  frame_same : (P : PortState → Type 0) → ((p : PortState) → P p → P (ready_state p))
      → ((p : PortState) → P p → P (ended_state p)) → P c.port.state → P (after_frame c.port).state
  frame_same P ready ended h = by (completes_cue c.port) (ends_clip c.port)
    where
      by : (cue clip : Bool) → P (if clip then after_ended (if cue then after_ready (counted_down c.port) else counted_down c.port)
          else (if cue then after_ready (counted_down c.port) else counted_down c.port)).state
      by true true = ended (ready_state c.port.state) (ready c.port.state h)
      by true false = ready c.port.state h
      by false true = ended c.port.state h
      by false false = h

  abbrev IsSame : PortState → Type 0
  IsSame p = (is_selected p ≡ s) × (is_empty_slot p.cued ≡ e)

  ready_same : (p : PortState) → IsSame p → IsSame (ready_state p)
  ready_same p h = (h.0, slot_ready p.cued ∙ h.1)

  ended_same : (p : PortState) → IsSame p → IsSame (ended_state p)
  ended_same p h = h

  event_less : (x : Event) → IsNoTick x → most_in (after_event c x) ≤ most_in c
  event_less event.Tick t = absurd t
  event_less event.Down t = omega (arith, port_less)
  event_less event.DownCopy t = omega (arith, port_less)
  event_less event.Up t = hearing_less (heard_in c.port.state.unit c.up) honest
  event_less event.UpCopy t = hearing_less (heard_in c.port.state.unit c.up) honest
  event_less event.Timeout t = waiting_less c.down c.up
  event_less event.Ready t =
      let same = ready_same c.port.state (refl, refl) in clock_less (ready_state c.port.state) same.0 same.1
  event_less event.End t = omega arith
  event_less event.Frame t =
      let same = frame_same IsSame ready_same ended_same (refl, refl) in clock_less (after_frame c.port).state same.0 same.1
  event_less event.StrayAck t = straying_less c.plan.mode refl reply.Ack refl
  event_less (event.StrayNak byte) t = straying_less c.plan.mode refl (reply.Nak byte) refl
  event_less _ t = omega arith

  -- ---- what is on its way comes

  abbrev Paid : Channel → Type 0
  Paid now = (lost : ℕ) → Owes c lost → Owes now lost

  -- a tick

  abbrev ticked_with : Option Command → Stage → Channel
  ticked_with o stage = record c {
    state = tick_in stage c.state;
    down = down_behind c.port.state.unit o c.down;
    up = up_behind o c.up;
  }

  ready_ticks : (lost : ℕ) → most_in c ≤ lost → c.state.stop ≡ false → (q : Phase) → c.state.stage ≡ Ready q → (o : Option Command)
      → command_in c.plan.list c.plan.port q ≡ o → Owes (after_event c event.Tick) lost
  ready_ticks lost few no_wish q at None is =
      absurd (gives_some c.plan.list c.plan.port c.port.state.cued c.aired c.state.settled q
      (sent_place c.plan.list c.port.state.cued c.aired c.state.settled q
      (subst (PlaceAt c.plan.list c.port.clips c.port.state.cued c.aired c.state.settled) at k.stands.place)) is)
  ready_ticks lost few no_wish q at (Some d) is =
      subst (λ (o : Option Command). Owes (ticked_with o c.state.stage) lost) (sym gives)
      (inr (
        q,
        ap (λ (x : State). x.stage) (ticks_on c.state q at no_wish),
        inl (record {
          nothing_up = refl;
          asks = d;
          is = is;
          reads = below.alone m (below.command_fits c.port.state.unit d (omega (arith, k.unit_fits)) writable);
        }),
        omega (arith, few, ap (most_at c.plan.mode s e) at),
      ))
    where
      m : Content
      m = command_message c.port.state.unit d

      gives : given c.plan c.state ≡ Some d
      gives = gives_own c.plan c.state q at no_wish ∙ is

      writable : IsWritableCommand d
      writable = subst (λ (o : Option Command). IfSome o IsWritableCommand) gives
          (below.given_written c.plan c.state k.of_bytes k.port_fits)

  tick_owes : c.state.stop ≡ false → Paid (after_event c event.Tick)
  tick_owes no_wish lost h = by c.state.stage refl h
    where
      still : (stage : Stage) → c.state.stage ≡ stage → Owes (ticked_with (given_in c.plan c.state.stop stage) stage) lost
          → Owes (after_event c event.Tick) lost
      still stage at =
          subst (λ (stage : Stage). Owes (ticked_with (given_in c.plan c.state.stop stage) stage) lost) (sym at)

      by : (stage : Stage) → c.state.stage ≡ stage → Owes c lost → Owes (after_event c event.Tick) lost
      by (Awaiting q) at h = still (Awaiting q) at h
      by (Ended o) at h = still (Ended o) at h
      by (Ready q) at (inl few) = ready_ticks lost few no_wish q at (command_in c.plan.list c.plan.port q) refl
      by (Ready q) at (inr (x, awaits, safe, few)) = absurd (apart (sym at ∙ awaits))
        where
          apart : Ready q ≡ Awaiting x → ⊥
          apart e = cc

  -- the port reads

  abbrev down_of : ClockedPort → Channel
  down_of p = record c { port = p; down = []; up = answered c.port c.down c.up; aired = c.aired ++ aired_for c.port c.down }

  sent_comes : (lost : ℕ) (q : Phase) → c.state.stage ≡ Awaiting q
      → losses c.plan.mode c.log + owed c.plan.mode s e q ≤ lost → IsSent c.plan c.port.state.unit q c.down c.up
      → Owes (after_event c event.Down) lost
  sent_comes lost q at few sent =
      subst (λ (p : ClockedPort). Owes (down_of p) lost) (sym read.leaves) (by c.plan.mode refl (counts c.plan.mode q) refl)
    where
      d : Command
      d = sent.asks

      read : ReadsCommand c.port c.down d
      read = reads d (ap (awaited_in c.plan) at ∙ sent.is) sent.reads

      behind : ClockedPort
      behind = after_change (command_row c.port.clips c.port.state d).change c.port

      s' : Bool
      s' = is_selected (port_after c.port.clips c.port.state (Some d))

      e' : Bool
      e' = is_empty_slot (port_after c.port.clips c.port.state (Some d)).cued

      less : Less c.plan.mode s e s' e' q
      less = reads_less q d at sent.is

      loose : most c.plan.mode s' e' q ≤ owed c.plan.mode s e q → Owes (down_of behind) lost
      loose paid = inl (omega (arith, few, paid, ap (most_at c.plan.mode s' e') at))

      answers : answer_after c.port.clips c.port.state (command_in c.plan.list c.plan.port q) ≡ Some read.answer
      answers = ap (answer_after c.port.clips c.port.state) sent.is ∙ read.answers

      fit : (is_refusal read.answer || fits d read.answer) ≡ true
      fit = of (is_refusal read.answer) (answer_fits c.plan.list c.port.clips c.port.state c.plan.port q read.answer answers)
        where
          of : (b : Bool) → (b || is_asked q read.answer) ≡ true → (b || fits d read.answer) ≡ true
          of true f = refl
          of false f = asked_fits c.plan.list c.plan.port q d read.answer sent.is f

      replied : counts c.plan.mode q ≡ true → is_end c.plan.mode d (Some (heard.Reply read.answer)) ≡ true
          → Owes (down_of behind) lost
      replied counted ends = inr (
        q,
        at,
        inr (record {
          nothing_down = refl;
          asks = d;
          is = sent.is;
          answer = read.answer;
          hears =
              ap (λ (n : ℕ). heard_in n (answered c.port c.down c.up))
              (ap (λ (x : Make). x.unit) (make_change c.plan (command_row c.port.clips c.port.state d).change c.port))
              ∙ ap (heard_in c.port.state.unit)
              (answers_all c.port c.down c.up (command_message c.port.state.unit d) sent.reads) ∙ read.heard;
          ends = ends;
          fit = fit;
        }),
        omega (arith, few, less.2 counted),
      )

      by : (mode : Mode) → c.plan.mode ≡ mode → (b : Bool) → counts c.plan.mode q ≡ b → Owes (down_of behind) lost
      by mode m false counted = loose (less.1 counted)
      by Plain m true counted = replied counted (ap (λ (mode : Mode). is_end mode d (Some (heard.Reply read.answer))) m)
      by Confirming m true counted =
          confirms (answer_confirms c.plan.list c.port.clips c.port.state c.plan.port q read.answer (opened_at q at)
          senses_it answers)
        where
          senses_it : senses q ≡ true
          senses_it = subst (λ (mode : Mode). counts mode q ≡ true) m counted

          confirms : (is_receipt read.answer ≡ false) ⊎ ((x : Bool) → most Confirming s x q ≤ owed Confirming s x q)
              → Owes (down_of behind) lost
          confirms (inl honest) = replied counted
              (ap (λ (mode : Mode). is_end mode d (Some (heard.Reply read.answer))) m
              ∙ ap₂ (λ (a b : Bool). a && not b) ((kinds c.plan.list c.plan.port d q sent.is).sense ∙ senses_it) honest)
          confirms (inr paid) =
              let now = paid e in
              loose (omega (
                arith,
                less.0,
                now,
                ap (λ (mode : Mode). most mode s e q) m,
                ap (λ (mode : Mode). owed mode s e q) m,
              ))

  down_owes : Paid (after_event c event.Down)
  down_owes lost (inl few) = inl (omega (arith, few, event_less event.Down tt))
  down_owes lost (inr (q, at, inl sent, few)) = sent_comes lost q at few sent
  down_owes lost (inr (q, at, inr x, few)) =
      subst (λ (p : ClockedPort). Owes (down_of p) lost) (sym (below.none_left c.port c.down (ap messages_of x.nothing_down)))
      (inr (
        q,
        at,
        inr (record {
          nothing_down = refl;
          asks = x.asks;
          is = x.is;
          answer = x.answer;
          hears = subst (λ (down : List ℕ). heard_in c.port.state.unit (answered c.port down c.up) ≡ Some (heard.Reply x.answer))
              (sym x.nothing_down) x.hears;
          ends = x.ends;
          fit = x.fit;
        }),
        few,
      ))

  -- the controller hears

  abbrev hearing : Option Heard → Channel
  hearing h = record c { state = state_hearing c.plan h c.state; up = []; log = log_hearing c.plan h c.state c.log }

  reply_comes : (lost : ℕ) (q : Phase) → c.state.stage ≡ Awaiting q
      → losses c.plan.mode c.log + owed c.plan.mode s e q ≤ lost → (x : IsReplied c.plan c.port.state.unit q c.down c.up)
      → Owes (hearing (Some (heard.Reply x.answer))) lost
  reply_comes lost q at few x = inl (omega (
    arith,
    few,
    ap (λ (o : Option Exchange). losses c.plan.mode (logged c.log o)) ended,
    ap (λ (t : State). most_at c.plan.mode s e t.stage) to,
    losses_more c.plan.mode false c.log y,
    behind_at c.plan.mode s e (transition_of c.plan c.state q y),
    answered_owes c.plan c.state q x.asks (cued_by false c.log) s e x.is (turn_at q at) (idle_at q at) x.answer x.ends
        (slot_told came (subst IsHonest x.hears honest) q at x.answer refl) x.fit,
  ))
    where
      came : Option Heard
      came = Some (heard.Reply x.answer)

      y : Exchange
      y = record { command = x.asks; heard = came }

      ended : ended_by c.plan came c.state ≡ Some y
      ended = ended_so c.plan c.state came q x.asks at x.is x.ends

      to : came_to c.plan came c.state
          ≡ state_after (transition_of c.plan c.state q y) (unanswered_after c.plan.mode y c.state.unanswered) c.state
      to = leads_so c.plan c.state came q y at ended

  up_owes : Paid (after_event c event.Up)
  up_owes lost (inl few) = inl (omega (arith, few, event_less event.Up tt))
  up_owes lost (inr (q, at, inl sent, few)) =
      subst (λ (up : List ℕ). Owes (hearing (heard_in c.port.state.unit up)) lost) (sym sent.nothing_up)
      (inr (q, at, inl (record { nothing_up = refl; asks = sent.asks; is = sent.is; reads = sent.reads }), few))
  up_owes lost (inr (q, at, inr x, few)) =
      subst (λ (h : Option Heard). Owes (hearing h) lost) (sym x.hears) (reply_comes lost q at few x)

  -- nothing comes in time

  abbrev waiting : List ℕ → List ℕ → Channel
  waiting down up = record c {
    state = state_waiting c.plan down up c.state;
    log = log_waiting c.plan down up c.state c.log;
  }

  wait_owes : Paid (after_event c event.Timeout)
  wait_owes lost (inl few) = inl (omega (arith, few, event_less event.Timeout tt))
  wait_owes lost (inr (q, at, inl sent, few)) =
      something_down c.down c.up (command_message c.port.state.unit sent.asks) sent.reads
    where
      something_down : (down up : List ℕ) (m : Content) → messages_of down ≡ m ∷ [] → Owes (waiting down up) lost
      something_down [] up m e = cc
      something_down (b ∷ down) up m e = inr (q, at, inl sent, few)
  wait_owes lost (inr (q, at, inr x, few)) = something_up c.down c.up x.answer x.hears
    where
      something_up : (down up : List ℕ) (y : Reply) → heard_in c.port.state.unit up ≡ Some (heard.Reply y)
          → Owes (waiting down up) lost
      something_up down [] y e = cc
      something_up [] (b ∷ up) y e = inr (q, at, inr x, few)
      something_up (b ∷ down) (b' ∷ up) y e = inr (q, at, inr x, few)

  -- the cue gets done, the clip ends
  clock_owes : (p : ClockedPort) → p.state.unit ≡ c.port.state.unit → IsSame p.state → Paid (record c { port = p })
  clock_owes p unit same lost (inl few) = inl (omega (arith, few, clock_less p.state same.0 same.1))
  clock_owes p unit same lost (inr (q, at, safe, few)) = inr (
    q,
    at,
    subst (λ (n : ℕ). IsOnWay c.plan n q c.down c.up) (sym unit) safe,
    omega (arith, few, ap₂ (λ (x y : Bool). owed c.plan.mode x y q) same.0 same.1),
  )

  loses_one : (x : Event) → IsNoTick x → (lost : ℕ) → Owes c lost → Owes (after_event c x) (lost + 1)
  loses_one x t lost h = inl (omega (arith, event_less x t, owes_most c lost h))

  still : (now : Channel) (lost : ℕ) → Owes now lost → Owes now (lost + 0)
  still now lost = subst (Owes now) (same lost)
    where
      same : (n : ℕ) → n ≡ n + 0
      same n = omega arith

  event_owes : (x : Event) → IsNoStop x → c.state.stop ≡ false → (lost : ℕ) → Owes c lost
      → Owes (after_event c x) (lost + says (loses x))
  event_owes event.Tick on no_wish lost h = still (after_event c event.Tick) lost (tick_owes no_wish lost h)
  event_owes event.Down on no_wish lost h = still (after_event c event.Down) lost (down_owes lost h)
  event_owes event.Up on no_wish lost h = still (after_event c event.Up) lost (up_owes lost h)
  event_owes event.Timeout on no_wish lost h = still (after_event c event.Timeout) lost (wait_owes lost h)
  event_owes event.Ready on no_wish lost h = still (after_event c event.Ready) lost (clock_owes (after_ready c.port) refl (ready_same c.port.state (refl, refl)) lost h)
  event_owes event.End on no_wish lost h = still (after_event c event.End) lost (clock_owes (after_ended c.port) refl (refl, refl) lost h)
  event_owes event.Frame on no_wish lost h =
      still (after_event c event.Frame) lost (clock_owes (after_frame c.port) (below.unit_frame c.port) (frame_same IsSame ready_same ended_same (refl, refl)) lost h)
  event_owes event.Take on no_wish lost h = still (after_event c event.Take) lost (h)
  event_owes event.Stop on no_wish lost h = absurd on
  event_owes event.DownCopy on no_wish lost h = loses_one event.DownCopy tt lost h
  event_owes event.UpCopy on no_wish lost h = loses_one event.UpCopy tt lost h
  event_owes event.LoseDown on no_wish lost h = loses_one event.LoseDown tt lost h
  event_owes event.LoseUp on no_wish lost h = loses_one event.LoseUp tt lost h
  event_owes (event.AlterDown bytes) on no_wish lost h = loses_one (event.AlterDown bytes) tt lost h
  event_owes (event.AlterUp bytes) on no_wish lost h = loses_one (event.AlterUp bytes) tt lost h
  event_owes event.StrayAck on no_wish lost h = loses_one event.StrayAck tt lost h
  event_owes (event.StrayNak byte) on no_wish lost h = loses_one (event.StrayNak byte) tt lost h

-- ---- nobody stops

abbrev IsGoing : Stage → Type 0
IsGoing (Ready q) = is_halting q ≡ false
IsGoing (Awaiting q) = is_halting q ≡ false
IsGoing (Ended o) = Unit {0}

record Unstopped (state : State) (log : List Exchange) : Type 0 where
  no_wish : state.stop ≡ false
  going : IsGoing state.stage
  none : list_any is_stop log ≡ false

next_going : (list : List Item) (n : ℕ) → is_halting (next list n) ≡ false
next_going list n = by (nat_lt n (length list))
  where
    by : (b : Bool) → is_halting (if b then phase.Exists n else phase.Drain) ≡ false
    by true = refl
    by false = refl

reply_going : (mode : Mode) (list : List Item) (limit tries : ℕ) (take : Bool) (q : Phase) (r : Reply) → is_halting q ≡ false
    → IsGoing (stage_after (on_reply mode list limit take tries q r))
reply_going Plain list limit tries take q r h = grind (arith, next_going)
reply_going Confirming list limit tries take q r h = grind (arith, next_going)

refusal_going : (n : ℕ) (q : Phase) → is_halting q ≡ false → IsGoing (stage_after (on_refusal n q))
refusal_going n q h = grind arith

silence_going : (mode : Mode) (limit unanswered : ℕ) (counts : Bool) (q : Phase) → is_halting q ≡ false
    → IsGoing (stage_after (on_unanswered mode limit unanswered counts q))
silence_going Plain limit unanswered counts q h = grind arith
silence_going Confirming limit unanswered counts q h = grind arith

turn_going : (plan : Plan) (state : State) (q : Phase) (x : Exchange) → is_halting q ≡ false
    → IsGoing (stage_after (transition_of plan state q x))
turn_going plan state q x h = by (answer_in x)
  where
    by : (o : Option Reply) → IsGoing (stage_after (transition_on plan state.take state.tries state.unanswered (is_counted plan.mode x) q o))
    by None = silence_going plan.mode plan.limit state.unanswered (is_counted plan.mode x) q h
    by (Some r) = of (is_refusal r)
      where
        of : (b : Bool) → IsGoing (stage_after (if b then on_refusal (length plan.list) q
            else on_reply plan.mode plan.list plan.limit state.take state.tries q r))
        of true = refusal_going (length plan.list) q h
        of false = reply_going plan.mode plan.list plan.limit state.tries state.take q r h

came_unstopped : (plan : Plan) (state : State) (log : List Exchange) (came : Option Heard) → Unstopped state log
    → Unstopped (came_to plan came state) (logged log (ended_by plan came state))
came_unstopped plan state log came u = came_cases Unstopped plan state log came u over
  where
    over : (q : Phase) (d : Command) → state.stage ≡ Awaiting q → command_in plan.list plan.port q ≡ Some d
        → is_end plan.mode d came ≡ true
        → Unstopped (ended_in plan (Awaiting q) (record { command = d; heard = came }) state)
        (log ++ record { command = d; heard = came } ∷ [])
    over q d at is ends = record {
      no_wish = u.no_wish;
      going = turn_going plan state q x halts;
      none = list_any-append is_stop log (x ∷ [])
          ∙ ap₂ (λ (a b : Bool). a || (b || false)) u.none ((kinds plan.list plan.port d q is).stop ∙ no_stop q halts);
    }
      where
        x : Exchange
        x = record { command = d; heard = came }

        halts : is_halting q ≡ false
        halts = subst IsGoing at u.going

        no_stop : (q : Phase) → is_halting q ≡ false → sends_stop q ≡ false
        no_stop q h = grind arith

tick_unstopped : (state : State) (log : List Exchange) → Unstopped state log → Unstopped (ticked state) log
tick_unstopped state log u = by state.stage refl
  where
    by : (stage : Stage) → state.stage ≡ stage → Unstopped (tick_in stage state) log
    by (Ready q) at = sends state.stop u.no_wish
      where
        sends : (stop : Bool) → stop ≡ false → Unstopped (sent (phase_to_send stop q) state) log
        sends true e = cc
        sends false e = record { no_wish = refl; going = subst IsGoing at u.going; none = u.none }
    by _ at = u

hears_unstopped : (plan : Plan) (state : State) (log : List Exchange) (h : Option Heard) → Unstopped state log
    → Unstopped (state_hearing plan h state) (log_hearing plan h state log)
hears_unstopped plan state log None u = u
hears_unstopped plan state log (Some h) u = came_unstopped plan state log (Some h) u

strays_unstopped : (mode : Mode) (plan : Plan) (state : State) (log : List Exchange) (x : Reply) → Unstopped state log
    → Unstopped (state_straying mode plan x state) (log_straying mode plan x state log)
strays_unstopped Plain plan state log x u = u
strays_unstopped Confirming plan state log x u = came_unstopped plan state log (Some (heard.Reply x)) u

event_unstopped : (c : Channel) (x : Event) → IsNoStop x → Unstopped c.state c.log
    → Unstopped (after_event c x).state (after_event c x).log
event_unstopped c event.Tick on u = tick_unstopped c.state c.log u
event_unstopped c event.Up on u = hears_unstopped c.plan c.state c.log (heard_in c.port.state.unit c.up) u
event_unstopped c event.UpCopy on u = hears_unstopped c.plan c.state c.log (heard_in c.port.state.unit c.up) u
event_unstopped c event.Timeout on u = by c.down c.up
  where
    by : (down up : List ℕ) → Unstopped (state_waiting c.plan down up c.state) (log_waiting c.plan down up c.state c.log)
    by [] [] = came_unstopped c.plan c.state c.log None u
    by [] (b ∷ up) = u
    by (b ∷ down) up = u
event_unstopped c event.Take on u = record { no_wish = u.no_wish; going = u.going; none = u.none }
event_unstopped c event.Stop on u = absurd on
event_unstopped c event.StrayAck on u = strays_unstopped c.plan.mode c.plan c.state c.log reply.Ack u
event_unstopped c (event.StrayNak byte) on u = strays_unstopped c.plan.mode c.plan c.state c.log (reply.Nak byte) u
event_unstopped c _ on u = u

-- ---- all events

pub losing_more : (x : Event) (es : List Event) → losing (x ∷ es) ≡ says (loses x) + losing es
losing_more x es = by (loses x)
  where
    by : (b : Bool) → length (if b then x ∷ filter loses es else filter loses es) ≡ says b + losing es
    by true = omega arith
    by false = omega arith

-- no STOP is in the log, and what it shows is paid
pub record Shows (c : Channel) (lost : ℕ) : Type 0 where
  pub unstopped : list_any is_stop c.log ≡ false
  pub paid : losses c.plan.mode c.log ≤ lost

events_owe : Below → (c : Channel) (es : List Event) → IsReached c → IsAllPlayable c → All IsNoStop es → Unstopped c.state c.log
    → (lost : ℕ) → Owes c lost → Shows (after_events c es) (lost + losing es)
events_owe below c [] r playable on u lost h = record { unstopped = u.none; paid = paid h }
  where
    paid : Owes c lost → losses c.plan.mode c.log ≤ lost + 0
    paid (inl few) = omega (arith, few)
    paid (inr (q, at, safe, few)) = omega (arith, few)
events_owe below c (x ∷ es) r playable on u lost h =
    let now = events_owe below (after_event c x) es (step_reached c x r)
    (subst (λ (m : Make). All (λ item. IsTrue (is_playable m.clips item)) m.plan.list) (sym (make_stays c x)) playable)
    (All-tail IsNoStop x es on) (event_unstopped c x (All-head IsNoStop x es on) u) (lost + says (loses x))
    (event_owes below c r playable u.none x (All-head IsNoStop x es on) u.no_wish lost h) in
    record { unstopped = now.unstopped; paid = omega (arith, now.paid, losing_more x es) }

pub reached_shows : Below → (c : Channel) (r : IsReached c) → IsAllPlayable c → All IsNoStop r.events
    → Shows c (losing r.events)
reached_shows below c r playable on =
    subst (λ (x : Channel). Shows x (losing r.events)) (sym r.led)
    (subst (Shows (after_events first r.events)) (same (losing r.events)) (events_owe below first r.events (reached_from_here first) (subst (λ (m : Make). All (λ item. IsTrue (is_playable m.clips item)) m.plan.list)
    (ap make_of r.led ∙ make_after_all first r.events) playable) on
    (record { no_wish = refl; going = refl; none = refl }) 0 (inl (starts r.plan.mode))))
  where
    same : (n : ℕ) → 0 + n ≡ n
    same n = omega arith

    first : Channel
    first = channel_to r.plan r.port

    reached_from_here : (x : Channel) → IsReached first
    reached_from_here x = record {
      plan = r.plan;
      port = r.port;
      events = [];
      some = r.some;
      few = r.few;
      unit_fits = r.unit_fits;
      port_fits = r.port_fits;
      of_bytes = r.of_bytes;
      numbered = r.numbered;
      nothing_cued = r.nothing_cued;
      led = refl;
    }

    starts : (mode : Mode) → 0 + owed mode (is_selected r.port.state) (is_empty_slot r.port.state.cued) phase.Open ≤ 0
    starts Plain = omega arith
    starts Confirming = omega arith
