-- A port in whose cued slot something was left over, in plain mode: until a cue goes there, all is as if it were empty.
use Rattle.std.proofs.Common.{ℕ, ◌≡◌, ◌<◌, ◌⊎◌, inl, inr, Bool, true, false, ◌||◌, nat_lt, List, [], ◌∷◌, ◌++◌, length, refl, sym, ap, ap₂, subst, ◌∙◌, arith, if◌then◌else◌}
use Rattle.std.specs.Option.{option_map, option_to_list}
use Rattle.std.specs.Prelude.{Option, None, Some, IfSome, slice_get}
use Rattle.vdcp_value.specs.declared.clip_id.ClipId.{ClipId}
use Rattle.vdcp_value.specs.declared.part.Item.{Item}
use Rattle.vdcp_value.specs.declared.part.Part.{Part}
use Rattle.vdcp_value.specs.declared.timecode.Timecode.{Timecode}
use Rattle.vdcp_frame.specs.Burst.{messages_of, end_of}
use Rattle.vdcp_frame.specs.Message.{Content}
use Rattle.vdcp_words.specs.Commands.{command_message, IsWritableCommand}
use Rattle.vdcp_words.specs.declared.command.Command.{Command}
use Rattle.vdcp_words.specs.declared.command.Command.TheVariants as command
use Rattle.vdcp_words.specs.declared.reply.Reply.{Reply}
use Rattle.vdcp_words.specs.declared.reply.Reply.TheVariants as reply
use Rattle.vdcp_port.specs.Answers.{after_burst, after_messages, aired_for, aired_on_way, answer_bytes, end_answers, sent_bytes, sent_for}
use Rattle.vdcp_port.specs.Clock.{ClockedPort, after_change, after_ended, after_frame, after_ready, completes_cue, counted_down, ends_clip, row_at}
use Rattle.vdcp_port.specs.Port.{PortState, empty}
use Rattle.vdcp_port.specs.Row.{Change, Row, keeps, opens, closes, selects, cues, airs, stops, command_row, on_air}
use Rattle.vdcp_auto.specs.Commands.{cue_for, cue_of, fits}
use Rattle.vdcp_auto.specs.Heard.{heard_in}
use Rattle.vdcp_auto.specs.Log.{answer_to, is_counted}
use Rattle.vdcp_auto.specs.Plan.{Plan}
use Rattle.vdcp_auto.specs.Law.{IsLawful}
use Rattle.vdcp_auto.specs.Course.{Reached}
use Rattle.vdcp_auto.specs.Replies.{is_ack, is_receipt, is_refusal}
use Rattle.vdcp_auto.specs.State.{Stage, Ready, Awaiting, Ended, State}
use Rattle.vdcp_auto.specs.Table.{command_in, next, on_refusal, on_reply}
use Rattle.vdcp_auto.specs.Turn.{awaited, awaited_in, came_to, on_answer, on_unanswered, phase_to_send, stage_after, tick_in, ticked, transition_of}
use Rattle.vdcp_auto.specs.declared.exchange.Exchange.{Exchange}
use Rattle.vdcp_auto.specs.declared.exchange.Heard.{Heard}
use Rattle.vdcp_auto.specs.declared.exchange.Heard.TheVariants as heard
use Rattle.vdcp_auto.specs.declared.phase.Mode.{Mode}
use Rattle.vdcp_auto.specs.declared.phase.Mode.TheVariants.{Plain, Confirming}
use Rattle.vdcp_auto.specs.declared.phase.Phase.{Phase}
use Rattle.vdcp_auto.specs.declared.phase.Phase.TheVariants as phase
use Rattle.vdcp_auto.specs.declared.phase.Transition.{Transition}
use Rattle.vdcp_world.specs.Below.{Below}
use Rattle.vdcp_world.specs.AnyPort.{CanRun}
use Rattle.vdcp_world.specs.Channel.{Channel, IsReached, Make, after_event, after_events, answered, channel_to, log_straying, make_of, state_hearing, state_straying, state_waiting}
use Rattle.vdcp_world.specs.Headline.{Headline}
use Rattle.vdcp_world.specs.LateLine.LateChannel.{CanStart}
use Rattle.vdcp_world.specs.declared.event.Event.{Event}
use Rattle.vdcp_world.specs.declared.event.Event.TheVariants as event
use Rattle.vdcp_world.proofs.Claims.{IsKept, TellsIn, ToldOf}
use Rattle.vdcp_world.proofs.Exchanges.{came_cases, either, fits_asked, on_refused, on_replied, turn_by, turn_same}
use Rattle.vdcp_world.proofs.HeadlineProof.{controller_reached, headline, kept_new, reached_kept}
use Rattle.vdcp_world.proofs.Kept.{kept_event}
use Rattle.vdcp_world.proofs.OnTheWay.{Way}
use Rattle.vdcp_world.proofs.PhaseTable.{is_asked}
use Rattle.vdcp_world.proofs.Reached.{make_stays}

-- the port with nothing in its cued slot
abbrev pub emptied_state : PortState → PortState
emptied_state p = record p { cued = empty }

abbrev pub emptied : ClockedPort → ClockedPort
emptied p = record p { state = emptied_state p.state; counts = record { cue = 0; playing = p.counts.playing } }

-- no cue was answered yet: the slot doesn't matter to what may be sent
abbrev pub Early : Phase → Type 0
Early phase.Open = Unit {0}
Early phase.Select = Unit {0}
Early (phase.Exists k) = Unit {0}
Early (phase.Cue k) = Unit {0}
Early phase.Halt = Unit {0}
Early phase.HaltClose = Unit {0}
Early _ = ⊥

abbrev pub EarlyAt : Stage → Type 0
EarlyAt (Ready q) = Early q
EarlyAt (Awaiting q) = Early q
EarlyAt (Ended outcome) = Unit {0}

-- another channel whose port has the slot empty; or a cue has gone there, and they are the same
abbrev pub IsBeside : Channel → Channel → Type 0
IsBeside c d = (d ≡ c) ⊎ ((d ≡ record c { port = emptied c.port }) × EarlyAt c.state.stage)

-- ---- the port

change_same : (change : Change) (p : ClockedPort) → (after_change change (emptied p) ≡ after_change change p)
    ⊎ (after_change change (emptied p) ≡ emptied (after_change change p))
change_same keeps p = inr refl
change_same opens p = inr refl
change_same closes p = inl refl
change_same selects p = inr refl
change_same (cues item) p = inl refl
change_same (airs item) p = inl refl
change_same stops p = inl refl

frame_same : (p : ClockedPort) → after_frame (emptied p) ≡ emptied (after_frame p)
frame_same p = by (completes_cue p) (ends_clip p)
  where
    by : (cue clip : Bool)
        → (if clip then after_ended (emptied (counted_down p)) else emptied (counted_down p))
        ≡ emptied (if clip then after_ended (if cue then after_ready (counted_down p) else counted_down p)
        else (if cue then after_ready (counted_down p) else counted_down p))
    by true true = refl
    by true false = refl
    by false true = refl
    by false false = refl

module _ (clips : List (ClipId × Timecode)) (p : PortState) where
  -- an early phase's command has the same row
  abbrev RowsSame : Option Command → Type 0
  RowsSame None = Unit {0}
  RowsSame (Some d) = command_row clips (emptied_state p) d ≡ command_row clips p d

  cue_rows : (id : ClipId) (part : Option Part) → RowsSame (Some (cue_for id part))
  cue_rows id None = refl
  cue_rows id (Some part) = refl

  cues_rows : (o : Option Item) → RowsSame (option_map cue_of o)
  cues_rows None = tt
  cues_rows (Some item) = cue_rows item.id item.part

  exists_rows : (o : Option Item) → RowsSame (option_map (λ item. command.IdRequest item.id) o)
  exists_rows None = tt
  exists_rows (Some item) = refl

  rows_same : (list : List Item) (port : ℕ) (q : Phase) → Early q → RowsSame (command_in list port q)
  rows_same list port phase.Open early = refl
  rows_same list port phase.Select early = refl
  rows_same list port (phase.Exists k) early = exists_rows (slice_get list k)
  rows_same list port (phase.Cue k) early = cues_rows (slice_get list k)
  rows_same list port phase.Halt early = refl
  rows_same list port phase.HaltClose early = refl
  rows_same list port _ early = absurd early

-- what a delivery leaves is the same
record ReadsSame (p : ClockedPort) (down : List ℕ) : Type 0 where
  sends : sent_for (emptied p) down ≡ sent_for p down
  puts : aired_for (emptied p) down ≡ aired_for p down
  leaves : (after_burst (emptied p) down ≡ after_burst p down) ⊎ (after_burst (emptied p) down ≡ emptied (after_burst p down))

nothing_same : (p : ClockedPort) (down : List ℕ) → messages_of down ≡ [] → ReadsSame p down
nothing_same p down none = record {
  sends = ap (λ (ms : List Content). sent_bytes (emptied p) ms (end_of down)) none
      ∙ sym (ap (λ (ms : List Content). sent_bytes p ms (end_of down)) none);
  puts = ap (aired_on_way (emptied p)) none ∙ sym (ap (aired_on_way p) none);
  leaves = inr (ap (after_messages (emptied p)) none ∙ sym (ap (λ (ms : List Content). emptied (after_messages p ms)) none));
}

command_same : Below → (p : ClockedPort) (down : List ℕ) (d : Command) → IsWritableCommand d
    → command_row p.clips (emptied_state p.state) d ≡ command_row p.clips p.state d
    → messages_of down ≡ command_message p.state.unit d ∷ [] → ReadsSame p down
command_same below p down d writable rows reads = record {
  sends = ap (λ (ms : List Content). sent_bytes (emptied p) ms (end_of down)) reads
      ∙ ap (λ (r : Row). answer_bytes p.state.unit ((option_to_list r.answer ++ []) ++ end_answers (end_of down))) row
      ∙ sym (ap (λ (ms : List Content). sent_bytes p ms (end_of down)) reads);
  puts = ap (aired_on_way (emptied p)) reads ∙ ap (λ (r : Row). option_to_list (on_air r.change) ++ []) row
      ∙ sym (ap (aired_on_way p) reads);
  leaves = left (change_same (row_at p m).change p);
}
  where
    m : Content
    m = command_message p.state.unit d

    row : row_at (emptied p) m ≡ row_at p m
    row = below.own_row (emptied p) d writable ∙ rows ∙ sym (below.own_row p d writable)

    one : after_burst (emptied p) down ≡ after_change (row_at p m).change (emptied p)
    one = ap (after_messages (emptied p)) reads ∙ ap (λ (r : Row). after_change r.change (emptied p)) row

    left : (after_change (row_at p m).change (emptied p) ≡ after_change (row_at p m).change p)
        ⊎ (after_change (row_at p m).change (emptied p) ≡ emptied (after_change (row_at p m).change p))
        → (after_burst (emptied p) down ≡ after_burst p down) ⊎ (after_burst (emptied p) down ≡ emptied (after_burst p down))
    left (inl e) = inl (one ∙ e ∙ sym (ap (after_messages p) reads))
    left (inr e) = inr (one ∙ e ∙ sym (ap (λ (ms : List Content). emptied (after_messages p ms)) reads))

-- ---- the controller

-- the answer isn't that a cue was taken
abbrev NotTaken : Phase → Reply → Type 0
NotTaken (phase.Cue k) r = is_ack r ≡ false
NotTaken _ r = Unit {0}

early_next : (list : List Item) → 0 < length list → Early (next list 0)
early_next list some = by (nat_lt 0 (length list)) (grind (arith, some))
  where
    by : (b : Bool) → b ≡ true → Early (if b then phase.Exists 0 else phase.Drain)
    by true e = tt
    by false e = cc

early_replied : (list : List Item) (limit tries : ℕ) (take : Bool) (q : Phase) (r : Reply) → 0 < length list → Early q
    → is_asked q r ≡ true → NotTaken q r → EarlyAt (stage_after (on_reply Plain list limit take tries q r))
early_replied list limit tries take phase.Select r some early asked taken = early_next list some
early_replied list limit tries take q r some early asked taken = grind arith

early_refused : (n : ℕ) (q : Phase) → Early q → EarlyAt (stage_after (on_refusal n q))
early_refused n q early = grind arith

early_silent : (limit unanswered : ℕ) (counts : Bool) (q : Phase) → Early q
    → EarlyAt (stage_after (on_unanswered Plain limit unanswered counts q))
early_silent limit unanswered counts q early = grind arith

module _ (plan : Plan) (plain : plan.mode ≡ Plain) (some : 0 < length plan.list) where
  early_turn : (state : State) (q : Phase) (c : Command) (came : Option Heard) → command_in plan.list plan.port q ≡ Some c
      → Early q → ((r : Reply) → came ≡ Some (heard.Reply r) → NotTaken q r)
      → EarlyAt (stage_after (transition_of plan state q (record { command = c; heard = came })))
  early_turn state q c came is early taken =
      subst (λ (t : Transition). EarlyAt (stage_after t))
      (ap (λ (mode : Mode). turn_by mode plan.list plan.limit state.take state.tries state.unanswered counts q
      (answer_to c came)) (sym plain)
      ∙ turn_same plan state.take state.tries state.unanswered counts q (answer_to c came)) (by came taken)
    where
      counts : Bool
      counts = is_counted plan.mode (record { command = c; heard = came })

      Led : Option Reply → Type 0
      Led o = EarlyAt (stage_after (turn_by Plain plan.list plan.limit state.take state.tries state.unanswered counts q o))

      by : (came : Option Heard) → ((r : Reply) → came ≡ Some (heard.Reply r) → NotTaken q r) → Led (answer_to c came)
      by (Some (heard.Reply r)) taken = which (is_refusal r || fits c r) refl
        where
          answers : (is_refusal r ≡ true) ⊎ ((is_refusal r ≡ false) × (fits c r ≡ true))
              → EarlyAt (stage_after (on_answer Plain plan.list plan.limit state.take state.tries q r))
          answers (inl refused) =
              subst (λ (t : Transition). EarlyAt (stage_after t))
              (sym (on_refused Plain plan.list plan.limit state.tries state.take q r refused))
              (early_refused (length plan.list) q early)
          answers (inr (none, f)) =
              subst (λ (t : Transition). EarlyAt (stage_after t))
              (sym (on_replied Plain plan.list plan.limit state.tries state.take q r none))
              (early_replied plan.list plan.limit state.tries state.take q r some early
              (fits_asked plan.list plan.port q c r is f) (taken r refl))

          which : (b : Bool) → (is_refusal r || fits c r) ≡ b → Led (if b then Some r else None)
          which true f = answers (either (is_refusal r) (fits c r) f)
          which false f = early_silent plan.limit state.unanswered counts q early
      by _ taken = early_silent plan.limit state.unanswered counts q early

  early_came : (state : State) (came : Option Heard) → EarlyAt state.stage
      → ((q : Phase) → state.stage ≡ Awaiting q → (r : Reply) → came ≡ Some (heard.Reply r) → NotTaken q r)
      → EarlyAt (came_to plan came state).stage
  early_came state came early taken =
      came_cases (λ (s : State) (log : List Exchange). EarlyAt s.stage) plan state [] came early
      (λ q c at is e. early_turn state q c came is (subst EarlyAt at early) (taken q at))

  early_ticked : (state : State) → EarlyAt state.stage → EarlyAt (ticked state).stage
  early_ticked state early = by state.stage early
    where
      sends : (stop : Bool) (q : Phase) → Early q → Early (phase_to_send stop q)
      sends true q h = tt
      sends false q h = h

      by : (stage : Stage) → EarlyAt stage → EarlyAt (tick_in stage state).stage
      by (Ready q) h = sends state.stop q h
      by _ h = early

  early_waiting : (state : State) (down up : List ℕ) → EarlyAt state.stage → EarlyAt (state_waiting plan down up state).stage
  early_waiting state [] [] early = early_came state None early (λ q at r is. absurd (nothing r is))
    where
      nothing : (r : Reply) → None ≡ Some (heard.Reply r) → ⊥
      nothing r e = cc
  early_waiting state [] (byte ∷ up) early = early
  early_waiting state (byte ∷ down) up early = early

  early_hearing : (state : State) (h : Option Heard) → EarlyAt state.stage
      → ((q : Phase) → state.stage ≡ Awaiting q → (r : Reply) → h ≡ Some (heard.Reply r) → NotTaken q r)
      → EarlyAt (state_hearing plan h state).stage
  early_hearing state None early taken = early
  early_hearing state (Some h) early taken = early_came state (Some h) early taken

-- ---- all events

module _ (below : Below) (c : Channel) (plain : c.plan.mode ≡ Plain) (some : 0 < length c.plan.list)
    (early : EarlyAt c.state.stage) (k : IsKept (record c { port = emptied c.port })) where
  abbrev other : Channel
  other = record c { port = emptied c.port }

  -- where the slot is empty no cue was taken
  not_taken : (q : Phase) → c.state.stage ≡ Awaiting q → (r : Reply)
      → heard_in c.port.state.unit c.up ≡ Some (heard.Reply r) → NotTaken q r
  not_taken (phase.Cue i) at r hears = by (is_ack r) refl
    where
      firm : is_ack r ≡ true → true ≡ false
      firm = ((subst (λ (stage : Stage). ToldOf c.plan.mode (TellsIn (make_of other)) other.port.state c.aired stage
          (heard_in c.port.state.unit c.up)) at k.told r hears (λ confirms. plain_not confirms)).1 plain).1
        where
          plain_not : c.plan.mode ≡ Confirming → is_receipt r ≡ false
          plain_not confirms = cc

      by : (b : Bool) → is_ack r ≡ b → is_ack r ≡ false
      by true e = absurd (impossible (firm e))
        where
          impossible : true ≡ false → ⊥
          impossible e = cc
      by false e = e
  not_taken _ at r hears = tt

  reads : ReadsSame c.port c.down
  reads = by k.way
    where
      written : (stage : Stage) (d : Command) → c.state.stage ≡ stage → EarlyAt stage → awaited_in c.plan stage ≡ Some d
          → command_row c.port.clips (emptied_state c.port.state) d ≡ command_row c.port.clips c.port.state d
      written (Awaiting q) d at h is =
          subst (RowsSame c.port.clips c.port.state) is (rows_same c.port.clips c.port.state c.plan.list c.plan.port q h)
      written (Ready q) d at h is = cc
      written (Ended o) d at h is = cc

      by : Way c.plan.mode c.port.state.unit (awaited c.plan c.state) c.down c.up → ReadsSame c.port c.down
      by (inl none) = nothing_same c.port c.down none
      by (inr (d, is, ms, quiet)) =
          command_same below c.port c.down d
          (subst (λ (o : Option Command). IfSome o IsWritableCommand) is
          (below.awaited_written c.plan c.state k.of_bytes k.port_fits))
          (written c.state.stage d refl early is) ms

  answered_same : (down : List ℕ) → sent_for (emptied c.port) down ≡ sent_for c.port down
      → answered (emptied c.port) down c.up ≡ answered c.port down c.up
  answered_same [] e = refl
  answered_same (byte ∷ down) e = e

  -- a port that has read, with these on the way
  read_beside : (p q : ClockedPort) (down up up' : List ℕ) (aired aired' : List Item) → up' ≡ up → aired' ≡ aired
      → (q ≡ p) ⊎ (q ≡ emptied p)
      → IsBeside (record c { port = p; down = down; up = up; aired = aired })
      (record c { port = q; down = down; up = up'; aired = aired' })
  read_beside p q down up up' aired aired' u a (inl same) = inl
      (ap (λ (x : ClockedPort). record c { port = x; down = down; up = up'; aired = aired' }) same
      ∙ ap₂ (λ (x : List ℕ) (y : List Item). record c { port = p; down = down; up = x; aired = y }) u a)
  read_beside p q down up up' aired aired' u a (inr same) = inr (
    ap (λ (x : ClockedPort). record c { port = x; down = down; up = up'; aired = aired' }) same
        ∙ ap₂ (λ (x : List ℕ) (y : List Item). record c { port = emptied p; down = down; up = x; aired = y }) u a,
    early,
  )

  early_event : (e : Event) → IsBeside (after_event c e) (after_event other e)
  early_event event.Tick = inr (refl, early_ticked c.plan plain some c.state early)
  early_event event.Down =
      read_beside (after_burst c.port c.down) (after_burst (emptied c.port) c.down) [] _ _ _ _
      (answered_same c.down reads.sends) (ap (λ (l : List Item). c.aired ++ l) reads.puts) reads.leaves
  early_event event.DownCopy =
      read_beside (after_burst c.port c.down) (after_burst (emptied c.port) c.down) c.down _ _ _ _
      refl (ap (λ (l : List Item). c.aired ++ l) reads.puts) reads.leaves
  early_event event.Up =
      inr (refl, early_hearing c.plan plain some c.state (heard_in c.port.state.unit c.up) early not_taken)
  early_event event.UpCopy =
      inr (refl, early_hearing c.plan plain some c.state (heard_in c.port.state.unit c.up) early not_taken)
  early_event event.Timeout = inr (refl, early_waiting c.plan plain some c.state c.down c.up early)
  early_event event.Frame = inr (ap (λ (p : ClockedPort). record c { port = p }) (frame_same c.port), early)
  early_event event.StrayAck = stray
    where
      stray : IsBeside (after_event c event.StrayAck) (after_event other event.StrayAck)
      stray = subst (λ (mode : Mode). IsBeside
          (record c { state = state_straying mode c.plan reply.Ack c.state; log = log_straying mode c.plan reply.Ack c.state c.log })
          (record other { state = state_straying mode c.plan reply.Ack c.state; log = log_straying mode c.plan reply.Ack c.state c.log }))
          (sym plain) (inr (refl, early))
  early_event (event.StrayNak byte) =
      subst (λ (mode : Mode). IsBeside
      (record c { state = state_straying mode c.plan (reply.Nak byte) c.state; log = log_straying mode c.plan (reply.Nak byte) c.state c.log })
      (record other { state = state_straying mode c.plan (reply.Nak byte) c.state; log = log_straying mode c.plan (reply.Nak byte) c.state c.log }))
      (sym plain) (inr (refl, early))
  early_event _ = inr (refl, early)

pub beside_event : Below → (c d : Channel) → c.plan.mode ≡ Plain → 0 < length c.plan.list → IsKept d → IsBeside c d → (e : Event)
    → IsBeside (after_event c e) (after_event d e)
beside_event below c d plain some k (inl same) e = inl (ap (λ (x : Channel). after_event x e) same)
beside_event below c d plain some k (inr (same, early)) e =
    subst (λ (x : Channel). IsBeside (after_event c e) (after_event x e)) (sym same)
    (early_event below c plain some early (subst IsKept same k) e)

beside_events : Below → (c d : Channel) (es : List Event) → c.plan.mode ≡ Plain → 0 < length c.plan.list → IsKept d
    → IsBeside c d → IsBeside (after_events c es) (after_events d es)
beside_events below c d [] plain some k b = b
beside_events below c d (e ∷ es) plain some k b =
    let made = make_stays c e in
    beside_events below (after_event c e) (after_event d e) es (ap (λ (m : Make). m.plan.mode) made ∙ plain)
    (subst (λ (m : Make). 0 < length m.plan.list) (sym made) some) (kept_event below d k e)
    (beside_event below c d plain some k b e)

headline_beside : (c d : Channel) → IsBeside c d → Headline d → Headline c
headline_beside c d (inl same) h = subst Headline same h
headline_beside c d (inr (same, early)) h =
    let x = subst Headline same h in record {
      beginning = x.beginning;
      reported = x.reported;
      count = x.count;
      is_settled = x.is_settled;
      keeps_rules = x.keeps_rules;
      may_await = x.may_await;
      ended = x.ended;
    }

abbrev pub reached_from : (plan : Plan) (port : ClockedPort) (es : List Event) → CanStart plan port [] []
    → port.state.number ≡ plan.port → port.state.cued ≡ empty → IsReached (after_events (channel_to plan port) es)
reached_from plan port es can numbered nothing = record {
  plan = plan;
  port = port;
  events = es;
  some = can.some;
  few = can.few;
  unit_fits = can.unit_fits;
  port_fits = can.port_fits;
  of_bytes = can.of_bytes;
  numbered = numbered;
  nothing_cued = nothing;
  led = refl;
}

-- it begins with the slot empty
pub emptied_can : (plan : Plan) (port : ClockedPort) → CanRun plan port → CanRun plan (emptied port)
emptied_can plan port can =
    let start = can.can_start in record {
      can_start = record {
        some = start.some;
        few = start.few;
        unit_fits = start.unit_fits;
        port_fits = start.port_fits;
        of_bytes = start.of_bytes;
        nothing_cued = λ _. refl;
        asked = start.asked;
        answered = start.answered;
      };
      numbered = can.numbered;
      cued = inl refl;
    }

pub emptied_reached : (plan : Plan) (port : ClockedPort) (es : List Event) → CanRun plan port
    → IsReached (after_events (channel_to plan (emptied port)) es)
emptied_reached plan port es can = reached_from plan (emptied port) es (emptied_can plan port can).can_start can.numbered refl

pub beside_new : Below → (plan : Plan) (port : ClockedPort) (es : List Event) → CanRun plan port → plan.mode ≡ Plain
    → 0 < length plan.list
    → IsBeside (after_events (channel_to plan port) es) (after_events (channel_to plan (emptied port)) es)
beside_new below plan port es can plain some =
    let start = can.can_start in
    beside_events below (channel_to plan port) (channel_to plan (emptied port)) es plain some
    (kept_new plan (emptied port) start.unit_fits start.port_fits start.of_bytes can.numbered refl) (inr (refl, tt))

-- what holds from a port with nothing cued, and of the other channel, holds of a run from any port
pub from_any : {A : Type 0} (plan : Plan) (port : ClockedPort) → CanRun plan port → (port.state.cued ≡ empty → A)
    → (plan.mode ≡ Plain → 0 < length plan.list → A) → A
from_any {A} plan port can nothing beside = by can.cued
  where
    something : (mode : Mode) → plan.mode ≡ mode → 0 < length plan.list → A
    something Confirming confirms some = nothing (can.can_start.nothing_cued confirms)
    something Plain plain some = beside plain some

    by : (port.state.cued ≡ empty) ⊎ (0 < length plan.list) → A
    by (inl none) = nothing none
    by (inr some) = something plan.mode refl some

pub any_port : Below → ((plan : Plan) (state : State) (log : List Exchange) → Reached plan state log → IsLawful plan state log)
    → (plan : Plan) (port : ClockedPort) (es : List Event) → CanRun plan port
    → Headline (after_events (channel_to plan port) es)
any_port below lawful plan port es can =
    from_any plan port can (λ nothing. keeps _ (reached_from plan port es can.can_start can.numbered nothing))
    (λ plain some. headline_beside _ _ (beside_new below plan port es can plain some) (keeps _ (emptied_reached plan port es can)))
  where
    keeps : (c : Channel) → IsReached c → Headline c
    keeps c r = headline c (reached_kept below c r) (lawful c.plan c.state c.log (controller_reached c r))
