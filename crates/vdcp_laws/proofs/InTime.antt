-- Two ends in time, step by step, and the channel beside them: each step is one of its events, or none.
use Rattle.std.proofs.Common.{ℕ, ◌≡◌, ◌<◌, ◌⊎◌, ◌||◌, inl, inr, Bool, true, false, arith, All, List, [], ◌∷◌, ◌++◌, length, map, refl, sym, ap, ap₂, subst, ◌∙◌, append-nil}
use Rattle.std.proofs.lemmas.List.{append_cancel_left}
use Rattle.std.proofs.lemmas.List.Elements.{All-append, All-cons, All-head, All-nil, All-tail}
use Rattle.std.proofs.lemmas.List.Folds.{list_any-append}
use Rattle.std.specs.List.{list_any}
use Rattle.std.specs.Prelude.{IfSome, IsSome, IsTrue, Option, None, Some}
use Rattle.vdcp_value.specs.declared.clip_id.ClipId.{ClipId}
use Rattle.vdcp_value.specs.declared.part.Item.{Item}
use Rattle.vdcp_value.specs.declared.timecode.Timecode.{Timecode}
use Rattle.vdcp_frame.specs.Message.{Content, ack, nak, framed, Fits, spelling}
use Rattle.vdcp_words.specs.Commands.{command_message}
use Rattle.vdcp_words.specs.declared.command.Command.{Command}
use Rattle.vdcp_port.specs.Answers.{sent_for}
use Rattle.vdcp_port.specs.Clips.{is_playable}
use Rattle.vdcp_port.specs.Clock.{ClockedPort}
use Rattle.vdcp_auto.specs.Plan.{Plan}
use Rattle.vdcp_auto.specs.State.{Stage, Ready, Awaiting, Ended, State}
use Rattle.vdcp_auto.specs.Turn.{given, given_in, is_awaiting, outcome_of, ticked}
use Rattle.vdcp_auto.specs.declared.exchange.Exchange.{Exchange}
use Rattle.vdcp_journal.specs.declared.row.Note.{Note}
use Rattle.vdcp_journal.specs.declared.row.Note.TheVariants as note
use Rattle.vdcp_drive.specs.Reading.{Held, completed}
use Rattle.vdcp_drive.specs.Serving.{Service}
use Rattle.vdcp_drive.specs.declared.hooks.Call.TheVariants as call
use Rattle.vdcp_world.specs.AnyPort.{CanRun}
use Rattle.vdcp_world.specs.Headline.{Headline, Means}
use Rattle.vdcp_world.specs.Channel.{Channel, after_event, after_events, channel_to, down_behind, up_behind}
use Rattle.vdcp_world.specs.InTime.{HasOneWay, IsNoStop, LosesNone, PlaysOn}
use Rattle.vdcp_world.specs.NoCut.{CutsUnasked, is_take}
use Rattle.vdcp_world.specs.LateLine.Joined.{late_of}
use Rattle.vdcp_world.specs.LateLine.LateChannel.{IsQuestion, LateChannel, after_late_event, after_late_events, bursts_of, command_bursts}
use Rattle.vdcp_world.specs.LateLine.LateEvent as late
use Rattle.vdcp_world.specs.LateLine.LateEvent.{LateEvent}
use Rattle.vdcp_world.specs.declared.event.Event.{Event}
use Rattle.vdcp_world.specs.declared.event.Event.TheVariants as event
use Rattle.vdcp_laws.specs.InTime as timely
use Rattle.vdcp_laws.specs.InTime.{AreChannel, AreNewInTime, CutsShort, HasCome, IsInTime, IsNoStopNote, IsNoTakeNote}
use Rattle.vdcp_laws.specs.TwoEnds as two
use Rattle.vdcp_laws.specs.TwoEnds.{AreJoined, CanJoin, Ends, Step, aired_now, log_now, new_ends, notes_ended, notes_given, notes_heard, with_command, with_down}
use Rattle.vdcp_laws.proofs.Bytes.{fits_rest, spelt, spelt_both}
use Rattle.vdcp_laws.proofs.Connecting.{begins, heeds, ready}
use Rattle.vdcp_laws.specs.Below as below
use Rattle.vdcp_laws.proofs.Joining.{Comes, IsBeside, comes_down, comes_up, gives_next, passes, pauses, shuts, times_out}
use Rattle.vdcp_laws.proofs.Queues.{Takes, downs_of, ups_of}

-- and vdcp_world::laws::{what_loses_nothing_plays_the_list, any_port_keeps_the_headline, no_cut_without_a_take}
pub record Laws : Type 0 where
  pub ends : below.Laws
  pub line : (plan : Plan) (port : ClockedPort) (events : List Event) → All LosesNone events
      → HasOneWay (after_events (channel_to plan port) events)
  pub plays : (plan : Plan) (port : ClockedPort) (events : List Event) → CanRun plan port
      → All LosesNone events → All IsNoStop events → All (λ item. IsTrue (is_playable port.clips item)) plan.list
      → (c : Channel) → c ≡ after_events (channel_to plan port) events → PlaysOn plan c.state c.aired c.log 0
  pub headline : (plan : Plan) (port : ClockedPort) (events : List Event) → CanRun plan port
      → Headline (after_events (channel_to plan port) events)
  pub uncut : (plan : Plan) (port : ClockedPort) (events : List Event) (e : Event) → CanRun plan port
      → CutsUnasked (channel_to plan port) events e → ⊥

-- ---- an event of the one line is one of the other

one_burst : (m : Content) → spelling m ∷ [] ≡ bursts_of (spelling m)
one_burst ack = refl
one_burst (nak byte) = refl
one_burst (framed kind unit code rest) = refl

-- what a tick leaves of either line
abbrev Ticks : Channel → Option Command → Type 0
Ticks c o =
    record (late_of c) { state = ticked c.state; down = bursts_of c.down ++ command_bursts c.port.state.unit o }
    ≡ late_of (record c { state = ticked c.state; down = down_behind c.port.state.unit o c.down; up = up_behind o c.up })

tick_same : (c : Channel) → HasOneWay c → after_late_event (late_of c) late.Tick ≡ late_of (after_event c event.Tick)
tick_same c way = by (given c.plan c.state) refl
  where
    rests : (stage : Stage) (d : Command) → given_in c.plan c.state.stop stage ≡ Some d → is_awaiting stage ≡ false
    rests (Ready q) d e = refl
    rests (Awaiting q) d e = cc
    rests (Ended outcome) d e = cc

    by : (o : Option Command) → given c.plan c.state ≡ o → Ticks c (given c.plan c.state)
    by None e = subst (Ticks c) (sym e)
        (ap (λ (q : List (List ℕ)). record (late_of c) { state = ticked c.state; down = q }) (append-nil (bursts_of c.down)))
    by (Some d) e =
        let free = way.rests (rests c.state.stage d e) in
        let m : Content = command_message c.port.state.unit d in
        subst (Ticks c) (sym e)
        (ap₂ (λ (down up : List (List ℕ)). record (late_of c) { state = ticked c.state; down = down; up = up })
        (ap (λ (l : List ℕ). bursts_of l ++ spelling m ∷ []) free.0 ∙ one_burst m) (ap bursts_of free.1))

down_same : (c : Channel) (down : List ℕ) → c.up ≡ []
    → after_late_event (late_of (record c { down = down })) late.Down ≡ late_of (after_event (record c { down = down }) event.Down)
down_same c [] none =
    ap (λ (q : List (List ℕ)). record (late_of (after_event (record c { down = [] }) event.Down)) { up = q })
    (append-nil (bursts_of c.up))
down_same c (byte ∷ down) none =
    ap (λ (up : List ℕ). record (late_of (after_event (record c { down = byte ∷ down }) event.Down)) {
      up = bursts_of up ++ bursts_of (sent_for c.port (byte ∷ down));
    }) none

up_same : (c : Channel) (up : List ℕ)
    → after_late_event (late_of (record c { up = up })) late.Up ≡ late_of (after_event (record c { up = up }) event.Up)
up_same c [] = refl
up_same c (byte ∷ up) = refl

-- ---- a step is an event

-- the events that lead to the channel beside the ends
record AreTimely (plan : Plan) (port : ClockedPort) (e : Ends) : Type 0 where
  events : List Event
  loses_none : All LosesNone events
  no_stop : All IsNoStopNote e.notes → All IsNoStop events
  no_take : All IsNoTakeNote e.notes → list_any is_take events ≡ false
  beside : IsBeside plan port e (late_of (after_events (channel_to plan port) events))

abbrev channel : {plan : Plan} {port : ClockedPort} {e : Ends} → AreTimely plan port e → Channel
channel {plan} {port} t = after_events (channel_to plan port) t.events

-- the ends after a step, of which the channel is told one event, or nothing
record Next (plan : Plan) (port : ClockedPort) (e : Ends) (t : AreTimely plan port e) (e' : Ends) : Type 0 where
  now : AreTimely plan port e'
  by : (now.events ≡ t.events) ⊎ ((x : Event) × (now.events ≡ t.events ++ x ∷ []))

led_by : (c : Channel) (xs : List Event) (x : Event) → after_event (after_events c xs) x ≡ after_events c (xs ++ x ∷ [])
led_by c [] x = refl
led_by c (y ∷ xs) x = led_by (after_event c y) xs x

none_before : {X : Type 0} (P : X → Type 0) (xs ys : List X) → All P (xs ++ ys) → All P xs × All P ys
none_before P [] ys all = (All-nil P, all)
none_before P (x ∷ xs) ys all =
    let rest = none_before P xs ys (All-tail P x (xs ++ ys) all) in
    (All-cons P x xs (All-head P x (xs ++ ys) all) rest.0, rest.1)

module _ (plan : Plan) (port : ClockedPort) (e : Ends) (t : AreTimely plan port e) (e' : Ends) (more : List Note)
    (notes : e'.notes ≡ e.notes ++ more) where
  -- what isn't among the notes now wasn't before
  noted : (P : Note → Type 0) → All P e'.notes → All P e.notes × All P more
  noted P all = none_before P e.notes more (subst (All P) notes all)

  goes_with : (x : Event) → LosesNone x → (All IsNoStopNote more → IsNoStop x) → (All IsNoTakeNote more → is_take x ≡ false)
      → IsBeside plan port e' (late_of (after_event (channel t) x)) → Next plan port e t e'
  goes_with x none stops takes beside = record {
    now = record {
      events = t.events ++ x ∷ [];
      loses_none = All-append LosesNone t.events (x ∷ []) t.loses_none (All-cons LosesNone x [] none (All-nil LosesNone));
      no_stop = λ all. All-append IsNoStop t.events (x ∷ []) (t.no_stop (noted IsNoStopNote all).0)
          (All-cons IsNoStop x [] (stops (noted IsNoStopNote all).1) (All-nil IsNoStop));
      no_take = λ all. list_any-append is_take t.events (x ∷ [])
          ∙ ap₂ (λ (a b : Bool). a || (b || false)) (t.no_take (noted IsNoTakeNote all).0) (takes (noted IsNoTakeNote all).1);
      beside = subst (λ (c : Channel). IsBeside plan port e' (late_of c)) (led_by (channel_to plan port) t.events x) beside;
    };
    by = inr (x, refl);
  }

  goes_still : IsBeside plan port e' (late_of (channel t)) → Next plan port e t e'
  goes_still beside = record {
    now = record {
      events = t.events;
      loses_none = t.loses_none;
      no_stop = λ all. t.no_stop (noted IsNoStopNote all).0;
      no_take = λ all. t.no_take (noted IsNoTakeNote all).0;
      beside = beside;
    };
    by = inl refl;
  }

  -- the messages that bytes complete are the burst on its way, or none
  completes : (x : Event) → LosesNone x → (All IsNoStopNote more → IsNoStop x) → (All IsNoTakeNote more → is_take x ≡ false)
      → (way : List ℕ) (late_event : LateEvent) (events_of : List Content → List LateEvent)
      → (d : Comes plan port e' (late_of (channel t)) (bursts_of way) events_of) → events_of [] ≡ []
      → ((m : Content) → events_of (m ∷ []) ≡ late_event ∷ [])
      → ((m : Content) → bursts_of way ≡ spelling m ∷ d.rest
      → after_late_event (late_of (channel t)) late_event ≡ late_of (after_event (channel t) x)) → Next plan port e t e'
  completes x none stops takes way late_event events_of d no_event one_event same = by d.new refl
    where
      c : LateChannel
      c = late_of (channel t)

      two_of : (way : List ℕ) (m m' : Content) (ms : List Content)
          → bursts_of way ≡ map spelling (m ∷ m' ∷ ms) ++ d.rest → ⊥
      two_of [] m m' ms is = cc
      two_of (byte ∷ way) m m' ms is = cc

      led : (new : List Content) (events : List LateEvent) → d.new ≡ new → events_of new ≡ events
          → IsBeside plan port e' (after_late_events c events)
      led new events n is = subst (λ (l : List LateEvent). IsBeside plan port e' (after_late_events c l))
          (ap events_of n ∙ is) d.beside

      by : (new : List Content) → d.new ≡ new → Next plan port e t e'
      by [] n = goes_still (led [] [] n no_event)
      by (m ∷ []) n =
          goes_with x none stops takes
          (subst (IsBeside plan port e')
          (same m (d.queue_is ∙ ap (λ (l : List Content). map spelling l ++ d.rest) n))
          (led (m ∷ []) (late_event ∷ []) n (one_event m)))
      by (m ∷ m' ∷ ms) n =
          absurd (two_of way m m' ms (d.queue_is ∙ ap (λ (l : List Content). map spelling l ++ d.rest) n))

-- what was sent has come: nothing is on the way
nothing_left : (law : below.Laws) (sent came : List ℕ) (at : Held) (queue : List (List ℕ)) → Takes sent came at queue
    → sent ≡ came → queue ≡ []
nothing_left law sent came at queue w is = w.queue_is ∙ ap (map spelling) (by w.left (fits_rest w.done w.left w.fits) held)
  where
    held : spelt w.left ≡ w.held
    held = append_cancel_left (spelt w.done) (spelt w.left) w.held
        (sym (spelt_both w.done w.left) ∙ sym w.sent_is ∙ is ∙ w.came_is)

    by : (ms : List Content) → All Fits ms → spelt ms ≡ w.held → ms ≡ []
    by [] fits e = refl
    by (m ∷ ms) fits e =
        absurd (w.unfinished.no_front m (spelling m) (spelt ms) (law.spelt.spelt m (All-head Fits m ms fits)) (sym e))

no_burst : (way : List ℕ) → bursts_of way ≡ [] → way ≡ []
no_burst [] e = refl
no_burst (byte ∷ way) e = cc

wait_same : (c : Channel) (down up : List ℕ) → down ≡ [] → up ≡ []
    → after_late_event (late_of (record c { down = down; up = up })) late.Timeout
    ≡ late_of (after_event (record c { down = down; up = up }) event.Timeout)
wait_same c down up d u = grind arith

-- ---- all steps

module _ (law : Laws) (plan : Plan) (port : ClockedPort) (can : CanRun plan port) where
  can_join : CanJoin plan port []
  can_join = record { can_start = can.can_start; only_asks = All-nil (IsQuestion plan.port) }

  line : (e : Ends) (t : AreTimely plan port e) → HasOneWay (channel t)
  line e t = law.line plan port t.events t.loses_none

  nothing_on_way : (e : Ends) (t : AreTimely plan port e)
      → (is_awaiting e.automation.state.stage ≡ true → HasCome port.state.unit e)
      → ((channel t).down ≡ []) × ((channel t).up ≡ [])
  nothing_on_way e t come = by (is_awaiting e.automation.state.stage) refl
    where
      by : (b : Bool) → is_awaiting e.automation.state.stage ≡ b → ((channel t).down ≡ []) × ((channel t).up ≡ [])
      by true awaits = (
        no_burst (channel t).down (nothing_left law.ends _ _ _ _ t.beside.downwards (come awaits).down),
        no_burst (channel t).up (nothing_left law.ends _ _ _ _ t.beside.upwards (come awaits).up),
      )
      by false rests = (line e t).rests (ap (λ (s : State). is_awaiting s.stage) t.beside.state_is ∙ rests)

  some_down : (down : List ℕ) (m : Content) (rest : List (List ℕ)) → bursts_of down ≡ spelling m ∷ rest → down ≡ [] → ⊥
  some_down [] m rest is none = cc
  some_down (byte ∷ down) m rest is none = cc

  takes_step : (e e' : Ends) → AreJoined plan port [] e → (t : AreTimely plan port e)
      → (step : Step plan port.state.unit e e') → IsInTime step → Next plan port e t e'
  takes_step e e' j t two.gave timed =
      goes_with plan port e t e' (notes_given plan e.automation.state) refl event.Tick tt (λ _. tt) (λ _. refl)
      (subst (IsBeside plan port e') (tick_same (channel t) (line e t))
      (gives_next law.ends plan port [] e (late_of (channel t)) can_join (ready law.ends plan port [] e can_join j)
      t.beside))
  takes_step e e' j t (two.came_down piece rest is) timed =
      completes plan port e t e' [] (sym (append-nil e.notes)) event.Down tt (λ _. tt) (λ _. refl) (channel t).down late.Down
      downs_of (comes_down law.ends plan port [] e piece rest (late_of (channel t)) can_join t.beside is) refl (λ m. refl)
      (λ m some. down_same (channel t) (channel t).down (free ((channel t).down) m some (line e t).one))
    where
      free : (down : List ℕ) (m : Content) {rest : List (List ℕ)} → bursts_of down ≡ spelling m ∷ rest
          → (down ≡ []) ⊎ ((channel t).up ≡ []) → (channel t).up ≡ []
      free down m {rest} some (inl none) = absurd (some_down down m rest some none)
      free down m some (inr none) = none
  takes_step e e' j t (two.came_up piece rest is) timed =
      completes plan port e t e' (notes_heard plan port.state.unit (completed e.automation.held piece) e.automation) refl
      event.Up tt (λ _. tt) (λ _. refl) (channel t).up late.Up ups_of
      (comes_up law.ends plan port e piece rest (late_of (channel t)) t.beside is) refl (λ m. refl)
      (λ m some. up_same (channel t) (channel t).up)
  takes_step e e' j t two.waited timed =
      let free = nothing_on_way e t timed in
      goes_with plan port e t e' (notes_ended plan None e.automation.state) refl event.Timeout tt (λ _. tt) (λ _. refl)
      (subst (IsBeside plan port e') (wait_same (channel t) (channel t).down (channel t).up free.0 free.1)
      (times_out plan port e (late_of (channel t)) t.beside))
  takes_step e e' j t two.passed timed =
      goes_with plan port e t e' [] (sym (append-nil e.notes)) event.Frame tt (λ _. tt) (λ _. refl)
      (passes law.ends plan port e (late_of (channel t)) t.beside)
  takes_step e e' j t two.paused timed =
      goes_still plan port e t e' [] (sym (append-nil e.notes))
      (pauses law.ends plan port e (late_of (channel t)) t.beside)
  takes_step e e' j t two.shut timed =
      goes_still plan port e t e' [] (sym (append-nil e.notes)) (shuts law.ends plan port e (late_of (channel t)) t.beside)
  takes_step e e' j t (two.calls call.Take on) timed =
      goes_with plan port e t e' (note.Take ∷ []) refl event.Take tt (λ _. tt)
      (λ all. absurd (All-head IsNoTakeNote note.Take [] all)) (heeds plan port e (late_of (channel t)) call.Take on t.beside)
  takes_step e e' j t (two.calls call.Stop on) timed =
      goes_with plan port e t e' (note.Stop ∷ []) refl event.Stop tt (λ all. All-head IsNoStopNote note.Stop [] all)
      (λ _. refl) (heeds plan port e (late_of (channel t)) call.Stop on t.beside)
  takes_step e e' j t (two.calls (call.List c) on) timed =
      goes_still plan port e t e' (note.List c ∷ []) refl (heeds plan port e (late_of (channel t)) (call.List c) on t.beside)
  takes_step e e' j t (two.asks question d is) timed = absurd timed
  takes_step e e' j t (two.resumed goes) timed = absurd timed
  takes_step e e' j t (two.restarted goes) timed = absurd timed

  are_joined : (e : Ends) → AreNewInTime plan port e → AreJoined plan port [] e
  are_joined _ timely.begun = two.begun
  are_joined _ (timely.went_on {e} j step timed) = two.went_on (are_joined e j) step

  are_timely : (e : Ends) → AreNewInTime plan port e → AreTimely plan port e
  are_timely _ timely.begun = record {
    events = [];
    loses_none = All-nil LosesNone;
    no_stop = λ _. All-nil IsNoStop;
    no_take = λ _. refl;
    beside = begins law.ends plan port [] can_join;
  }
  are_timely _ (timely.went_on {e} {e'} j step timed) =
      (takes_step e e' (are_joined e j) (are_timely e j) step timed).now

pub are_channel : (law : Laws) (plan : Plan) (port : ClockedPort) (e : Ends) → CanRun plan port → AreNewInTime plan port e
    → AreChannel plan port e
are_channel law plan port e can timed =
    let t = are_timely law plan port can e timed in record {
      events = t.events;
      loses_none = t.loses_none;
      no_stop = t.no_stop;
      state_is = t.beside.state_is;
      log_is = t.beside.log_is;
      port_is = sym (ap (λ (x : Service). x.port) t.beside.server_is);
      aired_is = t.beside.aired_is;
    }

-- an end means what it does on a line in time
pub are_ended : (law : Laws) (plan : Plan) (port : ClockedPort) (e : Ends) → CanRun plan port → AreNewInTime plan port e
    → IfSome (outcome_of e.automation.state.stage) (Means port.clips plan (aired_now e) (log_now e))
are_ended law plan port e can timed =
    let t = are_timely law plan port can e timed in
    let b = t.beside in
    let c : Channel = channel t in
    subst (λ (s : State). IfSome (outcome_of s.stage) (Means port.clips plan (aired_now e) (log_now e))) b.state_is
    (subst (λ (l : List Exchange). IfSome (outcome_of c.state.stage) (Means port.clips plan (aired_now e) l)) b.log_is
    (subst (λ (l : List Item). IfSome (outcome_of c.state.stage) (Means port.clips plan l c.log)) b.aired_is
    (subst (λ (clips : List (ClipId × Timecode)). IfSome (outcome_of c.state.stage) (Means clips plan c.aired c.log))
    b.clips_are
    (subst (λ (x : Plan). IfSome (outcome_of c.state.stage) (Means c.port.clips x c.aired c.log)) b.plan_is
    (law.headline plan port t.events can).ended))))

pub are_playing : (law : Laws) (plan : Plan) (port : ClockedPort) (e : Ends) → CanRun plan port
    → AreNewInTime plan port e → All (λ item. IsTrue (is_playable port.clips item)) plan.list → All IsNoStopNote e.notes
    → PlaysOn plan e.automation.state (aired_now e) (log_now e) 0
are_playing law plan port e can timed playable on =
    let t = are_timely law plan port can e timed in
    let c : Channel = channel t in
    subst (λ (s : State). PlaysOn plan s (aired_now e) (log_now e) 0) t.beside.state_is
    (subst (λ (l : List Item). PlaysOn plan c.state l (log_now e) 0) t.beside.aired_is
    (subst (λ (l : List Exchange). PlaysOn plan c.state c.aired l 0) t.beside.log_is
    (law.plays plan port t.events can t.loses_none (t.no_stop on) playable c refl)))

-- nothing goes to air while a clip plays, if the operator didn't take
pub cuts_none : (law : Laws) (plan : Plan) (port : ClockedPort) (e e' : Ends) → CanRun plan port
    → AreNewInTime plan port e → (step : Step plan port.state.unit e e') → IsInTime step → All IsNoTakeNote e.notes
    → CutsShort e e' → ⊥
cuts_none law plan port e e' can timed step now_timed none cut = by n.by
  where
    t : AreTimely plan port e
    t = are_timely law plan port can e timed

    n : Next plan port e t e'
    n = takes_step law plan port can e e' (are_joined law plan port can e timed) t step now_timed

    longer : length (channel t).aired < length (channel n.now).aired
    longer = omega (arith, cut.airs, ap length t.beside.aired_is, ap length n.now.beside.aired_is)

    airs : (events : List Event) → n.now.events ≡ events
        → length (channel t).aired < length (after_events (channel_to plan port) events).aired
    airs events is =
        subst (λ (l : List Event). length (channel t).aired < length (after_events (channel_to plan port) l).aired) is longer

    by : (n.now.events ≡ t.events) ⊎ ((x : Event) × (n.now.events ≡ t.events ++ x ∷ [])) → ⊥
    by (inl same) = omega (arith, airs t.events same)
    by (inr (x, is)) =
        law.uncut plan port t.events x can (record {
          no_take = t.no_take none;
          cuts = record {
            plays = subst (λ (p : ClockedPort). IsSome p.state.playing) (ap (λ (s : Service). s.port) t.beside.server_is)
                cut.plays;
            airs = subst (λ (c : Channel). length (channel t).aired < length c.aired)
                (sym (led_by (channel_to plan port) t.events x)) (airs (t.events ++ x ∷ []) is);
          };
        })
