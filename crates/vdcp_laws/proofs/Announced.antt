-- The PLAY that the state heard last announces, and that may have gone out without its row.
use Rattle.std.proofs.Common.{◌≡◌, ℕ, arith, All, Bool, true, false, List, [], ◌∷◌, ◌++◌, Option, None, Some, append-nil, append_assoc, refl, sym, ap, ap₂, length, subst, ◌∙◌, true≢false}
use Rattle.std.specs.Option.{option_map, option_to_list}
use Rattle.std.specs.Prelude.{IsSome, IsTrue, is_some, remove}
use Rattle.vdcp_value.specs.declared.part.Item.{Item}
use Rattle.vdcp_auto.specs.Table.{on_no_answer, on_refusal, on_reply}
use Rattle.vdcp_auto.specs.declared.phase.Phase.{Phase}
use Rattle.vdcp_auto.specs.declared.phase.Phase.TheVariants as phase
use Rattle.vdcp_world.specs.LateLine.Asking.{asked_in}
use Rattle.vdcp_world.specs.LateLine.Asking.{Question}
use Rattle.vdcp_world.specs.LateLine.Asking as question
use Rattle.vdcp_auto.specs.Course.{logged}
use Rattle.vdcp_auto.specs.Heard.{heard_in}
use Rattle.vdcp_auto.specs.Plan.{Plan}
use Rattle.vdcp_auto.specs.Replies.{is_receipt}
use Rattle.vdcp_auto.specs.State.{Stage, Ready, Awaiting, Ended, State}
use Rattle.vdcp_auto.specs.Turn.{awaited, came_to, ended_by, exchange_of, given, given_in, phase_to_send, stage_after, taken, tick_in, ticked, transition_on}
use Rattle.vdcp_auto.specs.declared.exchange.Exchange.{Exchange}
use Rattle.vdcp_auto.specs.declared.exchange.Heard.{Heard}
use Rattle.vdcp_auto.specs.declared.exchange.Heard.TheVariants as heard
use Rattle.vdcp_auto.specs.declared.phase.Mode.{Mode}
use Rattle.vdcp_auto.specs.declared.phase.Mode.TheVariants.{Plain, Confirming}
use Rattle.vdcp_journal.specs.Thinned.{IsThinned, asks_state, before_play, heard_last, hears_done, hears_free, takes, whole, without}
use Rattle.vdcp_journal.specs.declared.row.Note.{Note}
use Rattle.vdcp_journal.specs.declared.row.Note.TheVariants as note
use Rattle.vdcp_laws.proofs.Commands.{awaits_none_in, exchange_is, left_by, not_ended}
use Rattle.vdcp_laws.proofs.Held.{ahead, ahead_all, ahead_one, with_downs}
use Rattle.vdcp_laws.proofs.Journaled.{asked, given_awaited, one_silence, plan_stays, plan_stays_in}
use Rattle.vdcp_laws.proofs.Running.{given_last, last_more, no_notes}
use Rattle.vdcp_laws.specs.Announced.{Announces, came_again, played_notes}
use Rattle.vdcp_laws.specs.Below.{UnitStays}
use Rattle.vdcp_laws.specs.Kills.{IsRun, begun, happened, said, heard_notes, end_notes, notes_of, played, silence_notes, stray_notes}
use Rattle.vdcp_world.specs.LateLine.GoingOn.{IsNoTick, gone_on}
use Rattle.vdcp_world.specs.LateLine.LateChannel.{LateChannel, after_late_event, after_late_events, command_bursts, oldest}
use Rattle.vdcp_world.specs.LateLine.LateEvent.{LateEvent}
use Rattle.vdcp_world.specs.LateLine.LateEvent as event
use Rattle.vdcp_words.specs.declared.command.Command.{Command}
use Rattle.vdcp_words.specs.declared.command.Command.TheVariants as command
use Rattle.vdcp_words.specs.declared.reply.Reply.{Reply}
use Rattle.vdcp_words.specs.declared.reply.Reply.TheVariants.{Ack, Nak}
use Rattle.vdcp_world.specs.Channel.{log_hearing, log_straying, state_hearing, state_straying}

-- What stays.

-- the port's unit
unit_stays : UnitStays → (c : LateChannel) (e : LateEvent)
    → (after_late_event c e).port.state.unit ≡ c.port.state.unit
unit_stays stays c event.Down = stays.0 c.port (oldest c.down)
unit_stays stays c event.DownCopy = stays.0 c.port (oldest c.down)
unit_stays stays c event.Ready = stays.2 c.port
unit_stays stays c event.End = stays.3 c.port
unit_stays stays c event.Frame = stays.1 c.port
unit_stays stays c other = refl

-- The state is asked, and what was heard last is heard again, after a take: with the request, which may still be on its way.

abbrev pub sent_of : Option Command → List Note
sent_of gives = option_to_list (option_map (λ c. note.Sent c) gives)

abbrev pub Again : Plan → State → Option Command → List Exchange → ℕ → Heard → LateChannel → List Note → Type 0
Again plan s gives log unit h c notes =
    IsRun (ahead c (came_to plan (Some h) (taken s)) (logged log (ended_by plan (Some h) (taken s)))
    (command_bursts unit gives))
    (notes ++ (sent_of gives ++ note.Take ∷ note.Heard h ∷ []))

abbrev pub IsAgain : Heard → LateChannel → List Note → Type 0
IsAgain h c notes = Again c.plan (ticked c.state) (given c.plan c.state) c.log c.port.state.unit h c notes

-- the controller is as it was
again_on : (h : Heard) (c d : LateChannel) (notes : List Note) → d.plan ≡ c.plan → d.state ≡ c.state
    → d.log ≡ c.log → d.port.state.unit ≡ c.port.state.unit
    → Again c.plan (ticked c.state) (given c.plan c.state) c.log c.port.state.unit h d notes → IsAgain h d notes
again_on h c d notes plan state log unit again =
    subst (λ (n : ℕ). Again d.plan (ticked d.state) (given d.plan d.state) d.log n h d notes) (sym unit)
    (subst (λ (l : List Exchange). Again d.plan (ticked d.state) (given d.plan d.state) l c.port.state.unit h d notes)
    (sym log)
    (subst (λ (s : State). Again d.plan (ticked s) (given d.plan s) c.log c.port.state.unit h d notes) (sym state)
    (subst (λ (p : Plan). Again p (ticked c.state) (given p c.state) c.log c.port.state.unit h d notes) (sym plan)
    again)))

still_again : UnitStays → (h : Heard) (c : LateChannel) (notes : List Note) (e : LateEvent) → IsNoTick e
    → (after_late_event c e).state ≡ c.state → (after_late_event c e).log ≡ c.log → IsAgain h c notes
    → IsAgain h (after_late_event c e) notes
still_again stays h c notes e quiet state log again =
    again_on h c (after_late_event c e) notes (plan_stays c e) state log (unit_stays stays c e)
    (ahead_one c (came_to c.plan (Some h) (taken (ticked c.state)))
    (logged c.log (ended_by c.plan (Some h) (taken (ticked c.state))))
    (command_bursts c.port.state.unit (given c.plan c.state))
    (notes ++ (sent_of (given c.plan c.state) ++ note.Take ∷ note.Heard h ∷ [])) e quiet again)

-- A controller that would give PLAY then.

abbrev pub Plays : Plan → State → Heard → Type 0
Plays plan s h = given plan (came_again plan h s) ≡ Some command.Play

pub plays_so : (h : Heard) (plan plan' : Plan) (s s' : State) → plan' ≡ plan → s' ≡ s → Plays plan' s' h → Plays plan s h
plays_so h plan plan' s s' plan_is is plays =
    ap₂ (λ (p : Plan) (x : State). given p (came_again p h x)) (sym plan_is) (sym is) ∙ plays

pub none_some : {A : Type 0} {x : A} → None ≡ Some x → ⊥
none_some is = cc is

-- a command that was given is awaited
pub ticked_twice : (plan : Plan) (stage : Stage) (s : State) (q : Command) → given_in plan s.stop stage ≡ Some q
    → (ticked (tick_in stage s) ≡ tick_in stage s) × (given plan (tick_in stage s) ≡ None)
ticked_twice plan stage s q is = grind arith

none_given : (plan : Plan) (stage : Stage) (s : State) → s.stage ≡ stage → given plan (taken (tick_in stage s)) ≡ None
none_given plan stage s is = grind arith

-- what is heard ends an exchange, since PLAY comes after it
ends_if : (plan : Plan) (s : State) (c : Command) (by : Option Exchange) → given plan s ≡ None
    → given plan (left_by plan s by) ≡ Some c → IsSome by
ends_if plan s c by none gives = grind arith

pub ends_again : (plan : Plan) (s : State) (h : Heard) → Plays plan s h
    → IsSome (ended_by plan (Some h) (taken (ticked s)))
ends_again plan s h plays =
    ends_if plan (taken (ticked s)) command.Play (ended_by plan (Some h) (taken (ticked s)))
    (none_given plan s.stage s refl) plays

awaits_none : (plan : Plan) (stage : Stage) (s : State) → s.stage ≡ stage → awaited plan s ≡ None
    → given_in plan s.stop stage ≡ None → awaited plan (tick_in stage s) ≡ None
awaits_none plan stage s is none gives = grind arith

gives_some : (plan : Plan) (s : State) (h : Heard) (gives : Option Command) → given plan s ≡ gives
    → awaited plan s ≡ None → Plays plan s h → (q : Command) × (given plan s ≡ Some q)
gives_some plan s h (Some q) is none plays = (q, is)
gives_some plan s h None is none plays =
    let ends : ended_by plan (Some h) (taken (ticked s)) ≡ None =
    ap (exchange_of plan.mode (Some h)) (awaits_none plan s.stage s refl none is) in
    absurd (true≢false (sym (ends_again plan s h plays) ∙ ap is_some ends))

-- What is heard, and stays.

heard_end : (h : Heard) (by : Option Exchange) → IsSome by → end_notes (Some h) by ≡ note.Heard h ∷ []
heard_end h None is = absurd (true≢false (sym is))
heard_end h (Some e) is = refl

-- the notes of it
noted_so : (h : Heard) (e : LateChannel) (notes : List Note) (q : Command) (more : List Note)
    → IsRun e (((notes ++ note.Sent q ∷ []) ++ note.Take ∷ []) ++ more) → more ≡ note.Heard h ∷ []
    → IsRun e (notes ++ (sent_of (Some q) ++ note.Take ∷ note.Heard h ∷ []))
noted_so h e notes q more heard is =
    subst (IsRun e)
    (ap (λ (l : List Note). ((notes ++ note.Sent q ∷ []) ++ note.Take ∷ []) ++ l) is
    ∙ append_assoc (notes ++ note.Sent q ∷ []) (note.Take ∷ []) (note.Heard h ∷ [])
    ∙ append_assoc notes (note.Sent q ∷ []) (note.Take ∷ note.Heard h ∷ []))
    heard

-- this was heard by an event that brings it, and then stays or is gone
heard_again : (stays : UnitStays) (c d : LateChannel) (notes : List Note) (x : Heard) (e : Exchange)
    → ended_by c.plan (Some x) c.state ≡ Some e → d.plan ≡ c.plan → d.state ≡ came_to c.plan (Some x) c.state
    → d.log ≡ logged c.log (ended_by c.plan (Some x) c.state) → d.port.state.unit ≡ c.port.state.unit
    → IsRun (record c { state = d.state; log = d.log }) (notes ++ note.Heard x ∷ [])
    → ((s : State) (l : List Exchange) (more : List (List ℕ)) (ns : List Note)
    → IsRun (record c { state = s; log = l; down = c.down ++ more }) ns
    → IsRun (ahead d (came_to c.plan (Some x) s) (logged l (ended_by c.plan (Some x) s)) more)
    (ns ++ end_notes (Some x) (ended_by c.plan (Some x) s)))
    → Plays d.plan d.state x → IsAgain x d (notes ++ note.Heard x ∷ [])
heard_again stays c d notes x e ended plan state log unit first later plays =
    let n : List Note = notes ++ note.Heard x ∷ [] in
    let s : State = d.state in
    let c1 : LateChannel = record c { state = s; log = d.log } in
    let so : Plays c.plan s x = plays_so x c.plan d.plan s s plan refl plays in
    let rests : awaited c.plan s ≡ None =
    ap (awaited c.plan) (state ∙ ap (left_by c.plan c.state) ended)
    ∙ awaits_none_in c.plan c.state.stage e c.state (exchange_is c.plan.mode (Some x) (awaited c.plan c.state) e ended) in
    let gives = gives_some c.plan s x (given c.plan s) refl rests so in
    let took : IsRun (record c {
      state = taken (ticked s);
      log = d.log;
      down = c.down ++ command_bursts c.port.state.unit (given c.plan s);
    }) ((n ++ note.Sent gives.0 ∷ []) ++ note.Take ∷ []) =
    happened (asked c1 n gives.0 first gives.1) event.Take (not_ended c.plan x (ticked s) command.Play so) in
    let heard = later (taken (ticked s)) d.log (command_bursts c.port.state.unit (given c.plan s)) _ took in
    let all : Again c.plan (ticked s) (given c.plan s) d.log c.port.state.unit x d n =
    subst (λ (o : Option Command). IsRun (ahead d (came_to c.plan (Some x) (taken (ticked s)))
    (logged d.log (ended_by c.plan (Some x) (taken (ticked s)))) (command_bursts c.port.state.unit (given c.plan s)))
    (n ++ (sent_of o ++ note.Take ∷ note.Heard x ∷ []))) (sym gives.1)
    (noted_so x (ahead d (came_to c.plan (Some x) (taken (ticked s)))
    (logged d.log (ended_by c.plan (Some x) (taken (ticked s)))) (command_bursts c.port.state.unit (given c.plan s)))
    n gives.0 (end_notes (Some x) (ended_by c.plan (Some x) (taken (ticked s)))) heard
    (heard_end x (ended_by c.plan (Some x) (taken (ticked s))) (ends_again c.plan s x so))) in
    again_on x c1 d n plan refl refl unit all

-- something came up, or nothing
came_by : (stays : UnitStays) (h : Heard) (c d : LateChannel) (notes : List Note) (x : Heard) (by : Option Exchange)
    → ended_by c.plan (Some x) c.state ≡ by → d.plan ≡ c.plan → d.state ≡ came_to c.plan (Some x) c.state
    → d.log ≡ logged c.log (ended_by c.plan (Some x) c.state) → d.port.state.unit ≡ c.port.state.unit
    → IsRun (record c { state = d.state; log = d.log }) (notes ++ end_notes (Some x) by)
    → ((s : State) (l : List Exchange) (more : List (List ℕ)) (ns : List Note)
    → IsRun (record c { state = s; log = l; down = c.down ++ more }) ns
    → IsRun (ahead d (came_to c.plan (Some x) s) (logged l (ended_by c.plan (Some x) s)) more)
    (ns ++ end_notes (Some x) (ended_by c.plan (Some x) s)))
    → (d.state ≡ c.state → d.log ≡ c.log → IsAgain h c notes → IsAgain h d notes)
    → (heard_last notes ≡ Some h → Plays c.plan c.state h → IsAgain h c notes)
    → heard_last (notes ++ end_notes (Some x) by) ≡ Some h → Plays d.plan d.state h
    → IsAgain h d (notes ++ end_notes (Some x) by)
came_by stays h c d notes x None ended plan state log unit first later still before last plays =
    let same : d.state ≡ c.state = state ∙ ap (left_by c.plan c.state) ended in
    subst (IsAgain h d) (sym (append-nil notes))
    (still same (log ∙ ap (logged c.log) ended)
    (before (ap heard_last (sym (append-nil notes)) ∙ last) (plays_so h c.plan d.plan c.state d.state plan same plays)))
came_by stays h c d notes x (Some e) ended plan state log unit first later still before last plays =
    let is : x ≡ h = cc (sym (last_more None notes (note.Heard x ∷ [])) ∙ last) in
    subst (λ (y : Heard). Plays d.plan d.state y → IsAgain y d (notes ++ note.Heard x ∷ [])) is
    (heard_again stays c d notes x e ended plan state log unit first later) plays

-- the burst that comes up next is heard, and stays or is gone
came_up : (stays : UnitStays) (h : Heard) (c d : LateChannel) (notes : List Note) (k : Option Heard)
    → d.plan ≡ c.plan → d.state ≡ state_hearing c.plan k c.state → d.log ≡ log_hearing c.plan k c.state c.log
    → d.port.state.unit ≡ c.port.state.unit
    → IsRun (record c { state = d.state; log = d.log }) (notes ++ heard_notes c k)
    → ((s : State) (l : List Exchange) (more : List (List ℕ)) (ns : List Note)
    → IsRun (record c { state = s; log = l; down = c.down ++ more }) ns
    → IsRun (ahead d (state_hearing c.plan k s) (log_hearing c.plan k s l) more)
    (ns ++ heard_notes (record c { state = s; log = l; down = c.down ++ more }) k))
    → (d.state ≡ c.state → d.log ≡ c.log → IsAgain h c notes → IsAgain h d notes)
    → (heard_last notes ≡ Some h → Plays c.plan c.state h → IsAgain h c notes)
    → heard_last (notes ++ heard_notes c k) ≡ Some h → Plays d.plan d.state h → IsAgain h d (notes ++ heard_notes c k)
came_up stays h c d notes None plan state log unit first later still before last plays =
    subst (IsAgain h d) (sym (append-nil notes))
    (still state log
    (before (ap heard_last (sym (append-nil notes)) ∙ last) (plays_so h c.plan d.plan c.state d.state plan state plays)))
came_up stays h c d notes (Some x) plan state log unit first later still before last plays =
    came_by stays h c d notes x (ended_by c.plan (Some x) c.state) refl plan state log unit first later still before last
    plays

-- A receipt from nowhere ends nothing.

receipt_ends : (mode : Mode) (r : Reply) (asks : Option Command) → mode ≡ Confirming → is_receipt r ≡ true
    → exchange_of mode (Some (heard.Reply r)) asks ≡ None
receipt_ends mode r asks is receipt = grind arith

record Strays (c : LateChannel) (mode : Mode) (r : Reply) : Type 0 where
  notes_are : stray_notes c mode r ≡ []
  state_is : state_straying mode c.plan r c.state ≡ c.state
  log_is : log_straying mode c.plan r c.state c.log ≡ c.log

strays : (c : LateChannel) (mode : Mode) (r : Reply) → c.plan.mode ≡ mode → is_receipt r ≡ true → Strays c mode r
strays c Plain r is receipt = record { notes_are = refl; state_is = refl; log_is = refl }
strays c Confirming r is receipt =
    let none : ended_by c.plan (Some (heard.Reply r)) c.state ≡ None =
    receipt_ends c.plan.mode r (awaited c.plan c.state) is receipt in record {
      notes_are = ap (end_notes (Some (heard.Reply r))) none;
      state_is = ap (left_by c.plan c.state) none;
      log_is = ap (logged c.log) none;
    }

-- All runs.

same_notes : (h : Heard) (d : LateChannel) (notes more : List Note) → more ≡ [] → IsAgain h d notes
    → IsAgain h d (notes ++ more)
same_notes h d notes more none again =
    subst (IsAgain h d) (sym (ap (λ (l : List Note). notes ++ l) none ∙ append-nil notes)) again

same_last : (notes more : List Note) (h : Heard) → more ≡ [] → heard_last (notes ++ more) ≡ Some h
    → heard_last notes ≡ Some h
same_last notes more h none last =
    ap heard_last (sym (ap (λ (l : List Note). notes ++ l) none ∙ append-nil notes)) ∙ last

-- an event that leaves the controller as it was, and has no note
passes : UnitStays → (h : Heard) (c : LateChannel) (notes : List Note) (e : LateEvent) → IsNoTick e
    → notes_of c e ≡ [] → (after_late_event c e).state ≡ c.state → (after_late_event c e).log ≡ c.log
    → (heard_last notes ≡ Some h → Plays c.plan c.state h → IsAgain h c notes)
    → heard_last (notes ++ notes_of c e) ≡ Some h
    → Plays (after_late_event c e).plan (after_late_event c e).state h
    → IsAgain h (after_late_event c e) (notes ++ notes_of c e)
passes stays h c notes e quiet none state log before last plays =
    let d : LateChannel = after_late_event c e in
    same_notes h d notes (notes_of c e) none
    (still_again stays h c notes e quiet state log
    (before (same_last notes (notes_of c e) h none last)
    (plays_so h c.plan d.plan c.state d.state (plan_stays c e) state plays)))

-- the state is asked
asks_it : (h : Heard) (c : LateChannel) (notes : List Note) (gives : Option Command) → given c.plan c.state ≡ gives
    → IsSome gives → (heard_last notes ≡ Some h → Plays c.plan c.state h → IsAgain h c notes)
    → heard_last (notes ++ sent_of gives) ≡ Some h → Plays c.plan (ticked c.state) h
    → IsAgain h (after_late_event c event.Tick) (notes ++ sent_of gives)
asks_it h c notes None is some before last plays = cc some
asks_it h c notes (Some q) is some before last plays =
    let s : State = c.state in
    let n : List Note = notes ++ note.Sent q ∷ [] in
    let d : LateChannel = after_late_event c event.Tick in
    let unit : ℕ = c.port.state.unit in
    let twice = ticked_twice c.plan s.stage s q is in
    let so : Plays c.plan s h =
    ap (λ (x : State). given c.plan (came_to c.plan (Some h) (taken x))) (sym twice.0) ∙ plays in
    let was : Again c.plan (ticked s) (Some q) c.log unit h c notes =
    subst (λ (o : Option Command). Again c.plan (ticked s) o c.log unit h c notes) is
    (before (given_last notes (Some q) h last) so) in
    let moved : IsRun (ahead d (came_to c.plan (Some h) (taken (ticked s)))
    (logged c.log (ended_by c.plan (Some h) (taken (ticked s)))) []) (n ++ note.Take ∷ note.Heard h ∷ []) =
    with_downs (record c {
      state = came_to c.plan (Some h) (taken (ticked s));
      log = logged c.log (ended_by c.plan (Some h) (taken (ticked s)));
    }) (n ++ note.Take ∷ note.Heard h ∷ []) (c.down ++ command_bursts unit (Some q)) (d.down ++ [])
    (ap (λ (o : Option Command). c.down ++ command_bursts unit o) (sym is) ∙ sym (append-nil d.down))
    (subst (IsRun (ahead c (came_to c.plan (Some h) (taken (ticked s)))
    (logged c.log (ended_by c.plan (Some h) (taken (ticked s)))) (command_bursts unit (Some q))))
    (sym (append_assoc notes (note.Sent q ∷ []) (note.Take ∷ note.Heard h ∷ []))) was) in
    subst (λ (x : State). Again c.plan x (given c.plan (ticked s)) c.log unit h d n) (sym twice.0)
    (subst (λ (o : Option Command). Again c.plan (ticked s) o c.log unit h d n) (sym twice.1) moved)

-- a time-out, or a kill, with nothing awaited
silent : (h : Heard) (c : LateChannel) (notes : List Note) (by : Option Exchange) → ended_by c.plan None c.state ≡ by
    → heard_last (notes ++ end_notes None by) ≡ Some h → end_notes None by ≡ []
silent h c notes None is last = refl
silent h c notes (Some e) is last = absurd (none_some (sym (last_more None notes (note.Silence ∷ [])) ∙ last))

unended : (c : LateChannel) (by : Option Exchange) → ended_by c.plan None c.state ≡ by → end_notes None by ≡ []
    → (came_to c.plan None c.state ≡ c.state) × (logged c.log (ended_by c.plan None c.state) ≡ c.log)
unended c None is none = (ap (left_by c.plan c.state) is, ap (logged c.log) is)
unended c (Some e) is none = cc none

-- What is asked beside the controller: if PLAY may come next the controller would ask the same, and may after it, too. So
-- it may have been asked then.

abbrev pub to_play : Stage → Bool
to_play (Ready (phase.Play k)) = true
to_play _ = false

abbrev from_play : Phase → Bool
from_play (phase.Wait k) = true
from_play (phase.Probe k) = true
from_play _ = false

pub one_is : {c d : Command} → Some c ≡ Some d → c ≡ d
one_is is = cc

pub after_play : (plan : Plan) (stop : Bool) (stage : Stage) → given_in plan stop stage ≡ Some command.Play
    → to_play stage ≡ true
after_play plan stop stage is = grind arith

on_reply_plays : (mode : Mode) (list : List Item) (limit : ℕ) (take : Bool) (tries : ℕ) (p : Phase) (r : Reply)
    → to_play (stage_after (on_reply mode list limit take tries p r)) ≡ true → from_play p ≡ true
on_reply_plays mode list limit take tries p r e = grind arith

pub on_refusal_plays : (n : ℕ) (p : Phase) → to_play (stage_after (on_refusal n p)) ≡ true → from_play p ≡ true
on_refusal_plays n p e = grind arith

pub on_silence_plays : (mode : Mode) (p : Phase) → to_play (stage_after (on_no_answer mode p)) ≡ true → from_play p ≡ true
on_silence_plays mode p e = grind arith

leads_to_play : (plan : Plan) (take : Bool) (tries unanswered : ℕ) (counts : Bool) (p : Phase) (o : Option Reply)
    → to_play (stage_after (transition_on plan take tries unanswered counts p o)) ≡ true → from_play p ≡ true
leads_to_play plan take tries unanswered counts p o e = grind (arith, on_refusal_plays, on_reply_plays, on_silence_plays)

-- the controller awaits the answer to this phase's command
came_play : (plan : Plan) (p : Phase) (t : State) (by : Option Exchange) → t.stage ≡ Awaiting p
    → given plan (left_by plan t by) ≡ Some command.Play
    → (to_play (left_by plan t by).stage ≡ true) × (from_play p ≡ true)
came_play plan p t by at is = grind (arith, leads_to_play, after_play)

asks_there : (plan : Plan) (stage : Stage) → to_play stage ≡ true
    → asked_in plan question.State stage ≡ Some (command.Status 1)
asks_there plan stage e = grind arith

-- asks the state, as its controller would, if what it asks leads to PLAY
asks_as_it : (plan : Plan) (stop : Bool) (p : Phase) (asks : Question) (d : Command)
    → from_play (phase_to_send stop p) ≡ true → asked_in plan asks (Ready p) ≡ Some d
    → (asks ≡ question.State) × (d ≡ command.Status 1) × (given_in plan stop (Ready p) ≡ Some (command.Status 1))
asks_as_it plan stop p asks d e is = grind arith

record AsksSame (plan : Plan) (s : State) (h : Heard) (asks : Question) (d : Command) : Type 0 where
  gives : given plan s ≡ Some d
  then_too : asked_in plan asks (came_again plan h s).stage ≡ Some d

asks_same : (plan : Plan) (s : State) (h : Heard) (asks : Question) (d : Command) → Plays plan s h
    → asked_in plan asks s.stage ≡ Some d → AsksSame plan s h asks d
asks_same plan s h asks d plays is = at s.stage refl
  where
    at : (stage : Stage) → s.stage ≡ stage → AsksSame plan s h asks d
    at (Ready p) e =
        let t : State = taken (ticked s) in
        let on : t.stage ≡ Awaiting (phase_to_send s.stop p) = ap (λ (x : Stage). (tick_in x s).stage) e in
        let came = came_play plan (phase_to_send s.stop p) t (ended_by plan (Some h) t) on plays in
        let so = asks_as_it plan s.stop p asks d came.1 (ap (asked_in plan asks) (sym e) ∙ is) in
        record {
          gives = ap (given_in plan s.stop) e ∙ so.2 ∙ ap (λ (c : Command). Some c) (sym so.1);
          then_too = ap (λ (q : Question). asked_in plan q (came_again plan h s).stage) so.0
              ∙ asks_there plan (came_again plan h s).stage came.0 ∙ ap (λ (c : Command). Some c) (sym so.1);
        }
    at (Awaiting p) e = absurd (none_some (ap (asked_in plan asks) (sym e) ∙ is))
    at (Ended outcome) e = absurd (none_some (ap (asked_in plan asks) (sym e) ∙ is))

asked_beside : (h : Heard) (c : LateChannel) (notes : List Note) (asks : Question) (o : Option Command)
    → asked_in c.plan asks c.state.stage ≡ o → Plays c.plan c.state h → IsAgain h c notes
    → IsAgain h (record c { down = c.down ++ command_bursts c.port.state.unit o }) notes
asked_beside h c notes asks None is plays again =
    subst (λ (q : List (List ℕ)). IsAgain h (record c { down = q }) notes) (sym (append-nil c.down)) again
asked_beside h c notes asks (Some d) is plays again =
    let unit : ℕ = c.port.state.unit in
    let same = asks_same c.plan c.state h asks d plays is in
    let s : State = came_to c.plan (Some h) (taken (ticked c.state)) in
    let l : List Exchange = logged c.log (ended_by c.plan (Some h) (taken (ticked c.state))) in
    let n : List Note = notes ++ (sent_of (given c.plan c.state) ++ note.Take ∷ note.Heard h ∷ []) in
    let run : IsRun (record c {
      state = s;
      log = l;
      down = (c.down ++ command_bursts unit (given c.plan c.state)) ++ command_bursts unit (asked_in c.plan asks s.stage);
    }) n = no_notes (happened again (event.Ask asks) tt) in
    subst (λ (q : List (List ℕ)). IsRun (record c { state = s; log = l; down = q }) n)
    (ap₂ (λ (x y : Option Command). (c.down ++ command_bursts unit x) ++ command_bursts unit y) same.gives same.then_too
    ∙ ap (λ (x : Option Command). (c.down ++ command_bursts unit (Some d)) ++ command_bursts unit x) (sym same.gives))
    run

pub again_of : UnitStays → (h : Heard) (c : LateChannel) (notes : List Note) → IsRun c notes → heard_last notes ≡ Some h
    → Plays c.plan c.state h → IsAgain h c notes
again_of stays h _ _ (begun plan port down up can_start) last plays = absurd (none_some last)
again_of stays h _ _ (happened {c} {notes} run event.Tick of_run) last plays =
    asks_it h c notes (given c.plan c.state) refl of_run (again_of stays h c notes run) last plays
again_of stays h _ _ (happened {c} {notes} run (event.Ask question) of_run) last plays =
    let before : heard_last notes ≡ Some h = ap heard_last (sym (append-nil notes)) ∙ last in
    subst (IsAgain h (after_late_event c (event.Ask question))) (sym (append-nil notes))
    (asked_beside h c notes question (asked_in c.plan question c.state.stage) refl plays
    (again_of stays h c notes run before plays))
again_of stays h _ _ (happened {c} {notes} run event.Up of_run) last plays =
    came_up stays h c (after_late_event c event.Up) notes (heard_in c.port.state.unit (oldest c.up)) refl refl refl refl
    (happened run event.UpCopy tt) (λ s l more ns r. happened r event.Up tt)
    (still_again stays h c notes event.Up tt) (again_of stays h c notes run) last plays
again_of stays h _ _ (happened {c} {notes} run event.UpCopy of_run) last plays =
    came_up stays h c (after_late_event c event.UpCopy) notes (heard_in c.port.state.unit (oldest c.up)) refl refl refl refl
    (happened run event.UpCopy tt) (λ s l more ns r. happened r event.UpCopy tt)
    (still_again stays h c notes event.UpCopy tt) (again_of stays h c notes run) last plays
again_of stays h _ _ (happened {c} {notes} run event.Timeout of_run) last plays =
    let none = silent h c notes (ended_by c.plan None c.state) refl last in
    let same = unended c (ended_by c.plan None c.state) refl none in
    passes stays h c notes event.Timeout tt none same.0 same.1 (again_of stays h c notes run) last plays
again_of stays h _ _ (happened {c} {notes} run event.Take of_run) last plays =
    absurd (none_some (sym (last_more None notes (note.Take ∷ [])) ∙ last))
again_of stays h _ _ (happened {c} {notes} run event.Stop of_run) last plays =
    absurd (none_some (sym (last_more None notes (note.Stop ∷ [])) ∙ last))
again_of stays h _ _ (happened {c} {notes} run event.AutomationAnew of_run) last plays = absurd of_run
again_of stays h _ _ (happened {c} {notes} run event.StrayAck of_run) last plays =
    let s = strays c c.plan.mode Ack refl refl in
    passes stays h c notes event.StrayAck tt s.notes_are s.state_is s.log_is (again_of stays h c notes run) last plays
again_of stays h _ _ (happened {c} {notes} run (event.StrayNak byte) of_run) last plays =
    let s = strays c c.plan.mode (Nak byte) refl refl in
    passes stays h c notes (event.StrayNak byte) tt s.notes_are s.state_is s.log_is (again_of stays h c notes run) last
    plays
again_of stays h _ _ (happened {c} {notes} run e of_run) last plays =
    passes stays h c notes e tt refl refl refl (again_of stays h c notes run) last plays
again_of stays h _ _ (said {c} {notes} run call on) last plays =
    absurd (none_some (sym (last_more None notes (note.List call ∷ [])) ∙ last))

-- So it may go on with that PLAY.

last_gone : (down : List (List ℕ)) (burst : List ℕ) → remove (down ++ burst ∷ []) (length down) ≡ down
last_gone [] burst = refl
last_gone (x ∷ down) burst = ap (λ (l : List (List ℕ)). x ∷ l) (last_gone down burst)

-- a command that was given is lost
lost_last : (c : LateChannel) (notes : List Note) (unit : ℕ) (gives : Option Command)
    → IsRun (record c { down = c.down ++ command_bursts unit gives }) notes → IsRun c notes
lost_last c notes unit None run = with_downs c notes (c.down ++ []) c.down (append-nil c.down) run
lost_last c notes unit (Some q) run =
    with_downs c notes _ c.down (last_gone c.down _) (no_notes (happened run (event.LoseDown (length c.down)) tt))

pub goes : UnitStays → (c : LateChannel) (notes : List Note) (h : Heard) (since : List LateEvent) → IsRun c notes
    → Announces c.plan c.state notes h → All IsNoTick since
    → IsRun (gone_on (played h c) (after_late_events c since)) (notes ++ played_notes (given c.plan c.state) h)
goes stays c notes h since run a quiet =
    let unit : ℕ = c.port.state.unit in
    let gives : Option Command = given c.plan c.state in
    let s : State = came_again c.plan h c.state in
    let l : List Exchange = logged c.log (ended_by c.plan (Some h) (taken (ticked c.state))) in
    let ready : LateChannel = record c { state = s; log = l } in
    let before : List Note = sent_of gives ++ note.Take ∷ note.Heard h ∷ [] in
    let n : List Note = notes ++ before in
    let plays : IsRun ready n = lost_last ready n unit gives (again_of stays h c notes run a.last a.plays) in
    let lost : IsRun (played h c) (n ++ note.Sent command.Play ∷ []) =
    lost_last (played h c) (n ++ note.Sent command.Play ∷ []) unit (given c.plan s)
    (asked ready n command.Play plays a.plays) in
    let now : LateChannel = after_late_events c since in
    let p : LateChannel = record now { state = ticked s; log = l } in
    let held : IsRun p (n ++ note.Sent command.Play ∷ []) =
    with_downs p (n ++ note.Sent command.Play ∷ []) (now.down ++ []) now.down (append-nil now.down)
    (ahead_all c (ticked s) l [] (n ++ note.Sent command.Play ∷ []) since quiet
    (with_downs (played h c) (n ++ note.Sent command.Play ∷ []) c.down (c.down ++ []) (sym (append-nil c.down)) lost)) in
    let plan : now.plan ≡ c.plan = plan_stays_in c since in
    let awaits : awaited p.plan p.state ≡ Some command.Play =
    ap (λ (q : Plan). awaited q (ticked s)) plan ∙ given_awaited c.plan s.stage s command.Play a.plays in
    let over : IsRun (after_late_event p event.Timeout) ((n ++ note.Sent command.Play ∷ []) ++ silence_notes p) =
    happened held event.Timeout tt in
    subst (λ (q : Plan). IsRun (record now { state = came_to q None (ticked s); log = logged l (ended_by q None (ticked s)) })
    (notes ++ played_notes gives h)) plan
    (subst (IsRun (after_late_event p event.Timeout))
    (ap (λ (more : List Note). (n ++ note.Sent command.Play ∷ []) ++ more) (one_silence p command.Play awaits)
    ∙ append_assoc n (note.Sent command.Play ∷ []) (note.Silence ∷ [])
    ∙ append_assoc notes before (note.Sent command.Play ∷ note.Silence ∷ [])
    ∙ ap (λ (more : List Note). notes ++ more)
    (append_assoc (sent_of gives) (note.Take ∷ note.Heard h ∷ []) (note.Sent command.Play ∷ note.Silence ∷ []))) over)

-- Rows may leave out as much of notes before others.

pub thinned_more : (all rows more : List Note) → IsThinned all rows → IsThinned (all ++ more) (rows ++ more)
thinned_more all _ more whole = whole
thinned_more all _ more (without before after asks hears a h thin) =
    let both : List Note = all ++ more in
    subst (IsThinned both) (sym (append_assoc before (asks ∷ hears ∷ asks ∷ after) more))
    (without before (after ++ more) asks hears a h
    (subst (IsThinned both) (append_assoc before (asks ∷ hears ∷ asks ∷ hears ∷ asks ∷ after) more)
    (thinned_more all (before ++ (asks ∷ hears ∷ asks ∷ hears ∷ asks ∷ after)) more thin)))
thinned_more all _ more (before_play before after took asks hears free a h f thin) =
    let both : List Note = all ++ more in
    let last : List Note = hears ∷ note.Sent command.Play ∷ after in
    subst (IsThinned both) (sym (append_assoc before (asks ∷ free ∷ note.Sent command.Play ∷ after) more))
    (before_play before (after ++ more) took asks hears free a h f
    (subst (IsThinned both)
    (append_assoc before (asks ∷ (takes took ++ last)) more
    ∙ ap (λ (l : List Note). before ++ (asks ∷ l)) (append_assoc (takes took) last more))
    (thinned_more all (before ++ (asks ∷ (takes took ++ last))) more thin)))

-- so the rows may tell of another state, whether PLAY went out or not
pub shows : (asked rows : List Note) (took : Bool) (h : Heard) (free : Note) (q : Command)
    → IsThinned asked (rows ++ note.Sent q ∷ []) → IsTrue (asks_state (note.Sent q))
    → IsTrue (hears_done (note.Heard h)) → IsTrue (hears_free free)
    → IsThinned (asked ++ (takes took ++ note.Heard h ∷ note.Sent command.Play ∷ note.Silence ∷ []))
    (rows ++ (note.Sent q ∷ free ∷ note.Sent command.Play ∷ note.Silence ∷ []))
shows asked rows took h free q thin asks done lets =
    let last : List Note = takes took ++ note.Heard h ∷ note.Sent command.Play ∷ note.Silence ∷ [] in
    before_play rows (note.Silence ∷ []) took (note.Sent q) (note.Heard h) free asks done lets
    (subst (IsThinned (asked ++ last)) (append_assoc rows (note.Sent q ∷ []) last)
    (thinned_more asked (rows ++ note.Sent q ∷ []) last thin))
