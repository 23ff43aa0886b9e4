-- What a journal's notes make of a new controller is the controller that runs.
use Rattle.std.proofs.Common.{◌≡◌, arith, Bool, List, [], ◌∷◌, ◌++◌, Option, None, Some, refl, sym, ap, subst, ◌∙◌}
use Rattle.std.specs.Option.{option_map, option_to_list}
use Rattle.std.specs.Prelude.{IsSome, is_some}
use Rattle.vdcp_auto.specs.Heard.{heard_in}
use Rattle.vdcp_auto.specs.Plan.{Plan}
use Rattle.vdcp_auto.specs.State.{Stage, State}
use Rattle.vdcp_auto.specs.Turn.{awaited, came_to, ended_by, given, given_in, start, tick_in, ticked}
use Rattle.vdcp_auto.specs.declared.exchange.Exchange.{Exchange}
use Rattle.vdcp_auto.specs.declared.exchange.Heard.{Heard}
use Rattle.vdcp_auto.specs.declared.exchange.Heard.TheVariants as heard
use Rattle.vdcp_auto.specs.declared.phase.Mode.{Mode}
use Rattle.vdcp_auto.specs.declared.phase.Mode.TheVariants.{Plain, Confirming}
use Rattle.vdcp_journal.specs.Mending.{after_notes}
use Rattle.vdcp_journal.specs.Resume.{AreTold, Tells, after_call_if, after_rows, call_of}
use Rattle.vdcp_journal.specs.Thinned.{notes_in}
use Rattle.vdcp_journal.specs.declared.row.Note.{Note}
use Rattle.vdcp_journal.specs.declared.row.Note.TheVariants as note
use Rattle.vdcp_journal.specs.declared.row.Row.{Row}
use Rattle.vdcp_laws.specs.Kills.{IsRun, IsOfRun, begun, happened, said, end_notes, heard_notes, notes_of, silence_notes, stray_notes}
use Rattle.vdcp_world.specs.LateLine.LateChannel.{LateChannel, IsLateReached, after_late_event, after_late_events, oldest}
use Rattle.vdcp_world.specs.LateLine.LateEvent.{LateEvent}
use Rattle.vdcp_world.specs.LateLine.LateEvent as event
use Rattle.vdcp_words.specs.declared.reply.Reply.{Reply}
use Rattle.vdcp_words.specs.declared.reply.Reply.TheVariants.{Ack, Nak}
use Rattle.vdcp_words.specs.declared.command.Command.{Command}
use Rattle.vdcp_world.specs.Channel.{state_hearing, state_straying}

pub of_rows : (plan : Plan) (state : State) (rows : List Row)
    → after_rows plan state rows ≡ after_notes plan state (notes_in rows)
of_rows plan state [] = refl
of_rows plan state (row ∷ rows) = of_rows plan (after_call_if plan (call_of row.note) state) rows

pub after_more : (plan : Plan) (state : State) (notes more : List Note)
    → after_notes plan state (notes ++ more) ≡ after_notes plan (after_notes plan state notes) more
after_more plan state [] more = refl
after_more plan state (note ∷ notes) more = after_more plan (after_call_if plan (call_of note) state) notes more

-- what came, or a time-out
ended : (plan : Plan) (state : State) (came : Option Heard) (by : Option Exchange) → ended_by plan came state ≡ by
    → after_notes plan state (end_notes came by) ≡ came_to plan came state
ended plan state came by is = grind arith

heard_then : (c : LateChannel) (came : Option Heard)
    → after_notes c.plan c.state (heard_notes c came) ≡ state_hearing c.plan came c.state
heard_then c None = refl
heard_then c (Some h) = ended c.plan c.state (Some h) (ended_by c.plan (Some h) c.state) refl

strayed : (c : LateChannel) (mode : Mode) (receipt : Reply)
    → after_notes c.plan c.state (stray_notes c mode receipt) ≡ state_straying mode c.plan receipt c.state
strayed c Plain receipt = refl
strayed c Confirming receipt = heard_then c (Some (heard.Reply receipt))

ticked_then : (c : LateChannel) (command : Option Command) → given c.plan c.state ≡ command → IsSome command
    → after_notes c.plan c.state (option_to_list (option_map (λ x. note.Sent x) command)) ≡ ticked c.state
ticked_then c command is some = grind arith

noted : (c : LateChannel) (e : LateEvent) → IsOfRun c e
    → after_notes c.plan c.state (notes_of c e) ≡ (after_late_event c e).state
noted c e of_run = grind (arith, heard_then, strayed, ended, ticked_then)

pub plan_stays : (c : LateChannel) (e : LateEvent) → (after_late_event c e).plan ≡ c.plan
plan_stays c e = grind arith

pub plan_stays_in : (c : LateChannel) (events : List LateEvent) → (after_late_events c events).plan ≡ c.plan
plan_stays_in c [] = refl
plan_stays_in c (e ∷ events) = plan_stays_in (after_late_event c e) events ∙ plan_stays c e

-- the notes of a run make its controller of a new one
journaled : (c : LateChannel) (notes : List Note) → IsRun c notes → after_notes c.plan start notes ≡ c.state
journaled _ _ (begun plan port down up can_start) = refl
journaled _ _ (happened {c} {notes} run e of_run) =
    ap (λ plan. after_notes plan start (notes ++ notes_of c e)) (plan_stays c e)
    ∙ after_more c.plan start notes (notes_of c e)
    ∙ ap (λ state. after_notes c.plan state (notes_of c e)) (journaled c notes run)
    ∙ noted c e of_run
journaled _ _ (said {c} {notes} run call on) = after_more c.plan start notes (note.List call ∷ []) ∙ journaled c notes run

-- Each of its notes tells what the controller does.

abbrev pub AllTold : Plan → State → List Note → Type 0
AllTold plan state [] = Unit {0}
AllTold plan state (note ∷ notes) = Tells plan state note × AllTold plan (after_call_if plan (call_of note) state) notes

pub rows_told : (plan : Plan) (state : State) (rows : List Row) → AllTold plan state (notes_in rows)
    → AreTold plan state rows
rows_told plan state [] told = tt
rows_told plan state (row ∷ rows) told =
    (told.0, rows_told plan (after_call_if plan (call_of row.note) state) rows told.1)

told_more : (plan : Plan) (state : State) (notes more : List Note) → AllTold plan state notes
    → AllTold plan (after_notes plan state notes) more → AllTold plan state (notes ++ more)
told_more plan state [] more told next = next
told_more plan state (note ∷ notes) more told next =
    (told.0, told_more plan (after_call_if plan (call_of note) state) notes more told.1 next)

end_told : (plan : Plan) (state : State) (came : Option Heard) (by : Option Exchange) → ended_by plan came state ≡ by
    → AllTold plan state (end_notes came by)
end_told plan state came None is = tt
end_told plan state (Some h) (Some e) is = (ap is_some is, tt)
end_told plan state None (Some e) is = (ap is_some is, tt)

heard_told : (c : LateChannel) (came : Option Heard) → AllTold c.plan c.state (heard_notes c came)
heard_told c None = tt
heard_told c (Some h) = end_told c.plan c.state (Some h) (ended_by c.plan (Some h) c.state) refl

stray_told : (c : LateChannel) (mode : Mode) (receipt : Reply) → AllTold c.plan c.state (stray_notes c mode receipt)
stray_told c Plain receipt = tt
stray_told c Confirming receipt = heard_told c (Some (heard.Reply receipt))

tick_told : (c : LateChannel) (command : Option Command) → given c.plan c.state ≡ command
    → AllTold c.plan c.state (option_to_list (option_map (λ x. note.Sent x) command))
tick_told c None is = tt
tick_told c (Some command) is = (is, tt)

event_told : (c : LateChannel) (e : LateEvent) → IsOfRun c e → AllTold c.plan c.state (notes_of c e)
event_told c event.Tick of_run = tick_told c (given c.plan c.state) refl
event_told c event.Up of_run = heard_told c (heard_in c.port.state.unit (oldest c.up))
event_told c event.UpCopy of_run = heard_told c (heard_in c.port.state.unit (oldest c.up))
event_told c event.Timeout of_run = end_told c.plan c.state None (ended_by c.plan None c.state) refl
event_told c event.Take of_run = (of_run, tt)
event_told c event.Stop of_run = (of_run, tt)
event_told c event.AutomationAnew of_run = absurd of_run
event_told c event.StrayAck of_run = stray_told c c.plan.mode Ack
event_told c (event.StrayNak byte) of_run = stray_told c c.plan.mode (Nak byte)
event_told c other of_run = tt

-- notes that tell what the controller does after those of a run
more_told : (c : LateChannel) (plan : Plan) (notes more : List Note) → plan ≡ c.plan → IsRun c notes
    → AllTold c.plan start notes → AllTold c.plan c.state more → AllTold plan start (notes ++ more)
more_told c plan notes more is run before after =
    subst (λ (p : Plan). AllTold p start (notes ++ more)) (sym is)
    (told_more c.plan start notes more before
    (subst (λ (s : State). AllTold c.plan s more) (sym (journaled c notes run)) after))

run_told : (c : LateChannel) (notes : List Note) → IsRun c notes → AllTold c.plan start notes
run_told _ _ (begun plan port down up can_start) = tt
run_told _ _ (happened {c} {notes} run e of_run) =
    more_told c (after_late_event c e).plan notes (notes_of c e) (plan_stays c e) run (run_told c notes run)
    (event_told c e of_run)
run_told _ _ (said {c} {notes} run call on) =
    more_told c c.plan notes (note.List call ∷ []) refl run (run_told c notes run) (on, tt)

pub told : (c : LateChannel) (rows : List Row) → IsRun c (notes_in rows) → AreTold c.plan start rows
told c rows run = rows_told c.plan start rows (run_told c (notes_in rows) run)

pub rows_make : (c : LateChannel) (rows : List Row) → IsRun c (notes_in rows)
    → after_rows c.plan start rows ≡ c.state
rows_make c rows run = of_rows c.plan start rows ∙ journaled c (notes_in rows) run

-- A command that may have gone out without its row.

pub given_awaited : (plan : Plan) (stage : Stage) (s : State) (q : Command) → given_in plan s.stop stage ≡ Some q
    → awaited plan (tick_in stage s) ≡ Some q
given_awaited plan stage s q is = grind arith

pub none_awaited : (plan : Plan) (stage : Stage) (stop : Bool) (s : State) (q : Command) → s.stage ≡ stage
    → given_in plan stop stage ≡ Some q → awaited plan s ≡ None
none_awaited plan stage stop s q at is = grind arith

pub no_silence : (c : LateChannel) → awaited c.plan c.state ≡ None → silence_notes c ≡ []
no_silence c none = grind arith

pub one_silence : (c : LateChannel) (q : Command) → awaited c.plan c.state ≡ Some q → silence_notes c ≡ note.Silence ∷ []
one_silence c q is = grind arith

pub same_state : (plan : Plan) (s : State) → awaited plan s ≡ None → came_to plan None s ≡ s
same_state plan s none = grind arith

-- the command is given
pub asked : (c : LateChannel) (notes : List Note) (q : Command) → IsRun c notes → given c.plan c.state ≡ Some q
    → IsRun (after_late_event c event.Tick) (notes ++ note.Sent q ∷ [])
asked c notes q run is =
    subst (IsRun (after_late_event c event.Tick))
    (ap (λ (o : Option Command). notes ++ option_to_list (option_map (λ x. note.Sent x) o)) is)
    (happened run event.Tick (ap is_some is))

-- and each such run is one of a late line's events
pub run_reached : ((c : LateChannel) (events : List LateEvent) → IsLateReached c
    → IsLateReached (after_late_events c events)) → (c : LateChannel) (notes : List Note) → IsRun c notes
    → IsLateReached c
run_reached leads _ _ (begun plan port down up can_start) =
    record { plan = plan; port = port; down = down; up = up; events = []; can_start = can_start; led = refl }
run_reached leads _ _ (happened {c} {notes} run e of_run) = leads c (e ∷ []) (run_reached leads c notes run)
run_reached leads _ _ (said {c} {notes} run call on) = run_reached leads c notes run
