-- What the automation does and hears, as a run with its notes.
use Rattle.std.proofs.Common.{ℕ, ◌≡◌, Bool, true, false, All, List, [], ◌∷◌, ◌++◌, map, refl, sym, ap, ap₂, subst, ◌∙◌, append_assoc, append-nil}
use Rattle.std.proofs.lemmas.List.Elements.{All-head, All-tail}
use Rattle.std.specs.Prelude.{Option, None, Some, if◌then◌else◌, is_some}
use Rattle.vdcp_frame.specs.Message.{Content, Fits, spelling}
use Rattle.vdcp_words.specs.declared.command.Command.{Command}
use Rattle.vdcp_auto.specs.Commands.{is_status_command}
use Rattle.vdcp_auto.specs.Heard.{heard_as, heard_first, heard_in}
use Rattle.vdcp_auto.specs.Plan.{Plan}
use Rattle.vdcp_auto.specs.State.{State}
use Rattle.vdcp_auto.specs.Turn.{awaited, came_to, ended_by, given, is_ready}
use Rattle.vdcp_auto.specs.declared.exchange.Exchange.{Exchange}
use Rattle.vdcp_auto.specs.declared.exchange.Heard.{Heard}
use Rattle.vdcp_journal.specs.declared.row.Note.{Note}
use Rattle.vdcp_journal.specs.declared.row.Note.TheVariants as note
use Rattle.vdcp_world.specs.Channel.{state_hearing}
use Rattle.vdcp_drive.specs.Steps.{end_of, given_notes}
use Rattle.vdcp_world.specs.LateLine.LateChannel.{LateChannel, after_late_event, after_late_events, command_bursts, oldest, without_oldest}
use Rattle.vdcp_world.specs.LateLine.LateEvent as event
use Rattle.vdcp_journal.specs.Thinned.{heard_after, heard_from, heard_last}
use Rattle.vdcp_journal_file.specs.Recorded.{note_for}
use Rattle.vdcp_laws.specs.Automation.{Prompt, end_notes, hears}
use Rattle.vdcp_laws.specs.Below.{Spelt}
use Rattle.vdcp_laws.specs.Kills as kills
use Rattle.vdcp_laws.specs.Kills.{IsRun, happened, heard_notes, silence_notes}
use Rattle.vdcp_laws.specs.TwoEnds.{notes_ended, notes_heard}
use Rattle.vdcp_laws.proofs.Commands.{hears_comes}
use Rattle.vdcp_laws.proofs.Journaled.{asked}
use Rattle.vdcp_laws.proofs.Noting.{heard_is, not_ready}
use Rattle.vdcp_laws.proofs.Queues.{downs_lost, downs_of, ups_lost, ups_of}

-- What the notes end with.

pub last_more : (before : Option Heard) (notes more : List Note)
    → heard_from before (notes ++ more) ≡ heard_from (heard_from before notes) more
last_more before [] more = refl
last_more before (n ∷ notes) more = last_more (heard_after before n) notes more

kept_if : (asks : Bool) (before : Option Heard) (h : Heard) → (if asks then before else None) ≡ Some h
    → before ≡ Some h
kept_if true before h is = is
kept_if false before h is = cc is

-- a command that is given leaves what was heard last, if it leaves anything
pub given_last : (notes : List Note) (command : Option Command) (h : Heard)
    → heard_last (notes ++ map note_for (given_notes command)) ≡ Some h → heard_last notes ≡ Some h
given_last notes None h is = ap heard_last (sym (append-nil notes)) ∙ is
given_last notes (Some c) h is =
    kept_if (is_status_command c) (heard_last notes) h (sym (last_more None notes (note.Sent c ∷ [])) ∙ is)

-- Events that have no note.

pub no_notes : {c : LateChannel} {notes : List Note} → IsRun c (notes ++ []) → IsRun c notes
no_notes {c} {notes} run = subst (IsRun c) (append-nil notes) run

pub runs_down : (ms : List Content) (c : LateChannel) (notes : List Note) → IsRun c notes
    → IsRun (after_late_events c (downs_of ms)) notes
runs_down [] c notes run = run
runs_down (m ∷ ms) c notes run =
    runs_down ms (after_late_event c event.Down) notes (no_notes (happened run event.Down tt))

pub loses_down_so : (queue : List (List ℕ)) (c : LateChannel) (notes : List Note) → IsRun c notes
    → IsRun (after_late_events c (downs_lost queue)) notes
loses_down_so [] c notes run = run
loses_down_so (burst ∷ queue) c notes run =
    loses_down_so queue (after_late_event c (event.LoseDown 0)) notes (no_notes (happened run (event.LoseDown 0) tt))

pub loses_up_so : (queue : List (List ℕ)) (c : LateChannel) (notes : List Note) → IsRun c notes
    → IsRun (after_late_events c (ups_lost queue)) notes
loses_up_so [] c notes run = run
loses_up_so (burst ∷ queue) c notes run =
    loses_up_so queue (after_late_event c (event.LoseUp 0)) notes (no_notes (happened run (event.LoseUp 0) tt))

-- A command, and what ends its exchange.

pub ticks_so : (c : LateChannel) (notes : List Note) (gives : Option Command) → given c.plan c.state ≡ gives
    → is_some gives ≡ is_ready c.state.stage → IsRun c notes
    → IsRun (after_late_event c event.Tick) (notes ++ map note_for (given_notes gives))
ticks_so c notes None is ready run =
    subst (IsRun (after_late_event c event.Tick)) (sym (append-nil notes))
    (subst (λ (x : LateChannel). IsRun x notes)
    (ap₂ (λ (s : State) (down : List (List ℕ)). record c { state = s; down = down })
    (sym (not_ready c.state.stage c.state (sym ready)))
    (sym (append-nil c.down)
    ∙ ap (λ (o : Option Command). c.down ++ command_bursts c.port.state.unit o) (sym is))) run)
ticks_so c notes (Some q) is ready run = asked c notes q run is

one_note : (h : Option Heard) (e : Exchange) → kills.end_notes h (Some e) ≡ note_for (end_of h) ∷ []
one_note None e = refl
one_note (Some h) e = refl

pub ends_noted : (plan : Plan) (s : State) (h : Option Heard) (by : Option Exchange) → ended_by plan h s ≡ by
    → kills.end_notes h by ≡ map note_for (end_notes by)
ends_noted plan s h None is = refl
ends_noted plan s h (Some e) is =
    one_note h e ∙ ap (λ (o : Option Heard). note_for (end_of o) ∷ []) (heard_is plan.mode h (awaited plan s) e is)

pub silent_so : (c : LateChannel) (plan : Plan) (s : State) → c.plan ≡ plan → c.state ≡ s
    → silence_notes c ≡ notes_ended plan None s
silent_so c plan s same state =
    ap₂ (λ (q : Plan) (x : State). kills.end_notes None (ended_by q None x)) same state
    ∙ ends_noted plan s None (ended_by plan None s) refl

pub hears_so : (law : Spelt) (plan : Plan) (unit : ℕ) (ms : List Content) (rest : List (List ℕ)) (p : Prompt)
    (c : LateChannel) (notes : List Note) → All Fits ms → c.plan ≡ plan → c.port.state.unit ≡ unit → c.state ≡ p.state
    → c.up ≡ map spelling ms ++ rest → IsRun c notes
    → IsRun (after_late_events c (ups_of ms)) (notes ++ notes_heard plan unit ms p)
hears_so law plan unit [] rest p c notes fits same u state up run = subst (IsRun c) (sym (append-nil notes)) run
hears_so law plan unit (m ∷ ms) rest p c notes fits same u state up run =
    let h : Heard = heard_as unit m in
    let d : LateChannel = after_late_event c event.Up in
    let q : Prompt = hears plan unit m p in
    let hears_it : heard_in c.port.state.unit (oldest c.up) ≡ Some h =
    ap₂ heard_in u (ap oldest up) ∙ ap (heard_first unit) (law.alone m (All-head Fits m ms fits)) in
    let more : List Note = notes_ended plan (Some h) p.state in
    let one : IsRun d (notes ++ more) =
    subst (λ (l : List Note). IsRun d (notes ++ l))
    (ap (heard_notes c) hears_it
    ∙ ap₂ (λ (r : Plan) (s : State). kills.end_notes (Some h) (ended_by r (Some h) s)) same state
    ∙ ends_noted plan p.state (Some h) (ended_by plan (Some h) p.state) refl)
    (happened run event.Up tt) in
    subst (IsRun (after_late_events d (ups_of ms))) (append_assoc notes more (notes_heard plan unit ms q))
    (hears_so law plan unit ms rest q d (notes ++ more) (All-tail Fits m ms fits) same u
    (ap (λ (x : Option Heard). state_hearing c.plan x c.state) hears_it
    ∙ ap₂ (λ (r : Plan) (s : State). came_to r (Some h) s) same state ∙ sym (hears_comes plan unit m p).state_is)
    (ap without_oldest up) one)
