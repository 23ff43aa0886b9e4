-- An automation that is killed goes on as it was when the last of what is safe was noted.
use Rattle.std.proofs.Common.{◌≡◌, arith, Bool, true, List, [], ◌∷◌, ◌++◌, map, append_assoc, refl, sym, ap, ap₂, subst, ◌∙◌}
use Rattle.std.specs.Option.{option_map, option_to_list}
use Rattle.std.specs.Prelude.{IsSome, Option, None, Some}
use Rattle.vdcp_value.specs.declared.part.Item.{Item}
use Rattle.vdcp_port.specs.Clock.{ClockedPort}
use Rattle.vdcp_auto.specs.Plan.{Plan}
use Rattle.vdcp_auto.specs.State.{Stage, State}
use Rattle.vdcp_auto.specs.Turn.{awaited, ended_by, given, given_in, is_ready, start, taken, ticked}
use Rattle.vdcp_auto.specs.declared.exchange.Exchange.{Exchange}
use Rattle.vdcp_auto.specs.declared.exchange.Heard.{Heard}
use Rattle.vdcp_journal.specs.declared.row.Note.{Note}
use Rattle.vdcp_journal.specs.declared.row.Note.TheVariants as note
use Rattle.vdcp_drive.specs.Traces.{bytes_of}
use Rattle.vdcp_drive.specs.Steps.{given_notes}
use Rattle.vdcp_words.specs.declared.command.Command.{Command}
use Rattle.vdcp_words.specs.declared.command.Command.TheVariants as command
use Rattle.vdcp_drive.specs.Serving.{begins, items_in, left_by, hook_steps}
use Rattle.vdcp_drive.specs.declared.hearing.Hearing.TheVariants as hearing
use Rattle.vdcp_journal_file.specs.Recorded.{note_for}
use Rattle.vdcp_laws.specs.TwoEnds.{AreJoined, Ends, IsLateChannel, IsSince, aired_now, at_once, connected_anew, heard_again, later, notes_ended, notes_given, port_now, went_on, with_command, with_kept}
use Rattle.vdcp_laws.specs.TwoEnds.{gave, asks, came_up, came_down, waited, passed, paused, shut, calls, resumed, restarted}
use Rattle.vdcp_laws.specs.Announced.{Announces, came_again, played_notes}
use Rattle.vdcp_laws.specs.Automation.{end_notes}
use Rattle.vdcp_laws.proofs.Announced.{ends_again, sent_of}
use Rattle.vdcp_laws.proofs.Journaled.{given_awaited, rows_make, told}
use Rattle.vdcp_laws.specs.Kills.{IsRun}
use Rattle.vdcp_journal.specs.Resume.{AreTold, after_rows}
use Rattle.vdcp_journal.specs.Thinned.{notes_in}
use Rattle.vdcp_journal.specs.declared.row.Row.{Row}
use Rattle.vdcp_laws.proofs.Noting.{heard_is}

-- since then the automation has given nothing more, and the connection is the same
abbrev KeepsOn : Plan → ClockedPort → List Command → (kept now : Ends) → Type 0
KeepsOn plan port asked kept now = AreJoined plan port asked (with_kept kept now) × (now.port ≡ kept.port)
    × (now.aired_before ≡ kept.aired_before) × (now.sent ≡ kept.sent)

keeps_on : (plan : Plan) (port : ClockedPort) (asked : List Command) (kept now : Ends) → AreJoined plan port asked kept
    → IsSince plan port.state.unit kept now → KeepsOn plan port asked kept now
keeps_on plan port asked kept _ j at_once = (j, refl, refl, refl)
keeps_on plan port asked kept _ j (later {e} since gave none) = absurd none
keeps_on plan port asked kept _ j (later {e} since (asks question c is) none) = absurd none
keeps_on plan port asked kept _ j (later {e} since (resumed goes) none) = absurd none
keeps_on plan port asked kept _ j (later {e} since (restarted goes) none) = absurd none
keeps_on plan port asked kept _ j (later {e} since (came_up piece rest is) none) = keeps_on plan port asked kept e j since
keeps_on plan port asked kept _ j (later {e} since (came_down piece rest is) none) =
    let k = keeps_on plan port asked kept e j since in
    (went_on k.0 (came_down piece rest (ap (bytes_of port.state.unit) (sym k.3) ∙ is)), k.1, k.2, k.3)
keeps_on plan port asked kept _ j (later {e} since waited none) = keeps_on plan port asked kept e j since
keeps_on plan port asked kept _ j (later {e} since passed none) =
    let k = keeps_on plan port asked kept e j since in (went_on k.0 passed, k.1, k.2, k.3)
keeps_on plan port asked kept _ j (later {e} since paused none) =
    let k = keeps_on plan port asked kept e j since in (went_on k.0 paused, k.1, k.2, k.3)
keeps_on plan port asked kept _ j (later {e} since shut none) =
    let k = keeps_on plan port asked kept e j since in (went_on k.0 shut, k.1, k.2, k.3)
keeps_on plan port asked kept _ j (later {e} since (calls c on) none) = keeps_on plan port asked kept e j since

pub kept_joined : (plan : Plan) (port : ClockedPort) (asked : List Command) (kept now : Ends) → AreJoined plan port asked kept
    → IsSince plan port.state.unit kept now → AreJoined plan port asked (with_kept kept now)
kept_joined plan port asked kept now j since = (keeps_on plan port asked kept now j since).0

pub kept_gives : (plan : Plan) (port : ClockedPort) (asked : List Command) (kept now : Ends) → AreJoined plan port asked kept
    → IsSince plan port.state.unit kept now → AreJoined plan port asked (with_command plan (with_kept kept now))
kept_gives plan port asked kept now joined since = went_on (kept_joined plan port asked kept now joined since) gave

pub kept_port : (plan : Plan) (port : ClockedPort) (asked : List Command) (kept now : Ends) → AreJoined plan port asked kept
    → IsSince plan port.state.unit kept now → port_now (with_kept kept now) ≡ port_now now
kept_port plan port asked kept now j since =
    ap (λ (q : ClockedPort). (left_by (begins hearing.AtOnce q) now.downs).port) (sym (keeps_on plan port asked kept now j since).1)

pub kept_aired : (plan : Plan) (port : ClockedPort) (asked : List Command) (kept now : Ends) → AreJoined plan port asked kept
    → IsSince plan port.state.unit kept now → aired_now (with_kept kept now) ≡ aired_now now
kept_aired plan port asked kept now j since =
    let k = keeps_on plan port asked kept now j since in
    ap₂ (λ (l : List Item) (q : ClockedPort). l ++ items_in (hook_steps (begins hearing.AtOnce q) now.downs)) (sym k.2) (sym k.1)

-- What goes on with a PLAY that the notes announce has these notes more.

sent_so : (gives : Option Command)
    → map note_for (given_notes gives) ≡ option_to_list (option_map (λ c. note.Sent c) gives)
sent_so gives = grind arith

heard_so : (plan : Plan) (s : State) (h : Heard) (by : Option Exchange) → ended_by plan (Some h) s ≡ by → IsSome by
    → map note_for (end_notes by) ≡ note.Heard h ∷ []
heard_so plan s h by is some = grind (arith, heard_is)

pub silent_so : (plan : Plan) (s : State) (q : Command) → awaited plan s ≡ Some q
    → notes_ended plan None s ≡ note.Silence ∷ []
silent_so plan s q is = grind arith

-- and before the PLAY
pub again_noted : (plan : Plan) (e : Ends) (h : Heard) → Announces plan e.automation.state e.notes h
    → (heard_again plan h e).notes ≡ e.notes ++ (sent_of (given plan e.automation.state) ++ note.Take ∷ note.Heard h ∷ [])
again_noted plan e h a =
    let s : State = e.automation.state in
    let gives : List Note = sent_of (given plan s) in
    ap (λ (l : List Note). ((e.notes ++ l) ++ note.Take ∷ []) ++ notes_ended plan (Some h) (taken (ticked s)))
    (sent_so (given plan s))
    ∙ ap (λ (l : List Note). ((e.notes ++ gives) ++ note.Take ∷ []) ++ l)
    (heard_so plan (taken (ticked s)) h (ended_by plan (Some h) (taken (ticked s))) refl (ends_again plan s h a.plays))
    ∙ append_assoc (e.notes ++ gives) (note.Take ∷ []) (note.Heard h ∷ [])
    ∙ append_assoc e.notes gives (note.Take ∷ note.Heard h ∷ [])

-- what gives a command is ready
pub gives_ready : (plan : Plan) (stop : Bool) (stage : Stage) (q : Command) → given_in plan stop stage ≡ Some q
    → is_ready stage ≡ true
gives_ready plan stop stage q is = grind arith

pub played_noted : (plan : Plan) (port : ClockedPort) (e : Ends) (h : Heard)
    → Announces plan e.automation.state e.notes h
    → (connected_anew plan port (with_command plan (heard_again plan h e))).notes
    ≡ e.notes ++ played_notes (given plan e.automation.state) h
played_noted plan port e h a =
    let again : State = came_again plan h e.automation.state in
    let gives : List Note = sent_of (given plan e.automation.state) in
    ap (λ (l : List Note). (l ++ notes_given plan again) ++ notes_ended plan None (ticked again)) (again_noted plan e h a)
    ∙ ap (λ (o : Option Command). ((e.notes ++ (gives ++ note.Take ∷ note.Heard h ∷ [])) ++ map note_for (given_notes o))
    ++ notes_ended plan None (ticked again)) a.plays
    ∙ ap (λ (l : List Note). ((e.notes ++ (gives ++ note.Take ∷ note.Heard h ∷ [])) ++ note.Sent command.Play ∷ []) ++ l)
    (silent_so plan (ticked again) command.Play (given_awaited plan again.stage again command.Play a.plays))
    ∙ append_assoc (e.notes ++ (gives ++ note.Take ∷ note.Heard h ∷ [])) (note.Sent command.Play ∷ []) (note.Silence ∷ [])
    ∙ append_assoc e.notes (gives ++ note.Take ∷ note.Heard h ∷ []) (note.Sent command.Play ∷ note.Silence ∷ [])
    ∙ ap (λ (l : List Note). e.notes ++ l)
    (append_assoc gives (note.Take ∷ note.Heard h ∷ []) (note.Sent command.Play ∷ note.Silence ∷ []))

-- The rows of the notes make the automation's controller, and tell what it does.
pub made : {plan : Plan} {port : ClockedPort} {e : Ends} → (late : IsLateChannel plan port e) (all : List Row)
    → notes_in all ≡ e.notes → AreTold plan start all × (after_rows plan start all ≡ e.automation.state)
made {plan} {port} {e} late all noted =
    let run : IsRun late.channel (notes_in all) = subst (IsRun late.channel) (sym noted) late.run in (
      subst (λ (q : Plan). AreTold q start all) late.plan_is (told late.channel all run),
      ap (λ (q : Plan). after_rows q start all) (sym late.plan_is) ∙ rows_make late.channel all run ∙ late.state_is,
    )
