-- Ends whose notes also say where the run was lost: they do what they do without that.
use Rattle.std.proofs.Common.{◌≡◌, ℕ, Bool, true, false, List, [], ◌∷◌, ◌++◌, Option, None, Some, map, refl, sym, ap, ap₂, subst, ◌∙◌}
use Rattle.std.specs.Option.{option_to_list}
use Rattle.std.specs.Prelude.{if◌then◌else◌}
use Rattle.vdcp_frame.specs.Message.{Content}
use Rattle.vdcp_words.specs.declared.command.Command.{Command}
use Rattle.vdcp_port.specs.Clock.{ClockedPort}
use Rattle.vdcp_auto.specs.Commands.{is_status_command}
use Rattle.vdcp_auto.specs.Heard.{heard_as}
use Rattle.vdcp_auto.specs.Plan.{Plan}
use Rattle.vdcp_auto.specs.State.{State}
use Rattle.vdcp_auto.specs.Turn.{ended_by, given}
use Rattle.vdcp_auto.specs.declared.exchange.Heard.{Heard}
use Rattle.vdcp_auto.specs.declared.outcome.Outcome.TheVariants.{Lost}
use Rattle.vdcp_journal.specs.Mending.{after_notes}
use Rattle.vdcp_journal.specs.Resume.{after_call_if, call_of}
use Rattle.vdcp_journal.specs.Thinned.{heard_after, heard_from}
use Rattle.vdcp_journal.specs.declared.row.Note.{Note}
use Rattle.vdcp_journal.specs.declared.row.Note.TheVariants as note
use Rattle.vdcp_journal_file.specs.Recorded.{note_for}
use Rattle.vdcp_drive.specs.Auto.{called}
use Rattle.vdcp_drive.specs.Reading.{completed}
use Rattle.vdcp_drive.specs.Steps.{given_notes}
use Rattle.vdcp_drive.specs.declared.hooks.Call.TheVariants as call
use Rattle.vdcp_drive.specs.declared.hooks.Call.TheVariants.{Take}
use Rattle.vdcp_drive.specs.declared.hooks.Kept.{Kept}
use Rattle.vdcp_drive.specs.declared.hooks.Kept.TheVariants as kept
use Rattle.vdcp_wire.specs.Wires.{bytes, silence}
use Rattle.vdcp_world.specs.LateLine.LateChannel.{made_anew}
use Rattle.vdcp_laws.specs.Automation.{Prompt, end_notes, gives, hears, listens, receives}
use Rattle.vdcp_laws.specs.Mended.{AreRejoined, without_losses}
use Rattle.vdcp_laws.specs.TwoEnds.{AreLed, Ends, GoesOn, Step, as_announced, as_noted, asks, begun, calls, came_down, came_up, connected_anew, gave, heard_again, notes_ended, notes_given, notes_heard, passed, paused, port_now, restarted, resumed, sending, shut, waited, went_on, wishing, with_automation, with_call, with_command, with_heard, with_up}
use Rattle.vdcp_laws.proofs.Journaled.{AllTold}

pub losses_behind : (a b : List Note) → without_losses (a ++ b) ≡ without_losses a ++ without_losses b
losses_behind [] b = refl
losses_behind (note.End Lost ∷ a) b = losses_behind a b
losses_behind (n ∷ a) b = ap (λ (l : List Note). n ∷ l) (losses_behind a b)

-- what is kept of a run says nothing of a loss
pub none_lost : (ks : List Kept) → without_losses (map note_for ks) ≡ map note_for ks
none_lost [] = refl
none_lost (kept.Sent c ∷ ks) = ap (λ (l : List Note). note.Sent c ∷ l) (none_lost ks)
none_lost (kept.Heard h ∷ ks) = ap (λ (l : List Note). note.Heard h ∷ l) (none_lost ks)
none_lost (kept.Silence ∷ ks) = ap (λ (l : List Note). note.Silence ∷ l) (none_lost ks)
none_lost (kept.Called call.Take ∷ ks) = ap (λ (l : List Note). note.Take ∷ l) (none_lost ks)
none_lost (kept.Called call.Stop ∷ ks) = ap (λ (l : List Note). note.Stop ∷ l) (none_lost ks)
none_lost (kept.Called (call.List c) ∷ ks) = ap (λ (l : List Note). note.List c ∷ l) (none_lost ks)

none_heard : (plan : Plan) (unit : ℕ) (ms : List Content) (p : Prompt)
    → without_losses (notes_heard plan unit ms p) ≡ notes_heard plan unit ms p
none_heard plan unit [] p = refl
none_heard plan unit (m ∷ ms) p =
    let h : Option Heard = Some (heard_as unit m) in
    losses_behind (notes_ended plan h p.state) (notes_heard plan unit ms (hears plan unit m p))
    ∙ ap₂ (λ (l k : List Note). l ++ k) (none_lost (end_notes (ended_by plan h p.state)))
    (none_heard plan unit ms (hears plan unit m p))

-- What rows tell.

pub told_so : (plan : Plan) (s : State) (notes : List Note) → AllTold plan s (without_losses notes) → AllTold plan s notes
told_so plan s [] told = tt
told_so plan s (note.End Lost ∷ notes) told = (tt, told_so plan s notes told)
told_so plan s (n ∷ notes) told = (told.0, told_so plan (after_call_if plan (call_of n) s) notes told.1)

pub after_so : (plan : Plan) (s : State) (notes : List Note) → after_notes plan s (without_losses notes) ≡ after_notes plan s notes
after_so plan s [] = refl
after_so plan s (note.End Lost ∷ notes) = after_so plan s notes
after_so plan s (n ∷ notes) = after_so plan (after_call_if plan (call_of n) s) notes

-- What was heard last, if something was, was so without what says that the run was lost.

abbrev Has : Option Heard → Option Heard → Type 0
Has some other = (h : Heard) → some ≡ Some h → other ≡ Some h

has_after : (n : Note) (some other : Option Heard) → Has some other → Has (heard_after some n) (heard_after other n)
has_after (note.Sent c) some other has = by (is_status_command c) where
  by : (b : Bool) → Has (if b then some else None) (if b then other else None)
  by true = has
  by false = λ h is. is
has_after (note.Heard h) some other has = λ x is. is
has_after n some other has = λ h is. is

has_from : (notes : List Note) (some other : Option Heard) → Has some other
    → Has (heard_from some notes) (heard_from other (without_losses notes))
has_from [] some other has = has
has_from (note.End Lost ∷ notes) some other has = has_from notes None other (λ h is. cc is)
has_from (n ∷ notes) some other has =
    has_from notes (heard_after some n) (heard_after other n) (has_after n some other has)

-- Each step.

abbrev but : Ends → Ends
but e = record e { notes = without_losses e.notes }

noted : (e : Ends) (p : Prompt) (notes : List Note) → without_losses notes ≡ notes
    → but (with_automation p notes e) ≡ with_automation p notes (but e)
noted e p notes is = ap (λ (l : List Note). record e { automation = p; notes = l })
    (losses_behind e.notes notes ∙ ap (λ (l : List Note). without_losses e.notes ++ l) is)

commanded : (plan : Plan) (e : Ends) → but (with_command plan e) ≡ with_command plan (but e)
commanded plan e = ap (sending (option_to_list (given plan e.automation.state)))
    (noted e (gives e.automation) (notes_given plan e.automation.state) (none_lost (given_notes (given plan e.automation.state))))

heard_so : (plan : Plan) (h : Heard) (e : Ends) → but (heard_again plan h e) ≡ heard_again plan h (but e)
heard_so plan h e =
    let asked : Ends = with_command plan e in
    let took : Ends = with_call Take asked in
    noted took (receives plan (Some h) took.automation) (notes_ended plan (Some h) took.automation.state)
    (none_lost (end_notes (ended_by plan (Some h) took.automation.state)))
    ∙ ap (with_heard plan h) (noted asked took.automation (note.Take ∷ []) refl ∙ ap (with_call Take) (commanded plan e))

goes_so : (plan : Plan) (e on : Ends) → GoesOn plan e on → GoesOn plan (but e) (but on)
goes_so plan e _ as_noted = as_noted
goes_so plan e _ (as_announced h a) =
    subst (GoesOn plan (but e)) (sym (commanded plan (heard_again plan h e) ∙ ap (with_command plan) (heard_so plan h e)))
    (as_announced h (record { last = has_from e.notes None None (λ x is. is) h a.last; plays = a.plays }))

connected : (plan : Plan) (q : ClockedPort) (e : Ends) → but (connected_anew plan q e) ≡ connected_anew plan q (but e)
connected plan q e = ap (λ (l : List Note). record (connected_anew plan q e) { notes = l })
    (losses_behind e.notes (notes_ended plan None e.automation.state)
    ∙ ap (λ (l : List Note). without_losses e.notes ++ l) (none_lost (end_notes (ended_by plan None e.automation.state))))

steps_so : (plan : Plan) (unit : ℕ) (e e' : Ends) → Step plan unit e e' → Step plan unit (but e) (but e')
steps_so plan unit e _ gave = subst (Step plan unit (but e)) (sym (commanded plan e)) gave
steps_so plan unit e _ (asks q c is) = asks q c is
steps_so plan unit e _ (came_up piece rest is) =
    subst (Step plan unit (but e))
    (sym (ap (with_up piece) (noted e (listens plan unit (bytes piece) e.automation)
    (notes_heard plan unit (completed e.automation.held piece) e.automation)
    (none_heard plan unit (completed e.automation.held piece) e.automation)))) (came_up piece rest is)
steps_so plan unit e _ (came_down piece rest is) = came_down piece rest is
steps_so plan unit e _ waited =
    subst (Step plan unit (but e))
    (sym (noted e (listens plan unit silence e.automation) (notes_ended plan None e.automation.state)
    (none_lost (end_notes (ended_by plan None e.automation.state))))) waited
steps_so plan unit e _ passed = passed
steps_so plan unit e _ paused = paused
steps_so plan unit e _ shut = shut
steps_so plan unit e _ (calls c on) =
    subst (Step plan unit (but e))
    (sym (noted e (wishing (called c e.automation.state) e.automation) (note_for (kept.Called c) ∷ [])
    (none_lost (kept.Called c ∷ [])))) (calls c on)
steps_so plan unit e _ (resumed {on} goes) =
    subst (Step plan unit (but e)) (sym (connected plan (port_now on) on)) (resumed (goes_so plan e on goes))
steps_so plan unit e _ (restarted {on} goes) =
    subst (Step plan unit (but e)) (sym (connected plan (made_anew (port_now on)) on)) (restarted (goes_so plan e on goes))

pub steps_on : (plan : Plan) (port : ClockedPort) (asked : List Command) (e e' : Ends) → AreRejoined plan port asked e
    → Step plan port.state.unit e e' → AreRejoined plan port asked e'
steps_on plan port asked e e' j step = went_on j (steps_so plan port.state.unit e e' step)

pub led_more : (plan : Plan) (port : ClockedPort) (asked : List Command) (first last : Ends) → AreRejoined plan port asked first
    → AreLed plan port.state.unit first last → AreRejoined plan port asked last
led_more plan port asked first _ j begun = j
led_more plan port asked first last j (went_on {e} led step) =
    steps_on plan port asked e last (led_more plan port asked first e j led) step
