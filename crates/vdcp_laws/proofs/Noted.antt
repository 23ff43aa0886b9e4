-- What a run's hooks keep is what the journal gets.
use Rattle.std.proofs.Common.{ℕ, ◌≡◌, List, [], ◌∷◌, ◌++◌, map, refl, sym, ap, ap₂, ◌∙◌, append_assoc, append-nil}
use Rattle.std.proofs.lemmas.List.{map-append}
use Rattle.std.specs.Prelude.{Option, Some}
use Rattle.vdcp_frame.specs.Message.{Content}
use Rattle.vdcp_auto.specs.Heard.{heard_as}
use Rattle.vdcp_auto.specs.Plan.{Plan}
use Rattle.vdcp_auto.specs.Turn.{given, ticked}
use Rattle.vdcp_auto.specs.declared.exchange.Heard.{Heard}
use Rattle.vdcp_journal.specs.declared.row.Note.{Note}
use Rattle.vdcp_wire.specs.Acts.{Act}
use Rattle.vdcp_wire.specs.Wires.{Arrival, bytes, silence, close}
use Rattle.vdcp_drive.specs.Auto.{Auto, Event, after, arrives, calls}
use Rattle.vdcp_drive.specs.Auto as auto
use Rattle.vdcp_drive.specs.Ears.{inputs}
use Rattle.vdcp_drive.specs.Hearing.{at_once}
use Rattle.vdcp_drive.specs.Reading.{Held, completed}
use Rattle.vdcp_drive.specs.Steps.{Step, acts, asks, keeps, misses, ended_notes, given_notes, round, steps_of}
use Rattle.vdcp_drive.specs.Traces.{kept_in}
use Rattle.vdcp_drive.specs.Turns.{Turn}
use Rattle.vdcp_drive.specs.declared.hooks.Kept.{Kept}
use Rattle.vdcp_drive.specs.declared.hooks.Kept.TheVariants as kept
use Rattle.vdcp_journal_file.specs.Recorded.{note_for}
use Rattle.vdcp_laws.specs.Automation.{Prompt, gives, hears, listens}
use Rattle.vdcp_laws.specs.Carried.{driver_of}
use Rattle.vdcp_laws.specs.OneConnection.{ends_at, ends_by, hears_in}
use Rattle.vdcp_laws.specs.TwoEnds.{Ends, notes_given, notes_heard, with_call, with_command}
use Rattle.vdcp_laws.proofs.OneRun.{automation_so}
use Rattle.vdcp_laws.proofs.Same.{led_so, listens_so}

pub rows_both : (xs ys : List Step) → kept_in (xs ++ ys) ≡ kept_in xs ++ kept_in ys
rows_both [] ys = refl
rows_both (asks s n ∷ xs) ys = rows_both xs ys
rows_both (keeps r ∷ xs) ys = ap (λ (l : List Kept). r ∷ l) (rows_both xs ys)
rows_both (acts a ∷ xs) ys = rows_both xs ys
rows_both (misses r ∷ xs) ys = rows_both xs ys

pub rows_of_acts : (xs : List Act) → kept_in (map acts xs) ≡ []
rows_of_acts [] = refl
rows_of_acts (x ∷ xs) = rows_of_acts xs

pub rows_of_rows : (xs : List Kept) → kept_in (map keeps xs) ≡ xs
rows_of_rows [] = refl
rows_of_rows (x ∷ xs) = ap (λ (l : List Kept). x ∷ l) (rows_of_rows xs)

-- what one arrival ends
abbrev pub ends_in : Plan → ℕ → Arrival → Auto Held → List Kept
ends_in plan unit what a = ended_notes (auto.ended plan (inputs at_once unit what a.ear) (ticked a.state))

pub round_rows : (plan : Plan) (unit : ℕ) (what : Arrival) (a : Auto Held) (later : List Step)
    → kept_in (round at_once plan unit what a ++ later)
    ≡ given_notes (given plan a.state) ++ (ends_in plan unit what a ++ kept_in later)
round_rows plan unit what a later =
    simp (rows_both, rows_of_acts, rows_of_rows, append_assoc)

heard_rows : (plan : Plan) (unit : ℕ) (ms : List Content) (p : Prompt) → notes_heard plan unit ms p
    ≡ map note_for (ended_notes (auto.ended plan (map Some (map (heard_as unit) ms)) p.state))
heard_rows plan unit [] p = refl
heard_rows plan unit (m ∷ ms) p =
    let h : Option Heard = Some (heard_as unit m) in
    simp (map-append, heard_rows plan unit ms (hears plan unit m p))

-- what one arrival adds to the journal
pub arrival_notes : (plan : Plan) (unit : ℕ) (what : Arrival) (e : Ends) → (hears_in plan unit what e).notes
    ≡ e.notes ++ map note_for (ended_notes (auto.ended plan (inputs at_once unit what e.automation.held) e.automation.state))
arrival_notes plan unit (bytes piece) e =
    ap (λ (l : List Note). e.notes ++ l) (heard_rows plan unit (completed e.automation.held piece) e.automation)
arrival_notes plan unit silence e = simp append-nil
arrival_notes plan unit close e = simp append-nil

pub moved : (plan : Plan) (unit : ℕ) (what : Arrival) (e : Ends)
    → driver_of (hears_in plan unit what (with_command plan e)).automation
    ≡ driver_of (listens plan unit what (gives e.automation))
moved plan unit (bytes piece) e = refl
moved plan unit silence e = refl
moved plan unit close e = refl

pub noted : (plan : Plan) (unit : ℕ) (e : Ends) (events : List Event) → (ends_by plan unit e events).notes
    ≡ e.notes ++ map note_for (kept_in (steps_of at_once plan unit (driver_of e.automation) events))
noted plan unit e [] = sym (append-nil e.notes)
noted plan unit e (calls c ∷ later) = noted plan unit (with_call c e) later
    ∙ append_assoc e.notes (note_for (kept.Called c) ∷ [])
    (map note_for (kept_in (steps_of at_once plan unit (driver_of (with_call c e).automation) later)))
noted plan unit e (arrives what ∷ later) =
    let a : Auto Held = driver_of e.automation in
    let next : Ends = hears_in plan unit what (with_command plan e) in
    let b : Auto Held = auto.listens at_once plan unit what (auto.gives a) in
    let same : driver_of (listens plan unit what (gives e.automation)) ≡ b = listens_so plan unit what (gives e.automation) in
    let rows : List Kept = kept_in (steps_of at_once plan unit b later) in
    let first : List Kept = given_notes (given plan a.state) in
    let ends : List Kept = ends_in plan unit what a in
    noted plan unit next later
    ∙ ap₂ (λ (l : List Note) (x : Auto Held). l ++ map note_for (kept_in (steps_of at_once plan unit x later)))
    (arrival_notes plan unit what (with_command plan e)) (moved plan unit what e ∙ same)
    ∙ append_assoc (e.notes ++ map note_for first) (map note_for ends) (map note_for rows)
    ∙ append_assoc e.notes (map note_for first) (map note_for ends ++ map note_for rows)
    ∙ ap (λ (l : List Note). e.notes ++ (map note_for first ++ l)) (sym (map-append note_for ends rows))
    ∙ ap (λ (l : List Note). e.notes ++ l) (sym (map-append note_for first (ends ++ rows)))
    ∙ ap (λ (l : List Kept). e.notes ++ map note_for l)
    (sym (round_rows plan unit what a (steps_of at_once plan unit b later)))

pub noted_at : (plan : Plan) (unit : ℕ) (e : Ends) (events : List Event) (downs : List Turn)
    → (ends_at plan unit e events downs).notes
    ≡ (e.notes ++ map note_for (kept_in (steps_of at_once plan unit (driver_of e.automation) events)))
    ++ notes_given plan (after at_once plan unit (driver_of e.automation) events).state
noted_at plan unit e events downs =
    ap₂ (λ (l : List Note) (x : Auto Held). l ++ notes_given plan x.state) (noted plan unit e events)
    (ap driver_of (automation_so plan unit e events) ∙ led_so plan unit e.automation events)
