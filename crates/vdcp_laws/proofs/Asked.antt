-- An automation of its own asks beside one that awaits nothing: this one passes over what comes up, with the ear of the other.
use Rattle.std.proofs.Common.{arith, ℕ, ◌≡◌, ◌⊎◌, inl, inr, All, List, [], ◌∷◌, ◌++◌, map, refl, sym, ap, ap₂, subst, ◌∙◌, append_assoc, append-nil}
use Rattle.std.proofs.lemmas.Grind.{flat_map-append}
use Rattle.std.specs.Option.{option_map_or}
use Rattle.std.specs.Prelude.{Option, None, Some, Result}
use Rattle.vdcp_frame.specs.Message.{Content}
use Rattle.vdcp_words.specs.declared.command.Command.{Command}
use Rattle.vdcp_auto.specs.Course.{logged}
use Rattle.vdcp_auto.specs.Heard.{heard_as}
use Rattle.vdcp_auto.specs.Plan.{Plan}
use Rattle.vdcp_auto.specs.State.{State}
use Rattle.vdcp_auto.specs.Turn.{awaited, ended_in, exchange_of}
use Rattle.vdcp_auto.specs.declared.exchange.Heard.{Heard}
use Rattle.vdcp_journal.specs.declared.row.Note.{Note}
use Rattle.vdcp_wire.specs.Acts.{Act}
use Rattle.vdcp_wire.specs.Wires.{Arrival, bytes, silence, close}
use Rattle.vdcp_drive.specs.Auto.{Auto, Event, after, arrivals, arrives, calls}
use Rattle.vdcp_drive.specs.Auto as auto
use Rattle.vdcp_drive.specs.Ears.{Fold, ear_after}
use Rattle.vdcp_drive.specs.Hearing.{at_once}
use Rattle.vdcp_drive.specs.Leaves.{IsRun, steps_in}
use Rattle.vdcp_drive.specs.Reading.{Held, completed, held_after, held_after_silence}
use Rattle.vdcp_drive.specs.Steps.{Step, command_bytes, steps_of}
use Rattle.vdcp_drive.specs.Traces.{acts_in, bytes_of, came_in, commands_kept, kept_in, sent_in}
use Rattle.vdcp_drive.specs.declared.hooks.BrokenOff.{BrokenOff}
use Rattle.vdcp_drive.specs.declared.hooks.Kept.{Kept}
use Rattle.vdcp_drive.specs.declared.hooks.Kept.TheVariants as row
use Rattle.vdcp_drive.specs.declared.line.Ran.{Ran}
use Rattle.vdcp_journal_file.specs.Recorded.{note_for}
use Rattle.vdcp_laws.specs.Automation.{Prompt, end_notes, hears_all, holding, receives}
use Rattle.vdcp_laws.specs.OneConnection.{hears_in}
use Rattle.vdcp_laws.specs.TwoEnds.{AreLed, Ends, asked_first, bytes_in, notes_ended, notes_heard, sending, sent_down, with_automation, with_up}
use Rattle.vdcp_laws.proofs.Asks.{MayAsk, asks_all}
use Rattle.vdcp_laws.proofs.Joining.{sent_more}
use Rattle.vdcp_laws.proofs.Carrying.{Last, Side, acts_both, came_both, heard_up, last_so, led_first, listening, sent_both}
use Rattle.vdcp_laws.proofs.CarriedRun.{left_at}
use Rattle.vdcp_laws.proofs.Noted.{rows_both}

-- An automation that awaits nothing passes over what it hears.

passes : (plan : Plan) (came : Option Heard) (p : Prompt) → awaited plan p.state ≡ None → receives plan came p ≡ p
passes plan came p none = ap (λ (o : Option Command). record {
  held = p.held;
  state = option_map_or (λ e. ended_in plan p.state.stage e p.state) (exchange_of plan.mode came o) p.state;
  log = logged p.log (exchange_of plan.mode came o);
}) none

pub no_notes : (plan : Plan) (came : Option Heard) (s : State) → awaited plan s ≡ None → notes_ended plan came s ≡ []
no_notes plan came s none = ap (λ (o : Option Command). map note_for (end_notes (exchange_of plan.mode came o))) none

pub passes_all : (plan : Plan) (unit : ℕ) (ms : List Content) (p : Prompt) → awaited plan p.state ≡ None
    → hears_all plan unit ms p ≡ p
passes_all plan unit [] p none = refl
passes_all plan unit (m ∷ ms) p none =
    ap (hears_all plan unit ms) (passes plan (Some (heard_as unit m)) p none) ∙ passes_all plan unit ms p none

no_notes_all : (plan : Plan) (unit : ℕ) (ms : List Content) (p : Prompt) → awaited plan p.state ≡ None
    → notes_heard plan unit ms p ≡ []
no_notes_all plan unit [] p none = refl
no_notes_all plan unit (m ∷ ms) p none = ap₂ (λ (l k : List Note). l ++ k)
    (no_notes plan (Some (heard_as unit m)) p.state none)
    (ap (notes_heard plan unit ms) (passes plan (Some (heard_as unit m)) p none) ∙ no_notes_all plan unit ms p none)

abbrev overheard : Held → List ℕ → Ends → Ends
overheard held came e = record e { automation = record e.automation { held = held }; ups = e.ups ++ came }

abbrev bytes_at : Arrival → List ℕ
bytes_at (bytes piece) = piece
bytes_at silence = []
bytes_at close = []

-- ends whose automation holds this, with these notes and bytes that came up
abbrev made_of : Ends → Held → List Note → List ℕ → Ends
made_of e held notes ups = record e { automation = record e.automation { held = held }; ups = ups; notes = notes }

overhears : (plan : Plan) (unit : ℕ) (a : Arrival) (e : Ends) → awaited plan e.automation.state ≡ None
    → hears_in plan unit a e ≡ overheard (ear_after at_once unit a e.automation.held) (bytes_at a) e
overhears plan unit (bytes piece) e none =
    let p : Prompt = e.automation in
    let held : Held = held_after p.held piece in
    ap₂ (λ (q : Prompt) (notes : List Note). with_up piece (with_automation (holding held q) notes e))
    (passes_all plan unit (completed p.held piece) p none) (no_notes_all plan unit (completed p.held piece) p none)
    ∙ ap (λ (notes : List Note). made_of e held notes (e.ups ++ piece)) (append-nil e.notes)
overhears plan unit silence e none =
    let held : Held = held_after_silence e.automation.held in
    ap₂ (λ (q : Prompt) (notes : List Note). with_automation (holding held q) notes e)
    (passes plan None e.automation none) (no_notes plan None e.automation.state none)
    ∙ ap₂ (made_of e held) (append-nil e.notes) (sym (append-nil e.ups))
overhears plan unit close e none =
    let held : Held = held_after_silence e.automation.held in
    ap₂ (λ (q : Prompt) (notes : List Note). with_automation (holding held q) notes e)
    (passes plan None e.automation none) (no_notes plan None e.automation.state none)
    ∙ ap₂ (made_of e held) (append-nil e.notes) (sym (append-nil e.ups))

-- the ear behind what came
abbrev pub ear_over : ℕ → List Arrival → Held → Held
ear_over unit [] held = held
ear_over unit (a ∷ came) held = ear_over unit came (ear_after at_once unit a held)

bytes_first : (a : Arrival) (came : List Arrival) → bytes_at a ++ bytes_in came ≡ bytes_in (a ∷ came)
bytes_first a came = grind arith

overhears_all : (plan : Plan) (unit : ℕ) (came : List Arrival) (e : Ends) → awaited plan e.automation.state ≡ None
    → heard_up plan unit came e ≡ overheard (ear_over unit came e.automation.held) (bytes_in came) e
overhears_all plan unit [] e none = ap (λ (l : List ℕ). record e { ups = l }) (sym (append-nil e.ups))
overhears_all plan unit (a ∷ came) e none =
    let held : Held = ear_after at_once unit a e.automation.held in
    ap (heard_up plan unit came) (overhears plan unit a e none)
    ∙ overhears_all plan unit came (overheard held (bytes_at a) e) none
    ∙ ap (made_of e (ear_over unit came held) e.notes)
    (append_assoc e.ups (bytes_at a) (bytes_in came) ∙ ap (λ (l : List ℕ). e.ups ++ l) (bytes_first a came))

-- What was asked: it may be; so much of it went out by these acts, which left the ear so.
pub record IsAskedBy (plan : Plan) (unit : ℕ) (e : Ends) (cs : List Command) (held : Held) (list : List Act) : Type 0 where
  pub may : All (MayAsk plan e.automation.state.stage) cs
  pub ear : held ≡ ear_over unit (came_in list) e.automation.held
  pub unsent : List ℕ
  pub part : bytes_of unit cs ≡ sent_in list ++ unsent

-- What follows goes on from there.
pub asked_side : (plan : Plan) (unit : ℕ) (e : Ends) (cs : List Command) (held : Held) (list more : List Act) (last : Ends)
    → awaited plan e.automation.state ≡ None → IsAskedBy plan unit e cs held list
    → Side plan unit (AreLed plan unit) (asked_first cs held (bytes_in (came_in list)) e) (sent_down unit e ++ sent_in list) more last
    → Side plan unit (AreLed plan unit) e (sent_down unit e) (list ++ more) last
asked_side plan unit e cs held list more last none a s =
    let there : heard_up plan unit (came_in list) (sending cs e) ≡ asked_first cs held (bytes_in (came_in list)) e =
    overhears_all plan unit (came_in list) (sending cs e) none
    ∙ ap (λ (h : Held). asked_first cs h (bytes_in (came_in list)) e) (sym a.ear) in
    led_first plan unit (AreLed plan unit) e (sending cs e) (sent_down unit e) (list ++ more) last
    (λ first downs j. asks_all plan unit first (record e { downs = downs }) cs a.may j) refl refl
    (listening plan unit (AreLed plan unit) list (sending cs e) (sent_down unit e) a.unsent more last
    (sent_more unit e cs ∙ ap (λ (l : List ℕ). sent_down unit e ++ l) a.part)
    (subst (λ (x : Ends). Side plan unit (AreLed plan unit) x (sent_down unit e ++ sent_in list) more last) (sym there) s))

-- A run of the automation that asks.

pub commands_both : (xs ys : List Kept) → commands_kept (xs ++ ys) ≡ commands_kept xs ++ commands_kept ys
commands_both [] ys = refl
commands_both (row.Sent c ∷ xs) ys = ap (λ (l : List Command). c ∷ l) (commands_both xs ys)
commands_both (row.Heard h ∷ xs) ys = commands_both xs ys
commands_both (row.Silence ∷ xs) ys = commands_both xs ys
commands_both (row.Called c ∷ xs) ys = commands_both xs ys

pub ear_so : (plan : Plan) (unit : ℕ) (a : Auto Held) (events : List Event)
    → (after at_once plan unit a events).ear ≡ ear_over unit (arrivals events) a.ear
ear_so plan unit a [] = refl
ear_so plan unit a (arrives what ∷ later) = ear_so plan unit (auto.listens at_once plan unit what (auto.gives a)) later
ear_so plan unit a (calls c ∷ later) = ear_so plan unit (auto.heeds c a) later

-- vdcp_drive::laws::steps_are_exchanges
pub record Steps {E : Type 0} (fold : Fold E) : Type 0 where
  pub bytes : (plan : Plan) (unit : ℕ) (a : Auto E) (events : List Event)
      → sent_in (acts_in (steps_of fold plan unit a events))
      ≡ bytes_of unit (commands_kept (kept_in (steps_of fold plan unit a events)))
  pub came : (plan : Plan) (unit : ℕ) (a : Auto E) (events : List Event)
      → came_in (acts_in (steps_of fold plan unit a events)) ≡ arrivals events

module _ {E : Type 0} {fold : Fold E} (law : Steps fold) (plan : Plan) (unit count : ℕ) (a a' : Auto E)
    (answer : Result Ran BrokenOff) (run : IsRun fold plan unit count a a' answer) where
  pub ending : Last plan unit (after fold plan unit a run.events).state answer run.more
  ending = last_so plan unit count run.events (after fold plan unit a run.events) a' answer run.more run.ending

  pub came_of_run : came_in (acts_in (steps_in run)) ≡ arrivals run.events
  came_of_run =
      let steps : List Step = steps_of fold plan unit a run.events in
      ap came_in (acts_both steps run.more) ∙ came_both (acts_in steps) (acts_in run.more)
      ∙ ap₂ (λ (l k : List Arrival). l ++ k) (law.came plan unit a run.events) ending.none ∙ append-nil (arrivals run.events)

  pub ear_left : a'.ear ≡ (after fold plan unit a run.events).ear
  ear_left =
      stays (left_at plan unit count run.events (after fold plan unit a run.events) a' answer run.more run.ending) where
        stays : {b : Auto E} → (a' ≡ b) ⊎ (a' ≡ auto.gives b) → a'.ear ≡ b.ear
        stays (inl left) = ap (λ (x : Auto E). x.ear) left
        stays (inr left) = ap (λ (x : Auto E). x.ear) left

  pub part_of_run : bytes_of unit (commands_kept (kept_in (steps_in run))) ≡ sent_in (acts_in (steps_in run)) ++ ending.unsent
  part_of_run =
      let steps : List Step = steps_of fold plan unit a run.events in
      let first : List Command = commands_kept (kept_in steps) in
      ap (λ (l : List Kept). bytes_of unit (commands_kept l)) (rows_both steps run.more)
      ∙ ap (bytes_of unit) (commands_both (kept_in steps) (kept_in run.more))
      ∙ flat_map-append (command_bytes unit) first (commands_kept (kept_in run.more))
      ∙ ap₂ (λ (l k : List ℕ). l ++ k) (sym (law.bytes plan unit a run.events)) ending.part
      ∙ sym (append_assoc (sent_in (acts_in steps)) (sent_in (acts_in run.more)) ending.unsent)
      ∙ ap (λ (l : List ℕ). l ++ ending.unsent)
      (sym (ap sent_in (acts_both steps run.more) ∙ sent_both (acts_in steps) (acts_in run.more)))

pub ear_of_run : (law : Steps at_once) (plan : Plan) (unit count : ℕ) (a a' : Auto Held) (answer : Result Ran BrokenOff)
    → (run : IsRun at_once plan unit count a a' answer) → a'.ear ≡ ear_over unit (came_in (acts_in (steps_in run))) a.ear
ear_of_run law plan unit count a a' answer run =
    ear_left law plan unit count a a' answer run ∙ ear_so plan unit a run.events
    ∙ ap (λ (l : List Arrival). ear_over unit l a.ear) (sym (came_of_run law plan unit count a a' answer run))
