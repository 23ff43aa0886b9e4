-- What the steps of a run come to: its rows are those of the exchanges, and what went out is the bytes of its rows.
use Rattle.std.proofs.Common.{ℕ, ◌≡◌, ◌+◌, Bool, true, false, List, [], ◌∷◌, ◌++◌, map, refl, sym, ap, ◌∙◌, append_assoc, append-nil, arith}
use Rattle.std.proofs.lemmas.Grind.{common_steps, flat_map-append}
use Rattle.std.proofs.lemmas.List.{map-append}
use Rattle.std.specs.Option.{option_to_list, option_map_or}
use Rattle.std.specs.Prelude.{Option, Some, None}
use Rattle.vdcp_words.specs.declared.command.Command.{Command}
use Rattle.vdcp_auto.specs.Plan.{Plan}
use Rattle.vdcp_auto.specs.State.{State, Stage, Ready, Awaiting, Ended}
use Rattle.vdcp_auto.specs.Turn as turns
use Rattle.vdcp_auto.specs.Turn.{given, ticked, awaited, awaited_in, came_to, ended_by, ended_in, exchange_of, transition_of, unanswered_after}
use Rattle.vdcp_auto.specs.declared.exchange.Exchange.{Exchange}
use Rattle.vdcp_auto.specs.declared.exchange.Heard.{Heard}
use Rattle.vdcp_auto.specs.declared.phase.Mode.{Mode}
use Rattle.vdcp_auto.specs.declared.phase.Transition.{Transition}
use Rattle.vdcp_auto.specs.declared.phase.Transition.TheVariants.{Goes}
use Rattle.vdcp_wire.specs.Wires.{Arrival}
use Rattle.vdcp_wire.specs.Acts.{Act, sends, brings}
use Rattle.vdcp_drive.specs.Auto.{Auto, Event, after, arrivals, arrives, calls, ended, gives, heeds, listens, log_of, receives}
use Rattle.vdcp_drive.specs.Ears.{Fold, inputs}
use Rattle.vdcp_drive.specs.Steps.{Step, acts, keeps, sending, given_notes, ended_notes, end_of, steps_of}
use Rattle.vdcp_drive.specs.Traces.{acts_in, kept_in, sent_in, came_in, commands_kept, bytes_of, exchanged, kept_of, awaited_notes}
use Rattle.vdcp_drive.specs.declared.hooks.Call.{Call}
use Rattle.vdcp_drive.specs.declared.hooks.Call.TheVariants as call
use Rattle.vdcp_drive.specs.declared.hooks.Kept.{Kept}
use Rattle.vdcp_drive.specs.declared.hooks.Kept.TheVariants as row

-- Steps.

pub acts_both : (xs ys : List Step) → acts_in (xs ++ ys) ≡ acts_in xs ++ acts_in ys
acts_both [] ys = refl
acts_both (acts a ∷ xs) ys = ap (λ (l : List Act). a ∷ l) (acts_both xs ys)
acts_both (x ∷ xs) ys = acts_both xs ys

pub rows_both : (xs ys : List Step) → kept_in (xs ++ ys) ≡ kept_in xs ++ kept_in ys
rows_both [] ys = refl
rows_both (keeps r ∷ xs) ys = ap (λ (l : List Kept). r ∷ l) (rows_both xs ys)
rows_both (x ∷ xs) ys = rows_both xs ys

pub acts_of_acts : (xs : List Act) → acts_in (map acts xs) ≡ xs
acts_of_acts [] = refl
acts_of_acts (x ∷ xs) = ap (λ (l : List Act). x ∷ l) (acts_of_acts xs)

pub rows_of_acts : (xs : List Act) → kept_in (map acts xs) ≡ []
rows_of_acts [] = refl
rows_of_acts (x ∷ xs) = rows_of_acts xs

pub acts_of_rows : (xs : List Kept) → acts_in (map keeps xs) ≡ []
acts_of_rows [] = refl
acts_of_rows (x ∷ xs) = acts_of_rows xs

pub rows_of_rows : (xs : List Kept) → kept_in (map keeps xs) ≡ xs
rows_of_rows [] = refl
rows_of_rows (x ∷ xs) = ap (λ (l : List Kept). x ∷ l) (rows_of_rows xs)

pub sent_both : (xs ys : List Act) → sent_in (xs ++ ys) ≡ sent_in xs ++ sent_in ys
sent_both [] ys = refl
sent_both (sends b ∷ xs) ys = ap (λ (l : List ℕ). b ++ l) (sent_both xs ys) ∙ sym (append_assoc b (sent_in xs) (sent_in ys))
sent_both (x ∷ xs) ys = sent_both xs ys

pub came_both : (xs ys : List Act) → came_in (xs ++ ys) ≡ came_in xs ++ came_in ys
came_both [] ys = refl
came_both (brings what ∷ xs) ys = ap (λ (l : List Arrival). what ∷ l) (came_both xs ys)
came_both (x ∷ xs) ys = came_both xs ys

pub commands_both : (xs ys : List Kept) → commands_kept (xs ++ ys) ≡ commands_kept xs ++ commands_kept ys
commands_both [] ys = refl
commands_both (row.Sent c ∷ xs) ys = ap (λ (l : List Command). c ∷ l) (commands_both xs ys)
commands_both (x ∷ xs) ys = commands_both xs ys

pub exchanged_both : (xs ys : List Kept) → exchanged (xs ++ ys) ≡ exchanged xs ++ exchanged ys
exchanged_both [] ys = refl
exchanged_both (row.Called c ∷ xs) ys = exchanged_both xs ys
exchanged_both (row.Sent c ∷ xs) ys = ap (λ (l : List Kept). row.Sent c ∷ l) (exchanged_both xs ys)
exchanged_both (row.Heard h ∷ xs) ys = ap (λ (l : List Kept). row.Heard h ∷ l) (exchanged_both xs ys)
exchanged_both (row.Silence ∷ xs) ys = ap (λ (l : List Kept). row.Silence ∷ l) (exchanged_both xs ys)

-- what is in steps one after another
pub ruleset traces = (acts_both, rows_both, acts_of_acts, acts_of_rows, rows_of_acts, rows_of_rows, sent_both, came_both, commands_both, exchanged_both, map-append, flat_map-append, append-nil, append_assoc)

-- The controller.

-- a tick turns what is given into what is awaited
pub gives_notes : (plan : Plan) (s : State) (g : Option Command) → given plan s ≡ g
    → awaited_notes plan s ++ given_notes g ≡ awaited_notes plan (ticked s)
gives_notes plan s None is = grind (arith, common_steps)
gives_notes plan s (Some c) is = grind (arith, common_steps)

awaits_none : (plan : Plan) (transition : Transition) (n : ℕ) (s : State)
    → awaited plan (turns.state_after transition n s) ≡ None
awaits_none plan (Goes p) n s = refl
awaits_none plan transition n s = refl

awaits_none_in : (plan : Plan) (stage : Stage) (e : Exchange) (s : State) → awaited_in plan stage ≡ Some e.command
    → awaited plan (ended_in plan stage e s) ≡ None
awaits_none_in plan (Ready p) e s h = cc
awaits_none_in plan (Awaiting p) e s h =
    awaits_none plan (transition_of plan s p e) (unanswered_after plan.mode e s.unanswered) s
awaits_none_in plan (Ended outcome) e s h = cc

command_is : (mode : Mode) (h : Option Heard) (c : Option Command) (e : Exchange) → exchange_of mode h c ≡ Some e
    → c ≡ Some e.command
command_is mode h None e is = cc
command_is mode h (Some c) e is = grind (arith, common_steps)

-- what the controller hears turns what was awaited into an exchange, if it ends one
abbrev TurnsRows : Plan → Option Heard → State → Option Exchange → Type 0
TurnsRows plan h s ends = awaited_notes plan s ++ ended_notes (option_to_list ends)
    ≡ kept_of (option_to_list ends) ++ awaited_notes plan (option_map_or (λ e. ended_in plan s.stage e s) ends s)

hears_rows : (plan : Plan) (h : Option Heard) (s : State) (ends : Option Exchange) → ended_by plan h s ≡ ends
    → TurnsRows plan h s ends
hears_rows plan h s None is = append-nil (awaited_notes plan s)
hears_rows plan h s (Some e) is =
    let awaits : awaited plan s ≡ Some e.command = command_is plan.mode h (awaited plan s) e is in
    ap (λ (o : Option Command). map row.Sent (option_to_list o) ++ end_of e.heard ∷ []) awaits
    ∙ ap (λ (o : Option Command). row.Sent e.command ∷ end_of e.heard ∷ map row.Sent (option_to_list o))
    (sym (awaits_none_in plan s.stage e s awaits))

receives_rows : (plan : Plan) (hs : List (Option Heard)) (s : State)
    → awaited_notes plan s ++ ended_notes (ended plan hs s) ≡ kept_of (ended plan hs s) ++ awaited_notes plan (receives plan hs s)
receives_rows plan [] s = append-nil (awaited_notes plan s)
receives_rows plan (h ∷ hs) s =
    let one : List Exchange = option_to_list (ended_by plan h s) in
    let s' : State = came_to plan h s in
    let more : List Exchange = ended plan hs s' in
    rw (map-append, flat_map-append) (cc (
      hears_rows plan h s (ended_by plan h s) refl,
      receives_rows plan hs s',
      append_assoc (awaited_notes plan s) (ended_notes one) (ended_notes more),
      append_assoc (kept_of one) (awaited_notes plan s') (ended_notes more),
      append_assoc (kept_of one) (kept_of more) (awaited_notes plan (receives plan hs s')),
    ))

-- A round.

abbrev ends_in : {E : Type 0} → Fold E → Plan → ℕ → Arrival → Auto E → List Exchange
ends_in fold plan unit what a = ended plan (inputs fold unit what a.ear) (ticked a.state)

pub given_exchanged : (g : Option Command) → exchanged (given_notes g) ≡ given_notes g
given_exchanged None = refl
given_exchanged (Some c) = refl

end_exchanged : (h : Option Heard) (rows : List Kept) → exchanged rows ≡ rows → exchanged (end_of h ∷ rows) ≡ end_of h ∷ rows
end_exchanged None rows is = ap (λ (l : List Kept). row.Silence ∷ l) is
end_exchanged (Some h) rows is = ap (λ (l : List Kept). row.Heard h ∷ l) is

pub ended_exchanged : (log : List Exchange) → exchanged (ended_notes log) ≡ ended_notes log
ended_exchanged [] = refl
ended_exchanged (e ∷ log) = end_exchanged e.heard (ended_notes log) (ended_exchanged log)

-- a call changes nothing that is awaited
call_awaits : {E : Type 0} (plan : Plan) (c : Call) (a : Auto E) → awaited plan (heeds c a).state ≡ awaited plan a.state
call_awaits plan call.Take a = refl
call_awaits plan call.Stop a = refl
call_awaits plan (call.List l) a = refl

-- The rows of a run, after the command that was awaited before it, are those of the exchanges that ended in it, and of
-- the command that is awaited behind it; and its calls.
pub steps_kept : {E : Type 0} (fold : Fold E) (plan : Plan) (unit : ℕ) (a : Auto E) (events : List Event)
    → awaited_notes plan a.state ++ exchanged (kept_in (steps_of fold plan unit a events))
    ≡ kept_of (log_of fold plan unit a events) ++ awaited_notes plan (after fold plan unit a events).state
steps_kept fold plan unit a [] = append-nil (awaited_notes plan a.state)
steps_kept {E} fold plan unit a (arrives what ∷ later) =
    let b : Auto E = listens fold plan unit what (gives a) in
    let es : List Exchange = ends_in fold plan unit what a in
    let given_is : List Kept = given_notes (given plan a.state) in
    let more : List Kept = exchanged (kept_in (steps_of fold plan unit b later)) in
    let before : List Kept = awaited_notes plan a.state in
    simp (traces, given_exchanged, ended_exchanged) (cc (
      gives_notes plan a.state (given plan a.state) refl,
      steps_kept fold plan unit b later,
      receives_rows plan (inputs fold unit what a.ear) (ticked a.state),
      append_assoc before given_is (ended_notes es ++ more),
      append_assoc (awaited_notes plan (ticked a.state)) (ended_notes es) more,
      append_assoc (kept_of es) (awaited_notes plan b.state) more,
    ))
steps_kept {E} fold plan unit a (calls c ∷ later) =
    rw (call_awaits plan c a) at (steps_kept fold plan unit (heeds c a) later)

-- What went out is the bytes of the commands of the rows, and nothing else.
pub sending_bytes : (first : Bool) (unit : ℕ) (g : Option Command)
    → sent_in (sending first unit g) ≡ bytes_of unit (commands_kept (given_notes g))
sending_bytes first unit None = refl
sending_bytes true unit (Some c) = refl
sending_bytes false unit (Some c) = refl

end_nothing : (h : Option Heard) (rows : List Kept) → commands_kept rows ≡ [] → commands_kept (end_of h ∷ rows) ≡ []
end_nothing None rows is = is
end_nothing (Some h) rows is = is

ends_nothing : (log : List Exchange) → commands_kept (ended_notes log) ≡ []
ends_nothing [] = refl
ends_nothing (e ∷ log) = end_nothing e.heard (ended_notes log) (ends_nothing log)

pub steps_bytes : {E : Type 0} (fold : Fold E) (plan : Plan) (unit : ℕ) (a : Auto E) (events : List Event)
    → sent_in (acts_in (steps_of fold plan unit a events))
    ≡ bytes_of unit (commands_kept (kept_in (steps_of fold plan unit a events)))
steps_bytes fold plan unit a [] = refl
steps_bytes fold plan unit a (arrives what ∷ later) =
    simp (traces, ends_nothing, sending_bytes, steps_bytes fold plan unit (listens fold plan unit what (gives a)) later)
steps_bytes fold plan unit a (calls c ∷ later) = steps_bytes fold plan unit (heeds c a) later

pub sending_came : (first : Bool) (unit : ℕ) (g : Option Command) → came_in (sending first unit g) ≡ []
sending_came first unit None = refl
sending_came true unit (Some c) = refl
sending_came false unit (Some c) = refl

pub steps_came : {E : Type 0} (fold : Fold E) (plan : Plan) (unit : ℕ) (a : Auto E) (events : List Event)
    → came_in (acts_in (steps_of fold plan unit a events)) ≡ arrivals events
steps_came fold plan unit a [] = refl
steps_came fold plan unit a (arrives what ∷ later) =
    simp (traces, sending_came, steps_came fold plan unit (listens fold plan unit what (gives a)) later)
steps_came fold plan unit a (calls c ∷ later) = steps_came fold plan unit (heeds c a) later
