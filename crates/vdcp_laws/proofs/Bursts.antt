-- An automation that hears at silences leads both ends on as one does that hears at once.
use Rattle.std.proofs.Common.{arith, ℕ, ◌≡◌, ◌≤◌, ◌⊎◌, inl, inr, List, [], ◌∷◌, ◌++◌, length, map, refl, sym, ap, ap₂, subst, ◌∙◌, append_assoc, append-nil}
use Rattle.std.proofs.lemmas.List.{append_cancel_left, map-append}
use Rattle.std.specs.Option.{option_map_or, option_to_list}
use Rattle.std.specs.Prelude.{Bool, Option, None, Some, Result, true}
use Rattle.vdcp_words.specs.declared.command.Command.{Command}
use Rattle.vdcp_frame.specs.Message.{Content}
use Rattle.vdcp_frame.specs.Reading.{IsUnfinished, SpellsAll}
use Rattle.vdcp_auto.specs.Course.{logged}
use Rattle.vdcp_auto.specs.Heard.{heard_as, heard_first}
use Rattle.vdcp_auto.specs.Plan.{Plan}
use Rattle.vdcp_auto.specs.State.{Stage, Ready, Awaiting, Ended, State}
use Rattle.vdcp_auto.specs.Turn.{awaited, awaited_in, came_to, ended_by, ended_in, exchange_of, given, given_in, outcome_of, stage_after, ticked, transition_of}
use Rattle.vdcp_auto.specs.declared.exchange.Exchange.{Exchange}
use Rattle.vdcp_auto.specs.declared.exchange.Heard.{Heard}
use Rattle.vdcp_auto.specs.declared.phase.Mode.{Mode}
use Rattle.vdcp_auto.specs.declared.phase.Mode.TheVariants.{Plain, Confirming}
use Rattle.vdcp_auto.specs.declared.phase.Transition.{Transition}
use Rattle.vdcp_auto.specs.declared.phase.Transition.TheVariants.{Goes, Settles, Retries, Ends as EndsSo}
use Rattle.vdcp_journal.specs.declared.row.Note.{Note}
use Rattle.vdcp_journal_file.specs.Recorded.{note_for}
use Rattle.vdcp_wire.specs.Acts.{Act, brings, drops, fails, sends}
use Rattle.vdcp_wire.specs.Wires.{Arrival, bytes, silence, close}
use Rattle.vdcp_drive.specs.Auto.{AreMade, Auto, Event, after, arrives, called, calls, log_of}
use Rattle.vdcp_drive.specs.Auto as auto
use Rattle.vdcp_drive.specs.Ears.{ear_after, inputs}
use Rattle.vdcp_drive.specs.Hearing.{Burst, begun, at_once, at_silences, burst_after, burst_says, burst_with}
use Rattle.vdcp_drive.specs.HearingLaws.{at_silences_in_pieces}
use Rattle.vdcp_drive.specs.Leaves.{Ending, IsRun, by_itself, by_hooks, in_keep, in_drop, in_send, in_listen, steps_in}
use Rattle.vdcp_drive.specs.Reading.{Held, holds, completed, held_after, held_after_silence}
use Rattle.vdcp_drive.specs.Steps.{Step, acts, keeps, command_bytes, ended_notes, given_notes, opening, round, sending, steps_of}
use Rattle.vdcp_drive.specs.Traces.{acts_in, bytes_of, came_in, kept_in, sent_in}
use Rattle.vdcp_drive.specs.declared.hooks.BrokenOff.{BrokenOff}
use Rattle.vdcp_drive.specs.declared.hooks.Call.{Call}
use Rattle.vdcp_drive.specs.declared.hooks.Kept.{Kept}
use Rattle.vdcp_drive.specs.declared.hooks.Kept.TheVariants as row
use Rattle.vdcp_drive.specs.declared.line.Ran.{Ran}
use Rattle.vdcp_laws.specs.Automation.{Prompt, hears, hears_all}
use Rattle.vdcp_laws.specs.Below.{Completed, Laws}
use Rattle.vdcp_laws.specs.Bursts.{AreHeardAs, EndsBurst, heard_at_end, none, sent, failed, came, ended, dropped}
use Rattle.vdcp_laws.specs.OneConnection.{ends_by, hears_in}
use Rattle.vdcp_laws.specs.TwoEnds as two
use Rattle.vdcp_laws.specs.TwoEnds.{AreLed, Ends, log_now, sent_down, with_command}
use Rattle.vdcp_laws.proofs.Asked.{passes_all}
use Rattle.vdcp_laws.proofs.Bytes.{nothing_unfinished}
use Rattle.vdcp_laws.proofs.CarriedRun.{leads_on}
use Rattle.vdcp_laws.proofs.Carrying.{Side, acts_both, events_side, first_acts, given_side, heard_down, keeps_nothing, last_side, led_first, listening, no_act}
use Rattle.vdcp_laws.proofs.Joining.{sent_more}
use Rattle.vdcp_laws.proofs.Noted.{arrival_notes, rows_both, rows_of_acts, rows_of_rows}
use Rattle.vdcp_laws.proofs.Same.{heard_log, logged_so}

-- What is heard of a burst.

abbrev pub ear_of : ℕ → List ℕ → Burst
ear_of unit burst = burst_after unit burst (begun (holds []))

first_said : (unit : ℕ) (ms : List Content) (held : Held)
    → burst_says (burst_with held (map (heard_as unit) ms)) ≡ heard_first unit ms
first_said unit [] held = refl
first_said unit (m ∷ ms) held = refl

-- at its end its first message
says_first : (law : Completed) (unit : ℕ) (ms : List Content) (whole torn : List ℕ) → SpellsAll ms whole → IsUnfinished torn
    → burst_says (ear_of unit (whole ++ torn)) ≡ heard_first unit ms
says_first law unit ms whole torn spelt rest =
    let held : Held = held_after (holds []) (whole ++ torn) in
    ap (λ (l : List Content). burst_says (burst_with held (map (heard_as unit) l))) (law.messages ms whole torn spelt rest)
    ∙ first_said unit ms held

-- In plain mode nothing is awaited once something came.

free_after : (plan : Plan) (t : Transition) → awaited_in plan (stage_after t) ≡ None
free_after plan (Goes p) = refl
free_after plan (Settles k) = refl
free_after plan (Retries k) = refl
free_after plan (EndsSo outcome) = refl

free_in : (plan : Plan) (e : Exchange) (s : State) (c : Command) (stage : Stage) → awaited_in plan stage ≡ Some c
    → awaited plan (ended_in plan stage e s) ≡ None
free_in plan e s c (Ready p) is = cc
free_in plan e s c (Awaiting p) is = free_after plan (transition_of plan s p e)
free_in plan e s c (Ended outcome) is = cc

free_then : (plan : Plan) (heard : Option Heard) (s : State) (o : Option Command) → awaited plan s ≡ o → plan.mode ≡ Plain
    → awaited plan (came_to plan heard s) ≡ None
free_then plan heard s None is plain =
    ap (λ (o : Option Command). awaited plan
    (option_map_or (λ e. ended_in plan s.stage e s) (exchange_of plan.mode heard o) s)) is ∙ is
free_then plan heard s (Some c) is plain =
    ap₂ (λ (mode : Mode) (o : Option Command). awaited plan
    (option_map_or (λ e. ended_in plan s.stage e s) (exchange_of mode heard o) s)) plain is
    ∙ free_in plan (record { command = c; heard = heard }) s c s.stage is

-- what comes behind the first message of a burst ends nothing
rest_heard : (plan : Plan) (unit : ℕ) (m : Content) (ms : List Content) (p : Prompt)
    → (plan.mode ≡ Confirming → length (m ∷ ms) ≤ 1) → hears_all plan unit (m ∷ ms) p ≡ hears plan unit m p
rest_heard plan unit m ms p one = by plan.mode refl where
  alone : (ns : List Content) → length (m ∷ ns) ≤ 1 → hears_all plan unit ns (hears plan unit m p) ≡ hears plan unit m p
  alone [] few = refl
  alone (n ∷ ns) few = absurd (omega (arith, few))

  by : (mode : Mode) → plan.mode ≡ mode → hears_all plan unit ms (hears plan unit m p) ≡ hears plan unit m p
  by Plain is = passes_all plan unit ms (hears plan unit m p)
      (free_then plan (Some (heard_as unit m)) p.state (awaited plan p.state) refl is)
  by Confirming is = alone ms (one is)

-- Where acts lead.

-- these acts, as of one that hears at once, lead to ends whose controller is in this state, after these exchanges more, of which
-- this was kept
pub record Led (plan : Plan) (unit : ℕ) (e : Ends) (list : List Act) (state : State) (log : List Exchange) (kept : List Kept)
    : Type 0 where
  pub to : Ends
  pub state_is : to.automation.state ≡ state
  pub held_is : to.automation.held ≡ holds []
  pub log_is : log_now to ≡ log_now e ++ log
  pub notes_are : to.notes ≡ e.notes ++ map note_for kept
  pub port_is : to.port ≡ e.port
  pub aired_is : to.aired_before ≡ e.aired_before
  pub side : (more : List Act) (last : Ends) → Side plan unit (AreLed plan unit) to (sent_down unit to) more last
      → Side plan unit (AreLed plan unit) e (sent_down unit e) (list ++ more) last

-- and these are the last ones; the next command may have been given, of which nothing went out
pub record Finished (plan : Plan) (unit : ℕ) (e : Ends) (list : List Act) (state : State) (log : List Exchange) (kept : List Kept)
    : Type 0 where
  pub last : Ends
  pub state_is : (last.automation.state ≡ state) ⊎ (last.automation.state ≡ ticked state)
  pub log_is : log_now last ≡ log_now e ++ log
  pub notes_are : last.notes ≡ e.notes ++ map note_for kept
  pub port_is : last.port ≡ e.port
  pub aired_is : last.aired_before ≡ e.aired_before
  pub side : Side plan unit (AreLed plan unit) e (sent_down unit e) list last

module _ (plan : Plan) (unit : ℕ) where
  abbrev Leads : Ends → List Act → Ends → Type 0
  Leads e list last = Side plan unit (AreLed plan unit) e (sent_down unit e) list last

  both_noted : (before notes last : List Note) (kept more : List Kept) → last ≡ notes ++ map note_for more
      → notes ≡ before ++ map note_for kept → last ≡ before ++ map note_for (kept ++ more)
  both_noted before notes last kept more now then =
      now ∙ ap (λ (l : List Note). l ++ map note_for more) then ∙ append_assoc before (map note_for kept) (map note_for more)
      ∙ ap (λ (l : List Note). before ++ l) (sym (map-append note_for kept more))

  pub led_both : {e : Ends} {xs ys : List Act} {s t : State} {log more : List Exchange} {kept rows : List Kept}
      → (a : Led plan unit e xs s log kept) → Led plan unit a.to ys t more rows
      → Led plan unit e (xs ++ ys) t (log ++ more) (kept ++ rows)
  led_both {e} {xs} {ys} {s} {t} {log} {more} {kept} {rows} a b = record {
    to = b.to;
    state_is = b.state_is;
    held_is = b.held_is;
    log_is = b.log_is ∙ ap (λ (l : List Exchange). l ++ more) a.log_is ∙ append_assoc (log_now e) log more;
    notes_are = both_noted e.notes a.to.notes b.to.notes kept rows b.notes_are a.notes_are;
    port_is = b.port_is ∙ a.port_is;
    aired_is = b.aired_is ∙ a.aired_is;
    side = λ list last s. subst (λ (l : List Act). Leads e l last) (sym (append_assoc xs ys list))
        (a.side (ys ++ list) last (b.side list last s));
  }

  pub led_last : {e : Ends} {xs ys : List Act} {s t : State} {log more : List Exchange} {kept rows : List Kept}
      → (a : Led plan unit e xs s log kept) → Finished plan unit a.to ys t more rows
      → Finished plan unit e (xs ++ ys) t (log ++ more) (kept ++ rows)
  led_last {e} {xs} {ys} {s} {t} {log} {more} {kept} {rows} a b = record {
    last = b.last;
    state_is = b.state_is;
    log_is = b.log_is ∙ ap (λ (l : List Exchange). l ++ more) a.log_is ∙ append_assoc (log_now e) log more;
    notes_are = both_noted e.notes a.to.notes b.last.notes kept rows b.notes_are a.notes_are;
    port_is = b.port_is ∙ a.port_is;
    aired_is = b.aired_is ∙ a.aired_is;
    side = a.side ys b.last b.side;
  }

  pub stays_so : (e : Ends) (s : State) → e.automation.state ≡ s → e.automation.held ≡ holds [] → Led plan unit e [] s [] []
  stays_so e s is held = record {
    to = e;
    state_is = is;
    held_is = held;
    log_is = sym (append-nil (log_now e));
    notes_are = sym (append-nil e.notes);
    port_is = refl;
    aired_is = refl;
    side = λ more last s. s;
  }

  -- the next command is given, and all of it goes out

  given_on : (o : Option Command) (now : Ends) (out : List ℕ) (more : List Act) (last : Ends)
      → sent_down unit now ≡ out ++ bytes_of unit (option_to_list o) → Leads now more last
      → Side plan unit (AreLed plan unit) now out (first_acts unit o ++ more) last
  given_on None now out more last is s =
      subst (λ (l : List ℕ). Side plan unit (AreLed plan unit) now l more last) (is ∙ append-nil out) s
  given_on (Some c) now out more last is s =
      let b : List ℕ = command_bytes unit c in
      listening plan unit (AreLed plan unit) (sends b ∷ []) now out [] more last
      (is ∙ ap (λ (l : List ℕ). out ++ l) (sym (append-nil (b ++ []))))
      (subst (λ (l : List ℕ). Side plan unit (AreLed plan unit) now l more last) is s)

  gave_led : (e : Ends) (s : State) (o : Option Command) → e.automation.state ≡ s → given plan s ≡ o
      → e.automation.held ≡ holds [] → Led plan unit e (first_acts unit o) (ticked s) [] (given_notes o)
  gave_led e s o is gives held =
      let now : Ends = with_command plan e in
      let o_is : given plan e.automation.state ≡ o = ap (given plan) is ∙ gives in
      record {
        to = now;
        state_is = ap ticked is;
        held_is = held;
        log_is = sym (append-nil (log_now e));
        notes_are = ap (λ (x : Option Command). e.notes ++ map note_for (given_notes x)) o_is;
        port_is = refl;
        aired_is = refl;
        side = λ more last s.
            led_first plan unit (AreLed plan unit) e now (sent_down unit e) (first_acts unit o ++ more) last
            (λ first downs j. (leads_on plan unit).on two.gave tt j) refl refl
            (given_on o now (sent_down unit e) more last
            (sent_more unit e (option_to_list (given plan e.automation.state))
            ∙ ap (λ (x : Option Command). sent_down unit e ++ bytes_of unit (option_to_list x)) o_is) s);
      }

  -- something comes
  brought_on : (e : Ends) (what : Arrival) (more : List Act) (last : Ends) → Leads (hears_in plan unit what e) more last
      → Leads e (brings what ∷ more) last
  brought_on e what more last s =
      let sent : List ℕ = sent_down unit e in
      listening plan unit (AreLed plan unit) (brings what ∷ []) e sent [] more last (sym (append-nil sent))
      (subst (λ (l : List ℕ). Side plan unit (AreLed plan unit) (hears_in plan unit what e) l more last)
      (heard_down plan unit what e ∙ sym (append-nil sent)) s)

  -- whole messages
  bytes_led : (law : Laws) (e : Ends) (ms : List Content) (whole : List ℕ) (q : Prompt) (log : List Exchange)
      → e.automation.held ≡ holds [] → SpellsAll ms whole → hears_all plan unit ms e.automation ≡ q
      → q.log ≡ e.automation.log ++ log → Led plan unit e (brings (bytes whole) ∷ []) q.state log (ended_notes log)
  bytes_led law e ms whole q log held spelt is log_so =
      let none_left : IsUnfinished [] = nothing_unfinished law.spelt in
      let messages : completed e.automation.held whole ≡ ms =
      ap₂ completed held (sym (append-nil whole)) ∙ law.completed.messages ms whole [] spelt none_left in
      let heard : hears_all plan unit (completed e.automation.held whole) e.automation ≡ q =
      ap (λ (l : List Content). hears_all plan unit l e.automation) messages ∙ is in
      let ended_is : auto.ended plan (inputs at_once unit (bytes whole) e.automation.held) e.automation.state ≡ log =
      append_cancel_left e.automation.log _ log
      (sym (heard_log plan unit (completed e.automation.held whole) e.automation) ∙ ap (λ (p : Prompt). p.log) heard ∙ log_so) in
      record {
        to = hears_in plan unit (bytes whole) e;
        state_is = ap (λ (p : Prompt). p.state) heard;
        held_is = ap₂ held_after held (sym (append-nil whole)) ∙ law.completed.held ms whole [] spelt none_left;
        log_is = ap (λ (p : Prompt). e.log_before ++ p.log) heard ∙ ap (λ (l : List Exchange). e.log_before ++ l) log_so
            ∙ sym (append_assoc e.log_before e.automation.log log);
        notes_are = arrival_notes plan unit (bytes whole) e
            ∙ ap (λ (l : List Exchange). e.notes ++ map note_for (ended_notes l)) ended_is;
        port_is = refl;
        aired_is = refl;
        side = λ more last s. brought_on e (bytes whole) more last s;
      }

  -- what is dropped is passed over
  dropped_led : (law : Laws) (e : Ends) (s : State) (ms : List Content) (whole : List ℕ) → e.automation.state ≡ s
      → awaited plan s ≡ None → e.automation.held ≡ holds [] → SpellsAll ms whole
      → Led plan unit e (brings (bytes whole) ∷ []) s [] []
  dropped_led law e s ms whole is free held spelt =
      subst (λ (t : State). Led plan unit e (brings (bytes whole) ∷ []) t [] []) is
      (bytes_led law e ms whole e.automation [] held spelt
      (passes_all plan unit ms e.automation (ap (awaited plan) is ∙ free)) (sym (append-nil e.automation.log)))

  -- a burst ends

  logged_more : (log : List Exchange) (o : Option Exchange) → logged log o ≡ log ++ (option_to_list o ++ [])
  logged_more log o = logged_so log o ∙ ap (λ (l : List Exchange). log ++ l) (sym (append-nil (option_to_list o)))

  -- without a message
  quiet_led : (e : Ends) (s : State) (end : Arrival) → EndsBurst end → e.automation.state ≡ s → e.automation.held ≡ holds []
      → Led plan unit e (brings end ∷ []) (came_to plan None s) (option_to_list (ended_by plan None s) ++ [])
      (ended_notes (option_to_list (ended_by plan None s) ++ []))
  quiet_led e s (bytes piece) ends is held = absurd ends
  quiet_led e s silence ends is held = record {
    to = hears_in plan unit silence e;
    state_is = ap (came_to plan None) is;
    held_is = ap held_after_silence held;
    log_is = ap (λ (t : State). e.log_before ++ logged e.automation.log (ended_by plan None t)) is
        ∙ ap (λ (l : List Exchange). e.log_before ++ l) (logged_more e.automation.log (ended_by plan None s))
        ∙ sym (append_assoc e.log_before e.automation.log (option_to_list (ended_by plan None s) ++ []));
    notes_are = arrival_notes plan unit silence e
        ∙ ap (λ (t : State). e.notes ++ map note_for (ended_notes (option_to_list (ended_by plan None t) ++ []))) is;
    port_is = refl;
    aired_is = refl;
    side = λ more last s. brought_on e silence more last s;
  }
  quiet_led e s close ends is held = record {
    to = hears_in plan unit close e;
    state_is = ap (came_to plan None) is;
    held_is = ap held_after_silence held;
    log_is = ap (λ (t : State). e.log_before ++ logged e.automation.log (ended_by plan None t)) is
        ∙ ap (λ (l : List Exchange). e.log_before ++ l) (logged_more e.automation.log (ended_by plan None s))
        ∙ sym (append_assoc e.log_before e.automation.log (option_to_list (ended_by plan None s) ++ []));
    notes_are = arrival_notes plan unit close e
        ∙ ap (λ (t : State). e.notes ++ map note_for (ended_notes (option_to_list (ended_by plan None t) ++ []))) is;
    port_is = refl;
    aired_is = refl;
    side = λ more last s. brought_on e close more last s;
  }

  end_led : (law : Laws) (e : Ends) (s : State) (end : Arrival) (ms : List Content) (whole : List ℕ) → EndsBurst end
      → e.automation.state ≡ s → e.automation.held ≡ holds [] → SpellsAll ms whole → (plan.mode ≡ Confirming → length ms ≤ 1)
      → Led plan unit e (brings (heard_at_end end ms whole) ∷ []) (came_to plan (heard_first unit ms) s)
      (option_to_list (ended_by plan (heard_first unit ms) s) ++ [])
      (ended_notes (option_to_list (ended_by plan (heard_first unit ms) s) ++ []))
  end_led law e s end [] whole ends is held spelt one = quiet_led e s end ends is held
  end_led law e s end (m ∷ ms) whole ends is held spelt one =
      subst (λ (t : State). Led plan unit e (brings (bytes whole) ∷ []) (came_to plan (Some (heard_as unit m)) t)
      (option_to_list (ended_by plan (Some (heard_as unit m)) t) ++ [])
      (ended_notes (option_to_list (ended_by plan (Some (heard_as unit m)) t) ++ []))) is
      (bytes_led law e (m ∷ ms) whole (hears plan unit m e.automation)
      (option_to_list (ended_by plan (Some (heard_as unit m)) e.automation.state) ++ []) held spelt
      (rest_heard plan unit m ms e.automation one)
      (logged_more e.automation.log (ended_by plan (Some (heard_as unit m)) e.automation.state)))

  -- a call is made
  call_led : (e : Ends) (s : State) (c : Call) → e.automation.state ≡ s → e.automation.held ≡ holds []
      → outcome_of s.stage ≡ None → Led plan unit e [] (called c s) [] (row.Called c ∷ [])
  call_led e s c is held goes_on = record {
    to = ends_by plan unit e (calls c ∷ []);
    state_is = ap (called c) is;
    held_is = held;
    log_is = sym (append-nil (log_now e));
    notes_are = refl;
    port_is = refl;
    aired_is = refl;
    side = λ more last side. events_side plan unit (AreLed plan unit) (leads_on plan unit) more last (calls c ∷ []) e
        (ap (λ (t : State). outcome_of t.stage) is ∙ goes_on, tt) side;
  }

-- A run, event by event.

-- what goes out before a listen
abbrev opening_acts : ℕ → Option Command → List Act
opening_acts unit None = []
opening_acts unit (Some c) = drops ∷ sends (command_bytes unit c) ∷ []

opens_so : (unit : ℕ) (o : Option Command)
    → acts_in (map keeps (given_notes o) ++ map acts (sending true unit o)) ≡ opening_acts unit o
opens_so unit None = refl
opens_so unit (Some c) = refl

round_so : (plan : Plan) (unit : ℕ) (what : Arrival) (a : Auto Burst) (later : List Step)
    → acts_in (round at_silences plan unit what a ++ later)
    ≡ opening_acts unit (given plan a.state) ++ brings what ∷ acts_in later
round_so plan unit what a later =
    let rows : List Kept = ended_notes (auto.ended plan (inputs at_silences unit what a.ear) (ticked a.state)) in
    let notes : List Step = map keeps rows in
    let o : Option Command = given plan a.state in
    let first : List Act = opening_acts unit o in
    acts_both (round at_silences plan unit what a) later
    ∙ ap (λ (l : List Act). l ++ acts_in later)
    (acts_both (opening at_silences plan unit a) (acts (brings what) ∷ notes)
    ∙ ap (λ (l : List Act). l ++ brings what ∷ acts_in notes) (opens_so unit o)
    ∙ ap (λ (l : List Act). first ++ brings what ∷ l) (keeps_nothing rows))
    ∙ append_assoc first (brings what ∷ []) (acts_in later)

round_rows : (plan : Plan) (unit : ℕ) (what : Arrival) (a : Auto Burst) (later : List Step)
    → kept_in (round at_silences plan unit what a ++ later) ≡ given_notes (given plan a.state)
    ++ (ended_notes (auto.ended plan (inputs at_silences unit what a.ear) (ticked a.state)) ++ kept_in later)
round_rows plan unit what a later = simp (rows_both, rows_of_acts, rows_of_rows, append_assoc)

-- acts that are parted
pub record Parted (mode : Mode) (burst left : List ℕ) (xs ys same : List Act) : Type 0 where
  pub first : List Act
  pub rest : List Act
  pub between : List ℕ
  pub parts : same ≡ first ++ rest
  pub one : AreHeardAs mode burst between xs first
  pub two : AreHeardAs mode between left ys rest

module _ (mode : Mode) (left : List ℕ) where
  parted_more : {burst then : List ℕ} {xs xs' ys later : List Act} → (one_more : List Act) → (p : Parted mode then left xs ys later)
      → (AreHeardAs mode then p.between xs p.first → AreHeardAs mode burst p.between xs' (one_more ++ p.first))
      → Parted mode burst left xs' ys (one_more ++ later)
  parted_more one_more p on = record {
    first = one_more ++ p.first;
    rest = p.rest;
    between = p.between;
    parts = ap (λ (l : List Act). one_more ++ l) p.parts ∙ sym (append_assoc one_more p.first p.rest);
    one = on p.one;
    two = p.two;
  }

  pub part : {burst : List ℕ} {same : List Act} → (xs ys : List Act) → AreHeardAs mode burst left (xs ++ ys) same
      → Parted mode burst left xs ys same
  part {burst} {same} [] ys h =
      record { first = []; rest = same; between = burst; parts = refl; one = none; two = h }
  part (sends b ∷ xs) ys (sent _ h) = parted_more (sends b ∷ []) (part xs ys h) (λ one. sent b one)
  part (fails ∷ xs) ys (failed h) = parted_more (fails ∷ []) (part xs ys h) (λ one. failed one)
  part (brings (bytes piece) ∷ xs) ys (came _ h) = parted_more [] (part xs ys h) (λ one. came piece one)
  part (brings end ∷ xs) ys (ended _ is ms whole torn parts spelt rest one_most h) =
      parted_more (brings (heard_at_end end ms whole) ∷ []) (part xs ys h)
      (λ one. ended end is ms whole torn parts spelt rest one_most one)
  part (drops ∷ xs) ys (dropped ms whole spelt h) =
      parted_more (brings (bytes whole) ∷ []) (part xs ys h) (λ one. dropped ms whole spelt one)

-- the next command goes out, and what waited is dropped before
record Opened (plan : Plan) (unit : ℕ) (e : Ends) (s : State) (o : Option Command) (burst left : List ℕ) (later same : List Act)
    : Type 0 where
  first : List Act
  rest : List Act
  parts : same ≡ first ++ rest
  behind : AreHeardAs plan.mode burst left later rest
  led : Led plan unit e first (ticked s) [] (given_notes o)

-- a command is given only if none is awaited
free_to_give : (plan : Plan) (stop : Bool) (c : Command) (stage : Stage) → given_in plan stop stage ≡ Some c
    → awaited_in plan stage ≡ None
free_to_give plan stop c (Ready p) is = refl
free_to_give plan stop c (Awaiting p) is = cc
free_to_give plan stop c (Ended outcome) is = refl

opened : (law : Laws) (plan : Plan) (unit : ℕ) (e : Ends) (s : State) (o : Option Command) (burst left : List ℕ)
    (later same : List Act) → given plan s ≡ o → e.automation.state ≡ s → e.automation.held ≡ holds []
    → AreHeardAs plan.mode burst left (opening_acts unit o ++ later) same → Opened plan unit e s o burst left later same
opened law plan unit e s None burst left later same gives is held h =
    record { first = []; rest = same; parts = refl; behind = h; led = gave_led plan unit e s None is gives held }
opened law plan unit e s (Some c) _ left later _ gives is held (dropped {same} ms whole spelt (sent {same = more} b h)) =
    let free : awaited plan s ≡ None = free_to_give plan s.stop c s.stage gives in
    let first = dropped_led plan unit law e s ms whole is free held spelt in
    record {
      first = brings (bytes whole) ∷ sends b ∷ [];
      rest = more;
      parts = refl;
      behind = h;
      led = led_both plan unit first (gave_led plan unit first.to s (Some c) first.state_is gives first.held_is);
    }

-- something comes
record Heard_on (plan : Plan) (unit : ℕ) (e : Ends) (s : State) (ear : Burst) (what : Arrival) (left : List ℕ)
    (later same : List Act) : Type 0 where
  first : List Act
  rest : List Act
  now : List ℕ
  parts : same ≡ first ++ rest
  behind : AreHeardAs plan.mode now left later rest
  ear_is : ear_after at_silences unit what ear ≡ ear_of unit now
  led : Led plan unit e first (auto.receives plan (inputs at_silences unit what ear) s)
      (auto.ended plan (inputs at_silences unit what ear) s)
      (ended_notes (auto.ended plan (inputs at_silences unit what ear) s))

heard_on : (law : Laws) (plan : Plan) (unit : ℕ) (e : Ends) (s : State) (ear : Burst) (what : Arrival) (burst left : List ℕ)
    (later same : List Act) → e.automation.state ≡ s → e.automation.held ≡ holds [] → ear ≡ ear_of unit burst
    → AreHeardAs plan.mode burst left (brings what ∷ later) same → Heard_on plan unit e s ear what left later same
heard_on law plan unit e s ear (bytes piece) burst left later same is held ear_is (came _ h) = record {
  first = [];
  rest = same;
  now = burst ++ piece;
  parts = refl;
  behind = h;
  ear_is = ap (burst_after unit piece) ear_is ∙ sym (at_silences_in_pieces.takes_both unit burst piece (begun (holds [])));
  led = stays_so plan unit e s is held;
}
heard_on law plan unit e s ear (bytes piece) burst left later same is held ear_is (ended _ ends ms whole torn parts spelt rest one h) =
    absurd ends
heard_on law plan unit e s ear silence burst left later _ is held ear_is (ended {same} _ ends ms whole torn parts spelt rest one h) =
    record {
      first = brings (heard_at_end silence ms whole) ∷ [];
      rest = same;
      now = [];
      parts = refl;
      behind = h;
      ear_is = refl;
      led = subst (λ (o : Option Heard). Led plan unit e (brings (heard_at_end silence ms whole) ∷ []) (came_to plan o s)
          (option_to_list (ended_by plan o s) ++ []) (ended_notes (option_to_list (ended_by plan o s) ++ [])))
          (sym (ap burst_says ear_is ∙ ap (λ (l : List ℕ). burst_says (ear_of unit l)) parts
          ∙ says_first law.completed unit ms whole torn spelt rest))
          (end_led plan unit law e s silence ms whole ends is held spelt one);
    }
heard_on law plan unit e s ear close burst left later _ is held ear_is (ended {same} _ ends ms whole torn parts spelt rest one h) =
    record {
      first = brings (heard_at_end close ms whole) ∷ [];
      rest = same;
      now = [];
      parts = refl;
      behind = h;
      ear_is = refl;
      led = subst (λ (o : Option Heard). Led plan unit e (brings (heard_at_end close ms whole) ∷ []) (came_to plan o s)
          (option_to_list (ended_by plan o s) ++ []) (ended_notes (option_to_list (ended_by plan o s) ++ [])))
          (sym (ap burst_says ear_is ∙ ap (λ (l : List ℕ). burst_says (ear_of unit l)) parts
          ∙ says_first law.completed unit ms whole torn spelt rest))
          (end_led plan unit law e s close ms whole ends is held spelt one);
    }

-- all that happened
pub record HappenedSo (plan : Plan) (unit : ℕ) (e : Ends) (events : List Event) (b : Auto Burst) (left : List ℕ)
    (same : List Act) : Type 0 where
  pub led : Led plan unit e same (after at_silences plan unit b events).state (log_of at_silences plan unit b events)
      (kept_in (steps_of at_silences plan unit b events))
  pub ear_is : (after at_silences plan unit b events).ear ≡ ear_of unit left

pub happened_so : (law : Laws) (plan : Plan) (unit : ℕ) (events : List Event) (e : Ends) (b : Auto Burst)
    (burst left : List ℕ) (same : List Act) → e.automation.state ≡ b.state → e.automation.held ≡ holds []
    → b.ear ≡ ear_of unit burst → AreMade at_silences plan unit b events
    → AreHeardAs plan.mode burst left (acts_in (steps_of at_silences plan unit b events)) same
    → HappenedSo plan unit e events b left same
happened_so law plan unit [] e b burst _ _ is held ear_is made none =
    record { led = stays_so plan unit e b.state is held; ear_is = ear_is }
happened_so law plan unit (calls c ∷ later) e b burst left same is held ear_is made h =
    let first = call_led plan unit e b.state c is held made.0 in
    let more = happened_so law plan unit later first.to (auto.heeds c b) burst left same first.state_is first.held_is ear_is made.1 h in
    record { led = led_both plan unit first more.led; ear_is = more.ear_is }
happened_so law plan unit (arrives what ∷ later) e b burst left same is held ear_is made h =
    let next : Auto Burst = auto.listens at_silences plan unit what (auto.gives b) in
    let steps : List Step = steps_of at_silences plan unit next later in
    let o = opened law plan unit e b.state (given plan b.state) burst left (brings what ∷ acts_in steps) same refl is held
    (subst (λ (l : List Act). AreHeardAs plan.mode burst left l same) (round_so plan unit what b steps) h) in
    let x = heard_on law plan unit o.led.to (ticked b.state) b.ear what burst left (acts_in steps) o.rest o.led.state_is o.led.held_is
    ear_is o.behind in
    let more = happened_so law plan unit later x.led.to next x.now left x.rest x.led.state_is x.led.held_is x.ear_is made x.behind in
    record {
      led = subst (λ (l : List Act). Led plan unit e l (after at_silences plan unit next later).state
          (log_of at_silences plan unit b (arrives what ∷ later)) (kept_in (steps_of at_silences plan unit b (arrives what ∷ later))))
          (sym (o.parts ∙ ap (λ (l : List Act). o.first ++ l) x.parts))
          (subst (Led plan unit e (o.first ++ (x.first ++ x.rest)) (after at_silences plan unit next later).state
          (log_of at_silences plan unit b (arrives what ∷ later)))
          (sym (round_rows plan unit what b steps))
          (led_both plan unit o.led (led_both plan unit x.led more.led)));
      ear_is = more.ear_is;
    }

-- The last steps.

nothing_so : {mode : Mode} {burst left : List ℕ} {same : List Act} → AreHeardAs mode burst left [] same → same ≡ []
nothing_so none = refl

nothing_more : (plan : Plan) (unit : ℕ) (e : Ends) (s : State) (burst left : List ℕ) (same : List Act) → e.automation.state ≡ s
    → AreHeardAs plan.mode burst left [] same → Finished plan unit e same s [] []
nothing_more plan unit e s burst left same is h = record {
  last = e;
  state_is = inl is;
  log_is = sym (append-nil (log_now e));
  notes_are = sym (append-nil e.notes);
  port_is = refl;
  aired_is = refl;
  side = subst (λ (l : List Act). Side plan unit (AreLed plan unit) e (sent_down unit e) l e) (sym (nothing_so h))
      (no_act plan unit (AreLed plan unit) e (sent_down unit e) [] (sym (append-nil (sent_down unit e))));
}

it_failed : (plan : Plan) (unit : ℕ) (e : Ends) (s : State) (burst left : List ℕ) (same : List Act) → e.automation.state ≡ s
    → AreHeardAs plan.mode burst left (fails ∷ []) same → Finished plan unit e same s [] []
it_failed plan unit e s burst _ _ is (failed none) = record {
  last = e;
  state_is = inl is;
  log_is = sym (append-nil (log_now e));
  notes_are = sym (append-nil e.notes);
  port_is = refl;
  aired_is = refl;
  side = last_side plan unit (AreLed plan unit) e (sent_down unit e) [] (fails ∷ []) refl (sym (append-nil (sent_down unit e)));
}

-- the next command is given, of which these go out
module _ (plan : Plan) (unit : ℕ) (e : Ends) (s : State) (c : Command) (is : e.automation.state ≡ s) (gives : given plan s ≡ Some c) where
  given_noted : (with_command plan e).notes ≡ e.notes ++ map note_for (row.Sent c ∷ [])
  given_noted = ap (λ (x : Option Command). e.notes ++ map note_for (given_notes x)) (ap (given plan) is ∙ gives)

  given_out : (out : List Act) (unsent : List ℕ) → came_in out ≡ [] → command_bytes unit c ≡ sent_in out ++ unsent
      → Side plan unit (AreLed plan unit) e (sent_down unit e) out (with_command plan e)
  given_out out unsent quiet parts = given_side plan unit (AreLed plan unit) (leads_on plan unit) e out unsent quiet
      (ap (λ (o : Option Command). bytes_of unit (option_to_list o)) (ap (given plan) is ∙ gives)
      ∙ append-nil (command_bytes unit c) ∙ parts)

  it_gave : (out : List Act) (unsent : List ℕ) → came_in out ≡ [] → command_bytes unit c ≡ sent_in out ++ unsent
      → Finished plan unit e out (ticked s) [] (row.Sent c ∷ [])
  it_gave out unsent quiet parts = record {
    last = with_command plan e;
    state_is = inl (ap ticked is);
    log_is = sym (append-nil (log_now e));
    notes_are = given_noted;
    port_is = refl;
    aired_is = refl;
    side = given_out out unsent quiet parts;
  }

  -- the drop before it failed
  drop_failed : (burst left : List ℕ) (same : List Act) → AreHeardAs plan.mode burst left (fails ∷ []) same
      → Finished plan unit e same s [] (row.Sent c ∷ [])
  drop_failed burst _ _ (failed none) = record {
    last = with_command plan e;
    state_is = inr (ap ticked is);
    log_is = sym (append-nil (log_now e));
    notes_are = given_noted;
    port_is = refl;
    aired_is = refl;
    side = given_out (fails ∷ []) (command_bytes unit c) refl refl;
  }

it_sent : (law : Laws) (plan : Plan) (unit : ℕ) (e : Ends) (s : State) (c : Command) (front rest burst left : List ℕ)
    (same : List Act) → e.automation.state ≡ s → e.automation.held ≡ holds [] → given plan s ≡ Some c
    → command_bytes unit c ≡ front ++ rest → AreHeardAs plan.mode burst left (drops ∷ sends front ∷ []) same
    → Finished plan unit e same (ticked s) [] (row.Sent c ∷ [])
it_sent law plan unit e s c front rest _ left _ is held gives parts (dropped ms whole spelt (sent b none)) =
    let free : awaited plan s ≡ None = free_to_give plan s.stop c s.stage gives in
    let first = dropped_led plan unit law e s ms whole is free held spelt in
    led_last plan unit first
    (it_gave plan unit first.to s c first.state_is gives (sends b ∷ []) rest refl
    (parts ∙ ap (λ (l : List ℕ). l ++ rest) (sym (append-nil front))))

it_listened : (law : Laws) (plan : Plan) (unit : ℕ) (e : Ends) (a : Auto Burst) (burst left : List ℕ) (same : List Act)
    → e.automation.state ≡ a.state → e.automation.held ≡ holds []
    → AreHeardAs plan.mode burst left (acts_in (opening at_silences plan unit a ++ acts fails ∷ [])) same
    → Finished plan unit e same (ticked a.state) [] (kept_in (opening at_silences plan unit a ++ acts fails ∷ []))
it_listened law plan unit e a burst left same is held h =
    let o = opened law plan unit e a.state (given plan a.state) burst left (fails ∷ []) same refl is held
    (subst (λ (l : List Act). AreHeardAs plan.mode burst left l same)
    (acts_both (opening at_silences plan unit a) (acts fails ∷ [])
    ∙ ap (λ (l : List Act). l ++ fails ∷ []) (opens_so unit (given plan a.state))) h) in
    let rows : kept_in (opening at_silences plan unit a ++ acts fails ∷ []) ≡ given_notes (given plan a.state) ++ [] =
    simp (rows_both, rows_of_acts, rows_of_rows, append_assoc) in
    subst (λ (l : List Act). Finished plan unit e l (ticked a.state) [] (kept_in (opening at_silences plan unit a ++ acts fails ∷ [])))
    (sym o.parts)
    (subst (Finished plan unit e (o.first ++ o.rest) (ticked a.state) []) (sym rows)
    (led_last plan unit o.led (it_failed plan unit o.led.to (ticked a.state) burst left o.rest o.led.state_is o.behind)))

module _ (law : Laws) (plan : Plan) (unit count : ℕ) (events : List Event) (a a' : Auto Burst) (answer : Result Ran BrokenOff)
    (more : List Step) (e : Ends) (burst left : List ℕ) (same : List Act) (is : e.automation.state ≡ a.state)
    (held : e.automation.held ≡ holds []) (h : AreHeardAs plan.mode burst left (acts_in more) same) where
  abbrev so : {x : List Step} → more ≡ x → AreHeardAs plan.mode burst left (acts_in x) same
  so {x} m = subst (λ (l : List Step). AreHeardAs plan.mode burst left (acts_in l) same) m h

  abbrev in_state : {b : Auto Burst} {x : List Step} → a' ≡ b → more ≡ x → Finished plan unit e same b.state [] (kept_in x)
      → Finished plan unit e same a'.state [] (kept_in more)
  in_state {b} {x} left_so m f = subst (λ (l : List Step). Finished plan unit e same a'.state [] (kept_in l)) (sym m)
      (subst (λ (y : Auto Burst). Finished plan unit e same y.state [] (kept_in x)) (sym left_so) f)

  ending_so : Ending at_silences plan unit count events a answer more a' → Finished plan unit e same a'.state [] (kept_in more)
  ending_so (by_itself r answer_is to m left_so) = in_state left_so m (nothing_more plan unit e a.state burst left same is (so m))
  ending_so (by_hooks answer_is g m left_so) = in_state left_so m (nothing_more plan unit e a.state burst left same is (so m))
  ending_so (in_keep r answer_is g m left_so) = in_state left_so m (nothing_more plan unit e a.state burst left same is (so m))
  ending_so (in_drop c answer_is dropping g m left_so) =
      in_state left_so m (drop_failed plan unit e a.state c is g burst left same (so m))
  ending_so (in_send c front rest answer_is g parts m left_so) =
      in_state left_so m (it_sent law plan unit e a.state c front rest burst left same is held g parts (so m))
  ending_so (in_listen answer_is m left_so) = in_state left_so m (it_listened law plan unit e a burst left same is held (so m))

-- a whole run
pub run_so : (law : Laws) (plan : Plan) (unit count : ℕ) (e : Ends) (a a' : Auto Burst) (answer : Result Ran BrokenOff)
    (run : IsRun at_silences plan unit count a a' answer) (burst left : List ℕ) (same : List Act) → e.automation.state ≡ a.state
    → e.automation.held ≡ holds [] → a.ear ≡ ear_of unit burst → AreHeardAs plan.mode burst left (acts_in (steps_in run)) same
    → Finished plan unit e same a'.state (log_of at_silences plan unit a run.events) (kept_in (steps_in run))
run_so law plan unit count e a a' answer run burst left same is held ear_is h =
    let log : List Exchange = log_of at_silences plan unit a run.events in
    let steps : List Step = steps_of at_silences plan unit a run.events in
    let p = part plan.mode left (acts_in steps) (acts_in run.more)
    (subst (λ (l : List Act). AreHeardAs plan.mode burst left l same) (acts_both steps run.more) h) in
    let x = happened_so law plan unit run.events e a burst p.between p.first is held ear_is run.made p.one in
    subst (λ (l : List Act). Finished plan unit e l a'.state log (kept_in (steps_in run))) (sym p.parts)
    (subst (Finished plan unit e (p.first ++ p.rest) a'.state log) (sym (rows_both steps run.more))
    (subst (λ (l : List Exchange). Finished plan unit e (p.first ++ p.rest) a'.state l (kept_in steps ++ kept_in run.more))
    (append-nil log)
    (led_last plan unit x.led (ending_so law plan unit count run.events (after at_silences plan unit a run.events) a' answer
    run.more x.led.to p.between left p.rest x.led.state_is x.led.held_is p.two run.ending))))
