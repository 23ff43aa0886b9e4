-- How many commands were given, and how many messages were heard.
use Rattle.std.proofs.Common.{arith, ℕ, ◌≡◌, ◌≤◌, ◌+◌, Bool, true, false, List, [], ◌∷◌, ◌++◌, length, map, refl, sym, ap, ap₂, subst, ◌∙◌, append_assoc, append-nil, length-append}
use Rattle.std.proofs.lemmas.List.{map-append}
use Rattle.std.specs.Option.{option_to_list}
use Rattle.std.specs.Prelude.{Option, None, Some, Result, if◌then◌else◌}
use Rattle.vdcp_frame.specs.Message.{Content}
use Rattle.vdcp_words.specs.declared.command.Command.{Command}
use Rattle.vdcp_auto.specs.Heard.{heard_as}
use Rattle.vdcp_auto.specs.Plan.{Plan}
use Rattle.vdcp_auto.specs.State.{Stage, Ready, Awaiting, Ended, State}
use Rattle.vdcp_auto.specs.Turn.{awaited, awaited_in, came_to, ended_by, exchange_of, given, given_in, is_end, tick_in, ticked}
use Rattle.vdcp_auto.specs.declared.exchange.Exchange.{Exchange}
use Rattle.vdcp_auto.specs.declared.exchange.Heard.{Heard}
use Rattle.vdcp_auto.specs.declared.phase.Mode.{Mode}
use Rattle.vdcp_wire.specs.Acts.{Act, fails}
use Rattle.vdcp_wire.specs.Wires.{Arrival, bytes, silence, close}
use Rattle.vdcp_drive.specs.Auto.{AreMade, Auto, Event, after, arrivals, arrives, calls, ended, log_of}
use Rattle.vdcp_drive.specs.Auto as auto
use Rattle.vdcp_drive.specs.Ears.{ear_after, inputs}
use Rattle.vdcp_drive.specs.Hearing.{at_once}
use Rattle.vdcp_drive.specs.Leaves.{Ending, IsRun, by_itself, by_hooks, in_keep, in_drop, in_send, in_listen, steps_in}
use Rattle.vdcp_drive.specs.Reading.{Held, completed, held_after, holds, skips}
use Rattle.vdcp_drive.specs.Steps.{Step, acts, asks, keeps, end_of, ended_notes, given_notes, sending, steps_of}
use Rattle.vdcp_drive.specs.declared.hooks.Next.TheVariants as next
use Rattle.vdcp_drive.specs.Traces.{acts_in, awaited_notes, bytes_of, came_in, commands_kept, exchanged, kept_in, kept_of}
use Rattle.vdcp_drive.specs.declared.hooks.BrokenOff.{BrokenOff}
use Rattle.vdcp_drive.specs.declared.hooks.Call.{Call}
use Rattle.vdcp_drive.specs.declared.hooks.Kept.{Kept}
use Rattle.vdcp_drive.specs.declared.hooks.Kept.TheVariants as row
use Rattle.vdcp_drive.specs.declared.line.Ran.{Ran}
use Rattle.vdcp_laws.specs.Automation.{gives, listens}
use Rattle.vdcp_laws.specs.Below.{Completed}
use Rattle.vdcp_laws.specs.Carried.{driver_of}
use Rattle.vdcp_laws.specs.OneConnection.{ends_by, hears_in}
use Rattle.vdcp_laws.specs.TwoEnds.{AreLed, Ends, bytes_in, sent_down, with_call, with_command}
use Rattle.vdcp_laws.proofs.Asked.{Steps, came_of_run, commands_both, ear_over, ear_so, ending}
use Rattle.vdcp_laws.proofs.Carrying.{Side, acts_both, came_both, events_side, heard_ups, last_side}
use Rattle.vdcp_laws.proofs.CarriedRun.{driver_so, leads_on}
use Rattle.vdcp_laws.proofs.Noted.{ends_in, moved, round_rows, rows_both}
use Rattle.vdcp_laws.proofs.Same.{listens_so}

-- ---- rows of one kind

abbrev pub is_sent : Kept → ℕ
is_sent (row.Sent c) = 1
is_sent _ = 0

abbrev pub is_heard : Kept → ℕ
is_heard (row.Heard h) = 1
is_heard _ = 0

abbrev pub is_silent : Kept → ℕ
is_silent row.Silence = 1
is_silent _ = 0

abbrev pub tally : (Kept → ℕ) → List Kept → ℕ
tally f [] = 0
tally f (one ∷ rows) = f one + tally f rows

tally_both : (f : Kept → ℕ) (xs ys : List Kept) → tally f (xs ++ ys) ≡ tally f xs + tally f ys
tally_both f [] ys = omega arith
tally_both f (x ∷ xs) ys = omega (arith, tally_both f xs ys)

commands_tally : (rows : List Kept) → length (commands_kept rows) ≡ tally is_sent rows
commands_tally [] = refl
commands_tally (row.Sent c ∷ rows) = omega (arith, commands_tally rows)
commands_tally (row.Heard h ∷ rows) = omega (arith, commands_tally rows)
commands_tally (row.Silence ∷ rows) = omega (arith, commands_tally rows)
commands_tally (row.Called c ∷ rows) = omega (arith, commands_tally rows)

-- calls aside
exchanged_tally : (f : Kept → ℕ) → ((c : Call) → f (row.Called c) ≡ 0) → (rows : List Kept) → tally f (exchanged rows) ≡ tally f rows
exchanged_tally f none [] = refl
exchanged_tally f none (row.Sent c ∷ rows) = ap (λ (n : ℕ). f (row.Sent c) + n) (exchanged_tally f none rows)
exchanged_tally f none (row.Heard h ∷ rows) = ap (λ (n : ℕ). f (row.Heard h) + n) (exchanged_tally f none rows)
exchanged_tally f none (row.Silence ∷ rows) = ap (λ (n : ℕ). f row.Silence + n) (exchanged_tally f none rows)
exchanged_tally f none (row.Called c ∷ rows) = omega (arith, none c, exchanged_tally f none rows)

-- each exchange has one command, and one end
log_tally : (log : List Exchange) → tally is_sent (kept_of log) ≡ tally is_heard (kept_of log) + tally is_silent (kept_of log)
log_tally [] = refl
log_tally (e ∷ log) = by e.heard (log_tally log) where
  by : (o : Option Heard) → tally is_sent (kept_of log) ≡ tally is_heard (kept_of log) + tally is_silent (kept_of log)
      → tally is_sent (row.Sent e.command ∷ end_of o ∷ kept_of log)
      ≡ tally is_heard (row.Sent e.command ∷ end_of o ∷ kept_of log) + tally is_silent (row.Sent e.command ∷ end_of o ∷ kept_of log)
  by None rest = omega (arith, rest)
  by (Some h) rest = omega (arith, rest)

-- ---- what is heard are messages

abbrev messages_at : Arrival → Held → List Content
messages_at (bytes piece) held = completed held piece
messages_at silence held = []
messages_at close held = []

-- the messages that these complete one after another
abbrev pub messages_over : ℕ → List Arrival → Held → List Content
messages_over unit [] held = []
messages_over unit (a ∷ came) held = messages_at a held ++ messages_over unit came (ear_after at_once unit a held)

over_both : (unit : ℕ) (xs ys : List Arrival) (held : Held)
    → messages_over unit (xs ++ ys) held ≡ messages_over unit xs held ++ messages_over unit ys (ear_over unit xs held)
over_both unit [] ys held = refl
over_both unit (a ∷ xs) ys held =
    let next : Held = ear_after at_once unit a held in
    ap (λ (l : List Content). messages_at a held ++ l) (over_both unit xs ys next)
    ∙ sym (append_assoc (messages_at a held) (messages_over unit xs next) (messages_over unit ys (ear_over unit xs next)))

ear_both : (unit : ℕ) (xs ys : List Arrival) (held : Held) → ear_over unit (xs ++ ys) held ≡ ear_over unit ys (ear_over unit xs held)
ear_both unit [] ys held = refl
ear_both unit (a ∷ xs) ys held = ear_both unit xs ys (ear_after at_once unit a held)

skips_on : (piece : List ℕ) → held_after skips piece ≡ skips
skips_on [] = refl
skips_on (byte ∷ piece) = skips_on piece

-- those that their bytes complete, if there is no fault
pub over_bytes : (reads : Completed) (unit : ℕ) (came : List Arrival) (held : Held) (left : List ℕ)
    → held_after held (bytes_in came) ≡ holds left → messages_over unit came held ≡ completed held (bytes_in came)
over_bytes reads unit [] held left is = refl
over_bytes reads unit (bytes piece ∷ came) held left is =
    ap (λ (l : List Content). completed held piece ++ l)
    (over_bytes reads unit came (held_after held piece) left (sym (reads.pieces_held held piece (bytes_in came)) ∙ is))
    ∙ sym (reads.pieces held piece (bytes_in came))
over_bytes reads unit (silence ∷ came) (holds h) left is = over_bytes reads unit came (holds h) left is
over_bytes reads unit (close ∷ came) (holds h) left is = over_bytes reads unit came (holds h) left is
over_bytes reads unit (silence ∷ came) skips left is = absurd (cc (sym (skips_on (bytes_in came)) ∙ is))
over_bytes reads unit (close ∷ came) skips left is = absurd (cc (sym (skips_on (bytes_in came)) ∙ is))

abbrev somes : List (Option Heard) → ℕ
somes [] = 0
somes (None ∷ came) = somes came
somes (Some h ∷ came) = 1 + somes came

one_heard : (mode : Mode) (came : Option Heard) (c : Option Command)
    → tally is_heard (ended_notes (option_to_list (exchange_of mode came c))) ≤ somes (came ∷ [])
one_heard mode came None = omega arith
one_heard mode None (Some c) = by (is_end mode c None) where
  by : (b : Bool) → tally is_heard (ended_notes (option_to_list (if b then Some (record { command = c; heard = None }) else None))) ≤ 0
  by true = omega arith
  by false = omega arith
one_heard mode (Some h) (Some c) = by (is_end mode c (Some h)) where
  by : (b : Bool) → tally is_heard (ended_notes (option_to_list (if b then Some (record { command = c; heard = Some h }) else None))) ≤ 1
  by true = omega arith
  by false = omega arith

some_first : (one : Option Heard) (came : List (Option Heard)) → somes (one ∷ came) ≡ somes (one ∷ []) + somes came
some_first None came = omega arith
some_first (Some h) came = omega arith

few_heard : (plan : Plan) (came : List (Option Heard)) (s : State) → tally is_heard (ended_notes (ended plan came s)) ≤ somes came
few_heard plan [] s = omega arith
few_heard plan (one ∷ came) s =
    let first : List Exchange = option_to_list (ended_by plan one s) in
    let later : List Exchange = ended plan came (came_to plan one s) in
    omega (
      arith,
      ap (tally is_heard) (map-append (λ (e : Exchange). end_of e.heard) first later),
      tally_both is_heard (ended_notes first) (ended_notes later),
      one_heard plan.mode one (awaited plan s),
      some_first one came,
      few_heard plan came (came_to plan one s),
    )

few_at : (unit : ℕ) (what : Arrival) (held : Held) → somes (inputs at_once unit what held) ≤ length (messages_at what held)
few_at unit (bytes piece) held = by (completed held piece) where
  by : (ms : List Content) → somes (map Some (map (heard_as unit) ms)) ≤ length ms
  by [] = omega arith
  by (m ∷ ms) = omega (arith, by ms)
few_at unit silence held = omega arith
few_at unit close held = omega arith

none_given : (f : Kept → ℕ) (o : Option Command) → ((c : Command) → f (row.Sent c) ≡ 0) → tally f (given_notes o) ≡ 0
none_given f None none = refl
none_given f (Some c) none = omega (arith, none c)

-- what a run heard
pub heard_over : (plan : Plan) (unit : ℕ) (a : Auto Held) (events : List Event)
    → tally is_heard (kept_in (steps_of at_once plan unit a events)) ≤ length (messages_over unit (arrivals events) a.ear)
heard_over plan unit a [] = omega arith
heard_over plan unit a (calls c ∷ later) = omega (arith, heard_over plan unit (auto.heeds c a) later)
heard_over plan unit a (arrives what ∷ later) =
    let b : Auto Held = auto.listens at_once plan unit what (auto.gives a) in
    let steps : List Step = steps_of at_once plan unit b later in
    let first : List Kept = given_notes (given plan a.state) in
    let ends : List Kept = ends_in plan unit what a in
    omega (
      arith,
      ap (tally is_heard) (round_rows plan unit what a steps),
      tally_both is_heard first (ends ++ kept_in steps),
      tally_both is_heard ends (kept_in steps),
      none_given is_heard (given plan a.state) (λ c. refl),
      few_heard plan (inputs at_once unit what a.ear) (ticked a.state),
      few_at unit what a.ear,
      length-append (messages_at what a.ear) (messages_over unit (arrivals later) b.ear),
      heard_over plan unit b later,
    )

-- ---- a run that awaits nothing at its end

gives_none : (plan : Plan) (s : State) → awaited plan (ticked s) ≡ None → (given plan s ≡ None) × (awaited plan s ≡ None)
gives_none plan s none = by s.stage refl none where
  by : (stage : Stage) → s.stage ≡ stage → awaited_in plan (tick_in stage s).stage ≡ None
      → (given_in plan s.stop stage ≡ None) × (awaited_in plan stage ≡ None)
  by (Ready p) is none = (none, refl)
  by (Awaiting p) is none = (refl, ap (awaited_in plan) (sym is) ∙ none)
  by (Ended o) is none = (refl, refl)

-- its last steps give nothing
abbrev EndsSo : Plan → Auto Held → List Step → Type 0
EndsSo plan a more = (kept_in more ≡ []) × (awaited plan a.state ≡ None)

ends_so : (plan : Plan) (unit count : ℕ) (events : List Event) (a a' : Auto Held) (answer : Result Ran BrokenOff) (more : List Step)
    → Ending at_once plan unit count events a answer more a' → awaited plan a'.state ≡ None → EndsSo plan a more
ends_so plan unit count events a a' answer more (by_itself r is to m left) none =
    (ap kept_in m, ap (λ (x : Auto Held). awaited plan x.state) (sym left) ∙ none)
ends_so plan unit count events a a' answer more (by_hooks is g m left) none =
    (ap kept_in m, ap (λ (x : Auto Held). awaited plan x.state) (sym left) ∙ none)
ends_so plan unit count events a a' answer more (in_keep r is g m left) none =
    (ap kept_in m, ap (λ (x : Auto Held). awaited plan x.state) (sym left) ∙ none)
ends_so plan unit count events a a' answer more (in_drop c is dropping g m left) none = absurd (grind (arith, dropping))
ends_so plan unit count events a a' answer more (in_send c front rest is g parts m left) none =
    absurd (cc (sym g ∙ (gives_none plan a.state (ap (λ (x : Auto Held). awaited plan x.state) (sym left) ∙ none)).0))
ends_so plan unit count events a a' answer more (in_listen is m left) none =
    let n = gives_none plan a.state (ap (λ (x : Auto Held). awaited plan x.state) (sym left) ∙ none) in (
      ap kept_in m ∙ by (given plan a.state) n.0,
      n.1,
    ) where
      by : (o : Option Command) → o ≡ None
          → kept_in ((asks a.state next.GoOn ∷ (map keeps (given_notes o) ++ map acts (sending false unit o))) ++ acts fails ∷ []) ≡ []
      by None none = refl
      by (Some c) none = cc

-- vdcp_drive::laws::steps_are_exchanges
abbrev pub RowsSo : Type 0
RowsSo = (plan : Plan) (unit : ℕ) (a : Auto Held) (events : List Event)
    → awaited_notes plan a.state ++ exchanged (kept_in (steps_of at_once plan unit a events))
    ≡ kept_of (log_of at_once plan unit a events) ++ awaited_notes plan (after at_once plan unit a events).state

module _ (rows : RowsSo) (law : Steps at_once) (plan : Plan) (unit count : ℕ) (a a' : Auto Held) (answer : Result Ran BrokenOff)
    (run : IsRun at_once plan unit count a a' answer) (none : awaited plan a.state ≡ None) (free : awaited plan a'.state ≡ None) where
  abbrev steps : List Step
  steps = steps_of at_once plan unit a run.events

  ends : EndsSo plan (after at_once plan unit a run.events) run.more
  ends = ends_so plan unit count run.events (after at_once plan unit a run.events) a' answer run.more run.ending free

  pub kept_all : kept_in (steps_in run) ≡ kept_in steps
  kept_all = rows_both steps run.more ∙ ap (λ (l : List Kept). kept_in steps ++ l) ends.0 ∙ append-nil (kept_in steps)

  -- each command that it gave was answered by a message that was heard, if none timed out
  pub answered_in : tally is_silent (kept_in (steps_in run)) ≡ 0
      → length (commands_kept (kept_in (steps_in run))) ≤ length (messages_over unit (came_in (acts_in (steps_in run))) a.ear)
  answered_in calm =
      let log : List Exchange = log_of at_once plan unit a run.events in
      let same : exchanged (kept_in steps) ≡ kept_of log =
      ap (λ (o : Option Command). map row.Sent (option_to_list o) ++ exchanged (kept_in steps)) (sym none)
      ∙ rows plan unit a run.events
      ∙ ap (λ (o : Option Command). kept_of log ++ map row.Sent (option_to_list o)) ends.1 ∙ append-nil (kept_of log) in
      omega (
        arith,
        calm,
        ap (tally is_silent) kept_all,
        ap (λ (l : List Kept). length (commands_kept l)) kept_all,
        ap (λ (l : List Arrival). length (messages_over unit l a.ear)) (came_of_run law plan unit count a a' answer run),
        commands_tally (kept_in steps),
        exchanged_tally is_sent (λ c. refl) (kept_in steps),
        exchanged_tally is_heard (λ c. refl) (kept_in steps),
        exchanged_tally is_silent (λ c. refl) (kept_in steps),
        ap (tally is_sent) same,
        ap (tally is_heard) same,
        ap (tally is_silent) same,
        log_tally log,
        heard_over plan unit a run.events,
      )

  -- its acts lead the ends on
  pub free_side : (e : Ends) → driver_of e.automation ≡ a
      → Side plan unit (AreLed plan unit) e (sent_down unit e) (acts_in (steps_in run)) (ends_by plan unit e run.events)
  free_side e is =
      let last = ending law plan unit count a a' answer run in
      let now : Ends = ends_by plan unit e run.events in
      let sent : List ℕ = sent_down unit now in
      subst (λ (l : List Act). Side plan unit (AreLed plan unit) e (sent_down unit e) l now) (sym (acts_both steps run.more))
      (subst (λ (x : Auto Held). Side plan unit (AreLed plan unit) e (sent_down unit e)
      (acts_in (steps_of at_once plan unit x run.events) ++ acts_in run.more) now) is
      (events_side plan unit (AreLed plan unit) (leads_on plan unit) (acts_in run.more) now run.events e
      (subst (λ (x : Auto Held). AreMade at_once plan unit x run.events) (sym is) run.made)
      (last_side plan unit (AreLed plan unit) now sent last.unsent (acts_in run.more) last.none
      (sym (append-nil sent) ∙ ap (λ (l : List ℕ). sent ++ l)
      (ap (λ (l : List Kept). bytes_of unit (commands_kept l)) (sym ends.0) ∙ last.part)))))

-- ---- what becomes of ends

-- These commands were given, of which as many were answered, and this came up.
pub record Answers (unit : ℕ) (e now : Ends) (list : List Act) : Type 0 where
  pub commands : List Command
  pub sent_is : now.sent ≡ e.sent ++ commands
  pub ups_is : now.ups ≡ e.ups ++ bytes_in (came_in list)
  pub ear_is : now.automation.held ≡ ear_over unit (came_in list) e.automation.held
  pub few : length commands ≤ length (messages_over unit (came_in list) e.automation.held)

pub none_answered : (unit : ℕ) (e : Ends) → Answers unit e e []
none_answered unit e = record {
  commands = [];
  sent_is = sym (append-nil e.sent);
  ups_is = sym (append-nil e.ups);
  ear_is = refl;
  few = omega arith;
}

bytes_both : (xs ys : List Arrival) → bytes_in (xs ++ ys) ≡ bytes_in xs ++ bytes_in ys
bytes_both [] ys = refl
bytes_both (bytes piece ∷ xs) ys =
    ap (λ (l : List ℕ). piece ++ l) (bytes_both xs ys) ∙ sym (append_assoc piece (bytes_in xs) (bytes_in ys))
bytes_both (silence ∷ xs) ys = bytes_both xs ys
bytes_both (close ∷ xs) ys = bytes_both xs ys

pub answers_both : (unit : ℕ) (e now last : Ends) (xs ys : List Act) → Answers unit e now xs → Answers unit now last ys
    → Answers unit e last (xs ++ ys)
answers_both unit e now last xs ys a b =
    let came : List Arrival = came_in xs in
    let more : List Arrival = came_in ys in
    let all : came_in (xs ++ ys) ≡ came ++ more = came_both xs ys in
    record {
      commands = a.commands ++ b.commands;
      sent_is = b.sent_is ∙ ap (λ (l : List Command). l ++ b.commands) a.sent_is ∙ append_assoc e.sent a.commands b.commands;
      ups_is = b.ups_is ∙ ap (λ (l : List ℕ). l ++ bytes_in more) a.ups_is
          ∙ append_assoc e.ups (bytes_in came) (bytes_in more)
          ∙ ap (λ (l : List ℕ). e.ups ++ l) (sym (ap bytes_in all ∙ bytes_both came more));
      ear_is = b.ear_is ∙ ap (ear_over unit more) a.ear_is
          ∙ sym (ap (λ (l : List Arrival). ear_over unit l e.automation.held) all ∙ ear_both unit came more e.automation.held);
      few = omega (
        arith,
        a.few,
        b.few,
        ap (λ (h : Held). length (messages_over unit more h)) a.ear_is,
        ap (λ (l : List Arrival). length (messages_over unit l e.automation.held)) all,
        ap length (over_both unit came more e.automation.held),
        length-append (messages_over unit came e.automation.held)
            (messages_over unit more (ear_over unit came e.automation.held)),
        length-append a.commands b.commands,
      );
    }

-- by a run

none_kept : (log : List Exchange) → commands_kept (ended_notes log) ≡ []
none_kept [] = refl
none_kept (e ∷ log) = by e.heard (none_kept log) where
  by : (o : Option Heard) → commands_kept (ended_notes log) ≡ [] → commands_kept (end_of o ∷ ended_notes log) ≡ []
  by None rest = rest
  by (Some h) rest = rest

given_kept : (o : Option Command) → commands_kept (given_notes o) ≡ option_to_list o
given_kept None = refl
given_kept (Some c) = refl

heard_sent : (plan : Plan) (unit : ℕ) (what : Arrival) (e : Ends) → (hears_in plan unit what e).sent ≡ e.sent
heard_sent plan unit what e = grind arith

sent_by : (plan : Plan) (unit : ℕ) (e : Ends) (events : List Event) → (ends_by plan unit e events).sent
    ≡ e.sent ++ commands_kept (kept_in (steps_of at_once plan unit (driver_of e.automation) events))
sent_by plan unit e [] = sym (append-nil e.sent)
sent_by plan unit e (calls c ∷ later) = sent_by plan unit (with_call c e) later
sent_by plan unit e (arrives what ∷ later) =
    let a : Auto Held = driver_of e.automation in
    let next : Ends = hears_in plan unit what (with_command plan e) in
    let b : Auto Held = auto.listens at_once plan unit what (auto.gives a) in
    let same : driver_of (listens plan unit what (gives e.automation)) ≡ b = listens_so plan unit what (gives e.automation) in
    let rows : List Kept = kept_in (steps_of at_once plan unit b later) in
    let o : Option Command = given plan a.state in
    sent_by plan unit next later
    ∙ ap₂ (λ (l : List Command) (x : Auto Held). l ++ commands_kept (kept_in (steps_of at_once plan unit x later)))
    (heard_sent plan unit what (with_command plan e)) (moved plan unit what e ∙ same)
    ∙ append_assoc e.sent (option_to_list o) (commands_kept rows)
    ∙ ap (λ (l : List Command). e.sent ++ l) (sym (ap commands_kept (round_rows plan unit what a (steps_of at_once plan unit b later))
    ∙ commands_both (given_notes o) (ends_in plan unit what a ++ rows)
    ∙ ap₂ (λ (l m : List Command). l ++ m) (given_kept o) (commands_both (ends_in plan unit what a) rows
    ∙ ap (λ (l : List Command). l ++ commands_kept rows) (none_kept (ended plan (inputs at_once unit what a.ear) (ticked a.state))))))

ups_by : (plan : Plan) (unit : ℕ) (e : Ends) (events : List Event) → (ends_by plan unit e events).ups ≡ e.ups ++ bytes_in (arrivals events)
ups_by plan unit e [] = sym (append-nil e.ups)
ups_by plan unit e (calls c ∷ later) = ups_by plan unit (with_call c e) later
ups_by plan unit e (arrives what ∷ later) =
    ups_by plan unit (hears_in plan unit what (with_command plan e)) later
    ∙ heard_ups plan unit what (with_command plan e) (arrivals later)

pub answers_by : (rows : RowsSo) (law : Steps at_once) (plan : Plan) (unit count : ℕ) (e : Ends) (a' : Auto Held) (answer : Result Ran BrokenOff)
    (run : IsRun at_once plan unit count (driver_of e.automation) a' answer) → awaited plan e.automation.state ≡ None
    → awaited plan a'.state ≡ None → tally is_silent (kept_in (steps_in run)) ≡ 0
    → Answers unit e (ends_by plan unit e run.events) (acts_in (steps_in run))
answers_by rows law plan unit count e a' answer run none free calm =
    let a : Auto Held = driver_of e.automation in
    let came : came_in (acts_in (steps_in run)) ≡ arrivals run.events = came_of_run law plan unit count a a' answer run in
    record {
      commands = commands_kept (kept_in (steps_in run));
      sent_is = sent_by plan unit e run.events ∙ ap (λ (l : List Kept). e.sent ++ commands_kept l)
          (sym (kept_all rows law plan unit count a a' answer run none free));
      ups_is = ups_by plan unit e run.events ∙ ap (λ (l : List Arrival). e.ups ++ bytes_in l) (sym came);
      ear_is = ap (λ (x : Auto Held). x.ear) (driver_so plan unit e run.events) ∙ ear_so plan unit a run.events
          ∙ ap (λ (l : List Arrival). ear_over unit l a.ear) (sym came);
      few = answered_in rows law plan unit count a a' answer run none free calm;
    }
