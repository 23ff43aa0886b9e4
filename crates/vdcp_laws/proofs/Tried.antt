-- What a session does over a connection leads both ends on.
use Rattle.std.proofs.Common.{arith, ℕ, ◌≡◌, inl, inr, Bool, false, All, List, [], ◌++◌, refl, sym, ap, subst, ◌∙◌, append_assoc, append-nil}
use Rattle.std.proofs.lemmas.List.Elements.{All-nil, All-weaker}
use Rattle.std.specs.Prelude.{◌≢◌, Bool, Option, None, Some, Result, Ok, Err}
use Rattle.vdcp_value.specs.declared.part.Item.{Item}
use Rattle.vdcp_words.specs.declared.command.Command.{Command}
use Rattle.vdcp_words.specs.declared.command.Command.TheVariants as command
use Rattle.vdcp_port.specs.Clock.{ClockedPort}
use Rattle.vdcp_auto.specs.Plan.{Plan}
use Rattle.vdcp_auto.specs.State.{Stage, Ready, Awaiting, Ended, State}
use Rattle.vdcp_auto.specs.Turn.{awaited, awaited_in}
use Rattle.vdcp_auto.specs.declared.exchange.Exchange.{Exchange}
use Rattle.vdcp_auto.specs.declared.outcome.Outcome.{Outcome}
use Rattle.vdcp_auto.specs.declared.phase.Mode.{Mode}
use Rattle.vdcp_auto.specs.declared.phase.Mode.TheVariants.{Plain, Confirming}
use Rattle.vdcp_auto.specs.declared.phase.Phase.TheVariants as phase
use Rattle.vdcp_wire.specs.Acts.{Act}
use Rattle.vdcp_drive.specs.Auto.{AreMade, Auto, Event, after}
use Rattle.vdcp_drive.specs.Ears.{Fold}
use Rattle.vdcp_drive.specs.Hearing.{at_once}
use Rattle.vdcp_drive.specs.Leaves.{HasRun, IsRun, steps_in}
use Rattle.vdcp_drive.specs.Reading.{Held}
use Rattle.vdcp_drive.specs.Steps.{Step, World, steps_of}
use Rattle.vdcp_drive.specs.Traces.{acts_in, came_in, commands_kept, kept_in, sent_in}
use Rattle.vdcp_drive.specs.Turns.{Turn}
use Rattle.vdcp_drive.specs.declared.hooks.BrokenOff.{BrokenOff}
use Rattle.vdcp_drive.specs.declared.hooks.BrokenOff.TheVariants as fault
use Rattle.vdcp_drive.specs.declared.hooks.Next.TheVariants as next
use Rattle.vdcp_drive.specs.declared.line.Ran.{Ran}
use Rattle.vdcp_drive.specs.declared.line.Ran.TheVariants as ran
use Rattle.vdcp_journal_file.specs.Recording.{Recording}
use Rattle.vdcp_laws.specs.Carried.{AreCarried, driver_of}
use Rattle.vdcp_laws.specs.EndsHeadline.{EndsHeadline}
use Rattle.vdcp_laws.specs.OneConnection.{ends_by}
use Rattle.vdcp_laws.specs.Sessions.{acts_ended, acts_held, acts_tried, ends_asked, ends_ended, ends_held, ends_left, ends_left_by, ends_tried, log_ended, log_held, log_tried, start_at, state_ended, state_tried, steps_asked, steps_first}
use Rattle.vdcp_laws.specs.TwoEnds.{AreJoined, AreLed, CanJoin, Ends, aired_now, asked_first, bytes_in, log_now, sent_down}
use Rattle.vdcp_laws.proofs.Asked.{IsAskedBy, Steps, asked_side, ear_of_run, ending, part_of_run}
use Rattle.vdcp_laws.proofs.Asks.{MayAsk, awaits, opens, probes, waits}
use Rattle.vdcp_laws.proofs.CarriedRun.{driver_so, leads_on, led_by, left_by_hooks, log_so, of_joined}
use Rattle.vdcp_laws.proofs.Carrying.{Side, acts_both, events_side, no_act, side_of}
use Rattle.vdcp_laws.proofs.Headline as headline
use Rattle.vdcp_laws.proofs.Joining.{sent_more}
use Rattle.vdcp_laws.proofs.OneRun.{stays}
use Rattle.vdcp_laws.proofs.Servers.{ServedSo}
use Rattle.vdcp_laws.proofs.Tallied.{Answers, RowsSo, answered_in, answers_both, answers_by, free_side, none_answered}
use Rattle.vdcp_laws.proofs.Unanswered.{asked_calm, asker_free, asker_ready, calm_asked, calm_by, ended_free}
use Rattle.vdcp_operator.specs.declared.on_list.OnList.{OnList}
use Rattle.vdcp_run.specs.Asking.{AreAsked, Asker, HasAsked, Inquiring, IsAsked, Start, asker_of, asking, holding, line_of, opening, probing, waiting}
use Rattle.vdcp_run.specs.Ends.{Reports, line_end_of}
use Rattle.vdcp_run.specs.Run.{IsAtRest}
use Rattle.vdcp_run.specs.Session.{HasEnded, HasHeld, HasTried, LeavesBefore, Onset, held, none, onset_of, played, signs_by, unbegun}
use Rattle.vdcp_run.specs.declared.run_end.LineEnd.{LineEnd}
use Rattle.vdcp_run.specs.declared.run_end.LineEnd.TheVariants as line_end
use Rattle.vdcp_run.specs.declared.run_end.RunEnd.{RunEnd}
use Rattle.vdcp_run.specs.declared.run_end.Signs.{Signs}
use Rattle.vdcp_run.specs.declared.settings.RunSettings.{RunSettings}

-- It may be asked.

states : (start : Start) (cs : List Command) (stage : Stage) → start.state.stage ≡ stage → MayAsk start.plan stage (command.Status 1)
    → All (λ c. c ≡ command.Status 1) cs → All (MayAsk start.plan start.state.stage) cs
states start cs stage is may asks =
    All-weaker (λ c. c ≡ command.Status 1) (MayAsk start.plan start.state.stage)
    (λ c same. subst (λ (s : Stage). MayAsk start.plan s c) (sym is) (subst (MayAsk start.plan stage) (sym same) may)) cs asks

pub may_ask : (start : Start) (cs : List Command) → AreAsked start cs → All (MayAsk start.plan start.state.stage) cs
may_ask start cs (opening is asks) =
    All-weaker (IsAsked start.plan.port) (MayAsk start.plan start.state.stage)
    (λ c q. subst (λ (stage : Stage). MayAsk start.plan stage c) (sym is) (opens start.plan c q)) cs asks
may_ask start cs (probing k is asks) = states start cs (Ready (phase.Probe k)) is (probes start.plan k) asks
may_ask start cs (holding k is asks) = states start cs (Ready (phase.Play k)) is (waits start.plan k) asks
may_ask start cs (waiting k is asks) = states start cs (Ready (phase.Wait k)) is (awaits start.plan k) asks

-- vdcp_run::laws::only_questions_are_asked, and vdcp_drive::laws::steps_are_exchanges
pub record Laws {W : Type 0} (does : Act → W → W → Type 0) : Type 0 where
  pub asks : (ask is_held : Bool) (start : Start) (asker : Asker) (unit count : ℕ) (a a' : Auto Held) (old new : World W Inquiring)
      (answer : Result Ran BrokenOff) → asker_of ask is_held start ≡ Some asker → a.state ≡ asker.state
      → (h : HasRun (asking does asker.plan) at_once asker.plan unit count a a' old new answer)
      → AreAsked start (commands_kept (kept_in (steps_in h.run)))
  pub steps : Steps at_once
  pub rows : RowsSo

-- these ends, with the automation as it is at a stretch's onset
abbrev pub as_of : State → Held → Ends → Ends
as_of state ear e = record e { automation = record e.automation { held = ear; state = state } }

-- the wire works where the list is begun
pub works : (last : Inquiring) (outcome : Option Outcome) (answer : Result Ran BrokenOff) → None ≡ line_of last answer outcome
    → answer ≢ Err fault.Device
works last outcome answer line failed =
    let none_so : None ≡ Some line_end.Failed =
    line ∙ ap (λ (r : Result Ran BrokenOff). line_of last r outcome) failed in
    cc none_so

-- What was asked is asked by these acts; and all of it went out, if the list is begun.
asked_by : {W : Type 0} {does : Act → W → W → Type 0} (law : Laws does) (settings : RunSettings) (is_held : Bool) (start : Start)
    (e : Ends) (ear ear' : Held) (wire wire' : W) (left : ℕ) (signs signs' : Signs) (line : Option LineEnd) (asker : Option Asker)
    → asker_of settings.ask is_held start ≡ asker
    → (h : HasAsked asker does at_once settings ear ear' wire wire' left signs signs' line)
    → (let steps : List Step = steps_asked does at_once settings ear ear' wire wire' left signs signs' line asker h in
    (a : IsAskedBy start.plan settings.unit (as_of start.state ear e) (commands_kept (kept_in steps)) ear' (acts_in steps))
    × (line ≡ None → a.unsent ≡ []))
asked_by law settings is_held start e ear ear' wire wire' left signs signs' line None is h = (
  record { may = All-nil (MayAsk start.plan start.state.stage); ear = h.0; unsent = []; part = refl },
  λ begun. refl,
)
asked_by law settings is_held start e ear ear' wire wire' left signs signs' line (Some asker) is h =
    let runs = h.comes.runs in
    let unit : ℕ = settings.unit in
    let a : Auto Held = record { ear = ear; state = asker.state } in
    let last = ending law.steps asker.plan unit settings.listens a h.comes.auto h.answer runs.run in (
      record {
        may = may_ask start (commands_kept (kept_in (steps_in runs.run)))
            (law.asks settings.ask is_held start asker unit settings.listens a h.comes.auto _ _ h.answer is refl runs);
        ear = h.comes.ear_is ∙ ear_of_run law.steps asker.plan unit settings.listens a h.comes.auto h.answer runs.run;
        unsent = last.unsent;
        part = part_of_run law.steps asker.plan unit settings.listens a h.comes.auto h.answer runs.run;
      },
      λ begun. last.all (works h.last h.outcome h.answer (sym begun ∙ h.line_is)),
    )

-- So much of it went out that was asked, and nothing more.
pub asking_side : (plan : Plan) (unit : ℕ) (e : Ends) (cs : List Command) (ear : Held) (list : List Act)
    → awaited plan e.automation.state ≡ None → IsAskedBy plan unit e cs ear list
    → Side plan unit (AreLed plan unit) e (sent_down unit e) list (asked_first cs ear (bytes_in (came_in list)) e)
asking_side plan unit e cs ear list ready a =
    let now : Ends = asked_first cs ear (bytes_in (came_in list)) e in
    subst (λ (l : List Act). Side plan unit (AreLed plan unit) e (sent_down unit e) l now) (append-nil list)
    (asked_side plan unit e cs ear list [] now ready a
    (no_act plan unit (AreLed plan unit) now (sent_down unit e ++ sent_in list) a.unsent
    (sent_more unit e cs ∙ ap (λ (l : List ℕ). sent_down unit e ++ l) a.part
    ∙ sym (append_assoc (sent_down unit e) (sent_in list) a.unsent))))

-- each question was answered
asked_answers : {W : Type 0} {does : Act → W → W → Type 0} (law : Laws does) (settings : RunSettings) (is_held : Bool) (start : Start)
    (e : Ends) (ear ear' : Held) (wire wire' : W) (left : ℕ) (signs signs' : Signs) (line : Option LineEnd) (asker : Option Asker)
    → (is : asker_of settings.ask is_held start ≡ asker)
    → (h : HasAsked asker does at_once settings ear ear' wire wire' left signs signs' line) → signs'.unanswered ≡ false
    → (let steps : List Step = steps_asked does at_once settings ear ear' wire wire' left signs signs' line asker h in
    let first : Ends = as_of start.state ear e in
    (signs.unanswered ≡ false) × Answers settings.unit first (ends_asked steps ear' first) (acts_in steps))
asked_answers {W} {does} law settings is_held start e ear ear' wire wire' left signs signs' line None is h calm = (
  ap (λ (s : Signs). s.unanswered) (sym h.3) ∙ calm,
  record { commands = []; sent_is = refl; ups_is = refl; ear_is = h.0; few = omega arith },
)
asked_answers {W} {does} law settings is_held start e ear ear' wire wire' left signs signs' line (Some asker) is h calm =
    let runs = h.comes.runs in
    let unit : ℕ = settings.unit in
    let a : Auto Held = record { ear = ear; state = asker.state } in
    let steps : List Step = steps_in runs.run in
    let asked = asked_by law settings is_held start e ear ear' wire wire' left signs signs' line (Some asker) is h in
    let quiet = ap (λ (s : Signs). s.unanswered) (sym h.signs_are) ∙ calm in
    let c = calm_asked does asker.plan steps _ _ runs.happened (asked_calm h.answer h.last.signs quiet) in (
      c.1,
      record {
        commands = commands_kept (kept_in steps);
        sent_is = refl;
        ups_is = refl;
        ear_is = asked.0.ear;
        few = answered_in law.rows law.steps asker.plan unit settings.listens a h.comes.auto h.answer runs.run
            (asker_ready settings.ask is_held start asker is)
            (asker_free asker unit settings.listens a h.comes.auto _ _ h.answer runs quiet) c.0;
      },
    )

-- A stretch: what was to be asked was, and the list is begun.
module _ {W : Type 0} {does : Act → W → W → Type 0} (law : Laws does) (settings : RunSettings) (is_held : Bool) (start : Start)
    (e : Ends) (ear ear' : Held) (wire wire' : W) (left : ℕ) (signs signs' : Signs)
    (asked : HasAsked (asker_of settings.ask is_held start) does at_once settings ear ear' wire wire' left signs signs' None) where
  abbrev plan : Plan
  plan = start.plan

  abbrev unit : ℕ
  unit = settings.unit

  abbrev steps : List Step
  steps = steps_asked does at_once settings ear ear' wire wire' left signs signs' None (asker_of settings.ask is_held start) asked

  abbrev first : Ends
  first = as_of start.state ear e

  abbrev now : Ends
  now = ends_asked steps ear' first

  -- these acts lead on
  abbrev Leads : Ends → List Act → Ends → Type 0
  Leads from list last = Side plan unit (AreLed plan unit) from (sent_down unit from) list last

  -- all of it went out that was asked
  pub asked_on : (last : Ends) (more : List Act) → awaited plan start.state ≡ None → Leads now more last
      → Leads first (acts_in steps ++ more) last
  asked_on last more ready s =
      let list : List Act = acts_in steps in
      let a = asked_by law settings is_held start e ear ear' wire wire' left signs signs' None (asker_of settings.ask is_held start)
      refl asked in
      let sent : sent_down unit now ≡ sent_down unit first ++ sent_in list =
      sent_more unit first (commands_kept (kept_in steps)) ∙ ap (λ (l : List ℕ). sent_down unit first ++ l)
      (a.0.part ∙ ap (λ (l : List ℕ). sent_in list ++ l) (a.1 refl) ∙ append-nil (sent_in list)) in
      asked_side plan unit first (commands_kept (kept_in steps)) ear' list more last ready a.0
      (subst (λ (l : List ℕ). Side plan unit (AreLed plan unit) now l more last) sent s)

  -- then these events happened
  pub stretch_on : (last : Ends) (events : List Event) (more : List Act) → awaited plan start.state ≡ None
      → AreMade at_once plan unit (driver_of now.automation) events → Leads (ends_by plan unit now events) more last
      → Leads first ((acts_in steps ++ acts_in (steps_of at_once plan unit (driver_of now.automation) events)) ++ more) last
  stretch_on last events more ready made s =
      let done : List Act = acts_in (steps_of at_once plan unit (driver_of now.automation) events) in
      subst (λ (l : List Act). Leads first l last) (sym (append_assoc (acts_in steps) done more))
      (asked_on last (done ++ more) ready
      (events_side plan unit (AreLed plan unit) (leads_on plan unit) more last events now made s))

  -- each command was answered
  stretch_answers : (auto : Auto Held) (answer : Result Ran BrokenOff)
      → (run : IsRun at_once plan unit left (record { ear = ear'; state = start.state }) auto answer)
      → awaited plan start.state ≡ None → awaited plan auto.state ≡ None
      → (signs_by (kept_in (steps_in run)) signs').unanswered ≡ false
      → (signs.unanswered ≡ false)
      × Answers unit first (ends_by plan unit now run.events) (acts_in steps ++ acts_in (steps_in run))
  stretch_answers auto answer run ready free calm =
      let c = calm_by (kept_in (steps_in run)) signs' calm in
      let a = asked_answers law settings is_held start e ear ear' wire wire' left signs signs' None
      (asker_of settings.ask is_held start) refl asked c.1 in (
        a.0,
        answers_both unit first now (ends_by plan unit now run.events) (acts_in steps) (acts_in (steps_in run)) a.1
            (answers_by law.rows law.steps plan unit left now auto answer run ready free c.0),
      )

-- ---- while events were held back

-- nothing is awaited where the line is left
pub left_ready : (mode : Mode) (plan : Plan) (stage : Stage) → LeavesBefore mode stage next.Leave → awaited_in plan stage ≡ None
left_ready mode plan (Ready p) before = refl
left_ready Plain plan (Awaiting p) (inl event) = absurd event
left_ready Confirming plan (Awaiting p) (inl event) = absurd event
left_ready mode plan (Awaiting p) (inr cued) = cc cued
left_ready mode plan (Ended outcome) before = refl

-- the plan and the first event stay
pub start_held : {E W F : Type 0} {does : Act → W → W → Type 0} {safe : F → Option (List ℕ)} {fold : Fold E} {settings : RunSettings}
    {z x : Onset E W F} → HasHeld does safe fold settings z x → record x.start { state = z.start.state } ≡ z.start
start_held none = refl
start_held (held is_held ear wire count signs asks auto left runs is keep written turns later) = start_held later

-- where all that leaves both ends, and what it leads on to
record HeldOn {W F : Type 0} {does : Act → W → W → Type 0} {safe : F → Option (List ℕ)} {settings : RunSettings}
    {z x : Onset Held W F} (h : HasHeld does safe at_once settings z x) (e : Ends) : Type 0 where
  there : as_of z.start.state z.ear (ends_held h e) ≡ ends_held h e
  ready : awaited x.start.plan z.start.state ≡ None
  side : (more : List Act) (last : Ends)
      → Side x.start.plan settings.unit (AreLed x.start.plan settings.unit) (ends_held h e) (sent_down settings.unit (ends_held h e))
      more last
      → Side x.start.plan settings.unit (AreLed x.start.plan settings.unit) e (sent_down settings.unit e) (acts_held h ++ more) last
  log_is : log_now (ends_held h e) ≡ log_now e ++ log_held h
  aired_is : (downs : List Turn) → aired_now (record (ends_held h e) { downs = downs }) ≡ aired_now (record e { downs = downs })
  answers : z.signs.unanswered ≡ false → (x.signs.unanswered ≡ false) × Answers settings.unit e (ends_held h e) (acts_held h)

held_on : {W F : Type 0} {does : Act → W → W → Type 0} {safe : F → Option (List ℕ)} (law : Laws does) (settings : RunSettings)
    {z x : Onset Held W F} (h : HasHeld does safe at_once settings z x) (e : Ends) → awaited x.start.plan x.start.state ≡ None
    → HeldOn h (as_of x.start.state x.ear e)
held_on law settings {z} none e ready = record {
  there = refl;
  ready = ready;
  side = λ more last s. s;
  log_is = sym (append-nil (log_now e));
  aired_is = λ downs. refl;
  answers = λ calm. (calm, none_answered settings.unit _);
}
held_on {W} {F} {does} law settings {z} {x} (held is_held ear wire count signs asks auto left runs is keep written turns later) e ready =
    let plan : Plan = x.start.plan in
    let unit : ℕ = settings.unit in
    let first : Ends = as_of x.start.state x.ear e in
    let steps : List Step = steps_first does at_once settings is_held x ear wire count signs None asks in
    let now : Ends = ends_asked steps ear first in
    let events : List Event = runs.run.events in
    let then : Ends = ends_by plan unit now events in
    let done : List Act = acts_in (steps_of at_once plan unit (driver_of now.automation) events) in
    let run : List Act = acts_in (steps_in runs.run) in
    let hooks = left_by_hooks plan unit count events (after at_once plan unit (driver_of now.automation) events) auto
    (Err fault.Left) runs.run.more runs.run.ending refl in
    let acts_are : run ≡ done =
    acts_both (steps_of at_once plan unit (driver_of now.automation) events) runs.run.more
    ∙ ap (λ (l : List Step). done ++ acts_in l) hooks.1 ∙ append-nil done in
    let same : as_of auto.state auto.ear then ≡ then =
    ap (λ (a : Auto Held). as_of a.state a.ear then) (hooks.0 ∙ sym (driver_so plan unit now events)) in
    let r : HeldOn later then = subst (HeldOn later) same (held_on law settings later then (left_ready Confirming plan auto.state.stage (inr is.cued))) in
    record {
      there = r.there;
      ready = r.ready;
      side = λ more last s.
          subst (λ (l : List Act). Side plan unit (AreLed plan unit) first (sent_down unit first) l last)
          (ap (λ (l : List Act). (acts_in steps ++ l) ++ (acts_held later ++ more)) (sym acts_are)
          ∙ sym (append_assoc (acts_in steps ++ run) (acts_held later) more))
          (stretch_on law (record settings { listens = x.turns }) is_held x.start e x.ear ear x.world.wire wire count x.signs signs
          asks last events (acts_held later ++ more) ready runs.run.made (r.side more last s));
      log_is = r.log_is ∙ ap (λ (l : List Exchange). l ++ log_held later) (log_so plan unit now events)
          ∙ append_assoc (log_now first) _ (log_held later);
      aired_is = λ downs. r.aired_is downs
          ∙ stays (λ p l i. aired_now (record e { port = p; aired_before = i; downs = downs })) plan unit now events;
      answers = λ calm.
          let behind = r.answers calm in
          let a = stretch_answers law (record settings { listens = x.turns }) is_held x.start e x.ear ear x.world.wire wire count
          x.signs signs asks auto (Err fault.Left) runs.run ready (left_ready Confirming plan auto.state.stage (inr is.cued)) behind.0 in
          (a.0, answers_both unit first then (ends_held later then) (acts_in steps ++ run) (acts_held later) a.1 behind.1);
    }

-- ---- in the last stretch

-- nor where it is at rest
rests_by : (plan : Plan) (unit count : ℕ) (unplayed : Bool) (reported kept : ℕ) (a a' : Auto Held) (answer : Result Ran BrokenOff)
    → (run : IsRun at_once plan unit count a a' answer)
    → (answer ≡ Err fault.Left → LeavesBefore plan.mode a'.state.stage next.Leave)
    → IsAtRest (line_end_of answer unplayed reported kept) → awaited plan a'.state ≡ None
rests_by plan unit count unplayed reported kept a a' answer run leaves rest = by answer refl rest where
  by : (r : Result Ran BrokenOff) → answer ≡ r → IsAtRest (line_end_of r unplayed reported kept) → awaited plan a'.state ≡ None
  by (Err fault.Left) is rest = left_ready plan.mode plan a'.state.stage (leaves is)
  by (Ok ran.Ended) is rest =
      ended_free plan unit count run.events (after at_once plan unit a run.events) a' answer run.more run.ending is
  by _ is rest = absurd rest

-- where it leaves both ends, and what the headline is then
record EndedOn {W F : Type 0} {does : Act → W → W → Type 0} {safe : F → Option (List ℕ)} {settings : RunSettings}
    {x : Onset Held W F} {last : W} {end : RunEnd} (port : ClockedPort) (h : HasEnded does safe at_once settings x last end)
    (plan : Plan) (e : Ends) : Type 0 where
  side : Side plan settings.unit (AreLed plan settings.unit) e (sent_down settings.unit e) (acts_ended h) (ends_ended h e)
  rests : IsAtRest end.line → awaited plan (state_ended h) ≡ None
  left_side : awaited plan (state_ended h) ≡ None
      → Side plan settings.unit (AreLed plan settings.unit) e (sent_down settings.unit e) (acts_ended h) (ends_left_by h e)
  answers : end.signs.unanswered ≡ false → awaited plan (state_ended h) ≡ None
      → (x.signs.unanswered ≡ false) × Answers settings.unit e (ends_left_by h e) (acts_ended h)
  headline : (asked : List Command) (downs : List Turn) → CanJoin plan port asked
      → AreJoined plan port asked (record (ends_ended h e) { downs = downs })
      → EndsHeadline plan port.clips (state_ended h) (log_now e ++ log_ended h) (aired_now (record e { downs = downs }))

ended_on : {W F : Type 0} {does : Act → W → W → Type 0} {safe : F → Option (List ℕ)} (law : Laws does) (headlines : headline.Laws)
    (settings : RunSettings) (port : ClockedPort) (x : Onset Held W F) (last : W) (end : RunEnd) (e : Ends)
    → awaited x.start.plan x.start.state ≡ None
    → (h : HasEnded does safe at_once (record settings { unit = port.state.unit }) x last end)
    → EndedOn port h x.start.plan (as_of x.start.state x.ear e)
ended_on {W} {F} {does} law headlines settings port x last end e ready (played is_held ear wire left signs asks plays) =
    let plan : Plan = x.start.plan in
    let unit : ℕ = port.state.unit in
    let first : Ends = as_of x.start.state x.ear e in
    let now : Ends = ends_asked (steps_first does at_once (record settings { unit = unit }) is_held x ear wire left signs None asks) ear first in
    record {
      side = asked_on law (record settings { unit = unit; listens = x.turns }) is_held x.start e x.ear ear x.world.wire wire left
          x.signs signs asks _ (acts_in (steps_in plays.runs.run)) ready
          (side_of plan unit left (AreLed plan unit) (leads_on plan unit) now plays.ran plays.auto plays.runs.run);
      rests = λ rest. rests_by plan unit left _ _ plays.kept _ plays.auto plays.ran plays.runs.run plays.left_before
          (subst IsAtRest plays.line_is rest);
      left_side = λ free. asked_on law (record settings { unit = unit; listens = x.turns }) is_held x.start e x.ear ear x.world.wire
          wire left x.signs signs asks _ (acts_in (steps_in plays.runs.run)) ready
          (free_side law.rows law.steps plan unit left _ plays.auto plays.ran plays.runs.run ready free now refl);
      answers = λ calm free. stretch_answers law (record settings { unit = unit; listens = x.turns }) is_held x.start e x.ear ear
          x.world.wire wire left x.signs signs asks plays.auto plays.ran plays.runs.run ready free
          (ap (λ (s : Signs). s.unanswered) (sym plays.signs_are) ∙ calm);
      headline = λ asked downs can j. of_joined headlines plan port asked now left plays.ran plays.auto downs can plays.runs.run j;
    }
ended_on {W} {F} {does} law headlines settings port x last end e ready (unbegun is_held ear left signs line asks is reports) =
    let plan : Plan = x.start.plan in
    let unit : ℕ = port.state.unit in
    let first : Ends = as_of x.start.state x.ear e in
    let steps : List Step = steps_first does at_once (record settings { unit = unit }) is_held x ear last left signs (Some line) asks in
    let side = asking_side plan unit first (commands_kept (kept_in steps)) ear (acts_in steps) ready
    (asked_by law (record settings { unit = unit; listens = x.turns }) is_held x.start e x.ear ear x.world.wire last left x.signs signs
    (Some line) (asker_of settings.ask is_held x.start) refl asks).0 in
    record {
      side = side;
      rests = λ rest. ready;
      left_side = λ free. side;
      answers = λ calm free. asked_answers law (record settings { unit = unit; listens = x.turns }) is_held x.start e x.ear ear
          x.world.wire last left x.signs signs (Some line) (asker_of settings.ask is_held x.start) refl asks
          (ap (λ (s : Signs). s.unanswered) (sym is.1) ∙ calm);
      headline = λ asked downs can j.
          subst (λ (l : List Exchange). EndsHeadline plan port.clips x.start.state l (aired_now (record first { downs = downs })))
          (sym (append-nil (log_now first)))
          (headline.of_ends headlines plan port asked (record (ends_asked steps ear first) { downs = downs }) can j);
    }

ended_reports : {E W F : Type 0} {does : Act → W → W → Type 0} {safe : F → Option (List ℕ)} {fold : Fold E} {settings : RunSettings}
    (x : Onset E W F) (last : W) (end : RunEnd) → (h : HasEnded does safe fold settings x last end)
    → Reports x.start.from (state_ended h) end
ended_reports x last end (played is_held ear wire left signs asks plays) = plays.reports
ended_reports x last end (unbegun is_held ear left signs line asks is reports) = reports

-- ---- all of it

pub tried_reports : {E W F : Type 0} {does : Act → W → W → Type 0} {safe : F → Option (List ℕ)} {fold : Fold E} {settings : RunSettings}
    (x : Onset E W F) (last : W) (end : RunEnd) → (tried : HasTried does safe fold settings x last end)
    → Reports x.start.from (state_tried tried) end
tried_reports x last end tried =
    subst (λ (n : ℕ). Reports n (state_tried tried) end) (sym (ap (λ (s : Start). s.from) (start_held tried.held)))
    (ended_reports tried.onset last end tried.ended)

module _ {W F : Type 0} {does : Act → W → W → Type 0} {safe : F → Option (List ℕ)} (law : Laws does) (headlines : headline.Laws)
    (plan : Plan) (from : ℕ) (settings : RunSettings) (port : ClockedPort) (e : Ends) (world : World W (Option (Recording F)))
    (count : ℕ) (signs : Signs) (list : OnList) (last : W) (end : RunEnd) (ready : awaited plan e.automation.state ≡ None)
    (tried : HasTried does safe at_once (record settings { unit = port.state.unit })
    (onset_of (start_at plan from e) e.automation.held world count signs list) last end) where
  before : HeldOn tried.held e
  before = held_on law (record settings { unit = port.state.unit }) tried.held e ready

  since : EndedOn port tried.ended plan (ends_held tried.held e)
  since =
      let z : Onset Held W F = tried.onset in
      let now : Ends = ends_held tried.held e in
      let plan_is : plan ≡ z.start.plan = ap (λ (s : Start). s.plan) (start_held tried.held) in
      subst (λ (p : Plan). EndedOn port tried.ended p now) (sym plan_is)
      (subst (EndedOn port tried.ended z.start.plan) before.there
      (ended_on law headlines settings port z last end now (subst (λ (p : Plan). awaited p z.start.state ≡ None) plan_is before.ready)
      tried.ended))

  pub tried_led : (turns : List Turn) (below : List Act) (aired : List Item) → ServedSo e turns below aired
      → AreCarried port.state.unit e (acts_tried tried) below
      → AreLed plan port.state.unit e (ends_tried tried e (e.downs ++ turns))
  tried_led turns below aired served c =
      let then : Ends = ends_ended tried.ended (ends_held tried.held e) in
      led_by plan port.state.unit e (acts_tried tried) then turns below aired (before.side (acts_ended tried.ended) then since.side)
      served c

  pub tried_rests : IsAtRest end.line → awaited plan (state_tried tried) ≡ None
  tried_rests = since.rests

  -- if it awaits nothing then, without the next command
  pub tried_left : (turns : List Turn) (below : List Act) (aired : List Item) → awaited plan (state_tried tried) ≡ None
      → ServedSo e turns below aired → AreCarried port.state.unit e (acts_tried tried) below
      → AreLed plan port.state.unit e (ends_left tried e (e.downs ++ turns))
  tried_left turns below aired free served c =
      let last : Ends = ends_left_by tried.ended (ends_held tried.held e) in
      led_by plan port.state.unit e (acts_tried tried) last turns below aired
      (before.side (acts_ended tried.ended) last (since.left_side free)) served c

  pub tried_answers : end.signs.unanswered ≡ false → awaited plan (state_tried tried) ≡ None
      → Answers port.state.unit e (ends_left_by tried.ended (ends_held tried.held e)) (acts_tried tried)
  tried_answers calm free =
      let a = since.answers calm free in
      answers_both port.state.unit e (ends_held tried.held e) (ends_left_by tried.ended (ends_held tried.held e))
      (acts_held tried.held) (acts_ended tried.ended) (before.answers a.0).1 a.1

  pub tried_headline : (asked : List Command) (downs : List Turn) → CanJoin plan port asked
      → AreJoined plan port asked (ends_tried tried e downs)
      → EndsHeadline plan port.clips (state_tried tried) (log_now e ++ log_tried tried) (aired_now (record e { downs = downs }))
  tried_headline asked downs can j =
      subst (EndsHeadline plan port.clips (state_tried tried) (log_now e ++ log_tried tried)) (before.aired_is downs)
      (subst (λ (l : List Exchange). EndsHeadline plan port.clips (state_tried tried) l
      (aired_now (record (ends_held tried.held e) { downs = downs })))
      (ap (λ (l : List Exchange). l ++ log_ended tried.ended) before.log_is
      ∙ append_assoc (log_now e) (log_held tried.held) (log_ended tried.ended)) (since.headline asked downs can j))
