-- What a session that hears at silences does over a connection leads both ends on.
use Rattle.std.proofs.Common.{ℕ, ◌≡◌, ◌⊎◌, inl, inr, Bool, All, List, [], ◌∷◌, ◌++◌, map, refl, sym, ap, ap₂, subst, ◌∙◌, append_assoc, append-nil}
use Rattle.std.proofs.lemmas.List.Elements.{All-nil}
use Rattle.std.specs.Prelude.{Option, None, Some, Result, Err}
use Rattle.vdcp_value.specs.declared.part.Item.{Item}
use Rattle.vdcp_frame.specs.Message.{Content}
use Rattle.vdcp_frame.specs.Reading.{SpellsAll}
use Rattle.vdcp_words.specs.declared.command.Command.{Command}
use Rattle.vdcp_port.specs.Clock.{ClockedPort}
use Rattle.vdcp_auto.specs.Plan.{Plan}
use Rattle.vdcp_auto.specs.State.{State}
use Rattle.vdcp_auto.specs.Turn.{awaited, ticked}
use Rattle.vdcp_auto.specs.declared.exchange.Exchange.{Exchange}
use Rattle.vdcp_auto.specs.declared.phase.Mode.{Mode}
use Rattle.vdcp_auto.specs.declared.phase.Mode.TheVariants.{Confirming}
use Rattle.vdcp_wire.specs.Acts.{Act}
use Rattle.vdcp_wire.specs.Wires.{Arrival, bytes, silence, close}
use Rattle.vdcp_drive.specs.Auto.{Auto, Event, after, arrivals, arrives, calls, log_of}
use Rattle.vdcp_drive.specs.Auto as auto
use Rattle.vdcp_drive.specs.Ears.{ear_after}
use Rattle.vdcp_drive.specs.Hearing.{Burst, begun, at_silences}
use Rattle.vdcp_drive.specs.HearingLaws.{at_silences_in_pieces}
use Rattle.vdcp_drive.specs.Leaves.{HasRun, steps_in}
use Rattle.vdcp_drive.specs.Reading.{holds, held_after}
use Rattle.vdcp_drive.specs.Serving.{begins, hook_steps, items_in}
use Rattle.vdcp_drive.specs.Steps.{Step, World, steps_of}
use Rattle.vdcp_drive.specs.Traces.{acts_in, came_in, commands_kept, kept_in, sent_in}
use Rattle.vdcp_drive.specs.Turns.{Turn}
use Rattle.vdcp_drive.specs.declared.hearing.Hearing.TheVariants.{AtOnce}
use Rattle.vdcp_drive.specs.declared.hooks.BrokenOff.{BrokenOff}
use Rattle.vdcp_drive.specs.declared.hooks.BrokenOff.TheVariants as fault
use Rattle.vdcp_drive.specs.declared.line.Ran.{Ran}
use Rattle.vdcp_drive.specs.declared.hooks.Kept.{Kept}
use Rattle.vdcp_journal_file.specs.Recorded.{note_for}
use Rattle.vdcp_journal_file.specs.Recording.{Recording}
use Rattle.vdcp_laws.specs.Below as below
use Rattle.vdcp_laws.specs.Bursts.{AreHeardAs, none, sent, failed, came, ended, dropped}
use Rattle.vdcp_laws.specs.Carried.{AreCarried}
use Rattle.vdcp_laws.specs.EndsHeadline.{EndsHeadline}
use Rattle.vdcp_laws.specs.Sessions.{acts_ended, acts_held, acts_tried, kept_ended, kept_held, kept_tried, log_ended, log_held, log_tried, start_at, state_ended, state_tried, steps_asked, steps_first}
use Rattle.vdcp_laws.specs.TwoEnds.{AreJoined, AreLed, CanJoin, Ends, aired_now, asked_first, bytes_in, log_now, port_now, sent_down}
use Rattle.vdcp_laws.proofs.Asked.{IsAskedBy, Steps, asked_side, came_of_run, ear_left, ear_over, ending, part_of_run}
use Rattle.vdcp_laws.proofs.Asks.{MayAsk}
use Rattle.vdcp_laws.proofs.Bursts.{Finished, Led, ear_of, happened_so, led_both, led_last, part, run_so}
use Rattle.vdcp_laws.proofs.Bytes.{nothing_unfinished}
use Rattle.vdcp_laws.proofs.CarriedRun.{joined, left_by_hooks}
use Rattle.vdcp_laws.proofs.Carrying.{Side, acts_both}
use Rattle.vdcp_laws.proofs.Headline as headline
use Rattle.vdcp_laws.proofs.Joining.{sent_more}
use Rattle.vdcp_laws.proofs.Noted.{rows_both}
use Rattle.vdcp_laws.proofs.Servers.{ServedSo}
use Rattle.vdcp_laws.proofs.Tried.{asking_side, left_ready, may_ask, start_held, works}
use Rattle.vdcp_operator.specs.declared.on_list.OnList.{OnList}
use Rattle.vdcp_run.specs.Asking.{AreAsked, Asker, HasAsked, Inquiring, Start, asker_of, asking}
use Rattle.vdcp_run.specs.Session.{HasEnded, HasHeld, HasTried, Onset, held, none as never, onset_of, played, unbegun}
use Rattle.vdcp_run.specs.declared.run_end.LineEnd.{LineEnd}
use Rattle.vdcp_run.specs.declared.run_end.RunEnd.{RunEnd}
use Rattle.vdcp_run.specs.declared.run_end.Signs.{Signs}
use Rattle.vdcp_run.specs.declared.settings.RunSettings.{RunSettings}

-- What acts and those of one that hears at once have in common.

sent_same : {mode : Mode} {burst left : List ℕ} {list same : List Act} → AreHeardAs mode burst left list same
    → sent_in same ≡ sent_in list
sent_same none = refl
sent_same (sent b h) = ap (λ (l : List ℕ). b ++ l) (sent_same h)
sent_same (failed h) = sent_same h
sent_same (came piece h) = sent_same h
sent_same (ended end is ms whole torn parts spelt rest one h) = sent_same h
sent_same (dropped ms whole spelt h) = sent_same h

-- whole messages leave nothing to hold
whole_held : (law : below.Laws) (ms : List Content) (whole : List ℕ) → SpellsAll ms whole → held_after (holds []) whole ≡ holds []
whole_held law ms whole spelt = ap (held_after (holds [])) (sym (append-nil whole))
    ∙ law.completed.held ms whole [] spelt (nothing_unfinished law.spelt)

holds_nothing : (law : below.Laws) (unit : ℕ) {mode : Mode} {burst left : List ℕ} {list same : List Act}
    → AreHeardAs mode burst left list same → ear_over unit (came_in same) (holds []) ≡ holds []
holds_nothing law unit none = refl
holds_nothing law unit (sent b h) = holds_nothing law unit h
holds_nothing law unit (failed h) = holds_nothing law unit h
holds_nothing law unit (came piece h) = holds_nothing law unit h
holds_nothing law unit (ended (bytes piece) is ms whole torn parts spelt rest one h) = absurd is
holds_nothing law unit (ended silence is [] whole torn parts spelt rest one h) = holds_nothing law unit h
holds_nothing law unit (ended close is [] whole torn parts spelt rest one h) = holds_nothing law unit h
holds_nothing law unit (ended {same} silence is (m ∷ ms) whole torn parts spelt rest one h) =
    ap (ear_over unit (came_in same)) (whole_held law (m ∷ ms) whole spelt) ∙ holds_nothing law unit h
holds_nothing law unit (ended {same} close is (m ∷ ms) whole torn parts spelt rest one h) =
    ap (ear_over unit (came_in same)) (whole_held law (m ∷ ms) whole spelt) ∙ holds_nothing law unit h
holds_nothing law unit (dropped {same} ms whole spelt h) =
    ap (ear_over unit (came_in same)) (whole_held law ms whole spelt) ∙ holds_nothing law unit h

-- the ear behind what came
abbrev burst_over : ℕ → List Arrival → Burst → Burst
burst_over unit [] ear = ear
burst_over unit (a ∷ more) ear = burst_over unit more (ear_after at_silences unit a ear)

burst_left : (unit : ℕ) {mode : Mode} {burst left : List ℕ} {list same : List Act} → AreHeardAs mode burst left list same
    → burst_over unit (came_in list) (ear_of unit burst) ≡ ear_of unit left
burst_left unit none = refl
burst_left unit (sent b h) = burst_left unit h
burst_left unit (failed h) = burst_left unit h
burst_left unit {burst} (came {later} piece h) =
    ap (burst_over unit (came_in later)) (sym (at_silences_in_pieces.takes_both unit burst piece (begun (holds []))))
    ∙ burst_left unit h
burst_left unit (ended (bytes piece) is ms whole torn parts spelt rest one h) = absurd is
burst_left unit (ended silence is ms whole torn parts spelt rest one h) = burst_left unit h
burst_left unit (ended close is ms whole torn parts spelt rest one h) = burst_left unit h
burst_left unit (dropped ms whole spelt h) = burst_left unit h

ear_so : (plan : Plan) (unit : ℕ) (a : Auto Burst) (events : List Event)
    → (after at_silences plan unit a events).ear ≡ burst_over unit (arrivals events) a.ear
ear_so plan unit a [] = refl
ear_so plan unit a (arrives what ∷ later) = ear_so plan unit (auto.listens at_silences plan unit what (auto.gives a)) later
ear_so plan unit a (calls c ∷ later) = ear_so plan unit (auto.heeds c a) later

-- vdcp_run::laws::only_questions_are_asked, and vdcp_drive::laws::steps_are_exchanges
pub record Laws {W : Type 0} (does : Act → W → W → Type 0) : Type 0 where
  pub asks : (ask is_held : Bool) (start : Start) (asker : Asker) (unit count : ℕ) (a a' : Auto Burst) (old new : World W Inquiring)
      (answer : Result Ran BrokenOff) → asker_of ask is_held start ≡ Some asker → a.state ≡ asker.state
      → (h : HasRun (asking does asker.plan) at_silences asker.plan unit count a a' old new answer)
      → AreAsked start (commands_kept (kept_in (steps_in h.run)))
  pub steps : Steps at_silences
  pub below : below.Laws

-- While it asks.

record AskedSo (plan : Plan) (unit : ℕ) (e : Ends) (ear : Burst) (left : List ℕ) (same : List Act) (line : Option LineEnd)
    : Type 0 where
  commands : List Command
  asked : IsAskedBy plan unit e commands (holds []) same
  all : line ≡ None → asked.unsent ≡ []
  ear_is : ear ≡ ear_of unit left

asked_so : {W : Type 0} {does : Act → W → W → Type 0} (law : Laws does) (settings : RunSettings) (is_held : Bool) (start : Start)
    (e : Ends) (ear ear' : Burst) (wire wire' : W) (count : ℕ) (signs signs' : Signs) (line : Option LineEnd) (asker : Option Asker)
    (burst left : List ℕ) (same : List Act) → asker_of settings.ask is_held start ≡ asker → e.automation.state ≡ start.state
    → e.automation.held ≡ holds [] → ear ≡ ear_of settings.unit burst
    → (h : HasAsked asker does at_silences settings ear ear' wire wire' count signs signs' line)
    → AreHeardAs start.plan.mode burst left
    (acts_in (steps_asked does at_silences settings ear ear' wire wire' count signs signs' line asker h)) same
    → AskedSo start.plan settings.unit e ear' left same line
asked_so law settings is_held start e ear ear' wire wire' count signs signs' line None burst _ _ is state_is held_is ear_is h none =
    record {
      commands = [];
      asked = record { may = All-nil (MayAsk start.plan e.automation.state.stage); ear = sym held_is; unsent = []; part = refl };
      all = λ begun. refl;
      ear_is = h.0 ∙ ear_is;
    }
asked_so law settings is_held start e ear ear' wire wire' count signs signs' line (Some asker) burst left same is state_is held_is ear_is h
    heard =
    let runs = h.comes.runs in
    let unit : ℕ = settings.unit in
    let a : Auto Burst = record { ear = ear; state = asker.state } in
    let last = ending law.steps asker.plan unit settings.listens a h.comes.auto h.answer runs.run in
    let commands : List Command = commands_kept (kept_in (steps_in runs.run)) in
    record {
      commands = commands;
      asked = record {
        may = subst (λ (s : State). All (MayAsk start.plan s.stage) commands) (sym state_is)
            (may_ask start commands
            (law.asks settings.ask is_held start asker unit settings.listens a h.comes.auto _ _ h.answer is refl runs));
        ear = sym (ap (ear_over unit (came_in same)) held_is ∙ holds_nothing law.below unit heard);
        unsent = last.unsent;
        part = part_of_run law.steps asker.plan unit settings.listens a h.comes.auto h.answer runs.run
            ∙ ap (λ (l : List ℕ). l ++ last.unsent) (sym (sent_same heard));
      };
      all = λ begun. last.all (works h.last h.outcome h.answer (sym begun ∙ h.line_is));
      ear_is = h.comes.ear_is ∙ ear_left law.steps asker.plan unit settings.listens a h.comes.auto h.answer runs.run
          ∙ ear_so asker.plan unit a runs.run.events
          ∙ ap₂ (burst_over unit)
          (sym (came_of_run law.steps asker.plan unit settings.listens a h.comes.auto h.answer runs.run)) ear_is
          ∙ burst_left unit heard;
    }

module _ (plan : Plan) (unit : ℕ) (e : Ends) (s : State) (ear : Burst) (left : List ℕ) (same : List Act) (line : Option LineEnd)
    (is : e.automation.state ≡ s) (ready : awaited plan s ≡ None) (a : AskedSo plan unit e ear left same line) where
  free : awaited plan e.automation.state ≡ None
  free = ap (awaited plan) is ∙ ready

  -- the list is begun behind it
  asked_led : line ≡ None → Led plan unit e same s [] []
  asked_led begins_so =
      let now : Ends = asked_first a.commands (holds []) (bytes_in (came_in same)) e in
      record {
        to = now;
        state_is = is;
        held_is = refl;
        log_is = sym (append-nil (log_now e));
        notes_are = sym (append-nil e.notes);
        port_is = refl;
        aired_is = refl;
        side = λ more last side.
            asked_side plan unit e a.commands (holds []) same more last free a.asked
            (subst (λ (l : List ℕ). Side plan unit (AreLed plan unit) now l more last)
            (sent_more unit e a.commands ∙ ap (λ (l : List ℕ). sent_down unit e ++ l)
            (a.asked.part ∙ ap (λ (l : List ℕ). sent_in same ++ l) (a.all begins_so) ∙ append-nil (sent_in same))) side);
      }

  -- it isn't
  asked_last : Finished plan unit e same s [] []
  asked_last = record {
    last = asked_first a.commands (holds []) (bytes_in (came_in same)) e;
    state_is = inl is;
    log_is = sym (append-nil (log_now e));
    notes_are = sym (append-nil e.notes);
    port_is = refl;
    aired_is = refl;
    side = asking_side plan unit e a.commands (holds []) same free a.asked;
  }

-- While PLAYs are held.

record HeldSo {W F : Type 0} {does : Act → W → W → Type 0} {safe : F → Option (List ℕ)} {settings : RunSettings}
    {z x : Onset Burst W F} (h : HasHeld does safe at_silences settings z x) (e : Ends) (left : List ℕ) (same : List Act)
    : Type 0 where
  led : Led x.start.plan settings.unit e same z.start.state (log_held h) (kept_held h)
  ready : awaited x.start.plan z.start.state ≡ None
  ear_is : z.ear ≡ ear_of settings.unit left

held_so : {W F : Type 0} {does : Act → W → W → Type 0} {safe : F → Option (List ℕ)} (law : Laws does) (settings : RunSettings)
    {z x : Onset Burst W F} (h : HasHeld does safe at_silences settings z x) (e : Ends) (burst left : List ℕ) (same : List Act)
    → e.automation.state ≡ x.start.state → e.automation.held ≡ holds [] → awaited x.start.plan x.start.state ≡ None
    → x.ear ≡ ear_of settings.unit burst → AreHeardAs x.start.plan.mode burst left (acts_held h) same → HeldSo h e left same
held_so law settings {z} never e burst _ _ is held_is ready ear_is none = record {
  led = record {
    to = e;
    state_is = is;
    held_is = held_is;
    log_is = sym (append-nil (log_now e));
    notes_are = sym (append-nil e.notes);
    port_is = refl;
    aired_is = refl;
    side = λ more last s. s;
  };
  ready = ready;
  ear_is = ear_is;
}
held_so {W} {F} {does} law settings {z} {x} (held is_held ear wire count signs asks auto left_so runs back keep written turns later) e
    burst left same is held_is ready ear_is heard =
    let plan : Plan = x.start.plan in
    let unit : ℕ = settings.unit in
    let steps : List Step = steps_first does at_silences settings is_held x ear wire count signs None asks in
    let run : List Act = acts_in (steps_in runs.run) in
    let begins_so : Auto Burst = record { ear = ear; state = x.start.state } in
    let done : List Act = acts_in (steps_of at_silences plan unit begins_so runs.run.events) in
    let all = part plan.mode left (acts_in steps ++ run) (acts_held later) heard in
    let stretch = part plan.mode all.between (acts_in steps) run all.one in
    let a = asked_so law (record settings { listens = x.turns }) is_held x.start e x.ear ear x.world.wire wire count x.signs signs None
    (asker_of settings.ask is_held x.start) burst stretch.between stretch.first refl is held_is ear_is asks stretch.one in
    let first = asked_led plan unit e x.start.state ear stretch.between stretch.first None is ready a refl in
    let hooks = left_by_hooks plan unit count runs.run.events (after at_silences plan unit begins_so runs.run.events) auto
    (Err fault.Left) runs.run.more runs.run.ending refl in
    let acts_are : run ≡ done =
    acts_both (steps_of at_silences plan unit begins_so runs.run.events) runs.run.more
    ∙ ap (λ (l : List Step). done ++ acts_in l) hooks.1 ∙ append-nil done in
    let kept_are : kept_in (steps_in runs.run) ≡ kept_in (steps_of at_silences plan unit begins_so runs.run.events) =
    rows_both (steps_of at_silences plan unit begins_so runs.run.events) runs.run.more
    ∙ ap (λ (l : List Step). kept_in (steps_of at_silences plan unit begins_so runs.run.events) ++ kept_in l) hooks.1
    ∙ append-nil (kept_in (steps_of at_silences plan unit begins_so runs.run.events)) in
    let then = happened_so law.below plan unit runs.run.events first.to begins_so stretch.between all.between stretch.rest first.state_is
    first.held_is a.ear_is runs.run.made
    (subst (λ (l : List Act). AreHeardAs plan.mode stretch.between all.between l stretch.rest) acts_are stretch.two) in
    let r = held_so law settings later then.led.to all.between left all.rest
    (then.led.state_is ∙ ap (λ (x : Auto Burst). x.state) (sym hooks.0)) then.led.held_is
    (left_ready Confirming plan auto.state.stage (inr back.cued)) (ap (λ (x : Auto Burst). x.ear) hooks.0 ∙ then.ear_is) all.two in
    record {
      led = subst (λ (l : List Act). Led plan unit e l z.start.state
          (log_of at_silences plan unit begins_so runs.run.events ++ log_held later)
          (kept_in (steps_in runs.run) ++ kept_held later))
          (sym (all.parts ∙ ap (λ (l : List Act). l ++ all.rest) stretch.parts
          ∙ append_assoc stretch.first stretch.rest all.rest))
          (subst (λ (l : List Kept). Led plan unit e (stretch.first ++ (stretch.rest ++ all.rest)) z.start.state
          (log_of at_silences plan unit begins_so runs.run.events ++ log_held later) (l ++ kept_held later)) (sym kept_are)
          (led_both plan unit first (led_both plan unit then.led r.led)));
      ready = r.ready;
      ear_is = r.ear_is;
    }

-- In the last stretch.

ended_so : {W F : Type 0} {does : Act → W → W → Type 0} {safe : F → Option (List ℕ)} (law : Laws does) (settings : RunSettings)
    (x : Onset Burst W F) (last : W) (end : RunEnd) (h : HasEnded does safe at_silences settings x last end) (e : Ends)
    (burst left : List ℕ) (same : List Act) → e.automation.state ≡ x.start.state → e.automation.held ≡ holds []
    → awaited x.start.plan x.start.state ≡ None → x.ear ≡ ear_of settings.unit burst
    → AreHeardAs x.start.plan.mode burst left (acts_ended h) same
    → Finished x.start.plan settings.unit e same (state_ended h) (log_ended h) (kept_ended h)
ended_so {W} {F} {does} law settings x last end (played is_held ear wire count signs asks plays) e burst left same is held_is ready ear_is
    heard =
    let plan : Plan = x.start.plan in
    let unit : ℕ = settings.unit in
    let steps : List Step = steps_first does at_silences settings is_held x ear wire count signs None asks in
    let begins_so : Auto Burst = record { ear = ear; state = x.start.state } in
    let all = part plan.mode left (acts_in steps) (acts_in (steps_in plays.runs.run)) heard in
    let a = asked_so law (record settings { listens = x.turns }) is_held x.start e x.ear ear x.world.wire wire count x.signs signs None
    (asker_of settings.ask is_held x.start) burst all.between all.first refl is held_is ear_is asks all.one in
    let first = asked_led plan unit e x.start.state ear all.between all.first None is ready a refl in
    subst (λ (l : List Act). Finished plan unit e l plays.auto.state
    (log_of at_silences plan unit begins_so plays.runs.run.events) (kept_in (steps_in plays.runs.run))) (sym all.parts)
    (led_last plan unit first
    (run_so law.below plan unit count first.to begins_so plays.auto plays.ran plays.runs.run all.between left all.rest first.state_is
    first.held_is a.ear_is all.two))
ended_so {W} {F} {does} law settings x last end (unbegun is_held ear count signs line asks ends_so reports) e burst left same is held_is
    ready ear_is heard =
    let a = asked_so law (record settings { listens = x.turns }) is_held x.start e x.ear ear x.world.wire last count x.signs signs
    (Some line) (asker_of settings.ask is_held x.start) burst left same refl is held_is ear_is asks heard in
    asked_last x.start.plan settings.unit e x.start.state ear left same (Some line) is ready a

-- All of it.

module _ {W F : Type 0} {does : Act → W → W → Type 0} {safe : F → Option (List ℕ)} (law : Laws does) (headlines : headline.Laws)
    (plan : Plan) (from : ℕ) (settings : RunSettings) (port : ClockedPort) (asked : List Command) (e : Ends)
    (world : World W (Option (Recording F))) (count : ℕ) (signs : Signs) (list : OnList) (last : W) (end : RunEnd) (left : List ℕ) (same : List Act)
    (turns : List Turn) (below : List Act) (aired : List Item)
    (j : AreJoined plan port asked e) (ready : awaited plan e.automation.state ≡ None) (held_is : e.automation.held ≡ holds [])
    (tried : HasTried does safe at_silences (record settings { unit = port.state.unit })
    (onset_of (start_at plan from e) (begun (holds [])) world count signs list) last end)
    (heard : AreHeardAs plan.mode [] left (acts_tried tried) same) (served : ServedSo e turns below aired)
    (c : AreCarried port.state.unit e same below) where
  pub finished : Finished plan port.state.unit e same (state_tried tried) (log_tried tried) (kept_tried tried)
  finished =
      let unit : ℕ = port.state.unit in
      let z : Onset Burst W F = tried.onset in
      let plan_is : z.start.plan ≡ plan = sym (ap (λ (s : Start). s.plan) (start_held tried.held)) in
      let all = part plan.mode left (acts_held tried.held) (acts_ended tried.ended) heard in
      let before = held_so law (record settings { unit = unit }) tried.held e [] all.between all.first refl held_is ready refl all.one in
      let since : Finished plan unit before.led.to all.rest (state_ended tried.ended) (log_ended tried.ended)
      (kept_ended tried.ended) =
      subst (λ (p : Plan). Finished p unit before.led.to all.rest (state_ended tried.ended) (log_ended tried.ended)
      (kept_ended tried.ended)) plan_is
      (ended_so law (record settings { unit = unit }) z last end tried.ended before.led.to all.between left all.rest before.led.state_is
      before.led.held_is (ap (λ (p : Plan). awaited p z.start.state) plan_is ∙ before.ready) before.ear_is
      (subst (λ (p : Plan). AreHeardAs p.mode all.between left (acts_ended tried.ended) all.rest) (sym plan_is) all.two)) in
      subst (λ (l : List Act). Finished plan unit e l (state_tried tried) (log_tried tried) (kept_tried tried)) (sym all.parts)
      (led_last plan unit before.led since)

  abbrev pub now : Ends
  now = record finished.last { downs = e.downs ++ turns }

  pub now_joined : AreJoined plan port asked now
  now_joined = joined plan port asked e finished.last same turns below aired j finished.side served c

  pub now_state : (now.automation.state ≡ state_tried tried) ⊎ (now.automation.state ≡ ticked (state_tried tried))
  now_state = finished.state_is

  pub now_log : log_now now ≡ log_now e ++ log_tried tried
  now_log = finished.log_is

  pub now_notes : now.notes ≡ e.notes ++ map note_for (kept_tried tried)
  now_notes = finished.notes_are

  pub now_port : port_now now ≡ port_now (record e { downs = e.downs ++ turns })
  now_port = ap (λ (p : ClockedPort). port_now (record e { port = p; downs = e.downs ++ turns })) finished.port_is

  pub now_aired : aired_now now ≡ aired
  now_aired = ap₂ (λ (items : List Item) (p : ClockedPort). items ++ items_in (hook_steps (begins AtOnce p) (e.downs ++ turns)))
      finished.aired_is finished.port_is ∙ served.aired_is

  pub now_headline : CanJoin plan port asked → EndsHeadline plan port.clips (state_tried tried) (log_now e ++ log_tried tried) aired
  now_headline can =
      subst (EndsHeadline plan port.clips (state_tried tried) (log_now e ++ log_tried tried)) now_aired
      (subst (λ (l : List Exchange). EndsHeadline plan port.clips (state_tried tried) l (aired_now now)) now_log
      (by now_state (headline.of_ends headlines plan port asked now can now_joined))) where
        by : {s t : State} → (s ≡ t) ⊎ (s ≡ ticked t) → EndsHeadline plan port.clips s (log_now now) (aired_now now)
            → EndsHeadline plan port.clips t (log_now now) (aired_now now)
        by (inl is) h = subst (λ (s : State). EndsHeadline plan port.clips s (log_now now) (aired_now now)) is h
        by {s} {t} (inr is) h = headline.before_tick plan port.clips t (log_now now) (aired_now now)
            (subst (λ (s : State). EndsHeadline plan port.clips s (log_now now) (aired_now now)) is h)
