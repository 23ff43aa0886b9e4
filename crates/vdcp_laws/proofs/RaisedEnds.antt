-- Both ends under a greater limit do what they did until the automation has ended; then it may go on, and awaits nothing.
use Rattle.std.proofs.Common.{◌≡◌, ℕ, ◌≤◌, Bool, List, [], ◌∷◌, ◌++◌, Option, None, Some, append-nil, map, refl, sym, ap, ap₂, subst, ◌∙◌}
use Rattle.std.specs.Option.{option_map_or, option_to_list}
use Rattle.vdcp_frame.specs.Message.{Content}
use Rattle.vdcp_words.specs.declared.command.Command.{Command}
use Rattle.vdcp_words.specs.declared.command.Command.TheVariants as command
use Rattle.vdcp_port.specs.Clock.{ClockedPort}
use Rattle.vdcp_auto.specs.Course.{logged}
use Rattle.vdcp_auto.specs.Heard.{heard_as}
use Rattle.vdcp_auto.specs.Plan.{Plan}
use Rattle.vdcp_auto.specs.State.{Stage, Ready, Awaiting, Ended, State}
use Rattle.vdcp_auto.specs.Turn.{awaited, awaited_in, came_to, ended_by, ended_in, exchange_of, given, given_in, outcome_of, start, taken, tick_in, ticked}
use Rattle.vdcp_auto.specs.declared.exchange.Exchange.{Exchange}
use Rattle.vdcp_auto.specs.declared.exchange.Heard.{Heard}
use Rattle.vdcp_auto.specs.declared.outcome.Outcome.{Outcome}
use Rattle.vdcp_journal.specs.declared.row.Note.{Note}
use Rattle.vdcp_journal_file.specs.Recorded.{note_for}
use Rattle.vdcp_drive.specs.Auto.{called}
use Rattle.vdcp_drive.specs.Reading.{completed, held_after, held_after_silence}
use Rattle.vdcp_drive.specs.Steps.{given_notes}
use Rattle.vdcp_drive.specs.declared.hooks.Call.{Call}
use Rattle.vdcp_drive.specs.declared.hooks.Call.TheVariants.{Take}
use Rattle.vdcp_world.specs.LateLine.Asking.{Question, asked_in}
use Rattle.vdcp_world.specs.LateLine.LateChannel.{made_anew}
use Rattle.vdcp_laws.specs.Announced.{came_again}
use Rattle.vdcp_laws.specs.Automation.{Prompt, end_notes, hears, hears_all, holding, receives}
use Rattle.vdcp_laws.specs.Raised.{AreAlsoJoined, with_state}
use Rattle.vdcp_laws.specs.TwoEnds.{AreJoined, Ends, GoesOn, as_announced, as_noted, asks, begun, calls, came_down, came_up, connected_anew, gave, notes_ended, notes_heard, passed, paused, port_now, restarted, resumed, sending, sent_up, shut, waited, went_on, wishing, with_automation, with_call, with_command, with_up}
use Rattle.vdcp_laws.proofs.Announced.{none_some}
use Rattle.vdcp_laws.proofs.Commands.{awaits_none_in, exchange_is, still}
use Rattle.vdcp_laws.proofs.Limits.{comes_to, raised}

-- the second controller is the first; or that has ended, and this awaits nothing
data Above (plan : Plan) (s : State) : State → Type 0 where
  same : Above plan s s
  ended : {t : State} (outcome : Outcome) → s.stage ≡ Ended outcome → awaited plan t ≡ None → Above plan s t

-- what comes ends nothing where nothing is awaited
pub ends_none : (plan : Plan) (h : Option Heard) (t : State) → awaited plan t ≡ None → ended_by plan h t ≡ None
ends_none plan h t none = ap (exchange_of plan.mode h) none

pub no_change : (plan : Plan) (h : Option Heard) (t : State) → awaited plan t ≡ None → came_to plan h t ≡ t
no_change plan h t none =
    ap (λ (o : Option Exchange). option_map_or (λ e. ended_in plan t.stage e t) o t) (ends_none plan h t none)

pub awaits_none : (plan : Plan) (s : State) (outcome : Outcome) → s.stage ≡ Ended outcome → awaited plan s ≡ None
awaits_none plan s outcome is = ap (awaited_in plan) is

-- what has ended by what came awaits nothing under another limit
awaits_after : (plan : Plan) (limit : ℕ) (h : Option Heard) (s : State) (by : Option Exchange) (outcome : Outcome)
    → ended_by plan h s ≡ by → (came_to plan h s).stage ≡ Ended outcome → awaited plan (came_to (raised limit plan) h s) ≡ None
awaits_after plan limit h s None outcome by is =
    ap (λ (o : Option Exchange). awaited plan (option_map_or (λ e. ended_in (raised limit plan) s.stage e s) o s)) by
    ∙ awaits_none plan s outcome
    (sym (ap (λ (o : Option Exchange). (option_map_or (λ e. ended_in plan s.stage e s) o s).stage) by) ∙ is)
awaits_after plan limit h s (Some e) outcome by is =
    ap (λ (o : Option Exchange). awaited plan (option_map_or (λ e. ended_in (raised limit plan) s.stage e s) o s)) by
    ∙ awaits_none_in (raised limit plan) s.stage e s (exchange_is plan.mode h (awaited plan s) e by)

-- a controller that gives a command goes on
gives_on : (plan : Plan) (stop : Bool) (stage : Stage) (c : Command) → given_in plan stop stage ≡ Some c → outcome_of stage ≡ None
gives_on plan stop (Ready p) c is = refl
gives_on plan stop (Awaiting p) c is = refl
gives_on plan stop (Ended outcome) c is = cc is

-- The exchange that ends is the same.

ends_same : (plan : Plan) (h : Option Heard) (s t : State) → Above plan s t → ended_by plan h t ≡ ended_by plan h s
ends_same plan h s _ same = refl
ends_same plan h s t (ended outcome is none) =
    ends_none plan h t none ∙ sym (ends_none plan h s (awaits_none plan s outcome is))

notes_same : (plan : Plan) (h : Option Heard) (s t : State) → Above plan s t → notes_ended plan h t ≡ notes_ended plan h s
notes_same plan h s t a = ap (λ (o : Option Exchange). map note_for (end_notes o)) (ends_same plan h s t a)

module _ (plan : Plan) (limit : ℕ) (few : plan.limit ≤ limit) where
  came_in : (h : Option Heard) (s : State) (stage : Stage) → (came_to plan h s).stage ≡ stage
      → Above plan (came_to plan h s) (came_to (raised limit plan) h s)
  came_in h s (Ended outcome) is =
      ended outcome is (awaits_after plan limit h s (ended_by plan h s) outcome refl is)
  came_in h s (Ready p) is =
      subst (Above plan (came_to plan h s)) (sym (comes_to plan limit h s few (ap outcome_of is))) same
  came_in h s (Awaiting p) is =
      subst (Above plan (came_to plan h s)) (sym (comes_to plan limit h s few (ap outcome_of is))) same

  came_above : (h : Option Heard) (s t : State) → Above plan s t
      → Above plan (came_to plan h s) (came_to (raised limit plan) h t)
  came_above h s _ same = came_in h s (came_to plan h s).stage refl
  came_above h s t (ended outcome is none) =
      ended outcome (ap (λ (x : State). x.stage) (still plan h s outcome is) ∙ is)
      (ap (awaited plan) (no_change (raised limit plan) h t none) ∙ none)

  -- What is heard.

  received : (h : Option Heard) (p : Prompt) (t : State) → Above plan p.state t
      → receives (raised limit plan) h (wishing t p) ≡ wishing (came_to (raised limit plan) h t) (receives plan h p)
  received h p t a =
      ap (λ (o : Option Exchange). record {
        held = p.held;
        state = came_to (raised limit plan) h t;
        log = logged p.log o;
      }) (ends_same plan h p.state t a)

  record HearsAbove (unit : ℕ) (ms : List Content) (p : Prompt) (t : State) : Type 0 where
    state : State
    above : Above plan (hears_all plan unit ms p).state state
    hears_so : hears_all (raised limit plan) unit ms (wishing t p) ≡ wishing state (hears_all plan unit ms p)
    notes_are : notes_heard (raised limit plan) unit ms (wishing t p) ≡ notes_heard plan unit ms p

  hears_above : (unit : ℕ) (ms : List Content) (p : Prompt) (t : State) → Above plan p.state t → HearsAbove unit ms p t
  hears_above unit [] p t a = record { state = t; above = a; hears_so = refl; notes_are = refl }
  hears_above unit (m ∷ ms) p t a =
      let h : Option Heard = Some (heard_as unit m) in
      let is = received h p t a in
      let r = hears_above unit ms (hears plan unit m p) (came_to (raised limit plan) h t) (came_above h p.state t a) in record {
        state = r.state;
        above = r.above;
        hears_so = ap (hears_all (raised limit plan) unit ms) is ∙ r.hears_so;
        notes_are = ap₂ (λ (l k : List Note). l ++ k) (notes_same plan h p.state t a)
            (ap (notes_heard (raised limit plan) unit ms) is ∙ r.notes_are);
      }

  -- What a killed automation goes on as, over a new connection.

  record GoesAbove (e on : Ends) (t : State) : Type 0 where
    state : State
    above : Above plan on.automation.state state
    goes : GoesOn (raised limit plan) (with_state t e) (with_state state on)

  goes_above : (e on : Ends) (t : State) → Above plan e.automation.state t → GoesOn plan e on → GoesAbove e on t
  goes_above e _ t a as_noted = record { state = t; above = a; goes = as_noted }
  goes_above e _ _ same (as_announced h says) =
      let s : State = taken (ticked e.automation.state) in
      let came : came_to (raised limit plan) (Some h) s ≡ came_to plan (Some h) s =
      comes_to plan limit (Some h) s few
      (gives_on plan (came_to plan (Some h) s).stop (came_to plan (Some h) s).stage command.Play says.plays) in
      let asked : Ends = with_call Take (with_command plan e) in record {
        state = ticked (came_again plan h e.automation.state);
        above = same;
        goes = subst (GoesOn (raised limit plan) e)
            (ap (λ (x : State). with_command plan (with_automation (record {
              held = e.automation.held;
              state = x;
              log = logged e.automation.log (ended_by plan (Some h) s);
            }) (notes_ended plan (Some h) s) asked)) came)
            (as_announced h (record { last = says.last; plays = ap (given plan) came ∙ says.plays }));
      }
  goes_above e _ t (ended outcome is none) (as_announced h says) =
      let s : State = taken (ticked e.automation.state) in
      let over : s.stage ≡ Ended outcome =
      ap (λ (x : Stage). (tick_in x e.automation.state).stage) is ∙ is in
      absurd (none_some (sym (ap (given plan) (still plan (Some h) s outcome over) ∙ ap (given_in plan s.stop) over) ∙ says.plays))

  connects_above : (q : ClockedPort) (e : Ends) (t : State) → Above plan e.automation.state t
      → connected_anew (raised limit plan) q (with_state t e)
      ≡ with_state (came_to (raised limit plan) None t) (connected_anew plan q e)
  connects_above q e t a =
      ap (λ (o : Option Exchange). record (with_state (came_to (raised limit plan) None t) (connected_anew plan q e)) {
        log_before = e.log_before ++ logged e.automation.log o;
        notes = e.notes ++ map note_for (end_notes o);
      }) (ends_same plan None e.automation.state t a)

  -- Each step.

  module _ (port : ClockedPort) (asked : List Command) where
    abbrev Joined : Ends → Type 0
    Joined e = AreJoined (raised limit plan) port asked e

    record AreAbove (e : Ends) : Type 0 where
      state : State
      above : Above plan e.automation.state state
      joined : Joined (with_state state e)

    gives_above : (e : Ends) (t : State) → Above plan e.automation.state t → Joined (with_state t e) → AreAbove (with_command plan e)
    gives_above e _ same j = record { state = ticked e.automation.state; above = same; joined = went_on j gave }
    gives_above e t (ended outcome is none) j =
        let s : State = e.automation.state in record {
          state = t;
          above = ended outcome (ap (λ (x : Stage). (tick_in x s).stage) is ∙ is) none;
          joined = subst Joined
              (sym (ap (λ (o : Option Command). record (with_state t e) {
                sent = e.sent ++ option_to_list o;
                notes = e.notes ++ map note_for (given_notes o);
              }) (ap (given_in plan s.stop) is)
              ∙ ap₂ (λ (c : List Command) (n : List Note). record (with_state t e) { sent = c; notes = n })
              (append-nil e.sent) (append-nil e.notes))) j;
        }

    asks_above : (e : Ends) (t : State) (q : Question) (c : Command) → Above plan e.automation.state t → Joined (with_state t e)
        → asked_in plan q e.automation.state.stage ≡ Some c → AreAbove (sending (c ∷ []) e)
    asks_above e _ q c same j is = record { state = e.automation.state; above = same; joined = went_on j (asks q c is) }
    asks_above e t q c (ended outcome over none) j is =
        absurd (none_some (sym (ap (asked_in plan q) over) ∙ is))

    up_above : (e : Ends) (t : State) (piece rest : List ℕ) → Above plan e.automation.state t → Joined (with_state t e)
        → sent_up e ≡ e.ups ++ (piece ++ rest) → AreAbove (with_up piece (with_automation
        (holding (held_after e.automation.held piece) (hears_all plan port.state.unit (completed e.automation.held piece) e.automation))
        (notes_heard plan port.state.unit (completed e.automation.held piece) e.automation) e))
    up_above e t piece rest a j is =
        let p : Prompt = e.automation in
        let r = hears_above port.state.unit (completed p.held piece) p t a in record {
          state = r.state;
          above = r.above;
          joined = subst Joined
              (ap₂ (λ (q : Prompt) (n : List Note). with_up piece (with_automation (holding (held_after p.held piece) q) n e))
              r.hears_so r.notes_are) (went_on j (came_up piece rest is));
        }

    waits_above : (e : Ends) (t : State) → Above plan e.automation.state t → Joined (with_state t e)
        → AreAbove (with_automation (holding (held_after_silence e.automation.held) (receives plan None e.automation))
        (notes_ended plan None e.automation.state) e)
    waits_above e t a j =
        let p : Prompt = e.automation in record {
          state = came_to (raised limit plan) None t;
          above = came_above None p.state t a;
          joined = subst Joined
              (ap₂ (λ (q : Prompt) (n : List Note). with_automation (holding (held_after_silence p.held) q) n e)
              (received None p t a) (notes_same plan None p.state t a)) (went_on j waited);
        }

    calls_above : (e : Ends) (t : State) (c : Call) → Above plan e.automation.state t → Joined (with_state t e)
        → outcome_of e.automation.state.stage ≡ None → AreAbove (with_call c e)
    calls_above e _ c same j on =
        record { state = called c e.automation.state; above = same; joined = went_on j (calls c on) }
    calls_above e t c (ended outcome over none) j on = absurd (none_some (sym on ∙ ap outcome_of over))

    above : (e : Ends) → AreJoined plan port asked e → AreAbove e
    above _ begun = record { state = start; above = same; joined = begun }
    above _ (went_on {e} j gave) = let r = above e j in gives_above e r.state r.above r.joined
    above _ (went_on {e} j (asks q c is)) = let r = above e j in asks_above e r.state q c r.above r.joined is
    above _ (went_on {e} j (came_up piece rest is)) =
        let r = above e j in up_above e r.state piece rest r.above r.joined is
    above _ (went_on {e} j (came_down piece rest is)) =
        let r = above e j in record { state = r.state; above = r.above; joined = went_on r.joined (came_down piece rest is) }
    above _ (went_on {e} j waited) = let r = above e j in waits_above e r.state r.above r.joined
    above _ (went_on {e} j passed) =
        let r = above e j in record { state = r.state; above = r.above; joined = went_on r.joined passed }
    above _ (went_on {e} j paused) =
        let r = above e j in record { state = r.state; above = r.above; joined = went_on r.joined paused }
    above _ (went_on {e} j shut) =
        let r = above e j in record { state = r.state; above = r.above; joined = went_on r.joined shut }
    above _ (went_on {e} j (calls c on)) = let r = above e j in calls_above e r.state c r.above r.joined on
    above _ (went_on {e} j (resumed {on} goes)) =
        let r = above e j in
        let g = goes_above e on r.state r.above goes in record {
          state = came_to (raised limit plan) None g.state;
          above = came_above None on.automation.state g.state g.above;
          joined = subst Joined (connects_above (port_now on) on g.state g.above) (went_on r.joined (resumed g.goes));
        }
    above _ (went_on {e} j (restarted {on} goes)) =
        let r = above e j in
        let g = goes_above e on r.state r.above goes in record {
          state = came_to (raised limit plan) None g.state;
          above = came_above None on.automation.state g.state g.above;
          joined = subst Joined (connects_above (made_anew (port_now on)) on g.state g.above) (went_on r.joined (restarted g.goes));
        }

same_if : (plan : Plan) (s t : State) → Above plan s t → outcome_of s.stage ≡ None → t ≡ s
same_if plan s _ same on = refl
same_if plan s t (ended outcome over none) on = absurd (none_some (sym on ∙ ap outcome_of over))

ready_if : (plan : Plan) (s t : State) → Above plan s t → awaited plan s ≡ None → awaited plan t ≡ None
ready_if plan s _ same none = none
ready_if plan s t (ended outcome over ready) none = ready

pub are_joined : (plan : Plan) (limit : ℕ) (port : ClockedPort) (asked : List Command) (e : Ends) → plan.limit ≤ limit
    → AreJoined plan port asked e → AreAlsoJoined (raised limit plan) port asked e
are_joined plan limit port asked e few j =
    let r = above plan limit few port asked e j in record {
      state = r.state;
      joined = r.joined;
      same = same_if plan e.automation.state r.state r.above;
      ready = ready_if plan e.automation.state r.state r.above;
    }
