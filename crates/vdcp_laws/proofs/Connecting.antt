-- The two ends, over one connection after another and over kills, and the late channel beside them.
use Rattle.std.proofs.Common.{arith, ℕ, ◌≡◌, ◌<◌, ◌≤◌, inr, All, List, [], ◌∷◌, ◌++◌, map, refl, sym, ap, ap₂, subst, ◌∙◌, append-nil}
use Rattle.std.proofs.lemmas.List.Elements.{All-cons, All-head, All-nil, All-tail}
use Rattle.std.specs.Prelude.{Some, None, is_some}
use Rattle.vdcp_frame.specs.Message.{Content, Fits, spelling}
use Rattle.vdcp_words.specs.Commands.{command_message}
use Rattle.vdcp_words.specs.declared.command.Command.{Command}
use Rattle.vdcp_words.specs.declared.command.Command.TheVariants as command
use Rattle.vdcp_port.specs.Clock.{ClockedPort}
use Rattle.vdcp_auto.specs.Course.{logged}
use Rattle.vdcp_auto.specs.Plan.{Plan}
use Rattle.vdcp_auto.specs.State.{State}
use Rattle.vdcp_auto.specs.Turn.{came_to, ended_by, given, is_ready, outcome_of, taken, ticked}
use Rattle.vdcp_auto.specs.declared.exchange.Exchange.{Exchange}
use Rattle.vdcp_auto.specs.declared.exchange.Heard.{Heard}
use Rattle.vdcp_journal.specs.declared.row.Note.{Note}
use Rattle.vdcp_journal.specs.declared.row.Note.TheVariants as note
use Rattle.vdcp_journal_file.specs.Recorded.{note_for}
use Rattle.vdcp_drive.specs.Auto.{called}
use Rattle.vdcp_drive.specs.Serving.{Service}
use Rattle.vdcp_drive.specs.declared.hooks.Call.{Call}
use Rattle.vdcp_drive.specs.declared.hooks.Call.TheVariants as call
use Rattle.vdcp_drive.specs.declared.hooks.Kept.TheVariants as kept
use Rattle.vdcp_laws.specs.Announced.{Announces, came_again}
use Rattle.vdcp_laws.specs.Below.{Laws}
use Rattle.vdcp_laws.specs.Kills as kills
use Rattle.vdcp_laws.specs.Kills.{IsRun, happened, said, silence_notes}
use Rattle.vdcp_drive.specs.Reading.{holds}
use Rattle.vdcp_drive.specs.ServerEars.{in_stream}
use Rattle.vdcp_world.specs.LateLine.LateChannel.{AsksOnly, LateChannel, IsQuestion, after_late_event, command_bursts, made_anew, new_late_channel}
use Rattle.vdcp_world.specs.LateLine.LateEvent as event
use Rattle.vdcp_laws.specs.TwoEnds.{AreJoined, begun, went_on, gave, asks, came_up, came_down, waited, passed, paused, shut, calls, resumed, restarted}
use Rattle.vdcp_laws.specs.TwoEnds.{GoesOn, as_announced, as_noted}
use Rattle.vdcp_laws.specs.TwoEnds.{CanJoin, Ends, IsLateChannel, aired_now, connected_anew, log_now, new_ends, port_now, sent_down, with_call, heard_again}
use Rattle.vdcp_laws.proofs.Bytes.{nothing_unfinished}
use Rattle.vdcp_laws.proofs.Noting.{are_reached}
use Rattle.vdcp_laws.proofs.Queues.{Takes, bytes_to, logged_behind, loses_down, loses_up, messages_to, nothing_taken, with_queues}
use Rattle.vdcp_laws.proofs.Asks.{asks_next, writable}
use Rattle.vdcp_laws.proofs.Announced.{again_of, plays_so, sent_of}
use Rattle.vdcp_laws.proofs.Held.{ahead}
use Rattle.vdcp_laws.proofs.Journaled.{run_reached}
use Rattle.vdcp_laws.proofs.Killed.{again_noted, gives_ready}
use Rattle.vdcp_laws.proofs.Running.{loses_down_so, loses_up_so, no_notes, silent_so}
use Rattle.vdcp_laws.proofs.Joining.{AreBeside, IsBeside, comes_down, comes_up, gives_next, passes, pauses, shuts, times_out, wishes}

-- Connections.

-- what is asked can be written, and is all that may be on its way at the start
pub record AreAsked (plan : Plan) (unit : ℕ) (asked : List Command) : Type 0 where
  pub fits : All Fits (messages_to unit asked)
  pub only : All (AsksOnly plan unit) (map spelling (messages_to unit asked))

are_asked : (law : Laws) (plan : Plan) (unit : ℕ) (asked : List Command) → unit ≤ 15 → plan.port < 256
    → All (IsQuestion plan.port) asked → AreAsked plan unit asked
are_asked law plan unit [] small port only =
    record { fits = All-nil Fits; only = All-nil (AsksOnly plan unit) }
are_asked law plan unit (c ∷ cs) small port only =
    let rest = are_asked law plan unit cs small port (All-tail (IsQuestion plan.port) c cs only) in
    let q = All-head (IsQuestion plan.port) c cs only in
    let m : Content = command_message unit c in
    let fit : Fits m = law.written.command unit c small (writable plan.port c port q) in
    record {
      fits = All-cons Fits m (messages_to unit cs) fit rest.fits;
      only = All-cons (AsksOnly plan unit) (spelling m) (map spelling (messages_to unit cs))
          (inr (c, q, law.spelt.alone m fit)) rest.only;
    }

-- the channel beside two new ends has what was asked on its way down
abbrev pub first_channel : Plan → ClockedPort → List Command → LateChannel
first_channel plan port asked =
    new_late_channel plan port (map spelling (messages_to port.state.unit asked)) []

pub begins : (law : Laws) (plan : Plan) (port : ClockedPort) (asked : List Command) → CanJoin plan port asked
    → IsBeside plan port (new_ends port asked) (first_channel plan port asked)
begins law plan port asked can =
    let unit : ℕ = port.state.unit in
    let q = are_asked law plan unit asked can.can_start.unit_fits can.can_start.port_fits can.only_asks in
    record {
      run = kills.begun plan port (map spelling (messages_to unit asked)) [] (record {
        some = can.can_start.some;
        few = can.can_start.few;
        unit_fits = can.can_start.unit_fits;
        port_fits = can.can_start.port_fits;
        of_bytes = can.can_start.of_bytes;
        nothing_cued = can.can_start.nothing_cued;
        asked = q.only;
        answered = can.can_start.answered;
      });
      plan_is = refl;
      unit_is = refl;
      clips_are = refl;
      state_is = refl;
      log_is = refl;
      aired_is = refl;
      held = holds [];
      server_is = refl;
      downwards = record {
        done = [];
        left = messages_to unit asked;
        held = [];
        fits = q.fits;
        sent_is = bytes_to unit asked;
        came_is = refl;
        at_is = refl;
        unfinished = nothing_unfinished law.spelt;
        queue_is = refl;
        behind = sent_down unit (new_ends port asked);
        sent_on = refl;
      };
      upwards = nothing_taken law.spelt;
      fits = q.fits;
      fewer = omega arith;
    }

-- the channel whose queues are lost, and whose time is up
abbrev lost : LateChannel → LateChannel
lost c = after_late_event (with_queues c [] []) event.Timeout

lost_so : (c : LateChannel) (notes : List Note) → IsRun c notes → IsRun (lost c) (notes ++ silence_notes c)
lost_so c notes run =
    happened (subst (λ (x : LateChannel). IsRun x notes) (loses_up [] c.up c)
    (loses_up_so c.up (with_queues c [] c.up) notes (subst (λ (x : LateChannel). IsRun x notes) (loses_down c.down c.up c)
    (loses_down_so c.down c notes run)))) event.Timeout tt

connects : (law : Laws) (plan : Plan) (port : ClockedPort) (e : Ends) (c d : LateChannel) (q : ClockedPort)
    → IsBeside plan port e c → IsRun d (e.notes ++ silence_notes c) → d ≡ record (lost c) { port = d.port } → d.port ≡ q
    → d.port.state.unit ≡ port.state.unit → d.port.clips ≡ port.clips
    → IsBeside plan port (connected_anew plan q e) d
connects law plan port e c d q b run same is unit clips =
    let s : State = e.automation.state in
    let anew : Ends = connected_anew plan q e in
    let time : came_to c.plan None c.state ≡ came_to plan None s =
    ap₂ (λ (m : Plan) (t : State). came_to m None t) b.plan_is b.state_is in
    let ended : logged c.log (ended_by c.plan None c.state) ≡ log_now anew =
    ap₂ (λ (m : Plan) (t : State). logged c.log (ended_by m None t)) b.plan_is b.state_is
    ∙ ap (λ (l : List Exchange). logged l (ended_by plan None s)) b.log_is
    ∙ logged_behind e.log_before e.automation.log (ended_by plan None s)
    ∙ sym (append-nil (e.log_before ++ logged e.automation.log (ended_by plan None s))) in
    record {
      run = subst (λ (l : List Note). IsRun d (e.notes ++ l)) (silent_so c plan s b.plan_is b.state_is) run;
      plan_is = ap (λ (x : LateChannel). x.plan) same ∙ b.plan_is;
      unit_is = unit;
      clips_are = clips;
      state_is = ap (λ (x : LateChannel). x.state) same ∙ time;
      log_is = ap (λ (x : LateChannel). x.log) same ∙ ended;
      aired_is = ap (λ (x : LateChannel). x.aired) same ∙ b.aired_is ∙ sym (append-nil (aired_now e));
      held = holds [];
      server_is = ap (λ (p : ClockedPort). record { port = p; ear = in_stream (holds []) }) (sym is);
      downwards = subst (Takes [] [] (holds [])) (sym (ap (λ (x : LateChannel). x.down) same)) (nothing_taken law.spelt);
      upwards = subst (Takes [] [] (holds [])) (sym (ap (λ (x : LateChannel). x.up) same)) (nothing_taken law.spelt);
      fits = All-nil Fits;
      fewer = omega arith;
    }

-- The operator's calls.

runs_called : (c : LateChannel) (notes : List Note) (x : Call) → IsRun c notes → outcome_of c.state.stage ≡ None
    → IsRun (record c { state = called x c.state }) (notes ++ note_for (kept.Called x) ∷ [])
runs_called c notes call.Take run on = happened run event.Take on
runs_called c notes call.Stop run on = happened run event.Stop on
runs_called c notes (call.List x) run on = said run x on

pub heeds : (plan : Plan) (port : ClockedPort) (e : Ends) (c : LateChannel) (x : Call)
    → outcome_of e.automation.state.stage ≡ None → IsBeside plan port e c
    → IsBeside plan port (with_call x e) (record c { state = called x c.state })
heeds plan port e c x on b =
    wishes plan port e c (called x c.state) (called x e.automation.state) (note_for (kept.Called x) ∷ []) b
    (ap (called x) b.state_is)
    (runs_called c e.notes x b.run (ap (λ (s : State). outcome_of s.stage) b.state_is ∙ on))

-- What an automation goes on as that is killed.

-- what was heard last is heard once more, after a take
hears_again : (law : Laws) (plan : Plan) (port : ClockedPort) (asked : List Command) (e : Ends) (c : LateChannel)
    (h : Heard) → CanJoin plan port asked
    → is_some (given plan e.automation.state) ≡ is_ready e.automation.state.stage
    → Announces plan e.automation.state e.notes h → IsBeside plan port e c → AreBeside plan port (heard_again plan h e)
hears_again law plan port asked e c h can ready a b =
    let unit : ℕ = port.state.unit in
    let s : State = e.automation.state in
    let g = gives_next law plan port asked e c can ready b in
    let d : LateChannel =
    ahead c (came_to c.plan (Some h) (taken (ticked c.state)))
    (logged c.log (ended_by c.plan (Some h) (taken (ticked c.state))))
    (command_bursts c.port.state.unit (given c.plan c.state)) in
    let notes : sent_of (given c.plan c.state) ≡ sent_of (given plan s) = ap sent_of (ap₂ given b.plan_is b.state_is) in
    record {
      channel = d;
      beside = record {
        run = subst (IsRun d)
            (ap (λ (l : List Note). e.notes ++ (l ++ note.Take ∷ note.Heard h ∷ [])) notes ∙ sym (again_noted plan e h a))
            (again_of law.stays h c e.notes b.run a.last
            (plays_so h c.plan plan c.state s (sym b.plan_is) (sym b.state_is) a.plays));
        plan_is = b.plan_is;
        unit_is = b.unit_is;
        clips_are = b.clips_are;
        state_is = ap₂ (λ (q : Plan) (x : State). came_to q (Some h) (taken (ticked x))) b.plan_is b.state_is;
        log_is = ap₂ (λ (q : Plan) (x : State). logged c.log (ended_by q (Some h) (taken (ticked x)))) b.plan_is b.state_is
            ∙ ap (λ (l : List Exchange). logged l (ended_by plan (Some h) (taken (ticked s)))) b.log_is
            ∙ logged_behind e.log_before e.automation.log (ended_by plan (Some h) (taken (ticked s)));
        aired_is = b.aired_is;
        held = g.held;
        server_is = g.server_is;
        downwards = g.downwards;
        upwards = b.upwards;
        fits = g.fits;
        fewer = b.fewer;
      };
    }

goes_beside : (law : Laws) (plan : Plan) (port : ClockedPort) (asked : List Command) (e on : Ends) (c : LateChannel)
    → CanJoin plan port asked → is_some (given plan e.automation.state) ≡ is_ready e.automation.state.stage
    → IsBeside plan port e c → GoesOn plan e on → AreBeside plan port on
goes_beside law plan port asked e _ c can ready b as_noted = record { channel = c; beside = b }
goes_beside law plan port asked e _ c can ready b (as_announced h a) =
    let r = hears_again law plan port asked e c h can ready a b in
    let s : State = came_again plan h e.automation.state in record {
      channel = _;
      beside = gives_next law plan port asked (heard_again plan h e) r.channel can
          (ap is_some a.plays ∙ sym (gives_ready plan s.stop s.stage command.Play a.plays)) r.beside;
    }

-- what is given next, as all calls of a controller lead to it
pub ready : (law : Laws) (plan : Plan) (port : ClockedPort) (asked : List Command) (e : Ends) → CanJoin plan port asked
    → AreJoined plan port asked e → is_some (given plan e.automation.state) ≡ is_ready e.automation.state.stage
ready law plan port asked e can j =
    (law.lawful plan e.automation.state (log_now e) (are_reached plan port asked e can j)).gives

-- All steps.

pub beside : (law : Laws) (plan : Plan) (port : ClockedPort) (asked : List Command) (e : Ends) → CanJoin plan port asked
    → AreJoined plan port asked e → AreBeside plan port e
beside law plan port asked _ can begun =
    record { channel = first_channel plan port asked; beside = begins law plan port asked can }
beside law plan port asked _ can (went_on {e} j gave) =
    let r = beside law plan port asked e can j in
    record { channel = _; beside = gives_next law plan port asked e r.channel can (ready law plan port asked e can j) r.beside }
beside law plan port asked _ can (went_on {e} j (asks q d is)) =
    let r = beside law plan port asked e can j in
    record { channel = _; beside = asks_next law plan port asked e r.channel q d can is r.beside }
beside law plan port asked _ can (went_on {e} j (came_up piece rest is)) =
    let r = beside law plan port asked e can j in
    record { channel = _; beside = (comes_up law plan port e piece rest r.channel r.beside is).beside }
beside law plan port asked _ can (went_on {e} j (came_down piece rest is)) =
    let r = beside law plan port asked e can j in
    record { channel = _; beside = (comes_down law plan port asked e piece rest r.channel can r.beside is).beside }
beside law plan port asked _ can (went_on {e} j waited) =
    let r = beside law plan port asked e can j in record { channel = _; beside = times_out plan port e r.channel r.beside }
beside law plan port asked _ can (went_on {e} j passed) =
    let r = beside law plan port asked e can j in record { channel = _; beside = passes law plan port e r.channel r.beside }
beside law plan port asked _ can (went_on {e} j paused) =
    let r = beside law plan port asked e can j in record { channel = r.channel; beside = pauses law plan port e r.channel r.beside }
beside law plan port asked _ can (went_on {e} j shut) =
    let r = beside law plan port asked e can j in
    record { channel = r.channel; beside = shuts law plan port e r.channel r.beside }
beside law plan port asked _ can (went_on {e} j (calls x on)) =
    let r = beside law plan port asked e can j in
    record { channel = _; beside = heeds plan port e r.channel x on r.beside }
beside law plan port asked _ can (went_on {e} j (resumed {on} goes)) =
    let r = beside law plan port asked e can j in
    let g = goes_beside law plan port asked e on r.channel can (ready law plan port asked e can j) r.beside goes in
    let c : LateChannel = g.channel in record {
      channel = lost c;
      beside = connects law plan port on c (lost c) (port_now on) g.beside (lost_so c on.notes g.beside.run) refl
          (sym (ap (λ (x : Service). x.port) g.beside.server_is)) g.beside.unit_is g.beside.clips_are;
    }
beside law plan port asked _ can (went_on {e} j (restarted {on} goes)) =
    let r = beside law plan port asked e can j in
    let g = goes_beside law plan port asked e on r.channel can (ready law plan port asked e can j) r.beside goes in
    let c : LateChannel = g.channel in record {
      channel = after_late_event (lost c) event.ServerAnew;
      beside = connects law plan port on c (after_late_event (lost c) event.ServerAnew) (made_anew (port_now on)) g.beside
          (no_notes (happened (lost_so c on.notes g.beside.run) event.ServerAnew tt)) refl
          (ap made_anew (sym (ap (λ (x : Service). x.port) g.beside.server_is))) g.beside.unit_is g.beside.clips_are;
    }

pub are_late_channel : (law : Laws) (plan : Plan) (port : ClockedPort) (asked : List Command) (e : Ends) → CanJoin plan port asked
    → AreJoined plan port asked e → IsLateChannel plan port e
are_late_channel law plan port asked e can j =
    let r = beside law plan port asked e can j in record {
      channel = r.channel;
      reached = run_reached law.goes_on r.channel e.notes r.beside.run;
      run = r.beside.run;
      plan_is = r.beside.plan_is;
      state_is = r.beside.state_is;
      log_is = r.beside.log_is;
      port_is = sym (ap (λ (x : Service). x.port) r.beside.server_is);
      clips_are = r.beside.clips_are;
      aired_is = r.beside.aired_is;
    }
