-- The two ends, step by step, and the late channel beside them: each step is some of its events.
use Rattle.std.proofs.Common.{ℕ, ◌≡◌, ◌≤◌, All, List, [], ◌∷◌, ◌++◌, map, refl, sym, ap, ap₂, subst, ◌∙◌, append_assoc, append-nil, arith, length, length-append, suc}
use Rattle.std.proofs.lemmas.Grind.{flat_map-append}
use Rattle.std.proofs.lemmas.List.{length-map, map-append}
use Rattle.std.proofs.lemmas.List.Elements.{All-append, All-cons, All-nil, All-map, All-weaker}
use Rattle.std.specs.Option.{option_to_list}
use Rattle.std.specs.Prelude.{IfSome, Option, Some, None, is_some}
use Rattle.vdcp_value.specs.declared.part.Item.{Item}
use Rattle.vdcp_frame.specs.Message.{Content, Fits, spelling}
use Rattle.vdcp_frame.specs.Reading.{clean}
use Rattle.vdcp_words.specs.Commands.{command_message, IsWritableCommand}
use Rattle.vdcp_words.specs.Replies.{reply_message, IsWritableReply}
use Rattle.vdcp_words.specs.declared.command.Command.{Command}
use Rattle.vdcp_words.specs.declared.reply.Reply.{Reply}
use Rattle.vdcp_port.specs.Answers.{after_messages, aired_on_way, answer_bytes, answers_to}
use Rattle.vdcp_port.specs.Clock.{ClockedPort, after_frame, after_message, answer_to}
use Rattle.vdcp_auto.specs.Course.{logged}
use Rattle.vdcp_auto.specs.Plan.{Plan}
use Rattle.vdcp_auto.specs.State.{State}
use Rattle.vdcp_auto.specs.Turn.{came_to, ended_by, given, is_ready, ticked}
use Rattle.vdcp_auto.specs.declared.exchange.Exchange.{Exchange}
use Rattle.vdcp_journal.specs.declared.row.Note.{Note}
use Rattle.vdcp_wire.specs.Wires.{bytes, silence, close}
use Rattle.vdcp_laws.specs.Kills.{IsRun, happened}
use Rattle.vdcp_laws.specs.Automation.{Prompt, hears_all, listens}
use Rattle.vdcp_drive.specs.Reading.{Held, completed, held_after, held_after_silence}
use Rattle.vdcp_drive.specs.Steps.{command_bytes}
use Rattle.vdcp_drive.specs.Traces.{bytes_of}
use Rattle.vdcp_drive.specs.ServerEars.{in_stream}
use Rattle.vdcp_drive.specs.Served.{aired_at, sent_at}
use Rattle.vdcp_drive.specs.Serving.{Service, items_in, hook_steps, serves}
use Rattle.vdcp_drive.specs.Turns.{Turn, arrivals, listen, frame}
use Rattle.vdcp_world.specs.LateLine.LateChannel.{LateChannel, after_late_event, after_late_events, command_bursts}
use Rattle.vdcp_world.specs.LateLine.LateEvent.{LateEvent}
use Rattle.vdcp_world.specs.LateLine.LateEvent as event
use Rattle.vdcp_laws.specs.TwoEnds.{CanJoin, Ends, aired_now, bytes_in, log_now, sending, sent_down, sent_up, server_new, server_now, notes_ended, notes_heard, wishing, with_automation, with_command, with_down, with_up}
use Rattle.vdcp_laws.specs.AsNew.{messages_in}
use Rattle.vdcp_laws.specs.Below.{Answered, Laws, Written}
use Rattle.vdcp_laws.proofs.Bytes.{spelt}
use Rattle.vdcp_laws.proofs.Queues.{Takes, bursts_to, bytes_from, bytes_to, delivers, downs_of, hears_each, logged_behind, messages_from, messages_to, rests, sends_on, takes_on, ups_of, whole_came_on, whole_sent_on}
use Rattle.vdcp_laws.proofs.Running.{hears_so, no_notes, runs_down, silent_so, ticks_so}
use Rattle.vdcp_laws.proofs.Serving.{bytes_else, bytes_more, clips_frame, clips_stay}

-- the two ends, and the channel beside them; what the server holds
pub record IsBeside (plan : Plan) (start_port : ClockedPort) (e : Ends) (c : LateChannel) : Type 0 where
  pub run : IsRun c e.notes
  pub plan_is : c.plan ≡ plan
  pub unit_is : c.port.state.unit ≡ start_port.state.unit
  pub clips_are : c.port.clips ≡ start_port.clips
  pub state_is : c.state ≡ e.automation.state
  pub log_is : c.log ≡ log_now e
  pub aired_is : c.aired ≡ aired_now e
  pub held : Held
  pub server_is : server_now e ≡ record { port = c.port; ear = in_stream held }
  pub downwards : Takes (sent_down start_port.state.unit e) (bytes_in (arrivals e.downs)) held c.down
  pub upwards : Takes (sent_up e) e.ups e.automation.held c.up
  pub fits : All Fits (messages_to start_port.state.unit e.sent)
  -- the server answers each message once at most
  pub fewer : length (messages_in (sent_up e)) ≤ length (messages_in (bytes_in (arrivals e.downs)))

pub record AreBeside (plan : Plan) (port : ClockedPort) (e : Ends) : Type 0 where
  pub channel : LateChannel
  pub beside : IsBeside plan port e channel

-- of what is on the way some messages have come, each by an event, to ends beside which the channel is then
pub record Comes (plan : Plan) (port : ClockedPort) (e : Ends) (c : LateChannel) (queue : List (List ℕ))
    (events_of : List Content → List LateEvent) : Type 0 where
  pub new : List Content
  pub rest : List (List ℕ)
  pub queue_is : queue ≡ map spelling new ++ rest
  pub beside : IsBeside plan port e (after_late_events c (events_of new))

-- The automation.

pub given_fits : (law : Written) (unit : ℕ) (command : Option Command) → unit ≤ 15 → IfSome command IsWritableCommand
    → All Fits (messages_to unit (option_to_list command))
given_fits law unit None small writable = All-nil Fits
given_fits law unit (Some c) small writable =
    All-cons Fits (command_message unit c) [] (law.command unit c small writable) (All-nil Fits)

-- commands that are given go down

pub sent_more : (unit : ℕ) (e : Ends) (cs : List Command) → sent_down unit (sending cs e) ≡ sent_down unit e ++ bytes_of unit cs
sent_more unit e cs = flat_map-append (command_bytes unit) e.sent cs

pub sent_with : (unit : ℕ) (e : Ends) (cs : List Command)
    → sent_down unit (sending cs e) ≡ sent_down unit e ++ spelt (messages_to unit cs)
sent_with unit e cs = sent_more unit e cs ∙ ap (λ (l : List ℕ). sent_down unit e ++ l) (bytes_to unit cs)

pub more_fit : (unit : ℕ) (cs ds : List Command) → All Fits (messages_to unit cs) → All Fits (messages_to unit ds)
    → All Fits (messages_to unit (cs ++ ds))
more_fit unit cs ds these those =
    subst (All Fits) (sym (map-append (command_message unit) cs ds))
    (All-append Fits (messages_to unit cs) (messages_to unit ds) these those)

pub goes_down : (plan : Plan) (port : ClockedPort) (e : Ends) (c : LateChannel) (b : IsBeside plan port e c)
    (o now : Option Command) → o ≡ now → All Fits (messages_to port.state.unit (option_to_list o))
    → Takes (sent_down port.state.unit (sending (option_to_list o) e)) (bytes_in (arrivals e.downs)) b.held
    (c.down ++ command_bursts c.port.state.unit now)
goes_down plan port e c b o now is fits =
    let unit : ℕ = port.state.unit in
    let came : List ℕ = bytes_in (arrivals e.downs) in
    let ms : List Content = messages_to unit (option_to_list o) in
    subst (λ (l : List ℕ). Takes l came b.held (c.down ++ command_bursts c.port.state.unit now))
    (sym (sent_with unit e (option_to_list o)))
    (subst (λ (q : List (List ℕ)). Takes (sent_down unit e ++ spelt ms) came b.held (c.down ++ q))
    (sym (bursts_to unit o) ∙ ap₂ command_bursts (sym b.unit_is) is)
    (sends_on ms (sent_down unit e) came b.held c.down b.downwards fits))

pub gives_next : (law : Laws) (plan : Plan) (port : ClockedPort) (asked : List Command) (e : Ends) (c : LateChannel)
    → CanJoin plan port asked → is_some (given plan e.automation.state) ≡ is_ready e.automation.state.stage
    → IsBeside plan port e c → IsBeside plan port (with_command plan e) (after_late_event c event.Tick)
gives_next law plan port asked e c can ready b =
    let unit : ℕ = port.state.unit in
    let s : State = e.automation.state in
    let given_is : given c.plan c.state ≡ given plan s = ap₂ given b.plan_is b.state_is in
    let fits = given_fits law.written unit (given plan s) can.can_start.unit_fits
    (law.written.given plan s can.can_start.of_bytes can.can_start.port_fits) in
    record {
      run = ticks_so c e.notes (given plan s) given_is (ready ∙ ap (λ (x : State). is_ready x.stage) (sym b.state_is)) b.run;
      plan_is = b.plan_is;
      unit_is = b.unit_is;
      clips_are = b.clips_are;
      state_is = ap ticked b.state_is;
      log_is = b.log_is;
      aired_is = b.aired_is;
      held = b.held;
      server_is = b.server_is;
      downwards = goes_down plan port e c b (given plan s) (given c.plan c.state) (sym given_is) fits;
      upwards = b.upwards;
      fits = more_fit unit e.sent (option_to_list (given plan s)) b.fits fits;
      fewer = b.fewer;
    }

-- a time-out
pub times_out : (plan : Plan) (port : ClockedPort) (e : Ends) (c : LateChannel) → IsBeside plan port e c
    → IsBeside plan port
    (with_automation (listens plan port.state.unit silence e.automation) (notes_ended plan None e.automation.state) e)
    (after_late_event c event.Timeout)
times_out plan port e c b = record {
  run = subst (λ (l : List Note). IsRun (after_late_event c event.Timeout) (e.notes ++ l))
      (silent_so c plan e.automation.state b.plan_is b.state_is) (happened b.run event.Timeout tt);
  plan_is = b.plan_is;
  unit_is = b.unit_is;
  clips_are = b.clips_are;
  state_is = ap₂ (λ (q : Plan) (s : State). came_to q None s) b.plan_is b.state_is;
  log_is = ap₂ (λ (q : Plan) (s : State). logged c.log (ended_by q None s)) b.plan_is b.state_is
      ∙ ap (λ (l : List Exchange). logged l (ended_by plan None e.automation.state)) b.log_is
      ∙ logged_behind e.log_before e.automation.log (ended_by plan None e.automation.state);
  aired_is = b.aired_is;
  held = b.held;
  server_is = b.server_is;
  downwards = b.downwards;
  upwards = rests (sent_up e) e.ups e.automation.held c.up b.upwards;
  fits = b.fits;
  fewer = b.fewer;
}

-- bytes come up: each message that they complete is delivered
pub comes_up : (law : Laws) (plan : Plan) (port : ClockedPort) (e : Ends) (piece rest : List ℕ) (c : LateChannel)
    → IsBeside plan port e c → sent_up e ≡ e.ups ++ (piece ++ rest)
    → Comes plan port (with_up piece (with_automation (listens plan port.state.unit (bytes piece) e.automation)
    (notes_heard plan port.state.unit (completed e.automation.held piece) e.automation) e)) c c.up ups_of
comes_up law plan port e piece rest c b is =
    let unit : ℕ = port.state.unit in
    let p : Prompt = e.automation in
    let on = takes_on law.spelt law.completed (sent_up e) e.ups p.held c.up b.upwards piece rest is in
    let d : LateChannel = after_late_events c (ups_of on.new) in
    let h = hears_each law.spelt plan unit e.log_before on.new on.rest p c on.fits b.plan_is b.unit_is b.state_is b.log_is
    on.queue_is in
    record {
      new = on.new;
      rest = on.rest;
      queue_is = on.queue_is;
      beside = record {
        run = subst (λ (l : List Content). IsRun d (e.notes ++ notes_heard plan unit l p)) (sym on.new_is)
            (hears_so law.spelt plan unit on.new on.rest p c e.notes on.fits b.plan_is b.unit_is b.state_is on.queue_is
            b.run);
        plan_is = h.plan_is ∙ b.plan_is;
        unit_is = ap (λ (q : ClockedPort). q.state.unit) h.port_is ∙ b.unit_is;
        clips_are = ap (λ (q : ClockedPort). q.clips) h.port_is ∙ b.clips_are;
        state_is = h.state_is ∙ ap (λ (l : List Content). (hears_all plan unit l p).state) (sym on.new_is);
        log_is = h.log_is ∙ ap (λ (l : List Content). e.log_before ++ (hears_all plan unit l p).log) (sym on.new_is);
        aired_is = h.aired_is ∙ b.aired_is;
        held = b.held;
        server_is = b.server_is
            ∙ ap (λ (q : ClockedPort). record { port = q; ear = in_stream b.held }) (sym h.port_is);
        downwards = subst (Takes (sent_down unit e) (bytes_in (arrivals e.downs)) b.held) (sym h.down_is) b.downwards;
        upwards = subst (Takes (sent_up e) (e.ups ++ piece) (held_after p.held piece)) (sym h.up_is) on.takes;
        fits = b.fits;
        fewer = b.fewer;
      };
    }

-- a wish of the operator, which changes neither what was sent nor what is held
pub wishes : (plan : Plan) (port : ClockedPort) (e : Ends) (c : LateChannel) (state now : State) (notes : List Note)
    → IsBeside plan port e c → state ≡ now → IsRun (record c { state = state }) (e.notes ++ notes)
    → IsBeside plan port (with_automation (wishing now e.automation) notes e) (record c { state = state })
wishes plan port e c state now notes b is run = record {
  run = run;
  plan_is = b.plan_is;
  unit_is = b.unit_is;
  clips_are = b.clips_are;
  state_is = is;
  log_is = b.log_is;
  aired_is = b.aired_is;
  held = b.held;
  server_is = b.server_is;
  downwards = b.downwards;
  upwards = b.upwards;
  fits = b.fits;
  fewer = b.fewer;
}

-- The server.

pub answers_fit : (written : Written) (answered : Answered) (unit : ℕ) (p : ClockedPort) (ms : List Content) → unit ≤ 15
    → All Fits (messages_from unit (answers_to p ms))
answers_fit written answered unit p ms small =
    All-map Fits (reply_message unit) (answers_to p ms)
    (All-weaker IsWritableReply (λ r. Fits (reply_message unit r)) (λ r w. written.reply unit r small w)
    (answers_to p ms)
    (subst (All IsWritableReply) (append-nil (answers_to p ms)) (answered.read_back p ms clean)))

few_answers : (p : ClockedPort) (ms : List Content) → length (answers_to p ms) ≤ length ms
few_answers p [] = omega arith
few_answers p (m ∷ ms) = by (answer_to p m) (answers_to (after_message p m) ms) (few_answers (after_message p m) ms) where
  by : (o : Option Reply) (later : List Reply) → length later ≤ length ms → length (option_to_list o ++ later) ≤ suc (length ms)
  by None later less = omega (arith, less)
  by (Some r) later less = omega (arith, less)

-- Bytes come down: each command that they complete is delivered.
pub comes_down : (law : Laws) (plan : Plan) (port : ClockedPort) (asked : List Command) (e : Ends) (piece rest : List ℕ)
    (c : LateChannel) → CanJoin plan port asked → IsBeside plan port e c
    → sent_down port.state.unit e ≡ bytes_in (arrivals e.downs) ++ (piece ++ rest)
    → Comes plan port (with_down (listen (bytes piece)) e) c c.down downs_of
comes_down law plan port asked e piece rest c can b is =
    let unit : ℕ = port.state.unit in
    let what : Turn = listen (bytes piece) in
    let sent : List ℕ = sent_down unit e in
    let came : List ℕ = bytes_in (arrivals e.downs) in
    let on = takes_on law.spelt law.completed sent came b.held c.down b.downwards piece rest is in
    let new : List Content = on.new in
    let held : Held = held_after b.held piece in
    let d : LateChannel = after_late_events c (downs_of new) in
    let r = delivers law.answered unit new on.rest c on.fits b.unit_is on.queue_is in
    let answers : List Content = messages_from unit (answers_to c.port new) in
    let items : List Item = items_in (hook_steps (server_new e) e.downs) in
    let s = law.happens (server_new e) e.downs what in
    let fits : All Fits answers = answers_fit law.written law.answered unit c.port new can.can_start.unit_fits in
    let up : sent_up (with_down what e) ≡ sent_up e ++ spelt answers =
    s.sent ∙ ap (λ (x : Service). sent_up e ++ sent_at what x) b.server_is
    ∙ ap (λ (ms : List Content). sent_up e ++ answer_bytes c.port.state.unit (answers_to c.port ms)) on.new_is
    ∙ ap (λ (n : ℕ). sent_up e ++ answer_bytes n (answers_to c.port new)) b.unit_is
    ∙ ap (λ (l : List ℕ). sent_up e ++ l) (bytes_from unit (answers_to c.port new)) in
    let out_so = whole_sent_on law.spelt law.completed (sent_up e) e.ups e.automation.held c.up b.upwards answers fits in
    let came_so : messages_in (came ++ piece) ≡ messages_in came ++ new =
    whole_came_on law.spelt law.completed sent came b.held c.down b.downwards piece
    ∙ ap (λ (l : List Content). messages_in came ++ l) on.new_is in
    record {
      new = new;
      rest = on.rest;
      queue_is = on.queue_is;
      beside = record {
        run = runs_down new c e.notes b.run;
        plan_is = r.plan_is ∙ b.plan_is;
        unit_is = ap (λ (p : ClockedPort). p.state.unit) r.port_is ∙ law.answered.unit_messages c.port new ∙ b.unit_is;
        clips_are = ap (λ (p : ClockedPort). p.clips) r.port_is ∙ clips_stay c.port new ∙ b.clips_are;
        state_is = r.state_is ∙ b.state_is;
        log_is = r.log_is ∙ b.log_is;
        aired_is = r.aired_is
            ∙ ap (λ (l : List Item). l ++ aired_on_way c.port new) b.aired_is
            ∙ append_assoc e.aired_before items (aired_on_way c.port new)
            ∙ ap (λ (l : List Item). e.aired_before ++ l) (sym (s.aired
            ∙ ap (λ (x : Service). items ++ aired_at what x) b.server_is
            ∙ ap (λ (ms : List Content). items ++ aired_on_way c.port ms) on.new_is));
        held = held;
        server_is = s.left ∙ ap (serves what) b.server_is
            ∙ ap (λ (ms : List Content). record { port = after_messages c.port ms; ear = in_stream held }) on.new_is
            ∙ ap (λ (q : ClockedPort). record { port = q; ear = in_stream held }) (sym r.port_is);
        downwards = subst (λ (l : List ℕ). Takes sent l held d.down) (sym (bytes_more e.downs piece))
            (subst (Takes sent (came ++ piece) held) (sym r.down_is) on.takes);
        upwards = subst (λ (l : List ℕ). Takes l e.ups e.automation.held d.up) (sym up)
            (subst (Takes (sent_up e ++ spelt answers) e.ups e.automation.held) (sym r.up_is)
            (sends_on answers (sent_up e) e.ups e.automation.held c.up b.upwards fits));
        fits = b.fits;
        fewer = omega (
          arith,
          b.fewer,
          few_answers c.port new,
          length-map (answers_to c.port new) (reply_message unit),
          ap length (ap messages_in up ∙ out_so),
          length-append (messages_in (sent_up e)) answers,
          ap length (ap messages_in (bytes_more e.downs piece) ∙ came_so),
          length-append (messages_in came) new,
        );
      };
    }

-- What happens to the server without bytes: nothing goes out, and it holds what it held.
happens_so : (law : Laws) (plan : Plan) (port : ClockedPort) (e : Ends) (c : LateChannel) (what : Turn) (p : ClockedPort)
    (held : Held) → (b : IsBeside plan port e c) → bytes_in (arrivals (what ∷ [])) ≡ []
    → sent_at what (record { port = c.port; ear = in_stream b.held }) ≡ []
    → aired_at what (record { port = c.port; ear = in_stream b.held }) ≡ []
    → serves what (record { port = c.port; ear = in_stream b.held }) ≡ record { port = p; ear = in_stream held }
    → Takes (sent_down port.state.unit e) (bytes_in (arrivals e.downs)) held c.down
    → p.state.unit ≡ c.port.state.unit → p.clips ≡ c.port.clips → IsRun (record c { port = p }) e.notes
    → IsBeside plan port (with_down what e) (record c { port = p })
happens_so law plan port e c what p held b no_bytes none no_items goes takes unit clips run =
    let s = law.happens (server_new e) e.downs what in
    let items : List Item = items_in (hook_steps (server_new e) e.downs) in
    let came : bytes_in (arrivals (e.downs ++ what ∷ [])) ≡ bytes_in (arrivals e.downs) = bytes_else e.downs what no_bytes in
    let up : sent_up (with_down what e) ≡ sent_up e =
    s.sent ∙ ap (λ (l : List ℕ). sent_up e ++ l) (ap (sent_at what) b.server_is ∙ none) ∙ append-nil (sent_up e) in
    record {
      run = run;
      plan_is = b.plan_is;
      unit_is = unit ∙ b.unit_is;
      clips_are = clips ∙ b.clips_are;
      state_is = b.state_is;
      log_is = b.log_is;
      aired_is = b.aired_is ∙ ap (λ (l : List Item). e.aired_before ++ l) (sym (s.aired
          ∙ ap (λ (l : List Item). items ++ l) (ap (aired_at what) b.server_is ∙ no_items) ∙ append-nil items));
      held = held;
      server_is = s.left ∙ ap (serves what) b.server_is ∙ goes;
      downwards = subst (λ (l : List ℕ). Takes (sent_down port.state.unit e) l held c.down) (sym came) takes;
      upwards = subst (λ (l : List ℕ). Takes l e.ups e.automation.held c.up) (sym up) b.upwards;
      fits = b.fits;
      fewer = subst (λ (l : List ℕ). length (messages_in (sent_up (with_down what e))) ≤ length (messages_in l)) (sym came)
          (subst (λ (l : List ℕ). length (messages_in l) ≤ length (messages_in (bytes_in (arrivals e.downs)))) (sym up) b.fewer);
    }

-- a frame passes
pub passes : (law : Laws) (plan : Plan) (port : ClockedPort) (e : Ends) (c : LateChannel) → IsBeside plan port e c
    → IsBeside plan port (with_down frame e) (after_late_event c event.Frame)
passes law plan port e c b =
    happens_so law plan port e c frame (after_frame c.port) b.held b refl refl refl refl b.downwards
    (law.answered.unit_frame c.port) (clips_frame c.port) (no_notes (happened b.run event.Frame tt))

-- the server's line is silent, or closed

pub pauses : (law : Laws) (plan : Plan) (port : ClockedPort) (e : Ends) (c : LateChannel) → IsBeside plan port e c
    → IsBeside plan port (with_down (listen silence) e) c
pauses law plan port e c b =
    let w = b.downwards in
    happens_so law plan port e c (listen silence) c.port (held_after_silence b.held) b refl
    (ap (λ (h : Held). sent_at (listen silence) (record { port = c.port; ear = in_stream h })) w.at_is) refl refl
    (rests (sent_down port.state.unit e) (bytes_in (arrivals e.downs)) b.held c.down w) refl refl b.run

pub shuts : (law : Laws) (plan : Plan) (port : ClockedPort) (e : Ends) (c : LateChannel) → IsBeside plan port e c
    → IsBeside plan port (with_down (listen close) e) c
shuts law plan port e c b =
    happens_so law plan port e c (listen close) c.port b.held b refl refl refl refl b.downwards refl refl b.run
