-- What is on its way, as messages: a queue of the late channel has those that haven't wholly come.
use Rattle.std.proofs.Common.{ℕ, ◌≡◌, All, List, [], ◌∷◌, ◌++◌, map, refl, sym, ap, ap₂, subst, ◌∙◌, append_assoc, append-nil}
use Rattle.std.proofs.lemmas.List.{append_cancel_left, map-append}
use Rattle.std.proofs.lemmas.List.Elements.{All-append, All-head, All-nil, All-tail}
use Rattle.std.proofs.lemmas.List.Folds.{flat_map-map}
use Rattle.std.specs.Option.{option_to_list}
use Rattle.std.specs.Prelude.{Option, Some, None}
use Rattle.vdcp_value.specs.declared.part.Item.{Item}
use Rattle.vdcp_frame.specs.Message.{Content, ack, nak, framed, Fits, spelling}
use Rattle.vdcp_frame.specs.Reading.{IsUnfinished}
use Rattle.vdcp_words.specs.Commands.{command_message}
use Rattle.vdcp_words.specs.Replies.{reply_message}
use Rattle.vdcp_words.specs.declared.command.Command.{Command}
use Rattle.vdcp_words.specs.declared.reply.Reply.{Reply}
use Rattle.vdcp_port.specs.Answers.{after_burst, after_messages, aired_for, aired_on_way, answer_bytes, answers_to, sent_for}
use Rattle.vdcp_port.specs.Clock.{ClockedPort, aired_by, after_message, answer_to}
use Rattle.vdcp_auto.specs.Course.{logged}
use Rattle.vdcp_auto.specs.Heard.{heard_as, heard_first, heard_in}
use Rattle.vdcp_auto.specs.Plan.{Plan}
use Rattle.vdcp_auto.specs.State.{State}
use Rattle.vdcp_auto.specs.Turn.{came_to, ended_by}
use Rattle.vdcp_auto.specs.declared.exchange.Exchange.{Exchange}
use Rattle.vdcp_auto.specs.declared.exchange.Heard.{Heard}
use Rattle.vdcp_world.specs.Channel.{state_hearing, log_hearing}
use Rattle.vdcp_drive.specs.Reading.{Held, holds, completed, held_after, held_after_silence}
use Rattle.vdcp_drive.specs.Traces.{bytes_of}
use Rattle.vdcp_laws.specs.Automation.{Prompt, hears, hears_all}
use Rattle.vdcp_world.specs.LateLine.LateChannel.{LateChannel, after_late_event, after_late_events, bursts_of, command_bursts, oldest, without_oldest}
use Rattle.vdcp_world.specs.LateLine.LateEvent.{LateEvent}
use Rattle.vdcp_world.specs.LateLine.LateEvent as event
use Rattle.vdcp_laws.specs.Below.{Answered, Completed, Spelt}
use Rattle.vdcp_laws.specs.AsNew.{messages_in}
use Rattle.vdcp_laws.proofs.Bytes.{completes, fits_rest, front_all, front_of, nothing_unfinished, spells_all, spelt, spelt_both}
use Rattle.vdcp_laws.proofs.Commands.{hears_comes}

-- An end that hears at once: of the messages that were sent to it some came whole, and it holds what came of the next one;
-- the queue has the others.
pub record Takes (sent came : List ℕ) (at : Held) (queue : List (List ℕ)) : Type 0 where
  pub done : List Content
  pub left : List Content
  pub held : List ℕ
  pub fits : All Fits (done ++ left)
  pub sent_is : sent ≡ spelt (done ++ left)
  pub came_is : came ≡ spelt done ++ held
  pub at_is : at ≡ holds held
  pub unfinished : IsUnfinished held
  pub queue_is : queue ≡ map spelling left
  pub behind : List ℕ
  pub sent_on : sent ≡ came ++ behind

-- a piece more came: it completes these messages
pub record TakesOn (sent came piece : List ℕ) (at : Held) (queue : List (List ℕ)) : Type 0 where
  pub new : List Content
  pub rest : List (List ℕ)
  pub fits : All Fits new
  pub new_is : completed at piece ≡ new
  pub queue_is : queue ≡ map spelling new ++ rest
  pub takes : Takes sent (came ++ piece) (held_after at piece) rest

pub takes_on : (law : Spelt) (reads : Completed) (sent came : List ℕ) (at : Held) (queue : List (List ℕ))
    → Takes sent came at queue → (piece rest : List ℕ) → sent ≡ came ++ (piece ++ rest) → TakesOn sent came piece at queue
takes_on law reads sent came at queue w piece rest is =
    let front : List ℕ = spelt w.done in
    let e : front ++ ((w.held ++ piece) ++ rest) ≡ front ++ spelt w.left =
    ap (λ (l : List ℕ). front ++ l) (append_assoc w.held piece rest)
    ∙ sym (append_assoc front w.held (piece ++ rest))
    ∙ ap (λ (l : List ℕ). l ++ (piece ++ rest)) (sym w.came_is)
    ∙ sym is ∙ w.sent_is ∙ spelt_both w.done w.left in
    let fits : All Fits w.left = fits_rest w.done w.left w.fits in
    let f = front_of law w.left fits (w.held ++ piece) rest
    (append_cancel_left front ((w.held ++ piece) ++ rest) (spelt w.left) e) in
    let new_fit : All Fits f.done = front_all Fits f.done f.left (subst (All Fits) f.all_is fits) in
    let r = completes law reads w.held piece f.done f.held w.unfinished new_fit f.unfinished f.front_is in
    let parts : w.done ++ w.left ≡ (w.done ++ f.done) ++ f.left =
    ap (λ (l : List Content). w.done ++ l) f.all_is ∙ sym (append_assoc w.done f.done f.left) in
    record {
      new = f.done;
      rest = map spelling f.left;
      fits = new_fit;
      new_is = ap (λ (h : Held). completed h piece) w.at_is ∙ r.0;
      queue_is = w.queue_is ∙ ap (map spelling) f.all_is ∙ map-append spelling f.done f.left;
      takes = record {
        done = w.done ++ f.done;
        left = f.left;
        held = f.held;
        fits = subst (All Fits) parts w.fits;
        sent_is = w.sent_is ∙ ap spelt parts;
        came_is = ap (λ (l : List ℕ). l ++ piece) w.came_is
            ∙ append_assoc front w.held piece
            ∙ ap (λ (l : List ℕ). front ++ l) f.front_is
            ∙ sym (append_assoc front (spelt f.done) f.held)
            ∙ ap (λ (l : List ℕ). l ++ f.held) (sym (spelt_both w.done f.done));
        at_is = ap (λ (h : Held). held_after h piece) w.at_is ∙ r.1;
        unfinished = f.unfinished;
        queue_is = refl;
        behind = rest;
        sent_on = is ∙ sym (append_assoc came piece rest);
      };
    }

-- more messages are sent
pub sends_on : (more : List Content) (sent came : List ℕ) (at : Held) (queue : List (List ℕ)) → Takes sent came at queue
    → All Fits more → Takes (sent ++ spelt more) came at (queue ++ map spelling more)
sends_on more sent came at queue w fits =
    let all : (w.done ++ w.left) ++ more ≡ w.done ++ (w.left ++ more) = append_assoc w.done w.left more in record {
      done = w.done;
      left = w.left ++ more;
      held = w.held;
      fits = subst (All Fits) all (All-append Fits (w.done ++ w.left) more w.fits fits);
      sent_is = ap (λ (l : List ℕ). l ++ spelt more) w.sent_is ∙ sym (spelt_both (w.done ++ w.left) more) ∙ ap spelt all;
      came_is = w.came_is;
      at_is = w.at_is;
      unfinished = w.unfinished;
      queue_is = ap (λ (q : List (List ℕ)). q ++ map spelling more) w.queue_is ∙ sym (map-append spelling w.left more);
      behind = w.behind ++ spelt more;
      sent_on = ap (λ (l : List ℕ). l ++ spelt more) w.sent_on ∙ append_assoc came w.behind (spelt more);
    }

-- a silence changes nothing
pub rests : (sent came : List ℕ) (at : Held) (queue : List (List ℕ)) → Takes sent came at queue
    → Takes sent came (held_after_silence at) queue
rests sent came at queue w =
    subst (λ (h : Held). Takes sent came h queue) (w.at_is ∙ sym (ap held_after_silence w.at_is)) w

pub nothing_taken : (law : Spelt) → Takes [] [] (holds []) []
nothing_taken law = record {
  done = [];
  left = [];
  held = [];
  fits = All-nil Fits;
  sent_is = refl;
  came_is = refl;
  at_is = refl;
  unfinished = nothing_unfinished law;
  queue_is = refl;
  behind = [];
  sent_on = refl;
}

-- The messages that are whole among what was sent, and among what came.

pub whole : (law : Spelt) (reads : Completed) (ms : List Content) (held : List ℕ) → All Fits ms → IsUnfinished held
    → (messages_in (spelt ms ++ held) ≡ ms) × (held_after (holds []) (spelt ms ++ held) ≡ holds held)
whole law reads ms held fits u =
    let spells = spells_all law ms fits in (reads.messages ms (spelt ms) held spells u, reads.held ms (spelt ms) held spells u)

module _ (law : Spelt) (reads : Completed) (sent came : List ℕ) (at : Held) (queue : List (List ℕ)) (w : Takes sent came at queue) where
  pub whole_came : (messages_in came ≡ w.done) × (held_after (holds []) came ≡ at)
  whole_came =
      let r = whole law reads w.done w.held (front_all Fits w.done w.left w.fits) w.unfinished in
      (ap messages_in w.came_is ∙ r.0, ap (held_after (holds [])) w.came_is ∙ r.1 ∙ sym w.at_is)

  pub whole_sent : (messages_in sent ≡ w.done ++ w.left) × (held_after (holds []) sent ≡ holds [])
  whole_sent =
      let all : sent ≡ spelt (w.done ++ w.left) ++ [] = w.sent_is ∙ sym (append-nil (spelt (w.done ++ w.left))) in
      let r = whole law reads (w.done ++ w.left) [] w.fits (nothing_unfinished law) in
      (ap messages_in all ∙ r.0, ap (held_after (holds [])) all ∙ r.1)

  pub whole_came_on : (piece : List ℕ) → messages_in (came ++ piece) ≡ messages_in came ++ completed at piece
  whole_came_on piece =
      reads.pieces (holds []) came piece ∙ ap (λ (h : Held). messages_in came ++ completed h piece) whole_came.1

  pub whole_sent_on : (more : List Content) → All Fits more → messages_in (sent ++ spelt more) ≡ messages_in sent ++ more
  whole_sent_on more fits =
      reads.pieces (holds []) sent (spelt more)
      ∙ ap (λ (h : Held). messages_in sent ++ completed h (spelt more)) whole_sent.1
      ∙ ap (λ (l : List Content). messages_in sent ++ l) (ap messages_in (sym (append-nil (spelt more)))
      ∙ (whole law reads more [] fits (nothing_unfinished law)).0)

-- The commands as messages, and the answers.

abbrev pub messages_to : ℕ → List Command → List Content
messages_to unit commands = map (command_message unit) commands

pub bytes_to : (unit : ℕ) (commands : List Command) → bytes_of unit commands ≡ spelt (messages_to unit commands)
bytes_to unit commands = sym (flat_map-map spelling (command_message unit) commands)

pub bursts_to : (unit : ℕ) (command : Option Command)
    → command_bursts unit command ≡ map spelling (messages_to unit (option_to_list command))
bursts_to unit None = refl
bursts_to unit (Some c) = refl

abbrev pub messages_from : ℕ → List Reply → List Content
messages_from unit replies = map (reply_message unit) replies

pub bytes_from : (unit : ℕ) (replies : List Reply) → answer_bytes unit replies ≡ spelt (messages_from unit replies)
bytes_from unit replies = sym (flat_map-map spelling (reply_message unit) replies)

one_burst : (m : Content) → bursts_of (spelling m ++ []) ≡ spelling m ∷ []
one_burst ack = refl
one_burst (nak byte) = refl
one_burst (framed kind unit code rest) =
    ap (λ (l : List ℕ). l ∷ []) (append-nil (spelling (framed kind unit code rest)))

bursts_from : (unit : ℕ) (r : Option Reply)
    → bursts_of (answer_bytes unit (option_to_list r)) ≡ map spelling (messages_from unit (option_to_list r))
bursts_from unit None = refl
bursts_from unit (Some r) = one_burst (reply_message unit r)

-- Deliveries down, one after another.

abbrev pub downs_of : List Content → List LateEvent
downs_of [] = []
downs_of (m ∷ ms) = event.Down ∷ downs_of ms

pub record IsDelivered (c d : LateChannel) (unit : ℕ) (ms : List Content) (rest : List (List ℕ)) : Type 0 where
  pub plan_is : d.plan ≡ c.plan
  pub state_is : d.state ≡ c.state
  pub log_is : d.log ≡ c.log
  pub down_is : d.down ≡ rest
  pub port_is : d.port ≡ after_messages c.port ms
  pub up_is : d.up ≡ c.up ++ map spelling (messages_from unit (answers_to c.port ms))
  pub aired_is : d.aired ≡ c.aired ++ aired_on_way c.port ms

pub delivers : (law : Answered) (unit : ℕ) (ms : List Content) (rest : List (List ℕ)) (c : LateChannel) → All Fits ms
    → c.port.state.unit ≡ unit → c.down ≡ map spelling ms ++ rest
    → IsDelivered c (after_late_events c (downs_of ms)) unit ms rest
delivers law unit [] rest c fits u is = record {
  plan_is = refl;
  state_is = refl;
  log_is = refl;
  down_is = is;
  port_is = refl;
  up_is = sym (append-nil c.up);
  aired_is = sym (append-nil c.aired);
}
delivers law unit (m ∷ ms) rest c fits u is =
    let d : LateChannel = after_late_event c event.Down in
    let fit : Fits m = All-head Fits m ms fits in
    let burst : oldest c.down ≡ spelling m = ap oldest is in
    let answer : List Reply = option_to_list (answer_to c.port m) in
    let later : List Reply = answers_to (after_message c.port m) ms in
    let port : d.port ≡ after_message c.port m = ap (after_burst c.port) burst ∙ law.one_next c.port m fit in
    let up : d.up ≡ c.up ++ map spelling (messages_from unit answer) =
    ap (λ (b : List ℕ). c.up ++ bursts_of (sent_for c.port b)) burst
    ∙ ap (λ (b : List ℕ). c.up ++ bursts_of b) (law.one_sent c.port m fit)
    ∙ ap (λ (n : ℕ). c.up ++ bursts_of (answer_bytes n answer)) u
    ∙ ap (λ (l : List (List ℕ)). c.up ++ l) (bursts_from unit (answer_to c.port m)) in
    let aired : d.aired ≡ c.aired ++ option_to_list (aired_by c.port m) =
    ap (λ (b : List ℕ). c.aired ++ aired_for c.port b) burst
    ∙ ap (λ (l : List Item). c.aired ++ l) (law.one_aired c.port m fit) in
    let r = delivers law unit ms rest d (All-tail Fits m ms fits)
    (ap (λ (p : ClockedPort). p.state.unit) port ∙ law.unit_message c.port m ∙ u) (ap without_oldest is) in
    record {
      plan_is = r.plan_is;
      state_is = r.state_is;
      log_is = r.log_is;
      down_is = r.down_is;
      port_is = r.port_is ∙ ap (λ (p : ClockedPort). after_messages p ms) port;
      up_is = r.up_is
          ∙ ap₂ (λ (l : List (List ℕ)) (p : ClockedPort). l ++ map spelling (messages_from unit (answers_to p ms))) up port
          ∙ append_assoc c.up (map spelling (messages_from unit answer)) (map spelling (messages_from unit later))
          ∙ ap (λ (l : List (List ℕ)). c.up ++ l)
          (sym (map-append spelling (messages_from unit answer) (messages_from unit later))
          ∙ ap (map spelling) (sym (map-append (reply_message unit) answer later)));
      aired_is = r.aired_is
          ∙ ap₂ (λ (l : List Item) (p : ClockedPort). l ++ aired_on_way p ms) aired port
          ∙ append_assoc c.aired (option_to_list (aired_by c.port m)) (aired_on_way (after_message c.port m) ms);
    }

-- Deliveries up, one after another.

abbrev pub ups_of : List Content → List LateEvent
ups_of [] = []
ups_of (m ∷ ms) = event.Up ∷ ups_of ms

pub logged_behind : (before log : List Exchange) (ends : Option Exchange)
    → logged (before ++ log) ends ≡ before ++ logged log ends
logged_behind before log None = refl
logged_behind before log (Some e) = append_assoc before log (e ∷ [])

pub record IsHeard (c d : LateChannel) (before : List Exchange) (p : Prompt) (rest : List (List ℕ)) : Type 0 where
  pub plan_is : d.plan ≡ c.plan
  pub port_is : d.port ≡ c.port
  pub down_is : d.down ≡ c.down
  pub aired_is : d.aired ≡ c.aired
  pub up_is : d.up ≡ rest
  pub state_is : d.state ≡ p.state
  pub log_is : d.log ≡ before ++ p.log

pub hears_each : (law : Spelt) (plan : Plan) (unit : ℕ) (before : List Exchange) (ms : List Content)
    (rest : List (List ℕ)) (p : Prompt) (c : LateChannel) → All Fits ms → c.plan ≡ plan → c.port.state.unit ≡ unit
    → c.state ≡ p.state → c.log ≡ before ++ p.log → c.up ≡ map spelling ms ++ rest
    → IsHeard c (after_late_events c (ups_of ms)) before (hears_all plan unit ms p) rest
hears_each law plan unit before [] rest p c fits same u state log is = record {
  plan_is = refl;
  port_is = refl;
  down_is = refl;
  aired_is = refl;
  up_is = is;
  state_is = state;
  log_is = log;
}
hears_each law plan unit before (m ∷ ms) rest p c fits same u state log is =
    let d : LateChannel = after_late_event c event.Up in
    let h : Heard = heard_as unit m in
    let heard : heard_in c.port.state.unit (oldest c.up) ≡ Some h =
    ap₂ heard_in u (ap oldest is) ∙ ap (heard_first unit) (law.alone m (All-head Fits m ms fits)) in
    let comes = hears_comes plan unit m p in
    let r = hears_each law plan unit before ms rest (hears plan unit m p) d (All-tail Fits m ms fits) same u
    (ap (λ (x : Option Heard). state_hearing c.plan x c.state) heard
    ∙ ap₂ (λ (q : Plan) (s : State). came_to q (Some h) s) same state ∙ sym comes.state_is)
    (ap (λ (x : Option Heard). log_hearing c.plan x c.state c.log) heard
    ∙ ap₂ (λ (q : Plan) (s : State). logged c.log (ended_by q (Some h) s)) same state
    ∙ ap (λ (l : List Exchange). logged l (ended_by plan (Some h) p.state)) log
    ∙ logged_behind before p.log (ended_by plan (Some h) p.state)
    ∙ ap (λ (l : List Exchange). before ++ l) (sym comes.log_is))
    (ap without_oldest is) in
    record {
      plan_is = r.plan_is;
      port_is = r.port_is;
      down_is = r.down_is;
      aired_is = r.aired_is;
      up_is = r.up_is;
      state_is = r.state_is;
      log_is = r.log_is;
    }

-- All that is on its way is lost.

abbrev pub downs_lost : List (List ℕ) → List LateEvent
downs_lost [] = []
downs_lost (burst ∷ queue) = event.LoseDown 0 ∷ downs_lost queue

abbrev pub ups_lost : List (List ℕ) → List LateEvent
ups_lost [] = []
ups_lost (burst ∷ queue) = event.LoseUp 0 ∷ ups_lost queue

-- the channel with these queues
abbrev pub with_queues : LateChannel → List (List ℕ) → List (List ℕ) → LateChannel
with_queues c down up = record c { down = down; up = up }

pub loses_down : (down up : List (List ℕ)) (c : LateChannel)
    → after_late_events (with_queues c down up) (downs_lost down) ≡ with_queues c [] up
loses_down [] up c = refl
loses_down (burst ∷ down) up c = loses_down down up c

pub loses_up : (down up : List (List ℕ)) (c : LateChannel)
    → after_late_events (with_queues c down up) (ups_lost up) ≡ with_queues c down []
loses_up down [] c = refl
loses_up down (burst ∷ up) c = loses_up down up c
