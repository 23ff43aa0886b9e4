-- A server that hears at silences, none of which tears a command, does what one does that hears at once.
use Rattle.std.proofs.Common.{ℕ, ◌≡◌, ◌<◌, ◌≤◌, List, [], ◌∷◌, ◌++◌, length, drop, refl, sym, ap, ap₂, subst, ◌∙◌, append_assoc, append-nil, lit≤}
use Rattle.std.proofs.lemmas.List.{drop_at}
use Rattle.std.proofs.lemmas.List.Elements.{All-append}
use Rattle.std.specs.Option.{option_to_list}
use Rattle.std.specs.Prelude.{None}
use Rattle.vdcp_value.specs.declared.part.Item.{Item}
use Rattle.vdcp_frame.specs.Burst.{messages_of, end_of}
use Rattle.vdcp_frame.specs.Message.{AreOctets, Content}
use Rattle.vdcp_frame.specs.Progress.{reading}
use Rattle.vdcp_frame.specs.Reading.{End, SpellsAll, burst_limit, clean}
use Rattle.vdcp_port.specs.Answers.{after_messages, aired_on_way, answers_to, end_answers}
use Rattle.vdcp_port.specs.Clock.{ClockedPort, after_frame}
use Rattle.vdcp_wire.specs.Acts.{Act, brings}
use Rattle.vdcp_wire.specs.Wires.{Arrival, bytes, silence, close}
use Rattle.vdcp_drive.specs.Reading.{Held, holds, completed, held_after}
use Rattle.vdcp_drive.specs.Traces.{came_in, sent_in}
use Rattle.vdcp_drive.specs.ServerEars.{in_burst, in_stream}
use Rattle.vdcp_drive.specs.ServerEars as ears
use Rattle.vdcp_drive.specs.Served.{IsMoment, only}
use Rattle.vdcp_drive.specs.Serving.{HookStep, Service, asked, lent, acts_of, begins, items_in, last_aired, left_by, hook_steps, sending, serves}
use Rattle.vdcp_drive.specs.Turns.{Turn, arrivals, frame, listen}
use Rattle.vdcp_drive.specs.declared.hearing.Hearing.TheVariants.{AtOnce, AtSilences}
use Rattle.vdcp_laws.specs.Below.{Completed, Spelt}
use Rattle.vdcp_laws.specs.TwoEnds.{Ends, server_new}
use Rattle.vdcp_laws.specs.Untorn.{AreUntorn, IsRead, at_once_for, server_at_silences}
use Rattle.vdcp_laws.proofs.Bytes.{front_all, nothing_unfinished}
use Rattle.vdcp_laws.proofs.Carrying.{sent_both}
use Rattle.vdcp_laws.proofs.Leading.{ServersGoOn, IsMomentOf, turns_whole}

abbrev pub HooksGoOn : Type 0
HooksGoOn = (s : Service) (xs ys : List Turn) → hook_steps s (xs ++ ys) ≡ hook_steps s xs ++ hook_steps (left_by s xs) ys

-- the laws below: of vdcp_frame written_is_read, and of vdcp_drive servers_go_on
pub record Laws : Type 0 where
  pub spelt : Spelt
  pub completed : Completed
  pub whole : (ms : List Content) (bytes : List ℕ) → SpellsAll ms bytes → length bytes ≤ burst_limit
      → (messages_of bytes ≡ ms) × (end_of bytes ≡ clean)
  pub left : (s : Service) (xs ys : List Turn) → left_by s (xs ++ ys) ≡ left_by (left_by s xs) ys
  pub acts : (s : Service) (xs ys : List Turn) → acts_of s (xs ++ ys) ≡ acts_of s xs ++ acts_of (left_by s xs) ys
  pub hooks : HooksGoOn

pub items_both : (xs ys : List HookStep) → items_in (xs ++ ys) ≡ items_in xs ++ items_in ys
items_both [] ys = refl
items_both (asked due ∷ xs) ys = items_both xs ys
items_both (lent look ∷ xs) ys = ap (λ (l : List Item). option_to_list look.aired ++ l) (items_both xs ys)
    ∙ sym (append_assoc (option_to_list look.aired) (items_in xs) (items_in ys))

pub items_on : (law : HooksGoOn) (s : Service) (xs ys : List Turn)
    → items_in (hook_steps s (xs ++ ys)) ≡ items_in (hook_steps s xs) ++ items_in (hook_steps (left_by s xs) ys)
items_on law s xs ys = ap items_in (law s xs ys) ∙ items_both (hook_steps s xs) (hook_steps (left_by s xs) ys)

pub at_once_both : (xs ys : List Turn) → at_once_for (xs ++ ys) ≡ at_once_for xs ++ at_once_for ys
at_once_both [] ys = refl
at_once_both (listen (bytes b) ∷ xs) ys = ap (λ (l : List Turn). listen (bytes b) ∷ l) (at_once_both xs ys)
at_once_both (listen silence ∷ xs) ys = ap (λ (l : List Turn). listen silence ∷ frame ∷ l) (at_once_both xs ys)
at_once_both (listen close ∷ xs) ys = ap (λ (l : List Turn). listen close ∷ l) (at_once_both xs ys)
at_once_both (frame ∷ xs) ys = ap (λ (l : List Turn). frame ∷ l) (at_once_both xs ys)

-- what the one and the other come to
pub record AreSame (s t : Service) (turns : List Turn) : Type 0 where
  pub acts : acts_of t (at_once_for turns) ≡ acts_of s turns
  pub items : items_in (hook_steps t (at_once_for turns)) ≡ items_in (hook_steps s turns)
  pub port : (left_by t (at_once_for turns)).port ≡ (left_by s turns).port

-- one turn, and those behind it
turn_on : (law : Laws) (s t : Service) (what : Turn) (later : List Turn) → AreSame s t (what ∷ [])
    → AreSame (serves what s) (left_by t (at_once_for (what ∷ []))) later → AreSame s t (what ∷ later)
turn_on law s t what later one more =
    let us : List Turn = at_once_for (what ∷ []) in
    let all : at_once_for (what ∷ later) ≡ us ++ at_once_for later = at_once_both (what ∷ []) later in record {
      acts = ap (acts_of t) all ∙ law.acts t us (at_once_for later) ∙ ap₂ (λ (l m : List Act). l ++ m) one.acts more.acts
          ∙ sym (law.acts s (what ∷ []) later);
      items = ap (λ (l : List Turn). items_in (hook_steps t l)) all ∙ items_on law.hooks t us (at_once_for later)
          ∙ ap₂ (λ (l m : List Item). l ++ m) one.items more.items
          ∙ sym (items_both (hook_steps s (what ∷ [])) (hook_steps (serves what s) later));
      port = ap (λ (l : List Turn). (left_by t l).port) all
          ∙ ap (λ (x : Service). x.port) (law.left t us (at_once_for later)) ∙ more.port;
    }

-- what each has taken
abbrev silent_one : ClockedPort → List ℕ → Service
silent_one p burst = record { port = p; ear = in_burst burst }

abbrev prompt_one : ClockedPort → Held → Service
prompt_one p held = record { port = p; ear = in_stream held }

pub nothing_read : (law : Laws) → IsRead []
nothing_read law = (
  [],
  [],
  record {
    whole = [];
    parts = refl;
    spelt = refl;
    unfinished = nothing_unfinished law.spelt;
    count = refl;
    limit = lit≤ tt;
  },
)

-- a burst that is read so is of bytes
pub octets_of : (law : Laws) (burst : List ℕ) → IsRead burst → AreOctets burst
octets_of law burst (ms, held, r) =
    let b = r.unfinished.begins in
    subst AreOctets (sym r.parts)
    (All-append (λ (byte : ℕ). byte < 256) r.whole held (law.spelt.octets_all ms r.whole r.spelt)
    (front_all (λ (byte : ℕ). byte < 256) held b.more (law.spelt.octets b.message (held ++ b.more) b.spelt)))

read_same : (law : Laws) (burst : List ℕ) → IsRead burst → completed (holds []) burst ≡ messages_of burst
read_same law burst (ms, held, r) =
    ap (completed (holds [])) r.parts ∙ law.completed.messages ms r.whole held r.spelt r.unfinished
    ∙ law.spelt.messages burst ms (reading (length burst) held) (octets_of law burst (ms, held, r)) r

pub completes_same : (law : Laws) (burst piece : List ℕ) → IsRead burst → IsRead (burst ++ piece)
    → completed (held_after (holds []) burst) piece ≡ ears.completed burst piece
completes_same law burst piece r q =
    let before : List Content = completed (holds []) burst in
    let new : List Content = completed (held_after (holds []) burst) piece in
    sym (drop_at before new (length before) refl)
    ∙ ap (drop (length before)) (sym (law.completed.pieces (holds []) burst piece) ∙ read_same law (burst ++ piece) q)
    ∙ ap (λ (l : List Content). drop (length l) (messages_of (burst ++ piece))) (read_same law burst r)

piece_same : (p : ClockedPort) (burst piece : List ℕ) (held : Held) → completed held piece ≡ ears.completed burst piece
    → AreSame (silent_one p burst) (prompt_one p held) (listen (bytes piece) ∷ [])
piece_same p burst piece held is = record {
  acts = ap (λ (ms : List Content). brings (bytes piece) ∷ (sending p.state.unit (answers_to p ms) ++ [])) is;
  items = ap (λ (ms : List Content). option_to_list (last_aired None (aired_on_way p ms)) ++ []) is;
  port = ap (after_messages p) is;
}

silence_same : (p : ClockedPort) (burst : List ℕ) (held : Held) → held ≡ holds [] → end_of burst ≡ clean
    → AreSame (silent_one p burst) (prompt_one p held) (listen silence ∷ [])
silence_same p burst held none whole =
    subst (λ (h : Held). AreSame (silent_one p burst) (prompt_one p h) (listen silence ∷ [])) (sym none) (record {
      acts = ap (λ (end : End). brings silence ∷ (sending p.state.unit (end_answers end) ++ [])) (sym whole);
      items = refl;
      port = refl;
    })

pub are_same : (law : Laws) (p : ClockedPort) (burst : List ℕ) (held : Held) (turns : List Turn)
    → held_after (holds []) burst ≡ held → IsRead burst → AreUntorn burst turns
    → AreSame (silent_one p burst) (prompt_one p held) turns
are_same law p burst held [] is r u = record { acts = refl; items = refl; port = refl }
are_same law p burst held (frame ∷ later) is r u =
    turn_on law (silent_one p burst) (prompt_one p held) frame later (record { acts = refl; items = refl; port = refl })
    (are_same law (after_frame p) burst held later is r u)
are_same law p burst held (listen close ∷ later) is r u =
    turn_on law (silent_one p burst) (prompt_one p held) (listen close) later
    (record { acts = refl; items = refl; port = refl }) (are_same law p burst held later is r u)
are_same law p burst held (listen silence ∷ later) is r u =
    let none : held ≡ holds [] =
    sym is ∙ ap (held_after (holds [])) (sym (append-nil burst)) ∙ law.completed.held u.0.0 burst [] u.0.1 (nothing_unfinished law.spelt) in
    let more = are_same law (after_frame p) [] (holds []) later refl (nothing_read law) u.1 in
    turn_on law (silent_one p burst) (prompt_one p held) (listen silence) later
    (silence_same p burst held none (law.whole u.0.0 burst u.0.1 r.2.limit).1)
    (subst (λ (h : Held). AreSame (silent_one (after_frame p) [])
    (left_by (prompt_one p h) (listen silence ∷ frame ∷ [])) later) (sym none) more)
are_same law p burst held (listen (bytes piece) ∷ later) is r u =
    let same : completed held piece ≡ ears.completed burst piece =
    ap (λ (h : Held). completed h piece) (sym is) ∙ completes_same law burst piece r u.0 in
    let q : ClockedPort = after_messages p (ears.completed burst piece) in
    let on : Held = held_after held piece in
    let more = are_same law q (burst ++ piece) on later
    (law.completed.pieces_held (holds []) burst piece ∙ ap (λ (h : Held). held_after h piece) is) u.0 u.1 in
    turn_on law (silent_one p burst) (prompt_one p held) (listen (bytes piece)) later (piece_same p burst piece held same)
    (subst (λ (ms : List Content). AreSame (silent_one q (burst ++ piece)) (prompt_one (after_messages p ms) on) later)
    (sym same) more)

-- from their beginning
pub begun_same : (law : Laws) (p : ClockedPort) (turns : List Turn) → AreUntorn [] turns
    → AreSame (begins AtSilences p) (begins AtOnce p) turns
begun_same law p turns u = are_same law p [] (holds []) turns refl (nothing_read law) u

-- The joined ends.

pub untorn_front : (burst : List ℕ) (xs ys : List Turn) → AreUntorn burst (xs ++ ys) → AreUntorn burst xs
untorn_front burst [] ys u = tt
untorn_front burst (listen (bytes b) ∷ xs) ys u = (u.0, untorn_front (burst ++ b) xs ys u.1)
untorn_front burst (listen silence ∷ xs) ys u = (u.0, untorn_front [] xs ys u.1)
untorn_front burst (listen close ∷ xs) ys u = untorn_front burst xs ys u
untorn_front burst (frame ∷ xs) ys u = untorn_front burst xs ys u

arrivals_same : (turns : List Turn) → arrivals (at_once_for turns) ≡ arrivals turns
arrivals_same [] = refl
arrivals_same (listen (bytes b) ∷ later) = ap (λ (l : List Arrival). bytes b ∷ l) (arrivals_same later)
arrivals_same (listen silence ∷ later) = ap (λ (l : List Arrival). silence ∷ l) (arrivals_same later)
arrivals_same (listen close ∷ later) = ap (λ (l : List Arrival). close ∷ l) (arrivals_same later)
arrivals_same (frame ∷ later) = arrivals_same later

pub silent_whole : (s : Service) (turns : List Turn) (done : List Act)
    → came_in (acts_of s turns ++ done) ≡ arrivals (at_once_for (turns ++ only (came_in done)))
silent_whole s turns done =
    let all : List Turn = turns ++ only (came_in done) in
    turns_whole s turns done ∙ sym (arrivals_same all)

pub all_downs : (downs before turns : List Turn) → downs ≡ at_once_for before
    → downs ++ at_once_for turns ≡ at_once_for (before ++ turns)
all_downs downs before turns is = ap (λ (l : List Turn). l ++ at_once_for turns) is ∙ sym (at_once_both before turns)

-- laws::untorn_turns_are_at_once
abbrev pub ActSame : Type 0
ActSame = (p : ClockedPort) (turns : List Turn) → AreUntorn [] turns
    → acts_of (begins AtOnce p) (at_once_for turns) ≡ acts_of (begins AtSilences p) turns

-- what went out at a moment of the one went out at one of the other
pub silent_moment : (law : ServersGoOn) (same : ActSame) (e : Ends) (before turns : List Turn) (some : List Act) → e.downs ≡ at_once_for before
    → AreUntorn [] (before ++ turns) → IsMoment (server_at_silences e.port before) turns some
    → IsMomentOf e (at_once_for turns) some
silent_moment law same e before turns some downs u m =
    let s : Service = begins AtSilences e.port in
    let front : AreUntorn [] (before ++ m.upto) =
    untorn_front [] (before ++ m.upto) m.later
    (subst (AreUntorn []) (ap (λ (l : List Turn). before ++ l) m.parts ∙ sym (append_assoc before m.upto m.later)) u) in
    let first = same e.port before (untorn_front [] before m.upto front) in
    record {
      upto = at_once_for m.upto;
      later = at_once_for m.later;
      parts = ap at_once_for m.parts ∙ at_once_both m.upto m.later;
      came = arrivals_same m.upto ∙ m.came;
      rest = m.rest;
      sent = ap (λ (l : List Turn). sent_in (acts_of (server_new e) l)) (all_downs e.downs before m.upto downs)
          ∙ ap sent_in (same e.port (before ++ m.upto) front ∙ law s before m.upto)
          ∙ sent_both (acts_of s before) (acts_of (server_at_silences e.port before) m.upto)
          ∙ ap₂ (λ (l k : List ℕ). l ++ k)
          (ap sent_in (sym first ∙ ap (acts_of (server_new e)) (sym downs))) m.sent;
    }
