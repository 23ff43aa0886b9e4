-- What may be claimed of a channel, how a claim has to be closed, and that every event keeps one that is.
use Rattle.std.proofs.Common.{◌≡◌, ◌≢◌, ◌<◌, ℕ, ◌⊎◌, inl, inr, Bool, true, false, ◌||◌, ◌&&◌, All, List, [], ◌∷◌, ◌++◌, length, Option, Some, None, refl, sym, ap, subst, ◌∙◌, arith, append-nil, if◌then◌else◌}
use Rattle.std.proofs.lemmas.Bool.{and_parts}
use Rattle.std.specs.Option.{option_to_list}
use Rattle.std.specs.Prelude.{IfSome}
use Rattle.vdcp_value.specs.Parts.{IsItem}
use Rattle.vdcp_value.specs.declared.clip_id.ClipId.{ClipId}
use Rattle.vdcp_value.specs.declared.part.Item.{Item}
use Rattle.vdcp_value.specs.declared.timecode.Timecode.{Timecode}
use Rattle.vdcp_frame.specs.Burst.{messages_of}
use Rattle.vdcp_frame.specs.Message.{Content}
use Rattle.vdcp_words.specs.Commands.{IsWritableCommand}
use Rattle.vdcp_words.specs.declared.command.Command.{Command}
use Rattle.vdcp_words.specs.declared.reply.Reply.{Reply}
use Rattle.vdcp_words.specs.declared.reply.Reply.TheVariants as reply
use Rattle.vdcp_port.specs.Answers.{sent_for, aired_for, after_burst}
use Rattle.vdcp_port.specs.Clock.{ClockedPort, after_change, after_ready, after_ended, after_frame, counted_down, completes_cue, ends_clip}
use Rattle.vdcp_port.specs.Port.{PortState, ready_state, ended_state}
use Rattle.vdcp_port.specs.Row.{command_row, on_air}
use Rattle.vdcp_auto.specs.Heard.{heard_in, heard_first, hears_receipt}
use Rattle.vdcp_auto.specs.Commands.{fits}
use Rattle.vdcp_auto.specs.Log.{answer_to, is_counted}
use Rattle.vdcp_auto.specs.Plan.{Plan}
use Rattle.vdcp_auto.specs.Replies.{is_receipt, is_refusal}
use Rattle.vdcp_auto.specs.Table.{command_in, on_reply, on_refusal}
use Rattle.vdcp_auto.specs.Turn.{awaited, awaited_in, given, given_in, ticked, tick_in, phase_to_send, take_after_sending, came_to, is_end, on_answer, on_unanswered, transition_of, stage_after, settled_after, state_after, unanswered_after}
use Rattle.vdcp_auto.specs.declared.exchange.Exchange.{Exchange}
use Rattle.vdcp_auto.specs.declared.exchange.Heard.{Heard}
use Rattle.vdcp_auto.specs.declared.exchange.Heard.TheVariants as heard
use Rattle.vdcp_auto.specs.declared.phase.Mode.{Mode}
use Rattle.vdcp_auto.specs.declared.phase.Mode.TheVariants.{Plain, Confirming}
use Rattle.vdcp_auto.specs.declared.phase.Phase.{Phase}
use Rattle.vdcp_auto.specs.declared.phase.Transition.{Transition}
use Rattle.vdcp_auto.specs.declared.phase.Transition.TheVariants.{Goes}
use Rattle.vdcp_auto.specs.State.{Stage, Ready, Awaiting, State}
use Rattle.vdcp_world.specs.Beginnings.{is_beginning}
use Rattle.vdcp_world.specs.Channel.{Channel, Make, make_of, after_event, up_behind, answered, state_hearing, state_waiting, is_short, can_become, can_become_up, altered}
use Rattle.vdcp_world.specs.NoCut.{is_take}
use Rattle.vdcp_world.specs.declared.event.Event.{Event}
use Rattle.vdcp_world.specs.declared.event.Event.TheVariants as event
use Rattle.vdcp_world.specs.Below.{Below}
use Rattle.vdcp_world.proofs.Beginnings.{is_beginning_of}
use Rattle.vdcp_world.proofs.Exchanges.{came_cases, turn_by, tick_place, fits_asked, either, no_receipt, no_refusal, on_refused, on_replied, gives_some, turn_same}
use Rattle.vdcp_world.proofs.OnTheWay.{ReadsNothing, ReadsCommand, IsQuiet, Way}
use Rattle.vdcp_world.proofs.PhaseTable.{PlaysLast, PlaceAt, FirmIn, FirmTells, Tells, is_asked, port_after, aired_after, answer_after}
use Rattle.vdcp_world.proofs.Reached.{make_messages}
use Rattle.vdcp_world.proofs.WayKept.{quiet_receipt, stray_same}
use Rattle.vdcp_world.proofs.WayLemmas.{reads_nothing, reads_command}

-- of the wish to take, the port, what went to air, how many events are settled, and where the controller is
abbrev pub Claim : Type 1
Claim = Bool → PortState → List Item → ℕ → Stage → Type 0

-- of the port, what went to air, and a reply on the way up to a phase's command
abbrev pub Telling : Type 1
Telling = PortState → List Item → Phase → Reply → Type 0

-- the claim, where a turn of the controller has led it
abbrev pub Leads : Claim → Bool → PortState → List Item → ℕ → Transition → Type 0
Leads S take p aired settled turn = S take p aired (settled_after turn settled) (stage_after turn)

-- what is made of the mode, the playlist, the port number, the limit and the catalogue
pub record Closed (mode : Mode) (list : List Item) (port limit : ℕ) (clips : List (ClipId × Timecode)) (S : Claim)
    (T : Telling) : Type 0 where
  -- a NAK that is no refusal tells nothing
  pub naks : (p : PortState) (aired : List Item) (q : Phase) (byte : ℕ) → is_refusal (reply.Nak byte) ≡ false
      → T p aired q (reply.Nak byte)
  -- the cue is done, the clip has ended
  pub ready : (take : Bool) (p : PortState) (aired : List Item) (settled : ℕ) (stage : Stage)
      → S take p aired settled stage → S take (ready_state p) aired settled stage
  pub ready_tells : (p : PortState) (aired : List Item) (q : Phase) (r : Reply) → T p aired q r
      → T (ready_state p) aired q r
  pub ended : (take : Bool) (p : PortState) (aired : List Item) (settled : ℕ) (stage : Stage)
      → S take p aired settled stage → S take (ended_state p) aired settled stage
  pub ended_tells : (p : PortState) (aired : List Item) (q : Phase) (r : Reply) → T p aired q r
      → T (ended_state p) aired q r
  -- the controller sends
  pub sends : (take stop : Bool) (p : PortState) (aired : List Item) (settled : ℕ) (q : Phase)
      → S take p aired settled (Ready q)
      → S (take_after_sending (phase_to_send stop q) take) p aired settled (Awaiting (phase_to_send stop q))
  -- the port reads the awaited command
  pub reads : (take : Bool) (p : PortState) (aired : List Item) (settled : ℕ) (q : Phase) → p.number ≡ port
      → S take p aired settled (Awaiting q)
      → S take (port_after clips p (command_in list port q)) (aired ++ aired_after clips p (command_in list port q))
      settled (Awaiting q)
  pub reads_tell : (take : Bool) (p : PortState) (aired : List Item) (settled : ℕ) (q : Phase) (r : Reply)
      → p.number ≡ port → S take p aired settled (Awaiting q)
      → answer_after clips p (command_in list port q) ≡ Some r
      → T (port_after clips p (command_in list port q)) (aired ++ aired_after clips p (command_in list port q)) q r
  -- the controller hears an answer, or none
  pub refused : (take : Bool) (p : PortState) (aired : List Item) (settled : ℕ) (q : Phase) (r : Reply) → mode ≡ Plain
      → is_refusal r ≡ true → T p aired q r → S take p aired settled (Awaiting q)
      → Leads S take p aired settled (on_refusal (length list) q)
  pub replied : (take : Bool) (p : PortState) (aired : List Item) (settled tries : ℕ) (q : Phase) (r : Reply)
      → is_asked q r ≡ true → (mode ≡ Confirming → is_receipt r ≡ false) → T p aired q r
      → S take p aired settled (Awaiting q) → Leads S take p aired settled (on_reply mode list limit take tries q r)
  pub silent : (take : Bool) (p : PortState) (aired : List Item) (settled unanswered : ℕ) (counts : Bool) (q : Phase)
      → S take p aired settled (Awaiting q)
      → Leads S take p aired settled (on_unanswered mode limit unanswered counts q)

abbrev pub ClosedFor : Make → Claim → Telling → Type 0
ClosedFor m S T = Closed m.plan.mode m.plan.list m.plan.port m.plan.limit m.clips S T

-- in confirm mode receipts tell nothing
abbrev pub TellsOf : Mode → Telling → PortState → List Item → Phase → Reply → Type 0
TellsOf mode T p aired q r = (mode ≡ Confirming → is_receipt r ≡ false) → T p aired q r

abbrev pub ToldOf : Mode → Telling → PortState → List Item → Stage → Option Heard → Type 0
ToldOf mode T p aired (Awaiting q) h = (r : Reply) → h ≡ Some (heard.Reply r) → TellsOf mode T p aired q r
ToldOf mode T p aired _ h = Unit {0}

-- the claim holds of the channel, and what is on the way up tells what it has to
pub record Holds (S : Claim) (T : Telling) (c : Channel) : Type 0 where
  pub stands : S c.state.take c.port.state c.aired c.state.settled c.state.stage
  pub told : ToldOf c.plan.mode T c.port.state c.aired c.state.stage (heard_in c.port.state.unit c.up)

-- ---- what holds of every channel

-- where the port is, at this stage of the controller
pub record Stands (plan : Plan) (clips : List (ClipId × Timecode)) (p : PortState) (aired : List Item) (settled : ℕ)
    (stage : Stage) : Type 0 where
  pub numbered : p.number ≡ plan.port
  pub plays : PlaysLast plan.list p.playing aired
  pub place : PlaceAt plan.list clips p.cued aired settled stage
  pub firm : FirmIn plan.mode plan.list clips p stage

abbrev pub StandsIn : Make → Claim
StandsIn m take p aired settled stage = Stands m.plan m.clips p aired settled stage

abbrev pub TellsIn : Make → Telling
TellsIn m p aired q r =
    Tells m.plan.list m.clips p.cued aired q r × (m.plan.mode ≡ Plain → FirmTells m.plan.list m.clips p q r)

-- of the log nothing is said
pub record IsKept (c : Channel) : Type 0 where
  pub unit_fits : c.port.state.unit < 16
  pub port_fits : c.plan.port < 256
  pub of_bytes : All IsItem c.plan.list
  pub way : Way c.plan.mode c.port.state.unit (awaited c.plan c.state) c.down c.up
  pub stands : Stands c.plan c.port.clips c.port.state c.aired c.state.settled c.state.stage
  pub told : ToldOf c.plan.mode (TellsIn (make_of c)) c.port.state c.aired c.state.stage
      (heard_in c.port.state.unit c.up)

-- what is claimed is kept where the operator takes
abbrev pub Takes : Claim → Type 0
Takes S = (take : Bool) (p : PortState) (aired : List Item) (settled : ℕ) (stage : Stage)
    → S take p aired settled stage → S true p aired settled stage

impossible : true ≡ false → ⊥
impossible e = cc

-- ---- what tells nothing

module _ (mode : Mode) (T : Telling) (p : PortState) (aired : List Item) where
  pub told_none : (stage : Stage) → ToldOf mode T p aired stage None
  told_none (Awaiting q) = λ r e. absurd (nothing r e)
    where
      nothing : (r : Reply) → None ≡ Some (heard.Reply r) → ⊥
      nothing r e = cc
  told_none _ = tt

  pub told_quiet : (stage : Stage) (h : Option Heard) → IsQuiet mode h → ToldOf mode T p aired stage h
  told_quiet (Awaiting q) h quiet = λ r e honest. absurd (by mode r (subst (IsQuiet mode) e quiet) honest)
    where
      by : (mode : Mode) (r : Reply) → IsQuiet mode (Some (heard.Reply r)) → (mode ≡ Confirming → is_receipt r ≡ false)
          → ⊥
      by Plain r quiet honest = quiet
      by Confirming r quiet honest = impossible (sym quiet ∙ honest refl)
  told_quiet _ h quiet = tt

  told_here : (q : Phase) (r : Reply) → T p aired q r → ToldOf mode T p aired (Awaiting q) (Some (heard.Reply r))
  told_here q r t = λ s is honest. subst (T p aired q) (same r s is) t
    where
      same : (a b : Reply) → Some (heard.Reply a) ≡ Some (heard.Reply b) → a ≡ b
      same a b e = cc

  told_nak : (stage : Stage) (byte : ℕ) → ((q : Phase) → T p aired q (reply.Nak byte))
      → ToldOf mode T p aired stage (Some (heard.Reply (reply.Nak byte)))
  told_nak (Awaiting q) byte t = told_here q (reply.Nak byte) (t q)
  told_nak _ byte t = tt

-- ---- something comes, or nothing in time

-- where what came leads, if it ends the exchange of the awaited command
turn_claim : (mode : Mode) (list : List Item) (port limit : ℕ) (clips : List (ClipId × Timecode)) (S : Claim)
    (T : Telling) → Closed mode list port limit clips S T → (take : Bool) (p : PortState) (aired : List Item)
    (settled tries unanswered : ℕ) (counts : Bool) (q : Phase) (c : Command) (came : Option Heard)
    → command_in list port q ≡ Some c → is_end mode c came ≡ true → S take p aired settled (Awaiting q)
    → ToldOf mode T p aired (Awaiting q) came
    → Leads S take p aired settled (turn_by mode list limit take tries unanswered counts q (answer_to c came))
turn_claim mode list port limit clips S T closed take p aired settled tries unanswered counts q c
    (Some (heard.Reply r)) e ends h told =
    by (is_refusal r || fits c r) refl
  where
    Led : Transition → Type 0
    Led turn = Leads S take p aired settled turn

    own : (m : Mode) → is_end m c (Some (heard.Reply r)) ≡ true → m ≡ Confirming → is_receipt r ≡ false
    own Plain ends e = cc
    own Confirming ends e = no_receipt c r ends

    t : T p aired q r
    t = told r refl (own mode ends)

    plain : (m : Mode) → is_end m c (Some (heard.Reply r)) ≡ true → is_refusal r ≡ true → m ≡ Plain
    plain Plain ends refused = refl
    plain Confirming ends refused = absurd (impossible (sym refused ∙ no_refusal r (no_receipt c r ends)))

    answers : (is_refusal r ≡ true) ⊎ ((is_refusal r ≡ false) × (fits c r ≡ true))
        → Led (on_answer mode list limit take tries q r)
    answers (inl refused) =
        subst Led (sym (on_refused mode list limit tries take q r refused))
        (closed.refused take p aired settled q r (plain mode ends refused) refused t h)
    answers (inr (none, f)) =
        subst Led (sym (on_replied mode list limit tries take q r none))
        (closed.replied take p aired settled tries q r (fits_asked list port q c r e f) (own mode ends) t h)

    by : (b : Bool) → (is_refusal r || fits c r) ≡ b
        → Led (turn_by mode list limit take tries unanswered counts q (if b then Some r else None))
    by true f = answers (either (is_refusal r) (fits c r) f)
    by false f = closed.silent take p aired settled unanswered counts q h
turn_claim mode list port limit clips S T closed take p aired settled tries unanswered counts q c _ e ends h told =
    closed.silent take p aired settled unanswered counts q h

came_claim : (m : Make) (S : Claim) (T : Telling) → ClosedFor m S T → (p : PortState) (aired : List Item)
    (state : State) (came : Option Heard) → S state.take p aired state.settled state.stage
    → ToldOf m.plan.mode T p aired state.stage came
    → S (came_to m.plan came state).take p aired (came_to m.plan came state).settled (came_to m.plan came state).stage
came_claim m S T closed p aired state came h told =
    came_cases (λ (s : State) (log : List Exchange). S s.take p aired s.settled s.stage) m.plan state [] came h over
  where
    over : (q : Phase) (c : Command) → state.stage ≡ Awaiting q → command_in m.plan.list m.plan.port q ≡ Some c
        → is_end m.plan.mode c came ≡ true
        → Leads S state.take p aired state.settled (transition_of m.plan state q (record { command = c; heard = came }))
    over q c at is e =
        let counts = is_counted m.plan.mode (record { command = c; heard = came }) in
        subst (λ (turn : Transition). Leads S state.take p aired state.settled turn)
        (turn_same m.plan state.take state.tries state.unanswered counts q (answer_to c came))
        (turn_claim m.plan.mode m.plan.list m.plan.port m.plan.limit m.clips S T closed state.take p aired state.settled
        state.tries state.unanswered counts q c came is e (subst (S state.take p aired state.settled) at h)
        (subst (λ (stage : Stage). ToldOf m.plan.mode T p aired stage came) at told))

came_told : (plan : Plan) (T : Telling) (p : PortState) (aired : List Item) (state : State) (came h : Option Heard)
    → ToldOf plan.mode T p aired state.stage h → ToldOf plan.mode T p aired (came_to plan came state).stage h
came_told plan T p aired state came h told =
    came_cases (λ (s : State) (log : List Exchange). ToldOf plan.mode T p aired s.stage h) plan state [] came told
    (λ q c at is e. turns (transition_of plan state q (record { command = c; heard = came }))
    (unanswered_after plan.mode (record { command = c; heard = came }) state.unanswered))
  where
    turns : (transition : Transition) (n : ℕ)
        → ToldOf plan.mode T p aired (state_after transition n state).stage h
    turns (Goes q) n = tt
    turns _ n = tt

-- ---- a tick

tick_claim : (m : Make) (S : Claim) (T : Telling) → ClosedFor m S T → (p : PortState) (aired : List Item)
    (state : State) → S state.take p aired state.settled state.stage
    → S (ticked state).take p aired (ticked state).settled (ticked state).stage
tick_claim m S T closed p aired state h = by state.stage h
  where
    by : (stage : Stage) → S state.take p aired state.settled stage
        → S (tick_in stage state).take p aired (tick_in stage state).settled (tick_in stage state).stage
    by (Ready q) g = closed.sends state.take state.stop p aired state.settled q g
    by _ g = h

-- nothing is heard after a command that is given; and nothing changes where none is
ticks_told : (c : Channel) (T : Telling) (g : Option Command) → given c.plan c.state ≡ g → IsKept c
    → ToldOf c.plan.mode T c.port.state c.aired c.state.stage (heard_in c.port.state.unit c.up)
    → ToldOf c.plan.mode T c.port.state c.aired (ticked c.state).stage (heard_in c.port.state.unit (up_behind g c.up))
ticks_told c T (Some command) e k told = told_none c.plan.mode T c.port.state c.aired (ticked c.state).stage
ticks_told c T None e k told = by c.state.stage k.stands.place e
  where
    by : (stage : Stage) → PlaceAt c.plan.list c.port.clips c.port.state.cued c.aired c.state.settled stage
        → given_in c.plan c.state.stop stage ≡ None
        → ToldOf c.plan.mode T c.port.state c.aired (tick_in stage c.state).stage (heard_in c.port.state.unit c.up)
    by (Ready q) place e =
        absurd (gives_some c.plan.list c.plan.port c.port.state.cued c.aired c.state.settled
        (phase_to_send c.state.stop q)
        (tick_place c.plan.list c.port.state.cued c.aired c.state.settled c.state.stop q place) e)
    by _ place e = told

-- ---- the port reads what is on the way down

record ReadClaim (m : Make) (S : Claim) (T : Telling) (take : Bool) (p : PortState) (aired : List Item) (settled : ℕ)
    (stage : Stage) (c : Command) : Type 0 where
  pub stands : S take (port_after m.clips p (Some c)) (aired ++ aired_after m.clips p (Some c)) settled stage
  pub told : (r : Reply) → answer_after m.clips p (Some c) ≡ Some r
      → ToldOf m.plan.mode T (port_after m.clips p (Some c)) (aired ++ aired_after m.clips p (Some c)) stage
      (Some (heard.Reply r))

read_claim : (m : Make) (S : Claim) (T : Telling) → ClosedFor m S T → (take : Bool) (p : PortState) (aired : List Item)
    (settled : ℕ) (stage : Stage) (c : Command) → awaited_in m.plan stage ≡ Some c → p.number ≡ m.plan.port
    → S take p aired settled stage → ReadClaim m S T take p aired settled stage c
read_claim m S T closed take p aired settled (Awaiting q) c e n h = record {
  stands = subst (λ (o : Option Command). S take (port_after m.clips p o) (aired ++ aired_after m.clips p o) settled
      (Awaiting q)) e
      (closed.reads take p aired settled q n h);
  told = λ r a. told_here m.plan.mode T (port_after m.clips p (Some c)) (aired ++ aired_after m.clips p (Some c)) q r
      (subst (λ (o : Option Command). answer_after m.clips p o ≡ Some r
      → T (port_after m.clips p o) (aired ++ aired_after m.clips p o) q r) e
      (closed.reads_tell take p aired settled q r n h) a);
}
read_claim m S T closed take p aired settled _ c e n h = absurd (nothing e)
  where
    nothing : None ≡ Some c → ⊥
    nothing e = cc

-- a port that has read a burst by which more items went to air; of what is on the way up this is heard, and of its
-- answer that
record Delivered (S : Claim) (T : Telling) (plan : Plan) (state : State) (aired : List Item) (up answer : Option Heard)
    (p : ClockedPort) (more : List Item) : Type 0 where
  pub stands : S state.take p.state (aired ++ more) state.settled state.stage
  pub still : ToldOf plan.mode T p.state (aired ++ more) state.stage up
  pub sent : ToldOf plan.mode T p.state (aired ++ more) state.stage answer

delivered_claim : Below → (S : Claim) (T : Telling) (c : Channel) → ClosedFor (make_of c) S T → IsKept c → Holds S T c
    → Delivered S T c.plan c.state c.aired (heard_in c.port.state.unit c.up)
    (heard_in c.port.state.unit (sent_for c.port c.down))
    (after_burst c.port c.down) (aired_for c.port c.down)
delivered_claim below S T c closed k h = by k.way
  where
    Out : ClockedPort → List Item → Type 0
    Out p more =
        Delivered S T c.plan c.state c.aired (heard_in c.port.state.unit c.up)
        (heard_in c.port.state.unit (sent_for c.port c.down)) p more

    Told : Option Heard → Type 0
    Told x = ToldOf c.plan.mode T c.port.state c.aired c.state.stage x

    other_nak : (byte : ℕ) → byte ≢ 0x01 → is_refusal (reply.Nak byte) ≡ false
    other_nak byte other = grind arith

    says : ((sent_for c.port c.down ≡ []) ⊎
        ((byte : ℕ) × (byte ≢ 0x01) × (heard_in c.port.state.unit (sent_for c.port c.down) ≡ Some
        (heard.Reply (reply.Nak byte))))) → Told (heard_in c.port.state.unit (sent_for c.port c.down))
    says (inl none) =
        subst (λ (b : List ℕ). Told (heard_in c.port.state.unit b)) (sym none)
        (told_none c.plan.mode T c.port.state c.aired c.state.stage)
    says (inr (byte, other, hears)) =
        subst Told (sym hears) (told_nak c.plan.mode T c.port.state c.aired c.state.stage byte
        (λ q. closed.naks c.port.state c.aired q byte (other_nak byte other)))

    nothing : ReadsNothing c.port c.down → Out (after_burst c.port c.down) (aired_for c.port c.down)
    nothing reads =
        subst (λ (p : ClockedPort). Out p (aired_for c.port c.down)) (sym reads.stays)
        (subst (λ (more : List Item). Out c.port more) (sym reads.airs) (record {
          stands = subst (λ (a : List Item). S c.state.take c.port.state a c.state.settled c.state.stage) same h.stands;
          still = subst (λ (a : List Item). ToldOf c.plan.mode T c.port.state a c.state.stage
              (heard_in c.port.state.unit c.up)) same h.told;
          sent = subst (λ (a : List Item). ToldOf c.plan.mode T c.port.state a c.state.stage
              (heard_in c.port.state.unit (sent_for c.port c.down))) same (says reads.says);
        }))
      where
        same : c.aired ≡ c.aired ++ []
        same = sym (append-nil c.aired)

    command : (d : Command) → awaited c.plan c.state ≡ Some d → IsQuiet c.plan.mode (heard_in c.port.state.unit c.up)
        → ReadsCommand c.port c.down d
        → Out (after_burst c.port c.down) (aired_for c.port c.down)
    command d is quiet reads =
        let left = after_change (command_row c.port.clips c.port.state d).change c.port in
        let more = option_to_list (on_air (command_row c.port.clips c.port.state d).change) in
        let read = read_claim (make_of c) S T closed c.state.take c.port.state c.aired c.state.settled c.state.stage d
        is k.stands.numbered h.stands in
        subst (λ (p : ClockedPort). Out p (aired_for c.port c.down)) (sym reads.leaves)
        (subst (λ (x : List Item). Out left x) (sym reads.airs) (record {
          stands = read.stands;
          still = told_quiet c.plan.mode T left.state (c.aired ++ more) c.state.stage (heard_in c.port.state.unit c.up)
              quiet;
          sent = subst (ToldOf c.plan.mode T left.state (c.aired ++ more) c.state.stage) (sym reads.heard)
              (read.told reads.answer reads.answers);
        }))

    by : Way c.plan.mode c.port.state.unit (awaited c.plan c.state) c.down c.up → Out (after_burst c.port c.down)
        (aired_for c.port c.down)
    by (inl none) = nothing (reads_nothing below c.port c.down none)
    by (inr (d, is, ms, quiet)) =
        let w : IsWritableCommand d = subst (λ (o : Option Command). IfSome o IsWritableCommand) is
        (below.awaited_written c.plan c.state k.of_bytes k.port_fits) in
        command d is quiet (reads_command below c.port c.down d k.unit_fits w ms)

pub burst_unit : (plan : Plan) (p : ClockedPort) (down : List ℕ) → (after_burst p down).state.unit ≡ p.state.unit
burst_unit plan p down = ap (λ (m : Make). m.unit) (make_messages plan (messages_of down) p)

-- ---- the cue is done, the clip has ended, a frame passes

record PortHolds (S : Claim) (T : Telling) (mode : Mode) (take : Bool) (aired : List Item) (settled : ℕ) (stage : Stage)
    (h : Option Heard) (p : PortState) : Type 0 where
  pub stands : S take p aired settled stage
  pub told : ToldOf mode T p aired stage h

changed_told : (mode : Mode) (T : Telling) (p now : PortState) (aired : List Item) (stage : Stage) (h : Option Heard)
    → ((q : Phase) (r : Reply) → T p aired q r → T now aired q r)
    → ToldOf mode T p aired stage h → ToldOf mode T now aired stage h
changed_told mode T p now aired (Awaiting q) h on told = λ r e honest. on q r (told r e honest)
changed_told mode T p now aired _ h on told = tt

module _ (m : Make) (S : Claim) (T : Telling) (closed : ClosedFor m S T) (take : Bool) (aired : List Item)
    (settled : ℕ) (stage : Stage) (h : Option Heard) where
  ready_claim : (p : PortState) → PortHolds S T m.plan.mode take aired settled stage h p
      → PortHolds S T m.plan.mode take aired settled stage h (ready_state p)
  ready_claim p s = record {
    stands = closed.ready take p aired settled stage s.stands;
    told = changed_told m.plan.mode T p (ready_state p) aired stage h (closed.ready_tells p aired) s.told;
  }

  ended_claim : (p : PortState) → PortHolds S T m.plan.mode take aired settled stage h p
      → PortHolds S T m.plan.mode take aired settled stage h (ended_state p)
  ended_claim p s = record {
    stands = closed.ended take p aired settled stage s.stands;
    told = changed_told m.plan.mode T p (ended_state p) aired stage h (closed.ended_tells p aired) s.told;
  }

  frame_claim : (p : ClockedPort) → PortHolds S T m.plan.mode take aired settled stage h p.state
      → PortHolds S T m.plan.mode take aired settled stage h (after_frame p).state
  frame_claim p s = by (completes_cue p) (ends_clip p)
    where
      by : (cue clip : Bool) → PortHolds S T m.plan.mode take aired settled stage h
          (if clip then after_ended (if cue then after_ready (counted_down p) else counted_down p)
          else (if cue then after_ready (counted_down p) else counted_down p)).state
      by true true = ended_claim (ready_state p.state) (ready_claim p.state s)
      by true false = ready_claim p.state s
      by false true = ended_claim p.state s
      by false false = s

-- ---- damage to what is on the way up

alters_told : (mode : Mode) (T : Telling) (c : Channel) (bytes : List ℕ) (can : Bool)
    → can_become_up mode c.port.state.unit c.up bytes ≡ can
    → ToldOf mode T c.port.state c.aired c.state.stage (heard_in c.port.state.unit c.up)
    → ToldOf mode T c.port.state c.aired c.state.stage (heard_in c.port.state.unit (altered can c.up bytes))
alters_told mode T c bytes false e told = told
alters_told mode T c bytes true e told = by mode e told
  where
    Out : Mode → Option Heard → Type 0
    Out mode h = ToldOf mode T c.port.state c.aired c.state.stage h

    fewer : (mode : Mode) (ms others : List Content) → Out mode (heard_first c.port.state.unit (ms ++ others))
        → Out mode (heard_first c.port.state.unit ms)
    fewer mode [] others told = told_none mode T c.port.state c.aired c.state.stage
    fewer mode (m ∷ ms) others told = told

    front : (mode : Mode) → can_become c.up bytes ≡ true → Out mode (heard_in c.port.state.unit c.up)
        → Out mode (heard_in c.port.state.unit bytes)
    front mode can told =
        let (others, is) = is_beginning_of (messages_of bytes) (messages_of c.up)
        (and_parts (is_short bytes) (is_beginning (messages_of bytes) (messages_of c.up)) can).1 in
        fewer mode (messages_of bytes) others
        (subst (λ (ms : List Content). Out mode (heard_first c.port.state.unit ms)) is told)

    which : (can_become c.up bytes ≡ true) ⊎
        ((can_become c.up bytes ≡ false) × ((is_short bytes && hears_receipt
        (heard_in c.port.state.unit bytes)) ≡ true))
        → Out Confirming (heard_in c.port.state.unit c.up) → Out Confirming (heard_in c.port.state.unit bytes)
    which (inl can) told = front Confirming can told
    which (inr (not_that, receipt)) told =
        told_quiet Confirming T c.port.state c.aired c.state.stage (heard_in c.port.state.unit bytes)
        (quiet_receipt (heard_in c.port.state.unit bytes)
        (and_parts (is_short bytes) (hears_receipt (heard_in c.port.state.unit bytes)) receipt).1)

    by : (mode : Mode) → can_become_up mode c.port.state.unit c.up bytes ≡ true
        → Out mode (heard_in c.port.state.unit c.up)
        → Out mode (heard_in c.port.state.unit bytes)
    by Plain e told = front Plain e told
    by Confirming e told = which
        (either (can_become c.up bytes) (is_short bytes && hears_receipt (heard_in c.port.state.unit bytes)) e) told

-- ---- all events

module _ (below : Below) (S : Claim) (T : Telling) (c : Channel) (closed : ClosedFor (make_of c) S T) (h : Holds S T c)
  where
    -- with a controller of another state, and other bytes on the way up
    hears_claim : (x up : Option Heard) → ToldOf c.plan.mode T c.port.state c.aired c.state.stage x
        → ToldOf c.plan.mode T c.port.state c.aired c.state.stage up
        → PortHolds S T c.plan.mode (state_hearing c.plan x c.state).take c.aired
        (state_hearing c.plan x c.state).settled (state_hearing c.plan x c.state).stage up c.port.state
    hears_claim None up told still = record { stands = h.stands; told = still }
    hears_claim (Some x) up told still = record {
      stands = came_claim (make_of c) S T closed c.port.state c.aired c.state (Some x) h.stands told;
      told = came_told c.plan T c.port.state c.aired c.state (Some x) up still;
    }

    waits_claim : (down up : List ℕ) → PortHolds S T c.plan.mode (state_waiting c.plan down up c.state).take c.aired
        (state_waiting c.plan down up c.state).settled (state_waiting c.plan down up c.state).stage
        (heard_in c.port.state.unit c.up) c.port.state
    waits_claim [] [] = record {
      stands = came_claim (make_of c) S T closed c.port.state c.aired c.state None h.stands
          (told_none c.plan.mode T c.port.state c.aired c.state.stage);
      told = came_told c.plan T c.port.state c.aired c.state None (heard_in c.port.state.unit c.up) h.told;
    }
    waits_claim [] (byte ∷ up) = record { stands = h.stands; told = h.told }
    waits_claim (byte ∷ down) up = record { stands = h.stands; told = h.told }

    -- of what is on the way up once the port has read what was on the way down
    answered_told : (down : List ℕ) → c.down ≡ down → IsKept c
        → ToldOf c.plan.mode T (after_burst c.port c.down).state (c.aired ++ aired_for c.port c.down) c.state.stage
        (heard_in c.port.state.unit (answered c.port down c.up))
    answered_told [] e k = (delivered_claim below S T c closed k h).still
    answered_told (byte ∷ bytes) e k =
        subst (λ (d : List ℕ). ToldOf c.plan.mode T (after_burst c.port c.down).state
        (c.aired ++ aired_for c.port c.down) c.state.stage (heard_in c.port.state.unit (sent_for c.port d))) e
        (delivered_claim below S T c closed k h).sent

    -- of a controller in an equal state
    same_claim : (state : State) (log : List Exchange) → state ≡ c.state
        → Holds S T (record c { state = state; log = log })
    same_claim state log e = record {
      stands = subst (λ (s : State). S s.take c.port.state c.aired s.settled s.stage) (sym e) h.stands;
      told = subst (λ (s : State). ToldOf c.plan.mode T c.port.state c.aired s.stage (heard_in c.port.state.unit c.up))
          (sym e) h.told;
    }

-- of a port of the same unit
at_unit : (mode : Mode) (T : Telling) (p : PortState) (aired : List Item) (stage : Stage) (old new : ℕ) (up : List ℕ)
    → new ≡ old
    → ToldOf mode T p aired stage (heard_in old up) → ToldOf mode T p aired stage (heard_in new up)
at_unit mode T p aired stage old new up e told =
    subst (λ (unit : ℕ). ToldOf mode T p aired stage (heard_in unit up)) (sym e) told

pub claim_event : Below → (S : Claim) (T : Telling) (c : Channel) (e : Event) → ClosedFor (make_of c) S T → IsKept c
    → (is_take e ≡ true → Takes S)
    → Holds S T c → Holds S T (after_event c e)
claim_event below S T c event.Tick closed k takes h = record {
  stands = tick_claim (make_of c) S T closed c.port.state c.aired c.state h.stands;
  told = ticks_told c T (given c.plan c.state) refl k h.told;
}
claim_event below S T c event.Down closed k takes h = record {
  stands = (delivered_claim below S T c closed k h).stands;
  told = at_unit c.plan.mode T (after_burst c.port c.down).state _ c.state.stage c.port.state.unit _
      (answered c.port c.down c.up)
      (burst_unit c.plan c.port c.down) (answered_told below S T c closed h c.down refl k);
}
claim_event below S T c event.Up closed k takes h =
    let x = hears_claim below S T c closed h (heard_in c.port.state.unit c.up) None h.told
    (told_none c.plan.mode T c.port.state c.aired c.state.stage) in
    record { stands = x.stands; told = x.told }
claim_event below S T c event.DownCopy closed k takes h = record {
  stands = (delivered_claim below S T c closed k h).stands;
  told = at_unit c.plan.mode T (after_burst c.port c.down).state _ c.state.stage c.port.state.unit _ c.up
      (burst_unit c.plan c.port c.down) (delivered_claim below S T c closed k h).still;
}
claim_event below S T c event.UpCopy closed k takes h =
    let x = hears_claim below S T c closed h (heard_in c.port.state.unit c.up) (heard_in c.port.state.unit c.up) h.told
    h.told in
    record { stands = x.stands; told = x.told }
claim_event below S T c event.LoseUp closed k takes h = record {
  stands = h.stands;
  told = told_none c.plan.mode T c.port.state c.aired c.state.stage;
}
claim_event below S T c (event.AlterUp bytes) closed k takes h = record {
  stands = h.stands;
  told = alters_told c.plan.mode T c bytes (can_become_up c.plan.mode c.port.state.unit c.up bytes) refl h.told;
}
claim_event below S T c event.Timeout closed k takes h =
    let x = waits_claim below S T c closed h c.down c.up in
    record { stands = x.stands; told = x.told }
claim_event below S T c event.Ready closed k takes h =
    let x = ready_claim (make_of c) S T closed c.state.take c.aired c.state.settled c.state.stage
    (heard_in c.port.state.unit c.up) c.port.state (record { stands = h.stands; told = h.told }) in
    record { stands = x.stands; told = x.told }
claim_event below S T c event.End closed k takes h =
    let x = ended_claim (make_of c) S T closed c.state.take c.aired c.state.settled c.state.stage
    (heard_in c.port.state.unit c.up) c.port.state (record { stands = h.stands; told = h.told }) in
    record { stands = x.stands; told = x.told }
claim_event below S T c event.Frame closed k takes h =
    let x = frame_claim (make_of c) S T closed c.state.take c.aired c.state.settled c.state.stage
    (heard_in c.port.state.unit c.up) c.port (record { stands = h.stands; told = h.told }) in
    record {
      stands = x.stands;
      told = at_unit c.plan.mode T (after_frame c.port).state c.aired c.state.stage c.port.state.unit _ c.up
          (below.unit_frame c.port) x.told;
    }
claim_event below S T c event.Take closed k takes h = record {
  stands = takes refl c.state.take c.port.state c.aired c.state.settled c.state.stage h.stands;
  told = h.told;
}
claim_event below S T c event.StrayAck closed k takes h =
    same_claim below S T c closed h _ _ (stray_same below c.plan.mode c.plan c.state reply.Ack refl refl)
claim_event below S T c (event.StrayNak byte) closed k takes h =
    same_claim below S T c closed h _ _ (stray_same below c.plan.mode c.plan c.state (reply.Nak byte) refl refl)
claim_event below S T c _ closed k takes h = record { stands = h.stands; told = h.told }
