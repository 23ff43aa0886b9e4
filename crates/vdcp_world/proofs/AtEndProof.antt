-- How the port is left where the controller has ended.
use Rattle.std.proofs.Common.{◌≡◌, ℕ, Bool, true, false, ◌||◌, List, length, Option, Some, None, refl, sym, ap, subst, arith}
use Rattle.std.specs.Prelude.{IfSome}
use Rattle.vdcp_value.specs.declared.clip_id.ClipId.{ClipId}
use Rattle.vdcp_value.specs.declared.part.Item.{Item}
use Rattle.vdcp_value.specs.declared.timecode.Timecode.{Timecode}
use Rattle.vdcp_words.specs.declared.command.Command.TheVariants as command
use Rattle.vdcp_words.specs.declared.reply.Reply.{Reply}
use Rattle.vdcp_words.specs.declared.reply.Reply.TheVariants as reply
use Rattle.vdcp_port.specs.Port.{PortState, Cued, empty, cueing, done, made_ready, ready_state, ended_state}
use Rattle.vdcp_auto.specs.Commands.{is_state}
use Rattle.vdcp_auto.specs.Replies.{is_ack, is_refusal, is_done, is_cueing, is_playing}
use Rattle.vdcp_auto.specs.Table.{command_in, on_reply, on_refusal}
use Rattle.vdcp_auto.specs.Turn.{phase_to_send, stage_after, on_unanswered, outcome_of}
use Rattle.vdcp_auto.specs.declared.outcome.Outcome.TheVariants as outcome
use Rattle.vdcp_auto.specs.declared.phase.Mode.{Mode}
use Rattle.vdcp_auto.specs.declared.phase.Mode.TheVariants.{Plain, Confirming}
use Rattle.vdcp_auto.specs.declared.phase.Phase.{Phase}
use Rattle.vdcp_auto.specs.declared.phase.Phase.TheVariants as phase
use Rattle.vdcp_auto.specs.State.{Stage, Ready, Awaiting, Ended}
use Rattle.vdcp_world.specs.AtEnd.{AreSlotsEmpty, IsAtRest, LeavesPort}
use Rattle.vdcp_world.specs.Channel.{Channel, Make, IsReached, after_events, channel_to}
use Rattle.vdcp_world.specs.declared.event.Event.{Event}
use Rattle.vdcp_world.specs.Below.{Below}
use Rattle.vdcp_world.proofs.Claims.{Closed}
use Rattle.vdcp_world.proofs.HeadlineProof.{kept_new}
use Rattle.vdcp_world.proofs.Reached.{make_after_all}
use Rattle.vdcp_world.proofs.PhaseTable.{is_asked, port_after, answer_after}
use Rattle.vdcp_world.proofs.Kept.{claim_events}

-- a status showed both slots to be empty before the CLOSE went out
abbrev Closing : PortState → Phase → Type 0
Closing p phase.Close = AreSlotsEmpty p
Closing p _ = Unit {0}

abbrev Rests : Mode → PortState → Stage → Type 0
Rests mode p (Ready q) = Closing p q
Rests mode p (Awaiting q) = Closing p q
Rests mode p (Ended o) = LeavesPort mode p o

-- in plain mode an answer to CLOSE shows that it was executed
abbrev AfterClose : Mode → PortState → Reply → Type 0
AfterClose Plain p r = (is_ack r || is_refusal r) ≡ true → IsAtRest p
AfterClose Confirming p r = Unit {0}

abbrev TellsRest : Mode → PortState → Phase → Reply → Type 0
TellsRest mode p phase.Drain r = is_state r ≡ true → (is_cueing r || is_done r) ≡ false → is_playing r ≡ false
    → AreSlotsEmpty p
TellsRest mode p phase.Close r = AfterClose mode p r
TellsRest mode p phase.HaltClose r = AfterClose mode p r
TellsRest mode p _ r = Unit {0}

-- ---- a NAK that is no refusal

naks_rest : (mode : Mode) (p : PortState) (q : Phase) (byte : ℕ) → is_refusal (reply.Nak byte) ≡ false
    → TellsRest mode p q (reply.Nak byte)
naks_rest Plain p q byte e = grind arith
naks_rest Confirming p q byte e = grind arith

-- ---- the cue is done, the clip has ended

slots_ready : (p : PortState) → AreSlotsEmpty p → AreSlotsEmpty (ready_state p)
slots_ready p h = record { nothing_cued = ap made_ready h.nothing_cued; nothing_plays = h.nothing_plays }

slots_ended : (p : PortState) → AreSlotsEmpty p → AreSlotsEmpty (ended_state p)
slots_ended p h = record { nothing_cued = h.nothing_cued; nothing_plays = refl }

rest_ready : (p : PortState) → IsAtRest p → IsAtRest (ready_state p)
rest_ready p h = record {
  closed = h.closed;
  nothing_cued = ap made_ready h.nothing_cued;
  nothing_plays = h.nothing_plays;
}

rest_ended : (p : PortState) → IsAtRest p → IsAtRest (ended_state p)
rest_ended p h = record { closed = h.closed; nothing_cued = h.nothing_cued; nothing_plays = refl }

-- what is said of a port in these words is kept by what keeps them
record Keeps (p now : PortState) : Type 0 where
  pub slots : AreSlotsEmpty p → AreSlotsEmpty now
  pub rest : IsAtRest p → IsAtRest now

keeps_ready : (p : PortState) → Keeps p (ready_state p)
keeps_ready p = record { slots = slots_ready p; rest = rest_ready p }

keeps_ended : (p : PortState) → Keeps p (ended_state p)
keeps_ended p = record { slots = slots_ended p; rest = rest_ended p }

keeps_closing : (p now : PortState) (q : Phase) → Keeps p now → Closing p q → Closing now q
keeps_closing p now phase.Close k h = k.slots h
keeps_closing p now _ k h = tt

keeps_rests : (mode : Mode) (p now : PortState) (stage : Stage) → Keeps p now → Rests mode p stage
    → Rests mode now stage
keeps_rests mode p now (Ready q) k h = keeps_closing p now q k h
keeps_rests mode p now (Awaiting q) k h = keeps_closing p now q k h
keeps_rests Plain p now (Ended outcome.Done) k h = k.rest h
keeps_rests Plain p now (Ended outcome.Stopped) k h = k.rest h
keeps_rests Plain p now (Ended _) k h = tt
keeps_rests Confirming p now (Ended outcome.Done) k h = k.slots h
keeps_rests Confirming p now (Ended _) k h = tt

keeps_after : (mode : Mode) (p now : PortState) (r : Reply) → Keeps p now → AfterClose mode p r → AfterClose mode now r
keeps_after Plain p now r k h = λ answers. k.rest (h answers)
keeps_after Confirming p now r k h = tt

keeps_tells : (mode : Mode) (p now : PortState) (q : Phase) (r : Reply) → Keeps p now → TellsRest mode p q r
    → TellsRest mode now q r
keeps_tells mode p now phase.Drain r k h = λ state not_cued not_playing. k.slots (h state not_cued not_playing)
keeps_tells mode p now phase.Close r k h = keeps_after mode p now r k h
keeps_tells mode p now phase.HaltClose r k h = keeps_after mode p now r k h
keeps_tells mode p now _ r k h = tt

-- ---- the controller sends

sends_rest : (stop : Bool) (p : PortState) (q : Phase) → Closing p q → Closing p (phase_to_send stop q)
sends_rest true p q h = tt
sends_rest false p q h = h

-- ---- the port reads

closes_to_rest : (clips : List (ClipId × Timecode)) (p : PortState) (port : ℕ) → p.number ≡ port
    → IsAtRest (port_after clips p (Some (command.Close port)))
closes_to_rest clips p port n = grind arith

reads_rest : (list : List Item) (clips : List (ClipId × Timecode)) (p : PortState) (port : ℕ) (q : Phase)
    → p.number ≡ port
    → Closing p q → Closing (port_after clips p (command_in list port q)) q
reads_rest list clips p port phase.Close n h =
    let rest = closes_to_rest clips p port n in record
    { nothing_cued = rest.nothing_cued; nothing_plays = rest.nothing_plays }
reads_rest list clips p port _ n h = tt

module _ (clips : List (ClipId × Timecode)) where
  status_tells : (p : PortState) (cued : Cued) (playing : Option Item) (r : Reply) → p.cued ≡ cued → p.playing ≡ playing
      → answer_after clips p (Some (command.Status 1)) ≡ Some r → is_state r ≡ true → (is_cueing r || is_done r) ≡ false
      → is_playing r ≡ false → AreSlotsEmpty p
  status_tells p empty None r x y a state not_cued not_playing = record { nothing_cued = x; nothing_plays = y }
  status_tells p empty (Some item) r x y a state not_cued not_playing = grind arith
  status_tells p (cueing item) None r x y a state not_cued not_playing = grind arith
  status_tells p (cueing item) (Some clip) r x y a state not_cued not_playing = grind arith
  status_tells p (done item) None r x y a state not_cued not_playing = grind arith
  status_tells p (done item) (Some clip) r x y a state not_cued not_playing = grind arith

  status_leaves : (p : PortState) → port_after clips p (Some (command.Status 1)) ≡ p
  status_leaves p = grind arith

closes_tell : (mode : Mode) (clips : List (ClipId × Timecode)) (p : PortState) (port : ℕ) (r : Reply) → p.number ≡ port
    → AfterClose mode (port_after clips p (Some (command.Close port))) r
closes_tell Plain clips p port r n = λ answers. closes_to_rest clips p port n
closes_tell Confirming clips p port r n = tt

reads_tell_rest : (mode : Mode) (list : List Item) (clips : List (ClipId × Timecode)) (p : PortState) (port : ℕ)
    (q : Phase) (r : Reply) → p.number ≡ port
    → answer_after clips p (command_in list port q) ≡ Some r
    → TellsRest mode (port_after clips p (command_in list port q)) q r
reads_tell_rest mode list clips p port phase.Drain r n a = λ state not_cued not_playing.
    subst AreSlotsEmpty (sym (status_leaves clips p)) (status_tells clips p p.cued p.playing r refl refl a state
    not_cued not_playing)
reads_tell_rest mode list clips p port phase.Close r n a = closes_tell mode clips p port r n
reads_tell_rest mode list clips p port phase.HaltClose r n a = closes_tell mode clips p port r n
reads_tell_rest mode list clips p port _ r n a = tt

-- ---- the controller hears an answer, or none

refused_rest : (list : List Item) (p : PortState) (q : Phase) (r : Reply) → is_refusal r ≡ true → TellsRest Plain p q r
    → Rests Plain p (stage_after (on_refusal (length list) q))
refused_rest list p q r e t = grind arith

replied_rest : (mode : Mode) (list : List Item) (limit tries : ℕ) (take : Bool) (p : PortState) (q : Phase) (r : Reply)
    → is_asked q r ≡ true
    → TellsRest mode p q r → Closing p q → Rests mode p (stage_after (on_reply mode list limit take tries q r))
replied_rest Plain list limit tries take p q r e t h = grind arith
replied_rest Confirming list limit tries take p q r e t h = grind arith

silent_rest : (mode : Mode) (limit unanswered : ℕ) (counts : Bool) (p : PortState) (q : Phase) → Closing p q
    → Rests mode p (stage_after (on_unanswered mode limit unanswered counts q))
silent_rest Plain limit unanswered counts p q h = grind arith
silent_rest Confirming limit unanswered counts p q h = grind arith

-- ---- all of it

closed_rest : (mode : Mode) (list : List Item) (port limit : ℕ) (clips : List (ClipId × Timecode))
    → Closed mode list port limit clips (λ take p aired settled stage. Rests mode p stage) (λ p aired. TellsRest mode p)
closed_rest mode list port limit clips = record {
  naks = λ p aired q byte e. naks_rest mode p q byte e;
  ready = λ take p aired settled stage h. keeps_rests mode p (ready_state p) stage (keeps_ready p) h;
  ready_tells = λ p aired q r t. keeps_tells mode p (ready_state p) q r (keeps_ready p) t;
  ended = λ take p aired settled stage h. keeps_rests mode p (ended_state p) stage (keeps_ended p) h;
  ended_tells = λ p aired q r t. keeps_tells mode p (ended_state p) q r (keeps_ended p) t;
  sends = λ take stop p aired settled q h. sends_rest stop p q h;
  reads = λ take p aired settled q n h. reads_rest list clips p port q n h;
  reads_tell = λ take p aired settled q r n h a. reads_tell_rest mode list clips p port q r n a;
  refused = λ take p aired settled q r plain e t h.
      subst (λ (m : Mode). Rests m p (stage_after (on_refusal (length list) q))) (sym plain)
      (refused_rest list p q r e (subst (λ (m : Mode). TellsRest m p q r) plain t));
  replied = λ take p aired settled tries q r asked receipt t h. replied_rest mode list limit tries take p q r asked t h;
  silent = λ take p aired settled unanswered counts q h. silent_rest mode limit unanswered counts p q h;
}

reached_rests : Below → (c : Channel) → IsReached c → Rests c.plan.mode c.port.state c.state.stage
reached_rests below c r = subst (λ (x : Channel). Rests x.plan.mode x.port.state x.state.stage) (sym r.led)
    (rests r.events)
  where
    new : Channel
    new = channel_to r.plan r.port

    rests : (es : List Event) → Rests (after_events new es).plan.mode (after_events new es).port.state
        (after_events new es).state.stage
    rests es = subst (λ (mode : Mode). Rests mode (after_events new es).port.state (after_events new es).state.stage)
        (sym (ap (λ (m : Make). m.plan.mode) (make_after_all new es)))
        (claim_events below (λ take p aired settled stage. Rests r.plan.mode p stage)
        (λ p aired. TellsRest r.plan.mode p) new es
        (closed_rest r.plan.mode r.plan.list r.plan.port r.plan.limit r.port.clips)
        (kept_new r.plan r.port r.unit_fits r.port_fits r.of_bytes r.numbered r.nothing_cued)
        (λ _ take p aired settled stage h. h)
        (record { stands = tt; told = tt })).stands

pub leaves : Below → (c : Channel) → IsReached c → IfSome (outcome_of c.state.stage)
    (LeavesPort c.plan.mode c.port.state)
leaves below c r = by c.state.stage (reached_rests below c r)
  where
    by : (stage : Stage) → Rests c.plan.mode c.port.state stage → IfSome (outcome_of stage)
        (LeavesPort c.plan.mode c.port.state)
    by (Ended o) h = h
    by _ h = tt
