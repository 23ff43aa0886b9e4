-- Where the port is open and where it is selected, in each phase of the controller, in both modes.
use Rattle.std.proofs.Common.{◌≡◌, ℕ, Bool, true, false, List, length, Option, None, Some, refl, sym, subst, arith}
use Rattle.std.specs.Prelude.{slice_get}
use Rattle.vdcp_value.specs.declared.clip_id.ClipId.{ClipId}
use Rattle.vdcp_value.specs.declared.part.Item.{Item}
use Rattle.vdcp_value.specs.declared.timecode.Timecode.{Timecode}
use Rattle.vdcp_words.specs.declared.command.Command.TheVariants as command
use Rattle.vdcp_words.specs.declared.reply.Reply.{Reply}
use Rattle.vdcp_words.specs.declared.reply.Reply.TheVariants as reply
use Rattle.vdcp_port.specs.Port.{PortState, Cued, empty, cueing, done, made_ready, ready_state, ended_state, is_open, is_selected, is_empty as is_empty_slot}
use Rattle.vdcp_auto.specs.Commands.{is_state}
use Rattle.vdcp_auto.specs.Heard.{heard_in}
use Rattle.vdcp_auto.specs.Replies.{is_ack, is_done, is_empty, is_granted, is_refusal}
use Rattle.vdcp_auto.specs.Table.{command_in, on_reply, on_refusal}
use Rattle.vdcp_auto.specs.Turn.{phase_to_send, stage_after, on_unanswered}
use Rattle.vdcp_auto.specs.declared.phase.Mode.{Mode}
use Rattle.vdcp_auto.specs.declared.phase.Mode.TheVariants.{Plain, Confirming}
use Rattle.vdcp_auto.specs.declared.phase.Phase.{Phase}
use Rattle.vdcp_auto.specs.declared.phase.Phase.TheVariants as phase
use Rattle.vdcp_auto.specs.State.{Stage, Ready, Awaiting, Ended}
use Rattle.vdcp_world.specs.Channel.{Channel, IsReached, channel_to}
use Rattle.vdcp_world.specs.Below.{Below}
use Rattle.vdcp_world.proofs.Claims.{Claim, Closed, Holds, Telling, ToldOf}
use Rattle.vdcp_world.proofs.HeadlineProof.{kept_new}
use Rattle.vdcp_world.proofs.PhaseTable.{is_asked, port_after, answer_after}
use Rattle.vdcp_world.proofs.Readings.{firm_cue_at, firm_request}
use Rattle.vdcp_world.proofs.Kept.{claim_events}

abbrev pub Opened : PortState → Phase → Type 0
Opened p phase.Open = Unit {0}
Opened p phase.Select = is_open p ≡ true
Opened p phase.Seen = is_open p ≡ true
Opened p (phase.Exists k) = is_selected p ≡ true
Opened p (phase.Cue k) = is_selected p ≡ true
Opened p (phase.Wait k) = is_selected p ≡ true
Opened p (phase.Play k) = is_selected p ≡ true
Opened p (phase.Probe k) = is_selected p ≡ true
Opened p (phase.Check k) = is_selected p ≡ true
Opened p phase.Drain = is_selected p ≡ true
Opened p phase.Close = Unit {0}
Opened p phase.Halt = Unit {0}
Opened p phase.HaltClose = Unit {0}

abbrev pub OpenedAt : PortState → Stage → Type 0
OpenedAt p (Ready q) = Opened p q
OpenedAt p (Awaiting q) = Opened p q
OpenedAt p (Ended outcome) = Unit {0}

-- a state says whether the slot is empty
abbrev TellsCued : Cued → Reply → Type 0
TellsCued cued r = (is_empty r ≡ true → is_empty_slot cued ≡ true) × (is_done r ≡ true → is_empty_slot cued ≡ false)

abbrev pub TellsOpened : PortState → Phase → Reply → Type 0
TellsOpened p phase.Open r = is_granted r ≡ true → is_open p ≡ true
TellsOpened p phase.Select r = is_ack r ≡ true → is_selected p ≡ true
TellsOpened p phase.Seen r = (is_state r ≡ true → is_selected p ≡ true) × TellsCued p.cued r
TellsOpened p (phase.Wait k) r = TellsCued p.cued r
TellsOpened p (phase.Probe k) r = TellsCued p.cued r
TellsOpened p phase.Drain r = TellsCued p.cued r
TellsOpened p _ r = Unit {0}

naks_opened : (p : PortState) (q : Phase) (byte : ℕ) → is_refusal (reply.Nak byte) ≡ false
    → TellsOpened p q (reply.Nak byte)
naks_opened p q byte e = grind arith

module _ (list : List Item) (clips : List (ClipId × Timecode)) (p : PortState) (port : ℕ) where
  reads_opened : (q : Phase) → p.number ≡ port → Opened p q → Opened (port_after clips p (command_in list port q)) q
  reads_opened phase.Open n h = tt
  reads_opened (phase.Exists k) n h = firm_request clips p (slice_get list k) h
  reads_opened (phase.Cue k) n h = firm_cue_at clips p (slice_get list k) h
  reads_opened phase.Close n h = tt
  reads_opened phase.Halt n h = tt
  reads_opened phase.HaltClose n h = tt
  reads_opened _ n h = grind arith

  status_tells : (cued : Cued) (playing : Option Item) (r : Reply) → p.cued ≡ cued → p.playing ≡ playing
      → answer_after clips p (Some (command.Status 1)) ≡ Some r
      → TellsCued (port_after clips p (Some (command.Status 1))).cued r
  status_tells empty None r c i a = grind arith
  status_tells empty (Some clip) r c i a = grind arith
  status_tells (cueing item) None r c i a = grind arith
  status_tells (cueing item) (Some clip) r c i a = grind arith
  status_tells (done item) None r c i a = grind arith
  status_tells (done item) (Some clip) r c i a = grind arith

  reads_tell_opened : (q : Phase) (r : Reply) → p.number ≡ port → answer_after clips p (command_in list port q) ≡ Some r
      → TellsOpened (port_after clips p (command_in list port q)) q r
  reads_tell_opened phase.Open r n a = grind arith
  reads_tell_opened phase.Select r n a = grind arith
  reads_tell_opened phase.Seen r n a = (selects, status_tells p.cued p.playing r refl refl a)
    where
      selects : is_state r ≡ true → is_selected (port_after clips p (Some (command.Status 1))) ≡ true
      selects s = grind arith
  reads_tell_opened (phase.Wait k) r n a = status_tells p.cued p.playing r refl refl a
  reads_tell_opened (phase.Probe k) r n a = status_tells p.cued p.playing r refl refl a
  reads_tell_opened phase.Drain r n a = status_tells p.cued p.playing r refl refl a
  reads_tell_opened _ r n a = tt

refused_opened : (n : ℕ) (p : PortState) (q : Phase) → OpenedAt p (stage_after (on_refusal n q))
refused_opened n p q = grind arith

replied_opened : (mode : Mode) (list : List Item) (limit tries : ℕ) (take : Bool) (p : PortState) (q : Phase)
    (r : Reply) → is_asked q r ≡ true
    → TellsOpened p q r → Opened p q → OpenedAt p (stage_after (on_reply mode list limit take tries q r))
replied_opened Plain list limit tries take p q r e t h = grind arith
replied_opened Confirming list limit tries take p q r e t h = grind arith

silent_opened : (mode : Mode) (limit unanswered : ℕ) (counts : Bool) (p : PortState) (q : Phase) → Opened p q
    → OpenedAt p (stage_after (on_unanswered mode limit unanswered counts q))
silent_opened Plain limit unanswered counts p q h = grind arith
silent_opened Confirming limit unanswered counts p q h = grind arith

sends_opened : (stop : Bool) (p : PortState) (q : Phase) → Opened p q → Opened p (phase_to_send stop q)
sends_opened true p q h = tt
sends_opened false p q h = h

-- neither a cue nor a clip opens or closes the port
same_opened : (p now : PortState) (stage : Stage) → p.access ≡ now.access → OpenedAt p stage → OpenedAt now stage
same_opened p now stage e h = grind arith

same_tells : (p now : PortState) (q : Phase) (r : Reply) → p.access ≡ now.access
    → is_empty_slot p.cued ≡ is_empty_slot now.cued → TellsOpened p q r → TellsOpened now q r
same_tells p now q r e c t = grind arith

slot_ready : (cued : Cued) → is_empty_slot cued ≡ is_empty_slot (made_ready cued)
slot_ready empty = refl
slot_ready (cueing item) = refl
slot_ready (done item) = refl

closed_opened : (mode : Mode) (list : List Item) (port limit : ℕ) (clips : List (ClipId × Timecode))
    → Closed mode list port limit clips (λ take p aired settled stage. OpenedAt p stage) (λ p aired. TellsOpened p)
closed_opened mode list port limit clips = record {
  naks = λ p aired q byte e. naks_opened p q byte e;
  ready = λ take p aired settled stage h. same_opened p (ready_state p) stage refl h;
  ready_tells = λ p aired q r t. same_tells p (ready_state p) q r refl (slot_ready p.cued) t;
  ended = λ take p aired settled stage h. same_opened p (ended_state p) stage refl h;
  ended_tells = λ p aired q r t. same_tells p (ended_state p) q r refl refl t;
  sends = λ take stop p aired settled q h. sends_opened stop p q h;
  reads = λ take p aired settled q n h. reads_opened list clips p port q n h;
  reads_tell = λ take p aired settled q r n h a. reads_tell_opened list clips p port q r n a;
  refused = λ take p aired settled q r plain e t h. refused_opened (length list) p q;
  replied =
      λ take p aired settled tries q r asked receipt t h. replied_opened mode list limit tries take p q r asked t h;
  silent = λ take p aired settled unanswered counts q h. silent_opened mode limit unanswered counts p q h;
}

abbrev IsOpened : Claim
IsOpened take p aired settled stage = OpenedAt p stage

abbrev TellsOf : Telling
TellsOf p aired = TellsOpened p

reached_holds : Below → (c : Channel) → IsReached c → Holds IsOpened TellsOf c
reached_holds below c r =
    subst (Holds IsOpened TellsOf) (sym r.led)
    (claim_events below (λ take p aired settled stage. OpenedAt p stage) (λ p aired. TellsOpened p) new r.events
    (closed_opened r.plan.mode r.plan.list r.plan.port r.plan.limit r.port.clips)
    (kept_new r.plan r.port r.unit_fits r.port_fits r.of_bytes r.numbered r.nothing_cued)
    (λ some take p aired settled stage h. h)
    (record { stands = tt; told = tt }))
  where
    new : Channel
    new = channel_to r.plan r.port

pub reached_opened : Below → (c : Channel) → IsReached c → OpenedAt c.port.state c.state.stage
reached_opened below c r = (reached_holds below c r).stands

pub reached_told : Below → (c : Channel) → IsReached c
    → ToldOf c.plan.mode (λ p aired. TellsOpened p) c.port.state c.aired c.state.stage (heard_in c.port.state.unit c.up)
reached_told below c r = (reached_holds below c r).told
