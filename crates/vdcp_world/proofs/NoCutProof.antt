-- No clip is cut short without a take.
use Rattle.std.proofs.Common.{◌≡◌, ◌<◌, ◌≤◌, ◌+◌, inl, inr, ℕ, Bool, true, false, List, [], ◌∷◌, ◌++◌, length, Option, Some, None, refl, sym, ap, subst, ◌∙◌, arith, length-append}
use Rattle.std.specs.List.{list_any}
use Rattle.std.specs.Option.{option_map}
use Rattle.std.specs.Prelude.{IfSome, IsSome, slice_get}
use Rattle.vdcp_value.specs.declared.clip_id.ClipId.{ClipId}
use Rattle.vdcp_value.specs.declared.part.Item.{Item}
use Rattle.vdcp_value.specs.declared.part.Part.{Part}
use Rattle.vdcp_value.specs.declared.timecode.Timecode.{Timecode}
use Rattle.vdcp_words.specs.Commands.{IsWritableCommand}
use Rattle.vdcp_words.specs.declared.command.Command.{Command}
use Rattle.vdcp_words.specs.declared.command.Command.TheVariants as command
use Rattle.vdcp_words.specs.declared.reply.Reply.{Reply}
use Rattle.vdcp_words.specs.declared.reply.Reply.TheVariants as reply
use Rattle.vdcp_port.specs.Answers.{aired_for}
use Rattle.vdcp_port.specs.Port.{PortState, Cued, empty, cueing, done, ready_state, ended_state, is_empty as is_empty_slot}
use Rattle.vdcp_auto.specs.Commands.{cue_for, cue_of}
use Rattle.vdcp_auto.specs.Heard.{heard_in}
use Rattle.vdcp_auto.specs.Replies.{is_refusal, is_done, is_playing}
use Rattle.vdcp_auto.specs.Table.{command_in, on_reply, on_refusal}
use Rattle.vdcp_auto.specs.Turn.{awaited, awaited_in, given, given_in, ticked, tick_in, phase_to_send, take_after_sending, stage_after, on_unanswered}
use Rattle.vdcp_auto.specs.declared.phase.Mode.{Mode}
use Rattle.vdcp_auto.specs.declared.phase.Mode.TheVariants.{Plain, Confirming}
use Rattle.vdcp_auto.specs.declared.phase.Phase.{Phase}
use Rattle.vdcp_auto.specs.declared.phase.Phase.TheVariants as phase
use Rattle.vdcp_auto.specs.State.{Stage, Ready, Awaiting, Ended}
use Rattle.vdcp_world.specs.Channel.{Channel, IsReached, after_event, after_events, channel_to, up_behind}
use Rattle.vdcp_world.specs.NoCut.{is_take, Cuts, CutsUnasked, NoCut}
use Rattle.vdcp_world.specs.declared.event.Event.{Event}
use Rattle.vdcp_world.specs.declared.event.Event.TheVariants as event
use Rattle.vdcp_world.specs.Below.{Below}
use Rattle.vdcp_world.proofs.Claims.{Closed, Holds, ToldOf, told_none, IsKept, Claim, Telling}
use Rattle.vdcp_world.proofs.ConfirmedRounds.{slot_stays}
use Rattle.vdcp_world.proofs.HeadlineProof.{reached_kept}
use Rattle.vdcp_world.proofs.OnTheWay.{Way}
use Rattle.vdcp_world.proofs.PhaseTable.{is_asked, port_after, aired_after, answer_after}
use Rattle.vdcp_world.proofs.Reached.{events_reached}
use Rattle.vdcp_world.proofs.WayLemmas.{reads_nothing, reads_command}
use Rattle.vdcp_world.proofs.Readings.{none_more}
use Rattle.vdcp_world.proofs.Kept.{claim_events}

-- once n items or more were aired, a PLAY goes out to a cue only where nothing plays
abbrev Over : ℕ → PortState → List Item → Phase → Type 0
Over n p aired (phase.Play k) = n ≤ length aired → is_empty_slot p.cued ≡ false → p.playing ≡ None
Over n p aired (phase.Probe k) = n ≤ length aired → is_empty_slot p.cued ≡ false → p.playing ≡ None
Over n p aired _ = Unit {0}

abbrev OverAt : ℕ → PortState → List Item → Stage → Type 0
OverAt n p aired (Ready q) = Over n p aired q
OverAt n p aired (Awaiting q) = Over n p aired q
OverAt n p aired (Ended outcome) = Unit {0}

-- and nobody wishes to take
abbrev Untaken : ℕ → Claim
Untaken n take p aired settled stage = (take ≡ false) × OverAt n p aired stage

abbrev TellsIdle : Telling
TellsIdle p aired (phase.Wait k) r = is_done r ≡ true → is_playing r ≡ false → p.playing ≡ None
TellsIdle p aired _ r = Unit {0}

naks_idle : (p : PortState) (aired : List Item) (q : Phase) (byte : ℕ) → is_refusal (reply.Nak byte) ≡ false
    → TellsIdle p aired q (reply.Nak byte)
naks_idle p aired q byte e = grind arith

-- ---- the cue is done, the clip has ended

module _ (n : ℕ) (p : PortState) (aired : List Item) where
  ready_over : (q : Phase) → Over n p aired q → Over n (ready_state p) aired q
  ready_over q h = grind (arith, slot_stays p.cued)

  ready_over_at : (stage : Stage) → OverAt n p aired stage → OverAt n (ready_state p) aired stage
  ready_over_at (Ready q) h = ready_over q h
  ready_over_at (Awaiting q) h = ready_over q h
  ready_over_at (Ended outcome) h = tt

  ended_over_at : (stage : Stage) → OverAt n p aired stage → OverAt n (ended_state p) aired stage
  ended_over_at stage h = grind arith

module _ (p : PortState) (aired : List Item) (q : Phase) (r : Reply) where
  ready_idle : TellsIdle p aired q r → TellsIdle (ready_state p) aired q r
  ready_idle t = grind arith

  ended_idle : TellsIdle p aired q r → TellsIdle (ended_state p) aired q r
  ended_idle t = grind arith

-- ---- the controller sends

still_untaken : (q : Phase) (take : Bool) → take ≡ false → take_after_sending q take ≡ false
still_untaken q take e = grind arith

sends_over : (n : ℕ) (take stop : Bool) (p : PortState) (aired : List Item) (settled : ℕ) (q : Phase)
    → Untaken n take p aired settled (Ready q)
    → Untaken n (take_after_sending (phase_to_send stop q) take) p aired settled (Awaiting (phase_to_send stop q))
sends_over n take true p aired settled q h = (h.0, tt)
sends_over n take false p aired settled q h = (still_untaken q take h.0, h.1)

-- ---- the port reads

module _ (n : ℕ) where
  reads_play : (clips : List (ClipId × Timecode)) (p : PortState) (cued : Cued) (aired : List Item) (k : ℕ)
      → p.cued ≡ cued → Over n p aired (phase.Play k) → Over n (port_after clips p (Some command.Play))
      (aired ++ aired_after clips p (Some command.Play)) (phase.Play k)
  reads_play clips p empty aired k e h = grind (arith, none_more)
  reads_play clips p _ aired k e h = grind (arith, none_more)

  reads_over : (list : List Item) (clips : List (ClipId × Timecode)) (p : PortState) (aired : List Item) (port : ℕ)
      (q : Phase) → Over n p aired q → Over n (port_after clips p (command_in list port q)) (aired ++ aired_after clips
      p (command_in list port q)) q
  reads_over list clips p aired port (phase.Play k) h = reads_play clips p p.cued aired k refl h
  reads_over list clips p aired port (phase.Probe k) h = grind (arith, none_more)
  reads_over list clips p aired port _ h = tt

status_idle : (clips : List (ClipId × Timecode)) (p : PortState) (cued : Cued) (playing : Option Item) (r : Reply)
    → p.cued ≡ cued → p.playing ≡ playing
    → answer_after clips p (Some (command.Status 1)) ≡ Some r → is_done r ≡ true → is_playing r ≡ false
    → (port_after clips p (Some (command.Status 1))).playing ≡ None
status_idle clips p (cueing item) None r x y a ready idle = grind arith
status_idle clips p (cueing item) (Some clip) r x y a ready idle = grind arith
status_idle clips p (done item) None r x y a ready idle = grind arith
status_idle clips p (done item) (Some clip) r x y a ready idle = grind arith
status_idle clips p empty _ r x y a ready idle = grind arith

reads_tell_idle : (list : List Item) (clips : List (ClipId × Timecode)) (p : PortState) (aired : List Item) (port : ℕ)
    (q : Phase) (r : Reply) → answer_after clips p (command_in list port q) ≡ Some r
    → TellsIdle (port_after clips p (command_in list port q)) aired q r
reads_tell_idle list clips p aired port (phase.Wait k) r a = status_idle clips p p.cued p.playing r refl refl a
reads_tell_idle list clips p aired port _ r a = tt

-- ---- the controller hears an answer, or none

refused_over : (n size : ℕ) (p : PortState) (aired : List Item) (q : Phase)
    → OverAt n p aired (stage_after (on_refusal size q))
refused_over n size p aired q = grind arith

module _ (n : ℕ) where
  replied_over : (mode : Mode) (list : List Item) (limit tries : ℕ) (take : Bool) (p : PortState) (aired : List Item)
      (q : Phase) (r : Reply) → is_asked q r ≡ true → take ≡ false → TellsIdle p aired q r → Over n p aired q
      → OverAt n p aired (stage_after (on_reply mode list limit take tries q r))
  replied_over Plain list limit tries take p aired q r e none t h = grind arith
  replied_over Confirming list limit tries take p aired q r e none t h = grind arith

  silent_over : (mode : Mode) (limit unanswered : ℕ) (counts : Bool) (p : PortState) (aired : List Item) (q : Phase)
      → Over n p aired q → OverAt n p aired (stage_after (on_unanswered mode limit unanswered counts q))
  silent_over Plain limit unanswered counts p aired q h = grind arith
  silent_over Confirming limit unanswered counts p aired q h = grind arith

  closed_over : (mode : Mode) (list : List Item) (port limit : ℕ) (clips : List (ClipId × Timecode))
      → Closed mode list port limit clips (Untaken n) TellsIdle
  closed_over mode list port limit clips = record {
    naks = naks_idle;
    ready = λ take p aired settled stage h. (h.0, ready_over_at n p aired stage h.1);
    ready_tells = ready_idle;
    ended = λ take p aired settled stage h. (h.0, ended_over_at n p aired stage h.1);
    ended_tells = ended_idle;
    sends = sends_over n;
    reads = λ take p aired settled q numbered h. (h.0, reads_over n list clips p aired port q h.1);
    reads_tell = λ take p aired settled q r numbered h a. reads_tell_idle list clips p
        (aired ++ aired_after clips p (command_in list port q)) port q r a;
    refused = λ take p aired settled q r plain e t h. (h.0, refused_over n (length list) p aired q);
    replied = λ take p aired settled tries q r asked receipt t h.
        (h.0, replied_over mode list limit tries take p aired q r asked h.0 t h.1);
    silent =
        λ take p aired settled unanswered counts q h. (h.0, silent_over mode limit unanswered counts p aired q h.1);
  }

-- ---- where a clip would be cut short

module _ (clips : List (ClipId × Timecode)) (p : PortState) where
  airs_no_cue : (o : Option Item) → aired_after clips p (option_map cue_of o) ≡ []
  airs_no_cue None = refl
  airs_no_cue (Some item) = of item.id item.part
    where
      of : (id : ClipId) (part : Option Part) → aired_after clips p (Some (cue_for id part)) ≡ []
      of id None = grind arith
      of id (Some part) = grind arith

  airs_no_request : (o : Option Item) → aired_after clips p (option_map (λ item. command.IdRequest item.id) o) ≡ []
  airs_no_request None = refl
  airs_no_request (Some item) = refl

-- a PLAY alone puts a clip on air, a done cue's
airs_by_play : (list : List Item) (clips : List (ClipId × Timecode)) (p : PortState) (aired : List Item) (n port : ℕ)
    (q : Phase)
    → Over n p aired q → n ≤ length aired → IsSome p.playing → aired_after clips p (command_in list port q) ≡ []
airs_by_play list clips p aired n port (phase.Exists k) h more plays = airs_no_request clips p (slice_get list k)
airs_by_play list clips p aired n port (phase.Cue k) h more plays = airs_no_cue clips p (slice_get list k)
airs_by_play list clips p aired n port (phase.Play k) h more plays = by p.cued refl
  where
    nothing : p.playing ≡ None → ⊥
    nothing e = no_some (subst IsSome e plays)
      where
        no_some : IsSome {T = Item} None → ⊥
        no_some x = cc

    by : (cued : Cued) → p.cued ≡ cued → aired_after clips p (Some command.Play) ≡ []
    by empty e = grind arith
    by (cueing item) e = grind arith
    by (done item) e = absurd (nothing (h more (ap is_empty_slot e)))
airs_by_play list clips p aired n port _ h more plays = grind arith

airs_none : Below → (n : ℕ) (c : Channel) → IsKept c → OverAt n c.port.state c.aired c.state.stage → n ≤ length c.aired
    → IsSome c.port.state.playing
    → aired_for c.port c.down ≡ []
airs_none below n c k h more plays = by k.way
  where
    airs : (stage : Stage) (d : Command) → OverAt n c.port.state c.aired stage → awaited_in c.plan stage ≡ Some d
        → aired_after c.port.clips c.port.state (Some d) ≡ []
    airs (Awaiting q) d h is =
        subst (λ (o : Option Command). aired_after c.port.clips c.port.state o ≡ []) is
        (airs_by_play c.plan.list c.port.clips c.port.state c.aired n c.plan.port q h more plays)
    airs _ d h is = cc

    by : Way c.plan.mode c.port.state.unit (awaited c.plan c.state) c.down c.up → aired_for c.port c.down ≡ []
    by (inl none) = (reads_nothing below c.port c.down none).airs
    by (inr (d, is, ms, quiet)) =
        let w : IsWritableCommand d = subst (λ (o : Option Command). IfSome o IsWritableCommand) is
        (below.awaited_written c.plan c.state k.of_bytes k.port_fits) in
        (reads_command below c.port c.down d k.unit_fits w ms).airs ∙ airs c.state.stage d h is

same_length : (aired more : List Item) → more ≡ [] → length aired < length (aired ++ more) → ⊥
same_length aired more e l = omega (arith, length-append aired more, ap length e, l)

cuts_none : Below → (n : ℕ) (c : Channel) (e : Event) → IsKept c → OverAt n c.port.state c.aired c.state.stage
    → n ≤ length c.aired → Cuts c e → ⊥
cuts_none below n c e k h more cuts = by e cuts.airs
  where
    none : aired_for c.port c.down ≡ []
    none = airs_none below n c k h more cuts.plays

    by : (e : Event) → length c.aired < length (after_event c e).aired → ⊥
    by event.Down l = same_length c.aired (aired_for c.port c.down) none l
    by event.DownCopy l = same_length c.aired (aired_for c.port c.down) none l
    by _ l = omega (arith, l)

-- ---- from where on

impossible : true ≡ false → ⊥
impossible e = cc

goes_on : Below → (n : ℕ) (c : Channel) (events : List Event) → IsReached c → Holds (Untaken n) TellsIdle c
    → list_any is_take events ≡ false
    → OverAt n (after_events c events).port.state (after_events c events).aired (after_events c events).state.stage
goes_on below n c events r h none =
    (claim_events below (Untaken n) TellsIdle c events (closed_over n c.plan.mode c.plan.list c.plan.port c.plan.limit
    c.port.clips)
    (reached_kept below c r) (λ some. absurd (impossible (sym some ∙ none))) h).stands.1

never_taken : Below → (c : Channel) → IsReached c → c ≡ channel_to c.plan c.port
    → (events : List Event) (e : Event) → CutsUnasked c events e → ⊥
never_taken below c r is_new events e cut =
    let now = after_events c events in
    let k = reached_kept below now (events_reached c events r) in
    cuts_none below 0 now e k (goes_on below 0 c events r at_first cut.no_take)
    (omega arith) cut.cuts
  where
    at_first : Holds (Untaken 0) TellsIdle c
    at_first = subst (Holds (Untaken 0) TellsIdle) (sym is_new) (record { stands = (refl, tt); told = tt })

-- a tick that gives a PLAY forgets the wish to take

over_none : (p : PortState) (aired : List Item) (q : Phase) → Over (length aired + 1) p aired q
over_none p aired q = grind arith

gives_play : (list : List Item) (port : ℕ) (q : Phase) (take : Bool) → command_in list port q ≡ Some command.Play
    → take_after_sending q take ≡ false
gives_play list port (phase.Exists k) take e = of (slice_get list k) e
  where
    of : (o : Option Item) → option_map (λ item. command.IdRequest item.id) o ≡ Some command.Play → take ≡ false
    of None e = cc
    of (Some item) e = cc
gives_play list port (phase.Cue k) take e = of (slice_get list k) e
  where
    of_part : (id : ClipId) (part : Option Part) → Some (cue_for id part) ≡ Some command.Play → take ≡ false
    of_part id None e = cc
    of_part id (Some part) e = cc

    of : (o : Option Item) → option_map cue_of o ≡ Some command.Play → take ≡ false
    of None e = cc
    of (Some item) e = of_part item.id item.part e
gives_play list port (phase.Play k) take e = refl
gives_play list port _ take e = cc

sent_untaken : (c : Channel) → given c.plan c.state ≡ Some command.Play
    → Untaken (length c.aired + 1) (ticked c.state).take c.port.state c.aired (ticked c.state).settled
    (ticked c.state).stage
sent_untaken c e = by c.state.stage e
  where
    by : (stage : Stage) → given_in c.plan c.state.stop stage ≡ Some command.Play
        → Untaken (length c.aired + 1) (tick_in stage c.state).take c.port.state c.aired
        (tick_in stage c.state).settled (tick_in stage c.state).stage
    by (Ready q) e = (
      gives_play c.plan.list c.plan.port (phase_to_send c.state.stop q) c.state.take e,
      over_none c.port.state
          c.aired (phase_to_send c.state.stop q),
    )
    by _ e = cc

not_since : Below → (c : Channel) → IsReached c → given c.plan c.state ≡ Some command.Play
    → (events : List Event) (e : Event)
    → length c.aired < length (after_events c (event.Tick ∷ events)).aired → CutsUnasked c (event.Tick ∷ events) e → ⊥
not_since below c r gives events e more cut =
    let sent = after_event c event.Tick in
    let now = after_events sent events in
    cuts_none below (length c.aired + 1) now e (reached_kept below now (events_reached c (event.Tick ∷ events) r))
    (goes_on below (length c.aired + 1) sent events (events_reached c (event.Tick ∷ []) r) at_first cut.no_take)
    (omega (arith, more)) cut.cuts
  where
    at_first : Holds (Untaken (length c.aired + 1)) TellsIdle (after_event c event.Tick)
    at_first = record {
      stands = sent_untaken c gives;
      told = subst
          (λ (g : Option Command). ToldOf c.plan.mode TellsIdle c.port.state c.aired (ticked c.state).stage
          (heard_in c.port.state.unit (up_behind g c.up)))
          (sym gives) (told_none c.plan.mode TellsIdle c.port.state c.aired (ticked c.state).stage);
    }

pub no_cut : Below → (c : Channel) → IsReached c → NoCut c
no_cut below c r = record {
  never_taken = λ is_new events e. never_taken below c r is_new events e;
  not_since = λ gives events e more. not_since below c r gives events e more;
}
