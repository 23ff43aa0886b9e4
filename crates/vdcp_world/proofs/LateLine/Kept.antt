-- What holds of a late channel over bytes, where a claim holds of what they carry.
use Rattle.std.proofs.Common.{ℕ, ◌<◌, ◌≡◌, ◌≢◌, ◌⊎◌, inl, inr, true, false, List, [], ◌∷◌, ◌++◌, All, refl, sym, subst}
use Rattle.std.specs.Option.{option_to_list}
use Rattle.std.specs.Prelude.{Option, Some, IfSome}
use Rattle.vdcp_value.specs.Parts.{IsItem}
use Rattle.vdcp_value.specs.declared.clip_id.ClipId.{ClipId}
use Rattle.vdcp_value.specs.declared.timecode.Timecode.{Timecode}
use Rattle.vdcp_value.specs.declared.part.Item.{Item}
use Rattle.vdcp_frame.specs.Burst.{messages_of}
use Rattle.vdcp_words.specs.Commands.{command_message, IsWritableCommand}
use Rattle.vdcp_words.specs.declared.command.Command.{Command}
use Rattle.vdcp_words.specs.declared.reply.Reply.TheVariants as reply
use Rattle.vdcp_port.specs.Answers.{sent_for, aired_for, after_burst}
use Rattle.vdcp_port.specs.Clock.{ClockedPort, after_change}
use Rattle.vdcp_port.specs.Port.{is_selected}
use Rattle.vdcp_port.specs.Row.{Change, command_row, changed, on_air}
use Rattle.vdcp_auto.specs.Heard.{heard_in}
use Rattle.vdcp_auto.specs.Plan.{Plan}
use Rattle.vdcp_auto.specs.Table.{command_in}
use Rattle.vdcp_auto.specs.declared.exchange.Exchange.{Exchange}
use Rattle.vdcp_auto.specs.declared.exchange.Heard.{Heard}
use Rattle.vdcp_auto.specs.declared.exchange.Heard.TheVariants as heard
use Rattle.vdcp_auto.specs.declared.phase.Mode.{Mode}
use Rattle.vdcp_auto.specs.declared.phase.Mode.TheVariants.{Plain, Confirming}
use Rattle.vdcp_auto.specs.declared.phase.Phase.{Phase}
use Rattle.vdcp_auto.specs.State.{Stage, Ready, State}
use Rattle.vdcp_world.specs.LateLine.Damage.{is_no_answer}
use Rattle.vdcp_world.specs.LateLine.LateChannel.{LateChannel, bursts_of}
use Rattle.vdcp_world.specs.Below.{Below}
use Rattle.vdcp_world.proofs.LateLine.Carrying.{Carries, carries_pushed, carries_pushed_junk, carries_same, Left}
use Rattle.vdcp_world.proofs.LateLine.Claims.{Claim, Steady, thins}
use Rattle.vdcp_world.proofs.LateLine.Delivering.{aired_same}
use Rattle.vdcp_world.proofs.LateLine.Executing.{reads}
use Rattle.vdcp_world.proofs.LateLine.Places.{Answer}
use Rattle.vdcp_world.proofs.OnTheWay.{ReadsNothing, ReadsCommand}
use Rattle.vdcp_world.proofs.LateLine.Thinning.{all_left}
use Rattle.vdcp_world.proofs.Claims.{burst_unit}
use Rattle.vdcp_world.proofs.LateLine.Lessening.{Ages, aged}

-- ---- what bursts carry

-- on the way down: junk, or a phase's command
abbrev pub IsJunkDown : List ℕ → Type 0
IsJunkDown b = messages_of b ≡ []

abbrev pub IsCommand : List Item → ℕ → ℕ → List ℕ → Phase → Type 0
IsCommand list port unit b d =
    (c : Command) × (command_in list port d ≡ Some c) × (messages_of b ≡ command_message unit c ∷ [])

-- on the way up: what is no answer, or one
abbrev pub IsJunkUp : Mode → ℕ → List ℕ → Type 0
IsJunkUp mode unit b = is_no_answer mode (heard_in unit b) ≡ true

abbrev pub IsAnswer : ℕ → List ℕ → Answer → Type 0
IsAnswer unit b x = heard_in unit b ≡ Some (heard.Reply x.reply)

abbrev pub DownCarries : List Item → ℕ → ℕ → List (List ℕ) → List Phase → Type 0
DownCarries list port unit bs ds = Carries IsJunkDown (IsCommand list port unit) bs ds

abbrev pub UpCarries : Mode → ℕ → List (List ℕ) → List Answer → Type 0
UpCarries mode unit bs us = Carries (IsJunkUp mode unit) (IsAnswer unit) bs us

-- what is claimed, of a port
abbrev pub StandsAt : Claim → List Item → ClockedPort → ℕ → Stage → List Item → List Answer → List Phase → Type 0
StandsAt S list p settled stage aired ups downs =
    S list p.clips settled (is_selected p.state) p.state.cued aired ups downs stage

pub record Fits (mode : Mode) (plan : Plan) (unit : ℕ) : Type 0 where
  pub mode_is : plan.mode ≡ mode
  pub unit_fits : unit < 16
  pub port_fits : plan.port < 256
  pub of_bytes : All IsItem plan.list

pub record IsKept (mode : Mode) (S : Claim) (c : LateChannel) : Type 0 where
  pub fits : Fits mode c.plan c.port.state.unit
  pub open fits use *
  pub downs : List Phase
  pub ups : List Answer
  pub down_is : DownCarries c.plan.list c.plan.port c.port.state.unit c.down downs
  pub up_is : UpCarries mode c.port.state.unit c.up ups
  pub stands : StandsAt S c.plan.list c.port c.state.settled c.state.stage c.aired ups downs

-- ---- the port reads a burst

-- what a phase sends can be written
pub writable : Below → (plan : Plan) (d : Phase) (c : Command) → All IsItem plan.list → plan.port < 256
    → command_in plan.list plan.port d ≡ Some c
    → IsWritableCommand c
writable below plan d c items fits is = subst (λ (o : Option Command). IfSome o IsWritableCommand) is
    (below.given_written plan
    (record { stage = Ready d; take = false; stop = false; unanswered = 0; settled = 0; tries = 0 }) items fits)

module _ (mode : Mode) (unit : ℕ) (up : List (List ℕ)) (ups : List Answer) where
  -- an answer that is heard joins the queue
  answer_joins : (sent : List ℕ) (x : Answer) → IsAnswer unit sent x → UpCarries mode unit up ups
      → UpCarries mode unit (up ++ bursts_of sent) (ups ++ x ∷ [])
  answer_joins [] x h c = cc
  answer_joins (byte ∷ bytes) x h c = carries_pushed (IsJunkUp mode unit) (IsAnswer unit) up ups (byte ∷ bytes) x h c

  junk_joins : (sent : List ℕ) → IsJunkUp mode unit sent → UpCarries mode unit up ups
      → UpCarries mode unit (up ++ bursts_of sent) ups
  junk_joins [] h c = carries_same (IsJunkUp mode unit) (IsAnswer unit) up ups c
  junk_joins (byte ∷ bytes) h c = carries_pushed_junk (IsJunkUp mode unit) (IsAnswer unit) up ups (byte ∷ bytes) h c

nak_strays : (mode : Mode) (byte : ℕ) → is_no_answer mode (Some (heard.Reply (reply.Nak byte))) ≡ true
nak_strays Plain byte = refl
nak_strays Confirming byte = refl

says_junk : (mode : Mode) (p : ClockedPort) (down : List ℕ) → ReadsNothing p down
    → IsJunkUp mode p.state.unit (sent_for p down)
says_junk mode p down r = by r.says
  where
    by : ((sent_for p down ≡ [])
        ⊎ ((byte : ℕ) × (byte ≢ 0x01) ×
        (heard_in p.state.unit (sent_for p down) ≡ Some (heard.Reply (reply.Nak byte)))))
        → IsJunkUp mode p.state.unit (sent_for p down)
    by (inl none) = subst (λ (b : List ℕ). IsJunkUp mode p.state.unit b) (sym none) refl
    by (inr (byte, other, hears)) =
        subst (λ (h : Option Heard). is_no_answer mode h ≡ true) (sym hears) (nak_strays mode byte)

-- the channel after a delivery, of which these are left on the way down
pub record Delivered (mode : Mode) (S : Claim) (plan : Plan) (state : State) (p : ClockedPort) (up : List (List ℕ))
    (aired : List Item) (down : List ℕ) (downs : List Phase) : Type 0 where
  pub unit_same : (after_burst p down).state.unit ≡ p.state.unit
  pub ups : List Answer
  pub up_is : UpCarries mode p.state.unit (up ++ bursts_of (sent_for p down)) ups
  pub stands : StandsAt S plan.list (after_burst p down) state.settled state.stage (aired ++ aired_for p down) ups downs

module _ (mode : Mode) (S : Claim) where
  pub delivered_nothing : Steady S → (plan : Plan) (state : State) (p : ClockedPort) (up : List (List ℕ))
      (aired : List Item) (down : List ℕ) (ups : List Answer) (downs : List Phase) → ReadsNothing p down
      → UpCarries mode p.state.unit up ups → StandsAt S plan.list p state.settled state.stage aired ups downs
      → Delivered mode S plan state p up aired down downs
  delivered_nothing steady plan state p up aired down ups downs r u h = record {
    unit_same = burst_unit plan p down;
    ups = ups;
    up_is = junk_joins mode p.state.unit up ups (sent_for p down) (says_junk mode p down r) u;
    stands = subst (λ (q : ClockedPort). StandsAt S plan.list q state.settled state.stage
        (aired ++ aired_for p down) ups downs) (sym r.stays)
        (subst (λ (a : List Item). StandsAt S plan.list p state.settled state.stage a ups downs)
        (sym (aired_same aired (aired_for p down) r.airs)) h);
  }

  pub delivered_command : Steady S → (plan : Plan) (state : State) (p : ClockedPort) (up : List (List ℕ))
      (aired : List Item) (down : List ℕ) (ups : List Answer) (d : Phase) (downs : List Phase) (c : Command)
      → command_in plan.list plan.port d ≡ Some c → ReadsCommand p down c → UpCarries mode p.state.unit up ups
      → StandsAt S plan.list p state.settled state.stage aired ups (d ∷ downs)
      → Delivered mode S plan state p up aired down downs
  delivered_command steady plan state p up aired down ups d downs c is r u h =
      let change : Change = (command_row p.clips p.state c).change in
      let x : Answer = record { to = d; reply = r.answer } in
      let after = steady.reads plan.list p.clips state.settled (is_selected p.state) p.state.cued aired ups d downs
      state.stage r.answer
      (is_selected (changed change p.state)) (changed change p.state).cued (option_to_list (on_air change)) h
      (reads plan.list p.clips p.state plan.port d c is r.answer r.answers) in
      record {
        unit_same = burst_unit plan p down;
        ups = ups ++ x ∷ [];
        up_is = answer_joins mode p.state.unit up ups (sent_for p down) x r.heard u;
        stands =
            subst (λ (q : ClockedPort). StandsAt S plan.list q state.settled state.stage (aired ++ aired_for p down)
            (ups ++ x ∷ []) downs) (sym r.leaves)
            (subst (λ (more : List Item). StandsAt S plan.list (after_change change p) state.settled state.stage
            (aired ++ more) (ups ++ x ∷ []) downs) (sym r.airs)
            after);
      }

  -- ---- with parts of a channel changed

  -- with another controller
  pub with_state : (T : Claim) (c : LateChannel) (k : IsKept mode S c) (state : State) (log : List Exchange)
      → StandsAt T c.plan.list c.port state.settled state.stage c.aired k.ups k.downs
      → IsKept mode T (record c { state = state; log = log })
  with_state T c k state log stands = record {
    fits = k.fits;
    downs = k.downs;
    ups = k.ups;
    down_is = k.down_is;
    up_is = k.up_is;
    stands = stands;
  }

  -- with another port, of the same unit and the same catalogue
  pub with_port : Steady S → (c : LateChannel) (k : IsKept mode S c) (p : ClockedPort)
      → p.state.unit ≡ c.port.state.unit → p.clips ≡ c.port.clips
      → Ages (is_selected c.port.state) c.port.state.cued (is_selected p.state) p.state.cued
      → IsKept mode S (record c { port = p })
  with_port steady c k p same clips ages = record {
    fits = subst (Fits mode c.plan) (sym same) k.fits;
    downs = k.downs;
    ups = k.ups;
    down_is = subst (λ (unit : ℕ). DownCarries c.plan.list c.plan.port unit c.down k.downs) (sym same) k.down_is;
    up_is = subst (λ (unit : ℕ). UpCarries mode unit c.up k.ups) (sym same) k.up_is;
    stands = subst (λ (known : List (ClipId × Timecode)). S c.plan.list known c.state.settled
        (is_selected p.state) p.state.cued c.aired k.ups k.downs
        c.state.stage) (sym clips)
        (steady.lessens c.plan.list c.port.clips c.state.settled (is_selected c.port.state) c.port.state.cued c.aired
        k.ups k.downs (is_selected p.state) p.state.cued k.ups k.downs c.state.stage
        (aged (is_selected c.port.state) c.port.state.cued (is_selected p.state) p.state.cued k.ups k.downs ages)
        k.stands);
  }

  -- with other bursts on the way, of which some may be left out
  pub with_down : Steady S → (c : LateChannel) (k : IsKept mode S c) (down : List (List ℕ))
      → Left IsJunkDown (IsCommand c.plan.list c.plan.port c.port.state.unit) down k.downs
      → IsKept mode S (record c { down = down })
  with_down steady c k down l = record {
    fits = k.fits;
    downs = l.left;
    ups = k.ups;
    down_is = l.carries;
    up_is = k.up_is;
    stands = thins steady c.plan.list c.port.clips c.state.settled (is_selected c.port.state) c.port.state.cued c.aired
        k.ups k.ups k.downs l.left c.state.stage
        (all_left k.ups) l.thins k.stands;
  }

  -- something was heard, and the oldest burst is gone
  pub with_hearing : (T : Claim) → Steady T → (c : LateChannel) (k : IsKept mode S c) (state : State)
      (up : List (List ℕ)) (log : List Exchange)
      → Left (IsJunkUp mode c.port.state.unit) (IsAnswer c.port.state.unit) up k.ups
      → StandsAt T c.plan.list c.port state.settled state.stage c.aired k.ups k.downs
      → IsKept mode T (record c { state = state; up = up; log = log })
  with_hearing T steady c k state up log l stands = record {
    fits = k.fits;
    downs = k.downs;
    ups = l.left;
    down_is = k.down_is;
    up_is = l.carries;
    stands = thins steady c.plan.list c.port.clips state.settled (is_selected c.port.state) c.port.state.cued c.aired
        k.ups l.left k.downs k.downs state.stage
        l.thins (all_left k.downs) stands;
  }

  pub with_up : Steady S → (c : LateChannel) (k : IsKept mode S c) (up : List (List ℕ))
      → Left (IsJunkUp mode c.port.state.unit) (IsAnswer c.port.state.unit) up k.ups
      → IsKept mode S (record c { up = up })
  with_up steady c k up l = with_hearing S steady c k c.state up c.log l k.stands

  -- after a delivery to the port
  pub with_delivery : Steady S → (c : LateChannel) (k : IsKept mode S c) (burst : List ℕ) (down : List (List ℕ))
      (downs : List Phase) → DownCarries c.plan.list c.plan.port c.port.state.unit down downs
      → Delivered mode S c.plan c.state c.port c.up c.aired burst downs
      → IsKept mode S (record c {
        port = after_burst c.port burst;
        down = down;
        up = c.up ++ bursts_of
            (sent_for c.port burst);
        aired = c.aired ++ aired_for c.port burst;
      })
  with_delivery steady c k burst down downs down_is d = record {
    fits = subst (Fits mode c.plan) (sym d.unit_same) k.fits;
    downs = downs;
    ups = d.ups;
    down_is = subst (λ (unit : ℕ). DownCarries c.plan.list c.plan.port unit down downs) (sym d.unit_same) down_is;
    up_is = subst (λ (unit : ℕ). UpCarries mode unit (c.up ++ bursts_of (sent_for c.port burst)) d.ups)
        (sym d.unit_same) d.up_is;
    stands = d.stands;
  }
