-- In confirm mode: how many good rounds a stage has before it at most, and that each good round leaves fewer.
use Rattle.std.proofs.Common.{◌≡◌, ℕ, ◌+◌, ◌-◌, ◌*◌, ◌<◌, Bool, true, false, nat_lt, List, length, Option, Some, None, refl, arith}
use Rattle.std.specs.Option.{option_map}
use Rattle.std.specs.Prelude.{slice_get, if◌then◌else◌}
use Rattle.vdcp_value.specs.declared.clip_id.ClipId.{ClipId}
use Rattle.vdcp_value.specs.declared.part.Item.{Item}
use Rattle.vdcp_value.specs.declared.part.Part.{Part}
use Rattle.vdcp_value.specs.declared.timecode.Timecode.{Timecode}
use Rattle.vdcp_words.specs.declared.command.Command.{Command}
use Rattle.vdcp_words.specs.declared.command.Command.TheVariants as command
use Rattle.vdcp_words.specs.declared.reply.Reply.{Reply}
use Rattle.vdcp_words.specs.declared.reply.Reply.TheVariants as reply
use Rattle.vdcp_port.specs.Clips.{length_of, is_known, is_playable}
use Rattle.vdcp_port.specs.Port.{PortState, Cued, empty, is_selected, made_ready, ready_state, ended_state, is_empty as is_empty_slot, is_cueing as is_cueing_slot}
use Rattle.vdcp_auto.specs.Commands.{cue_for, cue_of, is_sense}
use Rattle.vdcp_auto.specs.Replies.{is_receipt}
use Rattle.vdcp_auto.specs.Table.{command_in, next}
use Rattle.vdcp_auto.specs.Turn.{stage_after, settled_after}
use Rattle.vdcp_auto.specs.declared.phase.Mode.TheVariants.{Confirming}
use Rattle.vdcp_auto.specs.declared.phase.Phase.{Phase}
use Rattle.vdcp_auto.specs.declared.phase.Phase.TheVariants as phase
use Rattle.vdcp_auto.specs.State.{Stage, Ready, Awaiting, Ended}
use Rattle.vdcp_auto.specs.declared.phase.Transition.{Transition}
use Rattle.vdcp_world.specs.InStep.{IsReadyFor, HasExecuted, IsInStep}
use Rattle.vdcp_world.proofs.Exchanges.{turn_by}
use Rattle.vdcp_world.proofs.PhaseTable.{PlaceReady, answer_after, port_after}
use Rattle.vdcp_world.proofs.RoundsLeft.{answer_at, plays, known_of}

-- where this number of events isn't settled, before the phase's command is sent
abbrev pub left_before : ℕ → Phase → ℕ
left_before r phase.Open = 6 * r + 6
left_before r phase.Select = 6 * r + 5
left_before r phase.Seen = 6 * r + 4
left_before r (phase.Exists k) = 6 * r + 3
left_before r (phase.Cue k) = 6 * r + 2
left_before r (phase.Wait k) = 6 * r + 1
left_before r (phase.Play k) = 6 * r
left_before r (phase.Probe k) = 6 * r - 1
left_before r (phase.Check k) = 6 * r + 4
left_before r phase.Drain = 3
left_before r phase.Close = 2
left_before r phase.Halt = 0
left_before r phase.HaltClose = 0

-- and where a receipt has answered it, which says nothing
abbrev pub left_behind : ℕ → Phase → ℕ
left_behind r phase.Select = 6 * r + 4
left_behind r (phase.Cue k) = 6 * r + 1
left_behind r (phase.Play k) = 6 * r - 1
left_behind r phase.Close = 1
left_behind r _ = 0

abbrev pub left_from : ℕ → Stage → ℕ
left_from r (Ready q) = left_before r q
left_from r (Awaiting q) = left_behind r q
left_from r (Ended outcome) = 0

-- the phase's command asks for a reply of its own
abbrev pub senses : Phase → Bool
senses phase.Open = true
senses phase.Select = false
senses phase.Seen = true
senses (phase.Exists k) = true
senses (phase.Cue k) = false
senses (phase.Wait k) = true
senses (phase.Play k) = false
senses (phase.Probe k) = true
senses (phase.Check k) = true
senses phase.Drain = true
senses phase.Close = false
senses phase.Halt = false
senses phase.HaltClose = false

pub sense_of : (list : List Item) (port : ℕ) (q : Phase) (c : Command) → command_in list port q ≡ Some c
    → is_sense c ≡ senses q
sense_of list port (phase.Exists k) c e = of_request (slice_get list k) e
  where
    of_request : (o : Option Item) → option_map (λ item. command.IdRequest item.id) o ≡ Some c → is_sense c ≡ true
    of_request None e = cc
    of_request (Some item) e = cc
sense_of list port (phase.Cue k) c e = of_cue (slice_get list k) e
  where
    of_part : (id : ClipId) (part : Option Part) → cue_for id part ≡ c → is_sense c ≡ false
    of_part id None e = cc
    of_part id (Some part) e = cc

    same : (a b : Command) → Some a ≡ Some b → a ≡ b
    same a b e = cc

    of_cue : (o : Option Item) → option_map cue_of o ≡ Some c → is_sense c ≡ false
    of_cue None e = cc
    of_cue (Some item) e = of_part item.id item.part (same (cue_of item) c e)
sense_of list port _ c e = cc

-- a cue gets done, and the clip ends, before the command is sent

pub slot_stays : (cued : Cued) → is_empty_slot (made_ready cued) ≡ is_empty_slot cued
slot_stays empty = refl
slot_stays _ = refl

pub before_stays : (p : PortState) (q : Phase) → IsReadyFor p q → IsReadyFor (ended_state (ready_state p)) q
before_stays p q h = grind (arith, slot_stays p.cued)

-- ---- a command that asks for a reply

-- no receipt answers it; a transition by which it goes on, with fewer rounds left
abbrev pub Steps : ℕ → ℕ → ℕ → PortState → Reply → Transition → Type 0
Steps n s old p r transition = (is_receipt r ≡ false) × IsInStep p (stage_after transition)
    × (left_from (n - settled_after transition s) (stage_after transition) < old)

-- the next event, or the drain
comes_next : (list : List Item) (p : PortState) (k old : ℕ) → is_selected p ≡ true → 6 * (length list - k) + 3 < old
    → IsReadyFor p (next list k) × (left_before (length list - k) (next list k) < old)
comes_next list p k old s below = by (nat_lt k (length list))
  where
    by : (b : Bool) → IsReadyFor p (if b then phase.Exists k else phase.Drain)
        × (left_before (length list - k) (if b then phase.Exists k else phase.Drain) < old)
    by true = (s, below)
    by false = (s, omega (arith, below))

module _ (list : List Item) (clips : List (ClipId × Timecode)) where
  exists_steps : (p : PortState) (settled port limit tries unanswered : ℕ) (take counts : Bool) (k : ℕ)
      (o : Option Item) (r : Reply) → is_selected p ≡ true → plays clips o ≡ true
      → answer_after clips p (option_map (λ item. command.IdRequest item.id) o) ≡ Some r
      → Steps (length list) settled (6 * (length list - settled) + 3)
      (port_after clips p (option_map (λ item. command.IdRequest item.id) o)) r (turn_by Confirming list limit take
      tries unanswered counts (phase.Exists k) (answer_at (option_map (λ item. command.IdRequest item.id) o) r))
  exists_steps p settled port limit tries unanswered take counts k None r s f a = cc
  exists_steps p settled port limit tries unanswered take counts k (Some item) r s f a = by known r a
    where
      known : is_known clips item.id ≡ true
      known = known_of (length_of clips item.id) item.part f

      by : is_known clips item.id ≡ true → (r : Reply) → Some (reply.Present (is_known clips item.id)) ≡ Some r
          → Steps (length list) settled (6 * (length list - settled) + 3) p r
          (turn_by Confirming list limit take tries unanswered counts (phase.Exists k)
          (answer_at (Some (command.IdRequest item.id)) r))
      by known r a = grind arith

  pub sense_steps : (p : PortState) (aired : List Item) (settled port limit tries unanswered : ℕ) (take counts : Bool)
      (q : Phase) (r : Reply) → p.number ≡ port → p.playing ≡ None → is_cueing_slot p.cued ≡ false
      → ((k : ℕ) → plays clips (slice_get list k) ≡ true) → PlaceReady list p.cued aired settled q → IsReadyFor p q
      → senses q ≡ true → answer_after clips p (command_in list port q) ≡ Some r
      → Steps (length list) settled (left_before (length list - settled) q)
      (port_after clips p (command_in list port q)) r (turn_by Confirming list limit take tries unanswered counts q
      (answer_at (command_in list port q) r))
  sense_steps p aired settled port limit tries unanswered take counts phase.Open r n i j f h w on a = grind arith
  sense_steps p aired settled port limit tries unanswered take counts phase.Seen r n i j f h w on a =
      grind (arith, comes_next)
  sense_steps p aired settled port limit tries unanswered take counts (phase.Exists k) r n i j f h w on a =
      exists_steps p settled port limit tries unanswered take counts k (slice_get list k) r w (f k) a
  sense_steps p aired settled port limit tries unanswered take counts (phase.Wait k) r n i j f h w on a = grind arith
  sense_steps p aired settled port limit tries unanswered take counts (phase.Probe k) r n i j f h w on a = grind arith
  sense_steps p aired settled port limit tries unanswered take counts (phase.Check k) r n i j f h w on a =
      grind (arith, comes_next)
  sense_steps p aired settled port limit tries unanswered take counts phase.Drain r n i j f h w on a = grind arith
  sense_steps p aired settled port limit tries unanswered take counts _ r n i j f h w on a = cc

-- ---- a command that only a receipt answers

-- a receipt answers it, the port has executed it, and fewer rounds are left
abbrev pub Stays : ℕ → PortState → Phase → Reply → Type 0
Stays unsettled p q r = (is_receipt r ≡ true) × HasExecuted p q × (left_behind unsettled q < left_before unsettled q)

module _ (unsettled : ℕ) (clips : List (ClipId × Timecode)) where
  cue_stays : (p : PortState) (k : ℕ) (id : ClipId) (part : Option Part) (r : Reply) → is_selected p ≡ true
      → is_playable clips (record { id = id; part = part }) ≡ true
      → answer_after clips p (Some (cue_for id part)) ≡ Some r
      → Stays unsettled (port_after clips p (Some (cue_for id part))) (phase.Cue k) r
  cue_stays p k id None r s f a = grind arith
  cue_stays p k id (Some part) r s f a = grind arith

  cue_stays_at : (p : PortState) (k : ℕ) (o : Option Item) (r : Reply) → is_selected p ≡ true → plays clips o ≡ true
      → answer_after clips p (option_map cue_of o) ≡ Some r → Stays unsettled (port_after clips p (option_map cue_of o))
      (phase.Cue k) r
  cue_stays_at p k None r s f a = cc
  cue_stays_at p k (Some item) r s f a = cue_stays p k item.id item.part r s f a

pub receipt_stays : (list : List Item) (clips : List (ClipId × Timecode)) (p : PortState) (aired : List Item)
    (settled port : ℕ) (q : Phase) (r : Reply)
    → p.number ≡ port → ((k : ℕ) → plays clips (slice_get list k) ≡ true)
    → PlaceReady list p.cued aired settled q → IsReadyFor p q → senses q ≡ false
    → answer_after clips p (command_in list port q) ≡ Some r
    → Stays (length list - settled) (port_after clips p (command_in list port q)) q r
receipt_stays list clips p aired settled port phase.Select r n f h w on a = grind arith
receipt_stays list clips p aired settled port (phase.Cue k) r n f h w on a =
    cue_stays_at (length list - settled) clips p k (slice_get list k) r w (f k) a
receipt_stays list clips p aired settled port (phase.Play k) r n f h w on a = grind arith
receipt_stays list clips p aired settled port phase.Close r n f h w on a = grind arith
receipt_stays list clips p aired settled port phase.Halt r n f h w on a = absurd w
receipt_stays list clips p aired settled port phase.HaltClose r n f h w on a = absurd w
receipt_stays list clips p aired settled port _ r n f h w on a = cc
