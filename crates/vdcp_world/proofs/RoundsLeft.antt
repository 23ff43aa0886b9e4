-- How many good rounds a phase has before it at most, and that each good round leaves fewer.
use Rattle.std.proofs.Common.{◌≡◌, ℕ, ◌+◌, ◌-◌, ◌*◌, ◌<◌, ◌≤◌, Bool, true, false, nat_lt, List, length, Option, is_some, Some, None, refl, arith}
use Rattle.std.specs.Option.{option_map}
use Rattle.std.specs.Prelude.{slice_get, if◌then◌else◌}
use Rattle.vdcp_value.specs.declared.clip_id.ClipId.{ClipId}
use Rattle.vdcp_value.specs.declared.part.Item.{Item}
use Rattle.vdcp_value.specs.declared.part.Part.{Part}
use Rattle.vdcp_value.specs.declared.timecode.Timecode.{Timecode}
use Rattle.vdcp_words.specs.declared.command.Command.{Command}
use Rattle.vdcp_words.specs.declared.command.Command.TheVariants as command
use Rattle.vdcp_words.specs.declared.reply.Reply.{Reply}
use Rattle.vdcp_words.specs.declared.reply.Reply.TheVariants as reply
use Rattle.vdcp_port.specs.Clips.{length_of, is_known, is_playable, can_cue}
use Rattle.vdcp_port.specs.Port.{PortState, is_selected, is_cueing as is_cueing_slot}
use Rattle.vdcp_auto.specs.Commands.{cue_for, cue_of}
use Rattle.vdcp_auto.specs.Log.{answer_to}
use Rattle.vdcp_auto.specs.Table.{command_in, next, is_halting}
use Rattle.vdcp_auto.specs.Turn.{stage_after, settled_after}
use Rattle.vdcp_auto.specs.declared.exchange.Heard.TheVariants as heard
use Rattle.vdcp_auto.specs.declared.outcome.Outcome.TheVariants as outcome
use Rattle.vdcp_auto.specs.declared.phase.Mode.TheVariants.{Plain}
use Rattle.vdcp_auto.specs.declared.phase.Phase.{Phase}
use Rattle.vdcp_auto.specs.declared.phase.Phase.TheVariants as phase
use Rattle.vdcp_auto.specs.State.{Stage, Ready, Awaiting, Ended}
use Rattle.vdcp_auto.specs.declared.phase.Transition.{Transition}
use Rattle.vdcp_world.proofs.Exchanges.{turn_by}
use Rattle.vdcp_world.proofs.PhaseTable.{PlaceReady, Firm, answer_after}

-- in plain mode, where this number of events isn't settled
abbrev pub left : ℕ → Phase → ℕ
left r phase.Open = 5 * r + 4
left r phase.Select = 5 * r + 3
left r phase.Seen = 0
left r (phase.Exists k) = 5 * r + 2
left r (phase.Cue k) = 5 * r + 1
left r (phase.Wait k) = 5 * r
left r (phase.Play k) = 5 * r - 1
left r (phase.Probe k) = 5 * r
left r (phase.Check k) = 5 * r + 3
left r phase.Drain = 2
left r phase.Close = 1
left r phase.Halt = 0
left r phase.HaltClose = 0

abbrev pub left_at : ℕ → Stage → ℕ
left_at r (Ready q) = left r q
left_at r (Awaiting q) = 0
left_at r (Ended outcome) = 0

-- it goes on towards Done
abbrev pub Goes : Stage → Type 0
Goes (Ready q) = is_halting q ≡ false
Goes (Awaiting q) = ⊥
Goes (Ended outcome.Done) = Unit {0}
Goes (Ended outcome.Stopped) = ⊥
Goes (Ended outcome.Lost) = ⊥
Goes (Ended outcome.Denied) = ⊥
Goes (Ended (outcome.Missing k)) = ⊥
Goes (Ended (outcome.Refused k)) = ⊥
Goes (Ended (outcome.Foreign k)) = ⊥
Goes (Ended (outcome.Strange k)) = ⊥

-- a transition by which it does, with fewer rounds left
abbrev pub Nears : ℕ → ℕ → ℕ → Transition → Type 0
Nears n s old transition =
    Goes (stage_after transition) × (left_at (n - settled_after transition s) (stage_after transition) < old)

-- the reply that answers a command, if there is one
abbrev pub answer_at : Option Command → Reply → Option Reply
answer_at None r = None
answer_at (Some c) r = answer_to c (Some (heard.Reply r))

-- the port answers each item of the list
abbrev pub plays : List (ClipId × Timecode) → Option Item → Bool
plays clips None = true
plays clips (Some item) = is_playable clips item

pub known_of : (clip : Option Timecode) (part : Option Part) → can_cue clip part ≡ true → is_some clip ≡ true
known_of None part e = cc
known_of (Some clip) part e = refl

-- the next event, or the drain
abbrev to_next : ℕ → List Item → ℕ → Type 0
to_next old list k = (is_halting (next list k) ≡ false) × (left (length list - k) (next list k) < old)

goes_next : (list : List Item) (k old : ℕ) → 5 * (length list - k) + 2 < old → to_next old list k
goes_next list k old below = by (nat_lt k (length list))
  where
    by : (b : Bool)
        → (is_halting (if b then phase.Exists k else phase.Drain) ≡ false)
        × (left (length list - k) (if b then phase.Exists k else phase.Drain) < old)
    by true = (refl, below)
    by false = (refl, omega (arith, below))

-- ---- plain mode

module _ (list : List Item) (clips : List (ClipId × Timecode)) (p : PortState) (settled port limit tries unanswered : ℕ)
    (take counts : Bool) where
  cue_nears : (k : ℕ) (id : ClipId) (part : Option Part) (r : Reply) → is_selected p ≡ true
      → is_playable clips (record { id = id; part = part }) ≡ true → settled ≡ k → k < length list
      → answer_after clips p (Some (cue_for id part)) ≡ Some r
      → Nears (length list) settled (5 * (length list - settled) + 1) (turn_by Plain list limit take tries unanswered
      counts (phase.Cue k) (answer_at (Some (cue_for id part)) r))
  cue_nears k id None r s f e b a = grind arith
  cue_nears k id (Some part) r s f e b a = grind arith

  cue_nears_at : (k : ℕ) (o : Option Item) (r : Reply) → is_selected p ≡ true → plays clips o ≡ true → settled ≡ k
      → k < length list → answer_after clips p (option_map cue_of o) ≡ Some r
      → Nears (length list) settled (5 * (length list - settled) + 1) (turn_by Plain list limit take tries unanswered
      counts (phase.Cue k) (answer_at (option_map cue_of o) r))
  cue_nears_at k None r s f e b a = cc
  cue_nears_at k (Some item) r s f e b a = cue_nears k item.id item.part r s f e b a

  exists_nears : (k : ℕ) (o : Option Item) (r : Reply) → plays clips o ≡ true → settled ≡ k → k < length list
      → answer_after clips p (option_map (λ item. command.IdRequest item.id) o) ≡ Some r
      → Nears (length list) settled (5 * (length list - settled) + 2) (turn_by Plain list limit take tries unanswered
      counts (phase.Exists k) (answer_at (option_map (λ item. command.IdRequest item.id) o) r))
  exists_nears k None r f e b a = cc
  exists_nears k (Some item) r f e b a = by known r a
    where
      known : is_known clips item.id ≡ true
      known = known_of (length_of clips item.id) item.part f

      by : is_known clips item.id ≡ true → (r : Reply) → Some (reply.Present (is_known clips item.id)) ≡ Some r
          → Nears (length list) settled (5 * (length list - settled) + 2)
          (turn_by Plain list limit take tries unanswered counts (phase.Exists k)
          (answer_at (Some (command.IdRequest item.id)) r))
      by known r a = grind arith

pub plain_nears : (list : List Item) (clips : List (ClipId × Timecode)) (p : PortState) (aired : List Item)
    (settled port limit tries unanswered : ℕ) (take counts : Bool) (q : Phase) (r : Reply)
    → p.number ≡ port → p.playing ≡ None → is_cueing_slot p.cued ≡ false
    → ((k : ℕ) → plays clips (slice_get list k) ≡ true)
    → PlaceReady list p.cued aired settled q → Firm list clips p q → is_halting q ≡ false
    → answer_after clips p (command_in list port q) ≡ Some r
    → Nears (length list) settled (left (length list - settled) q)
    (turn_by Plain list limit take tries unanswered counts q (answer_at (command_in list port q) r))
plain_nears list clips p aired settled port limit tries unanswered take counts phase.Select r n i j f h w none a =
    grind (arith, goes_next)
plain_nears list clips p aired settled port limit tries unanswered take counts phase.Seen r n i j f h w none a =
    absurd w
plain_nears list clips p aired settled port limit tries unanswered take counts (phase.Exists k) r n i j f h w none a =
    exists_nears list clips p settled port limit tries unanswered take counts k (slice_get list k) r (f k) h.1 h.2 a
plain_nears list clips p aired settled port limit tries unanswered take counts (phase.Cue k) r n i j f h w none a =
    cue_nears_at list clips p settled port limit tries unanswered take counts k (slice_get list k) r w.0 (f k) h.1 h.2 a
plain_nears list clips p aired settled port limit tries unanswered take counts (phase.Check k) r n i j f h w none a =
    grind (arith, goes_next)
plain_nears list clips p aired settled port limit tries unanswered take counts phase.Halt r n i j f h w none a = cc
plain_nears list clips p aired settled port limit tries unanswered take counts phase.HaltClose r n i j f h w none a = cc
plain_nears list clips p aired settled port limit tries unanswered take counts _ r n i j f h w none a = grind arith

pub left_most : (r : ℕ) (q : Phase) → left r q ≤ 5 * r + 4
left_most r q = grind arith
