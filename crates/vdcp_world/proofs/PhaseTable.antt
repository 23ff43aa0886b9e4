-- Where the port is in each phase of the controller, and what a reply that ends the phase's exchange tells of it.
use Rattle.std.proofs.Common.{◌≡◌, ℕ, ◌+◌, ◌-◌, ◌<◌, ◌≤◌, ◌⊎◌, Bool, true, false, ◌||◌, ◌&&◌, not, List, [], length, take, Option, Some, None, arith}
use Rattle.std.specs.Option.{option_to_list}
use Rattle.std.specs.Prelude.{slice_get}
use Rattle.vdcp_value.specs.declared.clip_id.ClipId.{ClipId}
use Rattle.vdcp_value.specs.declared.part.Item.{Item}
use Rattle.vdcp_value.specs.declared.timecode.Timecode.{Timecode}
use Rattle.vdcp_words.specs.declared.command.Command.{Command}
use Rattle.vdcp_words.specs.declared.reply.Reply.{Reply}
use Rattle.vdcp_port.specs.Clips.{is_known, is_playable}
use Rattle.vdcp_port.specs.Port.{PortState, Cued, empty, cueing, done, is_selected, is_open, is_empty as is_empty_slot, is_done as is_done_cue}
use Rattle.vdcp_port.specs.Row.{command_row, changed, on_air}
use Rattle.vdcp_auto.specs.Commands.{is_opened, is_state, is_active, is_presence}
use Rattle.vdcp_auto.specs.Replies.{is_ack, is_refusal, is_granted, is_present, is_done, is_cueing, is_empty}
use Rattle.vdcp_auto.specs.Table.{names_other}
use Rattle.vdcp_auto.specs.declared.phase.Mode.{Mode}
use Rattle.vdcp_auto.specs.declared.phase.Mode.TheVariants.{Plain}
use Rattle.vdcp_auto.specs.declared.outcome.Outcome.{Outcome}
use Rattle.vdcp_auto.specs.declared.outcome.Outcome.TheVariants as outcome
use Rattle.vdcp_auto.specs.declared.phase.Phase.{Phase}
use Rattle.vdcp_auto.specs.declared.phase.Phase.TheVariants as phase
use Rattle.vdcp_auto.specs.State.{Stage, Ready, Awaiting, Ended}

-- what is cued or being cued
abbrev pub cued_item : Cued → Option Item
cued_item empty = None
cued_item (cueing item) = Some item
cued_item (done item) = Some item

-- the first k events were aired
pub record Aired (list aired : List Item) (k : ℕ) : Type 0 where
  pub aired_is : aired ≡ take k list
  pub within : k ≤ length list

-- the first k events were aired, and nothing is cued
pub record Idle (list : List Item) (cued : Cued) (aired : List Item) (k : ℕ) : Type 0 where
  pub aired_is : aired ≡ take k list
  pub within : k ≤ length list
  pub cued_is : cued ≡ empty

-- the first k events were aired, and event k is cued or being cued
pub record Coming (list : List Item) (cued : Cued) (aired : List Item) (k : ℕ) : Type 0 where
  pub aired_is : aired ≡ take k list
  pub within : k < length list
  pub cued_is : cued_item cued ≡ slice_get list k

-- and its cue is done
pub record Standing (list : List Item) (cued : Cued) (aired : List Item) (k : ℕ) : Type 0 where
  pub aired_is : aired ≡ take k list
  pub within : k < length list
  pub cued_is : cued_item cued ≡ slice_get list k
  pub ready : is_done_cue cued ≡ true

-- what was aired is a beginning of the list, and all of it is settled but one event at most
pub record Near (list aired : List Item) (settled : ℕ) : Type 0 where
  pub aired_is : aired ≡ take (length aired) list
  pub within : length aired ≤ length list
  pub low : settled ≤ length aired
  pub high : length aired ≤ settled + 1

-- what plays was aired last, if anything was aired
abbrev pub PlaysLast : List Item → Option Item → List Item → Type 0
PlaysLast list None aired = Unit {0}
PlaysLast list (Some item) aired = 0 < length aired → slice_get list (length aired - 1) ≡ Some item

pub plays_before : (list : List Item) (playing : Option Item) → PlaysLast list playing []
plays_before list None = tt
plays_before list (Some item) = λ some. absurd (omega (arith, some))

-- the item's clip is in the catalogue
abbrev pub knows : List (ClipId × Timecode) → Option Item → Bool
knows clips None = false
knows clips (Some item) = is_known clips item.id

-- it is, and the port refuses to cue the item
abbrev pub refuses : List (ClipId × Timecode) → Option Item → Bool
refuses clips None = false
refuses clips (Some item) = is_known clips item.id && not (is_playable clips item)

-- while the phase's command is awaited
abbrev pub Place : List Item → Cued → List Item → ℕ → Phase → Type 0
Place list cued aired settled phase.Open = Idle list cued aired 0 × (settled ≡ 0)
Place list cued aired settled phase.Select = Idle list cued aired 0 × (settled ≡ 0)
Place list cued aired settled phase.Seen = Idle list cued aired 0 × (settled ≡ 0)
Place list cued aired settled (phase.Exists k) = Idle list cued aired k × (settled ≡ k) × (k < length list)
Place list cued aired settled (phase.Cue k) =
    (Idle list cued aired k ⊎ Coming list cued aired k) × (settled ≡ k) × (k < length list)
Place list cued aired settled (phase.Wait k) =
    (Idle list cued aired k ⊎ Coming list cued aired k) × (settled ≡ k) × (k < length list)
Place list cued aired settled (phase.Play k) =
    (Standing list cued aired k ⊎ Idle list cued aired (k + 1)) × (settled ≡ k)
Place list cued aired settled (phase.Probe k) =
    (Standing list cued aired k ⊎ Idle list cued aired (k + 1)) × (settled ≡ k)
Place list cued aired settled (phase.Check k) = Idle list cued aired (k + 1) × (settled ≡ k + 1)
Place list cued aired settled phase.Drain = Idle list cued aired (length list) × (settled ≡ length list)
Place list cued aired settled phase.Close = Idle list cued aired (length list) × (settled ≡ length list)
Place list cued aired settled phase.Halt = Near list aired settled
Place list cued aired settled phase.HaltClose = Near list aired settled

-- before it is sent
abbrev pub PlaceReady : List Item → Cued → List Item → ℕ → Phase → Type 0
PlaceReady list cued aired settled (phase.Play k) = Standing list cued aired k × (settled ≡ k)
PlaceReady list cued aired settled q = Place list cued aired settled q

-- and after an end
abbrev pub PlaceEnded : List Item → List (ClipId × Timecode) → List Item → ℕ → Outcome → Type 0
PlaceEnded list clips aired settled outcome.Done = Aired list aired (length list) × (settled ≡ length list)
PlaceEnded list clips aired settled outcome.Stopped = Near list aired settled
PlaceEnded list clips aired settled outcome.Lost = Near list aired settled
PlaceEnded list clips aired settled outcome.Denied = ⊥
PlaceEnded list clips aired settled (outcome.Missing k) =
    Aired list aired k × (settled ≡ k) × (k < length list) × (knows clips (slice_get list k) ≡ false)
PlaceEnded list clips aired settled (outcome.Refused k) = Aired list aired k × (settled ≡ k) × (k < length list)
PlaceEnded list clips aired settled (outcome.Foreign k) = ⊥
PlaceEnded list clips aired settled (outcome.Strange k) = ⊥

abbrev pub PlaceAt : List Item → List (ClipId × Timecode) → Cued → List Item → ℕ → Stage → Type 0
PlaceAt list clips cued aired settled (Ready q) = PlaceReady list cued aired settled q
PlaceAt list clips cued aired settled (Awaiting q) = Place list cued aired settled q
PlaceAt list clips cued aired settled (Ended outcome) = PlaceEnded list clips aired settled outcome

-- what a reply tells that answers the phase's command
abbrev pub Tells : List Item → List (ClipId × Timecode) → Cued → List Item → Phase → Reply → Type 0
Tells list clips cued aired phase.Open r = is_opened r ≡ true → is_granted r ≡ true
Tells list clips cued aired (phase.Exists k) r = is_presence r ≡ true → is_present r ≡ knows clips (slice_get list k)
Tells list clips cued aired (phase.Wait k) r = is_done r ≡ true → Standing list cued aired k
Tells list clips cued aired (phase.Play k) r = is_ack r ≡ true → Idle list cued aired (k + 1)
Tells list clips cued aired (phase.Probe k) r =
    (is_done r ≡ true → Standing list cued aired k) × (is_empty r ≡ true → Idle list cued aired (k + 1))
Tells list clips cued aired (phase.Check k) r = names_other (slice_get list k) r ≡ false
Tells list clips cued aired phase.Drain r = (is_cueing r || is_done r) ≡ false
Tells list clips cued aired _ r = Unit {0}

-- Plain mode knows more: the port was opened and selected, the clip is there, and a cue that is answered is not lost.
abbrev pub Firm : List Item → List (ClipId × Timecode) → PortState → Phase → Type 0
Firm list clips p phase.Open = Unit {0}
Firm list clips p phase.Select = is_open p ≡ true
Firm list clips p phase.Seen = ⊥
Firm list clips p (phase.Exists k) = is_selected p ≡ true
Firm list clips p (phase.Cue k) = (is_selected p ≡ true) × (knows clips (slice_get list k) ≡ true)
Firm list clips p (phase.Wait k) =
    (is_selected p ≡ true) × (knows clips (slice_get list k) ≡ true) × (is_empty_slot p.cued ≡ false)
Firm list clips p (phase.Play k) = (is_selected p ≡ true) × (knows clips (slice_get list k) ≡ true)
Firm list clips p (phase.Probe k) = (is_selected p ≡ true) × (knows clips (slice_get list k) ≡ true)
Firm list clips p (phase.Check k) = is_selected p ≡ true
Firm list clips p phase.Drain = is_selected p ≡ true
Firm list clips p phase.Close = Unit {0}
Firm list clips p phase.Halt = Unit {0}
Firm list clips p phase.HaltClose = Unit {0}

abbrev pub FirmEnded : List Item → List (ClipId × Timecode) → Outcome → Type 0
FirmEnded list clips (outcome.Refused k) = refuses clips (slice_get list k) ≡ true
FirmEnded list clips _ = Unit {0}

abbrev pub FirmAt : List Item → List (ClipId × Timecode) → PortState → Stage → Type 0
FirmAt list clips p (Ready q) = Firm list clips p q
FirmAt list clips p (Awaiting q) = Firm list clips p q
FirmAt list clips p (Ended outcome) = FirmEnded list clips outcome

abbrev pub FirmTells : List Item → List (ClipId × Timecode) → PortState → Phase → Reply → Type 0
FirmTells list clips p phase.Open r = (is_refusal r ≡ false) × (is_opened r ≡ true → is_open p ≡ true)
FirmTells list clips p phase.Select r = (is_refusal r ≡ false) × (is_ack r ≡ true → is_selected p ≡ true)
FirmTells list clips p phase.Seen r = Unit {0}
FirmTells list clips p (phase.Exists k) r = is_refusal r ≡ false
FirmTells list clips p (phase.Cue k) r =
    (is_refusal r ≡ true → refuses clips (slice_get list k) ≡ true) × (is_ack r ≡ true → is_empty_slot p.cued ≡ false)
FirmTells list clips p (phase.Wait k) r = (is_refusal r ≡ false) × (is_empty r ≡ false)
FirmTells list clips p (phase.Play k) r = is_refusal r ≡ false
FirmTells list clips p (phase.Probe k) r = is_refusal r ≡ false
FirmTells list clips p (phase.Check k) r = is_refusal r ≡ false
FirmTells list clips p phase.Drain r = is_refusal r ≡ false
FirmTells list clips p phase.Close r = Unit {0}
FirmTells list clips p phase.Halt r = Unit {0}
FirmTells list clips p phase.HaltClose r = Unit {0}

-- the kind of reply that the phase's command asks for
abbrev pub is_asked : Phase → Reply → Bool
is_asked phase.Open r = is_opened r
is_asked phase.Select r = is_ack r
is_asked phase.Seen r = is_state r
is_asked (phase.Exists k) r = is_presence r
is_asked (phase.Cue k) r = is_ack r
is_asked (phase.Wait k) r = is_state r
is_asked (phase.Play k) r = is_ack r
is_asked (phase.Probe k) r = is_state r
is_asked (phase.Check k) r = is_active r
is_asked phase.Drain r = is_state r
is_asked phase.Close r = is_ack r
is_asked phase.Halt r = is_ack r
is_asked phase.HaltClose r = is_ack r

-- the port, the items that air, and the answer, once the port has read a command, if there is one
abbrev pub port_after : List (ClipId × Timecode) → PortState → Option Command → PortState
port_after clips p None = p
port_after clips p (Some c) = changed (command_row clips p c).change p

abbrev pub aired_after : List (ClipId × Timecode) → PortState → Option Command → List Item
aired_after clips p None = []
aired_after clips p (Some c) = option_to_list (on_air (command_row clips p c).change)

abbrev pub answer_after : List (ClipId × Timecode) → PortState → Option Command → Option Reply
answer_after clips p None = None
answer_after clips p (Some c) = (command_row clips p c).answer

-- in plain mode alone
abbrev pub FirmIn : Mode → List Item → List (ClipId × Timecode) → PortState → Stage → Type 0
FirmIn mode list clips p stage = mode ≡ Plain → FirmAt list clips p stage
