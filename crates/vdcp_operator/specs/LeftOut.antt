-- Which events of a list are left out.
use Rattle.std.specs.List.{list_all, list_any, range_with_len}
use Rattle.std.specs.Option.{option_or}
use Rattle.std.specs.Prelude.{ℕ, ◌≡◌, ◌<◌, ◌≤◌, ◌+◌, ◌-◌, ◌&&◌, ◌||◌, ◌⊎◌, Bool, true, false, not, min, max, List, [], ◌∷◌, length, Option, None, Some, Result, Ok, Err, if◌then◌else◌, nat_eq, nat_le, nat_lt}
use Rattle.vdcp_auto.specs.Plan.{View}
use Rattle.vdcp_auto.specs.State.{Stage, Ready, Awaiting, Ended}
use Rattle.vdcp_auto.specs.declared.phase.Mode.{Mode}
use Rattle.vdcp_auto.specs.declared.phase.Mode.TheVariants.{Plain, Confirming}
use Rattle.vdcp_auto.specs.declared.phase.Phase.{Phase}
use Rattle.vdcp_auto.specs.declared.phase.Phase.TheVariants as phase
use Rattle.vdcp_list.specs.Rests.{FromEvent}
use Rattle.vdcp_operator.specs.declared.ahead.Ahead.{Ahead}
use Rattle.vdcp_operator.specs.declared.ahead.Cued.{Cued}
use Rattle.vdcp_operator.specs.declared.ahead.Cued.TheVariants as cues
use Rattle.vdcp_operator.specs.declared.left_out.CallFault.{CallFault}
use Rattle.vdcp_operator.specs.declared.left_out.CallFault.TheVariants as faults
use Rattle.vdcp_operator.specs.declared.left_out.LeftOut.{LeftOut}
use Rattle.vdcp_operator.specs.declared.left_out.Span.{Span}
use Rattle.vdcp_value.specs.declared.part.Item.{Item}

-- a span has the events from its first one up to its end
abbrev pub has : Span → ℕ → Bool
has span event = nat_le span.first event && nat_lt event span.end

-- an event is left out if one of the spans has it
abbrev pub is_left_out : LeftOut → ℕ → Bool
is_left_out left event = list_any (λ span. has span event) left.spans.items

-- the first event from this one on that isn't left out
pub record IsNextKept (left : LeftOut) (event kept : ℕ) : Type 0 where
  pub from : event ≤ kept
  pub is_kept : is_left_out left kept ≡ false
  pub passed : (k : ℕ) → event ≤ k → k < kept → is_left_out left k ≡ true

-- the first event behind all that the server was asked about in a phase, of a list that a controller plays from one of its
-- events on
abbrev pub unasked_behind : (from events : ℕ) → Phase → ℕ
unasked_behind from events phase.Open = from
unasked_behind from events phase.Select = from
unasked_behind from events phase.Seen = from
unasked_behind from events (phase.Exists k) = from + k + 1
unasked_behind from events (phase.Cue k) = from + k + 1
unasked_behind from events (phase.Wait k) = from + k + 1
unasked_behind from events (phase.Play k) = from + k + 1
unasked_behind from events (phase.Probe k) = from + k + 1
unasked_behind from events (phase.Check k) = from + k + 1
unasked_behind from events _ = events

-- the first event that the server isn't asked about; the list's length if there is none any more
abbrev pub first_unasked : (from events : ℕ) → Stage → ℕ
first_unasked from events (Ready (phase.Exists k)) = from + k
first_unasked from events (Ready p) = unasked_behind from events p
first_unasked from events (Awaiting p) = unasked_behind from events p
first_unasked from events (Ended outcome) = events

-- the event that the server was asked about, unless its PLAY may have put it to air
abbrev pub cued_in : (from : ℕ) → Stage → Option ℕ
cued_in from (Awaiting (phase.Exists k)) = Some (from + k)
cued_in from (Ready (phase.Cue k)) = Some (from + k)
cued_in from (Awaiting (phase.Cue k)) = Some (from + k)
cued_in from (Ready (phase.Wait k)) = Some (from + k)
cued_in from (Awaiting (phase.Wait k)) = Some (from + k)
cued_in from (Ready (phase.Play k)) = Some (from + k)
cued_in from _ = None

-- the first event that can be left out: in plain mode also the one that is cued
abbrev pub first_ahead : Mode → (cued : Option ℕ) → (unasked : ℕ) → ℕ
first_ahead Plain (Some event) unasked = event
first_ahead mode cued unasked = unasked

-- In plain mode the cue of another one replaces what is cued. The event before a run's first one may be, as long as the server
-- isn't asked about that.
abbrev pub cued_as : Mode → (cued : Option ℕ) → (from unasked : ℕ) → Cued
cued_as Plain (Some event) from unasked = cues.Replaceable
cued_as Plain None from unasked = if nat_lt 0 from && nat_eq unasked from then cues.Replaceable else cues.Nothing
cued_as Confirming (Some event) from unasked = cues.Fixed event
cued_as Confirming None from unasked = cues.Nothing

abbrev pub ahead_by : Mode → (cued : Option ℕ) → (from unasked events : ℕ) → Ahead
ahead_by mode cued from unasked events = record {
  events = record { first = first_ahead mode cued unasked; end = events };
  cued = cued_as mode cued from unasked;
}

-- the events that can be left out, and what is cued
abbrev pub ahead_of : {S : Type 0} → (S → List Item) → View (FromEvent S) → Ahead
ahead_of items c =
    let from = c.source.from in
    let events = length (items c.source.source) in
    ahead_by c.mode (cued_in from c.state.stage) from (first_unasked from events c.state.stage) events

abbrev pub only : ℕ → Span
only event = record { first = event; end = event + 1 }

-- the events of a span before this one
abbrev pub up_to : Span → ℕ → Span
up_to span event = record { first = span.first; end = event }

-- why an event before those ahead can't be left out
abbrev pub past_fault : Cued → ℕ → CallFault
past_fault (cues.Fixed fixed) event = if nat_eq fixed event then faults.Cued event else faults.Past event
past_fault _ event = faults.Past event

-- why this event can be neither left out nor gone on with, if it can't
abbrev pub fault_at : LeftOut → Ahead → ℕ → Option CallFault
fault_at left ahead event =
    if not left.stays then Some faults.NoStay
    else if nat_le ahead.events.end event then Some (faults.NoEvent event)
    else if nat_lt event ahead.events.first then Some (past_fault ahead.cued event)
    else if is_left_out left event then Some (faults.LeftOut event)
    else None

-- each other event of a span is left out
abbrev pub has_no_other : LeftOut → Span → ℕ → Bool
has_no_other left span event =
    list_all (λ k. nat_eq k event || is_left_out left k) (range_with_len span.first (span.end - span.first))

abbrev pub is_replaceable : Cued → Bool
is_replaceable cues.Replaceable = true
is_replaceable _ = false

-- whether it is the last one that could replace what is cued
abbrev pub last_fault : LeftOut → Ahead → ℕ → Option CallFault
last_fault left ahead event =
    if is_replaceable ahead.cued && has_no_other left ahead.events event then Some (faults.Last event) else None

-- in confirm mode what is cued would air before the event with which the list is to go on
abbrev pub fixed_fault : Cued → Option CallFault
fixed_fault (cues.Fixed fixed) = Some (faults.Cued fixed)
fixed_fault _ = None

-- no event stands between them
abbrev pub touches : Span → Span → Bool
touches a b = nat_le a.first b.end && nat_le b.first a.end

abbrev pub joined : Span → Span → Span
joined a b = record { first = min a.first b.first; end = max a.end b.end }

-- spans and one more, as one with those that it touches
abbrev pub merged : List Span → (more : Span) → List Span
merged [] more = more ∷ []
merged (span ∷ spans) more = if touches span more then merged spans (joined span more) else span ∷ merged spans more

-- for at most 512 spans
abbrev pub spans_with : List Span → (more : Span) → Option (List Span)
spans_with spans more = if nat_le (length (merged spans more)) 512 then Some (merged spans more) else None

-- a span without events takes none
abbrev pub has_room : LeftOut → (more : Span) → Bool
has_room left more = nat_le more.end more.first || nat_le (length (merged left.spans.items more)) 512

-- these events are left out, too, if there is room
abbrev pub adding : (more : Span) → LeftOut → LeftOut
adding more left =
    if nat_lt more.first more.end && nat_le (length (merged left.spans.items more)) 512
    then record left { spans = record { items = merged left.spans.items more } } else left

-- these events are left out, too, and no other
abbrev pub Adds : Span → (old new : LeftOut) → Type 0
Adds more old new = (new.stays ≡ old.stays) × ((k : ℕ) → is_left_out new k ≡ (is_left_out old k || has more k))

abbrev pub room_fault : LeftOut → (more : Span) → Option CallFault
room_fault left more = if has_room left more then None else Some faults.Full

-- why this event can't be left out, if it can't
abbrev pub skip_fault_at : LeftOut → Ahead → ℕ → Option CallFault
skip_fault_at left ahead event =
    option_or (fault_at left ahead event) (option_or (last_fault left ahead event) (room_fault left (only event)))

-- why the list can't go on with this event, if it can't
abbrev pub jump_fault_at : LeftOut → Ahead → ℕ → Option CallFault
jump_fault_at left ahead event =
    option_or (option_or (fault_at left ahead event) (fixed_fault ahead.cued)) (room_fault left (up_to ahead.events event))

abbrev pub unless : Option CallFault → Span → Result Span CallFault
unless None more = Ok more
unless (Some fault) more = Err fault

-- what is left out with this event
abbrev pub skip_at : LeftOut → Ahead → ℕ → Result Span CallFault
skip_at left ahead event = unless (skip_fault_at left ahead event) (only event)

-- what is left out if the list goes on with this event
abbrev pub jump_at : LeftOut → Ahead → ℕ → Result Span CallFault
jump_at left ahead event = unless (jump_fault_at left ahead event) (up_to ahead.events event)

-- an event of a span isn't left out
abbrev pub KeepsOne : LeftOut → Span → Type 0
KeepsOne left span = (k : ℕ) × (has span k ≡ true) × (is_left_out left k ≡ false)

-- Events may be left out that weren't: each is one of those ahead, and the run stays. If another one's cue has to replace what is
-- cued, not all of them are, unless they were.
pub record LeavesOutAhead (ahead : Ahead) (old new : LeftOut) : Type 0 where
  pub more : (k : ℕ) → is_left_out old k ≡ true → is_left_out new k ≡ true
  pub ahead_only : (k : ℕ) → is_left_out new k ≡ true → (is_left_out old k ≡ true) ⊎ (has ahead.events k ≡ true)
  pub replaced : ahead.cued ≡ cues.Replaceable → KeepsOne old ahead.events → KeepsOne new ahead.events
  pub stays : new.stays ≡ old.stays
  pub no_stay : old.stays ≡ false → new ≡ old
