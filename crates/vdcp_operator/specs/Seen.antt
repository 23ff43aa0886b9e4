-- What the page of a run shows.
use Rattle.std.specs.Prelude.{ℕ, ◌≡◌, ◌≤◌, ◌+◌, ◌-◌, ◌^◌, Bool, true, false, All, min, List, [], ◌∷◌, codes, drop, is_some, length, map, not, string_bytes, take, Option, None, Some, if◌then◌else◌}
use Rattle.std.specs.Option.{option_flatten}
use Rattle.serde_json.specs.Data.{Data, array, boolean, member, no_members, null, number, object, string, unsigned}
use Rattle.serde_json.specs.View.{items_of}
use Rattle.serde_json.specs.Written.{compact_text}
use Rattle.vdcp_auto.specs.Plan.{View}
use Rattle.vdcp_auto.specs.Snapshots.{view_of}
use Rattle.vdcp_auto.specs.declared.phase.Phase.{Phase}
use Rattle.vdcp_auto.specs.declared.phase.Phase.TheVariants as phase
use Rattle.vdcp_auto.specs.declared.snapshot.Standing.{Standing}
use Rattle.vdcp_auto.specs.declared.snapshot.Standing.TheVariants as standing
use Rattle.vdcp_auto.specs.declared.outcome.Outcome.{Outcome}
use Rattle.vdcp_list.specs.Rests.{FromEvent}
use Rattle.vdcp_operator.specs.LeftOut.{ahead_of, is_left_out, skip_fault_at}
use Rattle.vdcp_operator.specs.Rows.{IsRow, news_of}
use Rattle.vdcp_operator.specs.declared.ahead.Ahead.{Ahead}
use Rattle.vdcp_operator.specs.declared.left_out.LeftOut.{LeftOut}
use Rattle.vdcp_operator.specs.declared.seen.Ending.{Ending}
use Rattle.vdcp_operator.specs.declared.seen.Ending.TheVariants as endings
use Rattle.vdcp_operator.specs.declared.seen.EventSeen.{EventSeen}
use Rattle.vdcp_operator.specs.declared.seen.HandSeen.{HandSeen}
use Rattle.vdcp_operator.specs.declared.seen.Reason.{Reason}
use Rattle.vdcp_operator.specs.declared.seen.Reason.TheVariants as reasons
use Rattle.vdcp_operator.specs.declared.seen.Record.{Record}
use Rattle.vdcp_operator.specs.declared.seen.Record.TheVariants as records
use Rattle.vdcp_operator.specs.declared.seen.RunSeen.{RunSeen}
use Rattle.vdcp_operator.specs.declared.shown.RunPage.{RunPage}
use Rattle.vdcp_panel.specs.Seen.{ServesSome}
use Rattle.vdcp_port.specs.Clips.{length_of}
use Rattle.vdcp_text.specs.Items.{item_text}
use Rattle.vdcp_text.specs.Outcome.{outcome_text}
use Rattle.vdcp_value.specs.Bcd.{frames_in, is_time}
use Rattle.vdcp_value.specs.Clock.{millis_of}
use Rattle.vdcp_value.specs.Labels.{frames_per_second}
use Rattle.vdcp_value.specs.Timecodes.{frames_of, rate_of}
use Rattle.vdcp_value.specs.declared.clip_id.ClipId.{ClipId}
use Rattle.vdcp_value.specs.declared.part.Item.{Item}
use Rattle.vdcp_value.specs.declared.part.Part.{Part}
use Rattle.vdcp_value.specs.declared.rate.Rate.{Rate}
use Rattle.vdcp_value.specs.declared.timecode.Timecode.{Timecode}

abbrev pub phase_text : Phase → List ℕ
phase_text phase.Open = codes "opening"
phase_text phase.Select = codes "opening"
phase_text phase.Seen = codes "opening"
phase_text (phase.Exists k) = codes "asking"
phase_text (phase.Cue k) = codes "cueing"
phase_text (phase.Wait k) = codes "waiting"
phase_text (phase.Play k) = codes "starting"
phase_text (phase.Probe k) = codes "starting"
phase_text (phase.Check k) = codes "checking"
phase_text phase.Drain = codes "ending"
phase_text phase.Close = codes "closing"
phase_text phase.Halt = codes "stopping"
phase_text phase.HaltClose = codes "stopping"

abbrev pub stage_text : Standing → List ℕ
stage_text (standing.Ready p) = phase_text p
stage_text (standing.Awaiting p) = phase_text p
stage_text (standing.Ended outcome) = codes "ended"

abbrev pub number_data : Option ℕ → Data
number_data None = null
number_data (Some n) = number (unsigned n)

-- how long a clip of this length lasts, or a part of it, in milliseconds
abbrev pub length_if : Option Timecode → Option Part → Option ℕ
length_if None part = None
length_if (Some clip) None = Some (millis_of (rate_of clip) (frames_of clip))
length_if (Some clip) (Some part) =
    if is_time (rate_of clip) part.duration
    then Some (millis_of (rate_of clip) (frames_in (rate_of clip) part.duration)) else None

-- the same of an item by a catalogue, if there is one with its clip
abbrev pub length_by : Option (List (ClipId × Timecode)) → Item → Option ℕ
length_by None item = None
length_by (Some clips) item = length_if (length_of clips item.id) item.part

abbrev pub ending_text : Ending → List ℕ
ending_text endings.RanOut = codes "ran out"
ending_text endings.Taken = codes "taken"
ending_text endings.Stopped = codes "stopped"

abbrev pub ending_data : Option Ending → Data
ending_data None = null
ending_data (Some e) = string (ending_text e)

abbrev pub record_text : Record → List ℕ
record_text records.Aired = codes "aired"
record_text records.MayHaveAired = codes "may have aired"
record_text records.LeftOut = codes "left out"

abbrev pub record_data : Option Record → Data
record_data None = null
record_data (Some r) = string (record_text r)

abbrev pub reason_text : Reason → List ℕ
reason_text reasons.Missing = codes "missing"
reason_text reasons.Refused = codes "refused"
reason_text reasons.Unsure = codes "unsure"
reason_text reasons.ByHand = codes "by hand"

abbrev pub reason_data : Option Reason → Data
reason_data None = null
reason_data (Some why) = string (reason_text why)

-- what is left out now is so by hand, unless the journal says otherwise
abbrev pub why_of : (is_out : Bool) → Option Reason → Option Reason
why_of is_out (Some why) = Some why
why_of true None = Some reasons.ByHand
why_of false None = None

abbrev pub row_with : (item : List ℕ) → (length : Option ℕ) → (is_out can_skip : Bool) → EventSeen → Data
row_with item length is_out can_skip e =
    object (member (codes "at") (number_data e.at)
    (member (codes "ending") (ending_data e.ending)
    (member (codes "item") (string item)
    (member (codes "kept") (record_data e.kept)
    (member (codes "length") (number_data length)
    (member (codes "number") (number (unsigned e.number))
    (member (codes "out") (boolean is_out)
    (member (codes "skip") (boolean can_skip)
    (member (codes "until") (number_data e.until)
    (member (codes "why") (reason_data (why_of is_out e.why)) no_members))))))))))

unfoldable pub can_skip : LeftOut → Ahead → ℕ → Bool
can_skip left ahead event = not (is_some (skip_fault_at left ahead event))

-- whether it is left out, and whether it can be
abbrev pub row_data : Rate → Option (List (ClipId × Timecode)) → LeftOut → Ahead → EventSeen → Data
row_data rate clips left ahead e =
    row_with (item_text rate e.item) (length_by clips e.item) (is_left_out left e.number) (can_skip left ahead e.number) e

-- the last alarm, and how many there were
abbrev pub alarm_data : RunSeen → Data
alarm_data v =
    object (member (codes "count") (number (unsigned v.alarms))
    (member (codes "words") (string v.alarm.now) no_members))

-- what stays of a run, and how its line is
abbrev pub run_data : RunSeen → Data
run_data v =
    object (member (codes "alarm") (alarm_data v)
    (member (codes "channel") (string (string_bytes v.names.now.channel))
    (member (codes "commands") (number (unsigned v.hand.commands))
    (member (codes "down") (number_data v.down)
    (member (codes "from") (number (unsigned v.from))
    (member (codes "holding") (boolean v.hand.holds)
    (member (codes "journal") (string (string_bytes v.names.now.journal))
    (member (codes "list") (string (string_bytes v.names.now.list))
    (member (codes "over") (boolean v.is_over)
    (member (codes "rate") (number (unsigned (frames_per_second v.rate)))
    (member (codes "server") (string (string_bytes v.names.now.server))
    (member (codes "stays") (boolean v.hand.left_out.now.stays)
    (member (codes "unanswered") (number (unsigned v.snapshot.unanswered)) no_members)))))))))))))

abbrev pub seen_data : RunSeen → Data
seen_data v =
    object (member (codes "event") (number (unsigned v.event))
    (member (codes "events") (number (unsigned v.events))
    (member (codes "now") (number (unsigned v.clock))
    (member (codes "outcome") (string (outcome_text v.outcome))
    (member (codes "rows") (array (items_of (map (row_data v.rate v.clips.now v.hand.left_out.now v.ahead) v.rows.now)))
    (member (codes "run") (run_data v)
    (member (codes "stage") (string (stage_text v.snapshot.standing))
    (member (codes "start") (number_data v.hand.start)
    (member (codes "stop") (boolean v.snapshot.stop)
    (member (codes "take") (boolean v.snapshot.take) no_members))))))))))

abbrev pub page_bytes : RunSeen → List ℕ
page_bytes v = v.page.now

-- the state is the text of that
abbrev pub state_bytes : RunSeen → List ℕ
state_bytes v = compact_text (seen_data v)

abbrev pub about : RunSeen → Option ℕ
about v = Some v.event

-- the first event that isn't reported, by its number in the list; no number is above the largest
abbrev pub event_of : {S : Type 0} → View (FromEvent S) → ℕ
event_of c = min (c.source.from + c.state.settled) (2 ^ 64 - 1)

-- events of a list, each with its number from this one on
abbrev pub numbered : ℕ → List Item → List (ℕ × Item)
numbered k [] = []
numbered k (item ∷ items) = (k, item) ∷ numbered (k + 1) items

abbrev pub with_number : EventSeen → ℕ × Item
with_number row = (row.number, row.item)

-- these rows are those of the list's events from the twentieth before this one on, in order: all sixty, or the first ones
pub record AreRound (items : List Item) (event : ℕ) (rows : List EventSeen) : Type 0 where
  pub count : ℕ
  pub few : count ≤ 60
  pub are : map with_number rows ≡ take count (numbered (event - 20) (drop (event - 20) items))

-- what is seen of a run, by its page as it was: the controller as it is, with the events round the one that is next, and what
-- is known of each; how it ended, if it is over; the hand: how many commands went out, when it starts, whether nothing new goes
-- to air, and which events are left out; and which can be
pub record IsSeen {S : Type 0} (items : S → List Item) (c : View (FromEvent S)) (page : RunPage) (end : Option (Option Outcome))
    (hand : HandSeen) (view : RunSeen) : Type 0 where
  pub names : view.names.now ≡ page.names
  pub clips : view.clips.now ≡ page.clips
  pub rate : view.rate ≡ page.rate
  pub all : c ≡ view_of c.source view.snapshot
  pub is_over : view.is_over ≡ is_some end
  pub outcome : view.outcome ≡ option_flatten end
  pub from : view.from ≡ c.source.from
  pub event : view.event ≡ event_of c
  pub events : view.events ≡ length (items c.source.source)
  pub round : AreRound (items c.source.source) (event_of c) view.rows.now
  pub rows : All (IsRow (news_of page.event page.standing (event_of c) view.snapshot view.clock) page.rows.items page.before.items) view.rows.now
  pub hand_is : view.hand ≡ hand
  pub ahead : view.ahead ≡ ahead_of items c
  pub down : view.down ≡ page.down
  pub alarm : view.alarm.now ≡ page.alarm.bytes
  pub alarms : view.alarms ≡ page.alarms

-- the page keeps what was seen, for the next look
pub record Keeps (page : RunPage) (view : RunSeen) (page' : RunPage) : Type 0 where
  pub rows : page'.rows.items ≡ view.rows.now
  pub event : page'.event ≡ Some view.event
  pub standing : page'.standing ≡ Some view.snapshot.standing
  pub rest : page' ≡ record page { panel = page'.panel; rows = page'.rows; event = page'.event; standing = page'.standing; calls = page'.calls }

-- requests were answered by that, and a call that is held is about the event that is next
pub record ShowsRun {S : Type 0} (items : S → List Item) (c : View (FromEvent S)) (page : RunPage) (end : Option (Option Outcome))
    (hand : HandSeen) (page' : RunPage) : Type 0 where
  pub view : RunSeen
  pub is_seen : IsSeen items c page end hand view
  pub keeps : Keeps page view page'
  pub served : ServesSome page_bytes state_bytes about page.panel.names view page.calls.items page'.calls.items
