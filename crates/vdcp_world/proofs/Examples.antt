-- What the definitions give for some courses of events, from bytes to bytes.
use Rattle.std.proofs.Common.{◌≡◌, ℕ, true, List, [], ◌∷◌, ◌++◌, length, refl}
use Rattle.std.specs.Prelude.{Option, None, Some, map, replicate, slice_get}
use Rattle.vdcp_value.specs.declared.clip_id.ClipId.{ClipId}
use Rattle.vdcp_value.specs.declared.part.Item.{Item}
use Rattle.vdcp_value.specs.declared.rate.Rate.TheVariants.{F25}
use Rattle.vdcp_value.specs.declared.timecode.Timecode.{Timecode}
use Rattle.vdcp_words.specs.declared.command.Command.{Command}
use Rattle.vdcp_words.specs.declared.command.Command.TheVariants as command
use Rattle.vdcp_words.specs.declared.reply.Reply.{Reply}
use Rattle.vdcp_words.specs.declared.reply.Reply.TheVariants as reply
use Rattle.vdcp_port.specs.Clips.{whole}
use Rattle.vdcp_port.specs.Clock.{new_port}
use Rattle.vdcp_port.specs.Port.{done, new_state}
use Rattle.vdcp_port.specs.declared.access.Access.TheVariants.{Selected}
use Rattle.vdcp_auto.specs.Turn.{outcome_of}
use Rattle.vdcp_auto.specs.declared.exchange.Exchange.{Exchange}
use Rattle.vdcp_auto.specs.declared.exchange.Heard.TheVariants as heard
use Rattle.vdcp_auto.specs.declared.outcome.Outcome.{Outcome}
use Rattle.vdcp_auto.specs.declared.outcome.Outcome.TheVariants.{Done, Stopped, Lost, Missing, Refused, Strange}
use Rattle.vdcp_auto.specs.declared.phase.Mode.{Mode}
use Rattle.vdcp_auto.specs.declared.phase.Mode.TheVariants.{Plain, Confirming}
use Rattle.vdcp_world.specs.Channel.{Channel, channel_to, new_channel, after_event, after_events}
use Rattle.vdcp_world.specs.Rounds.{round, good_round, times}
use Rattle.vdcp_world.specs.declared.event.Event.{Event}
use Rattle.vdcp_world.specs.declared.event.Event.TheVariants.{Tick, Down, Up, DownCopy, UpCopy, LoseDown, LoseUp, AlterDown, AlterUp, Timeout, Ready, End, Frame, Take, Stop, StrayAck, StrayNak}

-- CLIP0001 and CLIP0002, ten seconds each at 25 frames a second, and CLIP0009, which isn't there

abbrev clip_1 : ClipId
clip_1 = record { bytes = 0x43 ∷ 0x4C ∷ 0x49 ∷ 0x50 ∷ 0x30 ∷ 0x30 ∷ 0x30 ∷ 0x31 ∷ []; eight = refl }

abbrev clip_2 : ClipId
clip_2 = record { bytes = 0x43 ∷ 0x4C ∷ 0x49 ∷ 0x50 ∷ 0x30 ∷ 0x30 ∷ 0x30 ∷ 0x32 ∷ []; eight = refl }

abbrev clip_9 : ClipId
clip_9 = record { bytes = 0x43 ∷ 0x4C ∷ 0x49 ∷ 0x50 ∷ 0x30 ∷ 0x30 ∷ 0x30 ∷ 0x39 ∷ []; eight = refl }

abbrev ten_seconds : Timecode
ten_seconds = record { rate = F25; label = record { hours = 0; minutes = 0; seconds = 10; frames = 0 }; lawful = refl }

abbrev two_clips : List (ClipId × Timecode)
two_clips = (clip_1, ten_seconds) ∷ (clip_2, ten_seconds) ∷ []

-- a new channel of unit 0 and port 1, whose controller gives up after three unanswered exchanges
abbrev new : Mode → List Item → Channel
new mode list = new_channel (record { mode = mode; list = list; port = 1; limit = 3 }) two_clips 0 1

-- the playlists of two events, and of one

abbrev both : List Item
both = whole clip_1 ∷ whole clip_2 ∷ []

abbrev twice : List Item
twice = whole clip_1 ∷ whole clip_1 ∷ []

abbrev one : List Item
one = whole clip_1 ∷ []

-- what came of a channel
pub record Seen : Type 0 where
  pub aired : List Item
  pub reported : ℕ
  pub exchanges : ℕ
  pub outcome : Option Outcome

abbrev seen : Channel → Seen
seen c =
    record {
      aired = c.aired;
      reported = c.state.settled;
      exchanges = length c.log;
      outcome = outcome_of c.state.stage;
    }

abbrev ends : List Item → ℕ → ℕ → Option Outcome → Seen
ends aired reported exchanges outcome =
    record { aired = aired; reported = reported; exchanges = exchanges; outcome = outcome }

abbrev good : ℕ → List Event
good n = times n good_round

abbrev rounds : ℕ → List Event
rounds n = times n round

-- the exchange at a place
abbrev exchange_at : ℕ → Channel → Option Exchange
exchange_at place c = slice_get c.log place

abbrev answered_by : Command → Reply → Option Exchange
answered_by c r = Some (record { command = c; heard = Some (heard.Reply r) })

abbrev unanswered : Command → Option Exchange
unanswered c = Some (record { command = c; heard = None })

abbrev status : Command
status = command.Status 1

abbrev state : ℕ → Reply
state byte = reply.State 1 (Some byte)

-- ---- plain mode

nothing_to_play : seen (after_events (new Plain []) (good 4)) ≡ ends [] 0 4 (Some Done)
nothing_to_play = refl

nothing_to_play_is_not_done_in_3_rounds : seen (after_events (new Plain []) (good 3)) ≡ ends [] 0 3 None
nothing_to_play_is_not_done_in_3_rounds = refl

-- an empty list at a port in whose cued slot something was left over
an_empty_list_finds_something_cued : seen (after_events (channel_to (record { mode = Plain; list = []; port = 1; limit = 3 })
    (record (new_port two_clips 0 1 1) { state = record (new_state 0 1) { cued = done (whole clip_2) } })) (rounds 3))
    ≡ ends [] 0 3 (Some (Strange 0))
an_empty_list_finds_something_cued = refl

two_events : seen (after_events (new Plain both) (good 14)) ≡ ends both 2 14 (Some Done)
two_events = refl

two_events_are_not_done_in_13_rounds : seen (after_events (new Plain both) (good 13)) ≡ ends both 2 13 None
two_events_are_not_done_in_13_rounds = refl

-- of one event PLAY is lost, or its answer

abbrev one_lost_play : Channel
one_lost_play = after_events (new Plain one) (good 5 ++ Tick ∷ LoseDown ∷ Timeout ∷ [])

one_lost_play_takes_5_rounds : seen (after_events one_lost_play (good 5)) ≡ ends one 1 11 (Some Done)
one_lost_play_takes_5_rounds = refl

one_lost_play_is_not_done_in_4_rounds : seen (after_events one_lost_play (good 4)) ≡ ends one 1 10 None
one_lost_play_is_not_done_in_4_rounds = refl

abbrev one_lost_answer : Channel
one_lost_answer = after_events (new Plain one) (good 5 ++ Tick ∷ Down ∷ LoseUp ∷ Timeout ∷ [])

one_lost_answer_takes_4_rounds : seen (after_events one_lost_answer (good 4)) ≡ ends one 1 10 (Some Done)
one_lost_answer_takes_4_rounds = refl

one_lost_answer_is_not_done_in_3_rounds : seen (after_events one_lost_answer (good 3)) ≡ ends one 1 9 None
one_lost_answer_is_not_done_in_3_rounds = refl

-- a STOP that is lost has spent the wish, and is sent again
lost_stop : seen (after_events (new Plain one) (Stop ∷ Tick ∷ LoseDown ∷ Timeout ∷ good 9)) ≡ ends [] 0 3 (Some Stopped)
lost_stop = refl

-- PLAY is lost while the clip before still plays, and is sent again
abbrev lost_play : Channel
lost_play = after_events (new Plain twice) (good 6 ++ rounds 3 ++ Ready ∷ Take ∷ round ++ Tick ∷ LoseDown ∷ Timeout ∷
    rounds 2 ++ good 3)

lost_play_ends : seen lost_play ≡ ends twice 2 16 (Some Done)
lost_play_ends = refl

lost_play_is_unanswered : exchange_at 10 lost_play ≡ unanswered command.Play
lost_play_is_unanswered = refl

lost_play_is_probed : exchange_at 11 lost_play ≡ answered_by status (state 0x84)
lost_play_is_probed = refl

lost_play_is_sent_again : exchange_at 12 lost_play ≡ answered_by command.Play reply.Ack
lost_play_is_sent_again = refl

-- the answer to PLAY is lost, and the next state shows that it was executed
abbrev lost_answer : Channel
lost_answer = after_events (new Plain twice) (good 10 ++ Tick ∷ Down ∷ LoseUp ∷ Timeout ∷ round ++ good 3)

lost_answer_ends : seen lost_answer ≡ ends twice 2 15 (Some Done)
lost_answer_ends = refl

lost_answer_is_settled_by_a_state : exchange_at 11 lost_answer ≡ answered_by status (state 0x04)
lost_answer_is_settled_by_a_state = refl

-- PLAY comes twice, the second time damaged
abbrev damaged_copy : Channel
damaged_copy = after_events (new Plain one) (good 5 ++ Tick ∷ DownCopy ∷ AlterDown (0xFF ∷ []) ∷ Down ∷ Up ∷ good 4)

damaged_copy_ends : seen damaged_copy ≡ ends one 1 10 (Some Done)
damaged_copy_ends = refl

damaged_copy_is_no_refusal : exchange_at 5 damaged_copy ≡ answered_by command.Play (reply.Nak 0x04)
damaged_copy_is_no_refusal = refl

damaged_copy_is_probed : exchange_at 6 damaged_copy ≡ answered_by status (state 0x01)
damaged_copy_is_probed = refl

abbrev copied : List Event
copied = good 5 ++ Tick ∷ DownCopy ∷ DownCopy ∷ Down ∷ UpCopy ∷ Up ∷ good 3

copies_of_play_and_its_answer : seen (after_events (new Plain one) copied) ≡ ends one 1 9 (Some Done)
copies_of_play_and_its_answer = refl

missing_clip : seen (after_events (new Plain (whole clip_1 ∷ whole clip_9 ∷ [])) (good 20))
    ≡ ends one 1 8 (Some (Missing 1))
missing_clip = refl

two_lost_commands : seen (after_events (new Plain one) (times 2 (Tick ∷ LoseDown ∷ Timeout ∷ []))) ≡ ends [] 0 2 None
two_lost_commands = refl

three_lost_commands : seen (after_events (new Plain one) (times 3 (Tick ∷ LoseDown ∷ Timeout ∷ [])))
    ≡ ends [] 0 3 (Some Lost)
three_lost_commands = refl

stopped_while_play_is_awaited : seen (after_events (new Plain one)
    (good 5 ++ Tick ∷ Down ∷ LoseUp ∷ Stop ∷ Timeout ∷ good 2)) ≡ ends one 0 8 (Some Stopped)
stopped_while_play_is_awaited = refl

-- the next event waits for the clip that plays, and then for the operator
abbrev taken_over : Channel
taken_over = after_events (new Plain both) (good 6 ++ rounds 3 ++ Ready ∷ round ++ Take ∷ rounds 2)

taken_over_goes_on : seen taken_over ≡ ends both 2 12 None
taken_over_goes_on = refl

first_clip_is_active : exchange_at 6 taken_over ≡ answered_by command.ActiveId (reply.Active (Some clip_1))
first_clip_is_active = refl

next_cue_waits : exchange_at 9 taken_over ≡ answered_by status (state 0x84)
next_cue_waits = refl

taken_at_a_state : exchange_at 10 taken_over ≡ answered_by status (state 0x84)
taken_at_a_state = refl

played_over : exchange_at 11 taken_over ≡ answered_by command.Play reply.Ack
played_over = refl

-- a take that comes once the PLAY went out counts for the next one, though it comes before the clip goes to air
taken_early : seen (after_events (new Plain both) (good 5 ++ Tick ∷ Take ∷ Down ∷ Up ∷ rounds 3 ++ Ready ∷ rounds 2))
    ≡ ends both 2 11 None
taken_early = refl

-- a cue takes three frames
abbrev framed_cue : Channel
framed_cue =
    after_events (new_channel (record { mode = Plain; list = one; port = 1; limit = 3 }) two_clips 0 3)
    (rounds 4 ++ Frame ∷ Frame ∷ round ++ Frame ∷ rounds 3)

framed_cue_airs : seen framed_cue ≡ ends one 1 8 None
framed_cue_airs = refl

cueing_after_two_frames : exchange_at 4 framed_cue ≡ answered_by status (state 0x02)
cueing_after_two_frames = refl

cued_after_three_frames : exchange_at 5 framed_cue ≡ answered_by status (state 0x80)
cued_after_three_frames = refl

-- ---- damage

abbrev open_bytes : List ℕ
open_bytes = 0x02 ∷ 0x04 ∷ 0x30 ∷ 0x01 ∷ 0x01 ∷ 0x01 ∷ 0xCD ∷ []

-- OPEN is on the way
abbrev asked : Channel
asked = after_event (new Plain one) Tick

open_is_on_the_way : asked.down ≡ open_bytes
open_is_on_the_way = refl

answer_from_nothing_is_no_damage : after_event asked (AlterUp (0x04 ∷ [])) ≡ asked
answer_from_nothing_is_no_damage = refl

junk_from_nothing_is_damage : (after_event asked (AlterUp (0xFF ∷ []))).up ≡ 0xFF ∷ []
junk_from_nothing_is_damage = refl

junk_is_heard_as_nothing : after_events asked (AlterUp (0xFF ∷ []) ∷ Up ∷ []) ≡ asked
junk_is_heard_as_nothing = refl

burst_can_become_no_burst : (after_event asked (AlterDown [])).down ≡ []
burst_can_become_no_burst = refl

other_command_is_no_damage : after_event asked (AlterDown (0x02 ∷ 0x02 ∷ 0x10 ∷ 0x01 ∷ 0xEF ∷ [])) ≡ asked
other_command_is_no_damage = refl

message_twice_is_no_damage : after_event asked (AlterDown (open_bytes ++ open_bytes)) ≡ asked
message_twice_is_no_damage = refl

bytes_too_many_are_no_damage : after_event asked (AlterDown (replicate 1025 0xFF)) ≡ asked
bytes_too_many_are_no_damage = refl

as_many_bytes_are_damage : (after_event asked (AlterDown (replicate 1024 0xFF))).down ≡ replicate 1024 0xFF
as_many_bytes_are_damage = refl

-- junk after the message: it is executed, and its end is answered too, but not heard
abbrev junk_behind : Channel
junk_behind = after_events asked (AlterDown (open_bytes ++ 0xFF ∷ []) ∷ Down ∷ [])

junk_behind_is_answered : junk_behind.up ≡ 0x02 ∷ 0x03 ∷ 0x30 ∷ 0x81 ∷ 0x01 ∷ 0x4E ∷ 0x05 ∷ 0x04 ∷ []
junk_behind_is_answered = refl

first_message_is_heard : exchange_at 0 (after_event junk_behind Up) ≡ answered_by (command.Open 1 1) (reply.Opened true)
first_message_is_heard = refl

-- ---- what is no event

abbrev deliveries : List Event
deliveries = Down ∷ DownCopy ∷ Up ∷ UpCopy ∷ LoseDown ∷ LoseUp ∷ AlterDown (0x04 ∷ []) ∷ AlterUp (0x04 ∷ []) ∷ []

abbrev other_events : List Event
other_events = Timeout ∷ Ready ∷ End ∷ Frame ∷ StrayAck ∷ StrayNak 0x01 ∷ []

no_event_in_a_new_channel : map (after_event (new Plain one)) (deliveries ++ other_events)
    ≡ replicate 14 (new Plain one)
no_event_in_a_new_channel = refl

second_tick : after_event asked Tick ≡ asked
second_tick = refl

time_out_while_something_is_on_the_way : after_event asked Timeout ≡ asked
time_out_while_something_is_on_the_way = refl

-- ---- confirm mode

one_event_confirmed : seen (after_events (new Confirming one) (good 12)) ≡ ends one 1 11 (Some Done)
one_event_confirmed = refl

one_event_is_not_confirmed_in_11_rounds : seen (after_events (new Confirming one) (good 11)) ≡ ends one 1 10 None
one_event_is_not_confirmed_in_11_rounds = refl

nothing_confirmed : seen (after_events (new Confirming []) (good 6)) ≡ ends [] 0 5 (Some Done)
nothing_confirmed = refl

nothing_is_not_confirmed_in_5_rounds : seen (after_events (new Confirming []) (good 5)) ≡ ends [] 0 4 None
nothing_is_not_confirmed_in_5_rounds = refl

receipts_from_nowhere : seen (after_events (new Confirming one) (Tick ∷ StrayNak 0x01 ∷ AlterUp (0x04 ∷ []) ∷ Up ∷ []))
    ≡ ends [] 0 0 None
receipts_from_nowhere = refl

forged_receipt_is_on_the_way : (after_events (new Confirming one) (Tick ∷ AlterUp (0x04 ∷ []) ∷ [])).up ≡ 0x04 ∷ []
forged_receipt_is_on_the_way = refl

forged_command_is_no_damage : (after_events (new Confirming one) (Tick ∷ AlterDown (0x04 ∷ []) ∷ [])).down ≡ open_bytes
forged_command_is_no_damage = refl

-- ACK comes from nowhere while PLAY is lost
abbrev stray_ack : Channel
stray_ack = after_events (new Confirming one) (good 6 ++ Tick ∷ StrayAck ∷ LoseDown ∷ Timeout ∷ good 7)

stray_ack_ends : seen stray_ack ≡ ends one 1 13 (Some Done)
stray_ack_ends = refl

stray_ack_answers_nothing : exchange_at 6 stray_ack ≡ unanswered command.Play
stray_ack_answers_nothing = refl

stray_ack_is_seen_through : exchange_at 7 stray_ack ≡ answered_by status (state 0x80)
stray_ack_is_seen_through = refl

-- the cue is lost, again and again
abbrev lost_cue : ℕ → Channel
lost_cue n = after_events (new Confirming one) (good 4 ++ times n (Tick ∷ LoseDown ∷ Timeout ∷ good_round))

cue_lost_twice : seen (lost_cue 2) ≡ ends [] 0 8 None
cue_lost_twice = refl

cue_lost_three_times : seen (lost_cue 3) ≡ ends [] 0 10 (Some (Refused 0))
cue_lost_three_times = refl

-- CLOSE is lost: it is done, and the port is still selected
abbrev lost_close : Channel
lost_close = after_events (new Confirming []) (good 4 ++ Tick ∷ LoseDown ∷ Timeout ∷ [])

lost_close_is_done : seen lost_close ≡ ends [] 0 5 (Some Done)
lost_close_is_done = refl

lost_close_leaves_the_port_selected : lost_close.port.state.access ≡ Selected
lost_close_leaves_the_port_selected = refl

-- STOP and CLOSE are lost: it has stopped, and the clip still plays
abbrev lost_stop_and_close : Channel
lost_stop_and_close = after_events (new Confirming one)
    (good 6 ++ round ++ Stop ∷ Timeout ∷ times 2 (Tick ∷ LoseDown ∷ Timeout ∷ []))

lost_stop_and_close_is_stopped : seen lost_stop_and_close ≡ ends one 0 9 (Some Stopped)
lost_stop_and_close_is_stopped = refl

lost_stop_leaves_the_clip_playing : lost_stop_and_close.port.state.playing ≡ Some (whole clip_1)
lost_stop_leaves_the_clip_playing = refl

-- SELECT is lost: the port refuses the status, and SELECT is sent again, unless that status was the last one
abbrev lost_select : ℕ → Channel
lost_select limit =
    after_events (new_channel (record { mode = Confirming; list = one; port = 1; limit = limit }) two_clips 0 1)
    (good_round ++ Tick ∷ LoseDown ∷ Timeout ∷ [])

lost_select_takes_12_rounds : seen (after_events (lost_select 2) (good 12)) ≡ ends one 1 13 (Some Done)
lost_select_takes_12_rounds = refl

lost_select_is_not_done_in_11_rounds : seen (after_events (lost_select 2) (good 11)) ≡ ends one 1 12 None
lost_select_is_not_done_in_11_rounds = refl

lost_select_ends_at_the_limit : seen (after_events (lost_select 1) (good 12)) ≡ ends [] 0 3 (Some Lost)
lost_select_ends_at_the_limit = refl
