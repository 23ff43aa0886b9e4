-- Two ends with their bytes, computed: a run that the laws speak of; and for some premises what happens without them.
use Rattle.std.proofs.Common.{◌≡◌, ℕ, true, false, List, [], ◌∷◌, ◌++◌, length, max, refl, ap, take, map}
use Rattle.std.specs.Option.{option_to_list}
use Rattle.std.specs.Prelude.{None, Some}
use Rattle.vdcp_value.specs.Timecodes.{bcd_of, frames_of}
use Rattle.vdcp_value.specs.declared.clip_id.ClipId.{ClipId}
use Rattle.vdcp_value.specs.declared.part.Item.{Item}
use Rattle.vdcp_value.specs.declared.rate.Rate.TheVariants.{F25}
use Rattle.vdcp_value.specs.declared.timecode.Timecode.{Timecode}
use Rattle.vdcp_frame.specs.Message.{spelling}
use Rattle.vdcp_words.specs.Commands.{command_message}
use Rattle.vdcp_words.specs.declared.command.Command.{Command}
use Rattle.vdcp_words.specs.declared.command.Command.TheVariants as command
use Rattle.vdcp_words.specs.declared.reply.Reply.TheVariants as reply
use Rattle.vdcp_auto.specs.declared.exchange.Heard.{Heard}
use Rattle.vdcp_auto.specs.declared.exchange.Heard.TheVariants as heard
use Rattle.vdcp_journal.specs.declared.row.Note.TheVariants as note
use Rattle.vdcp_port.specs.Clips.{whole}
use Rattle.vdcp_port.specs.Clock.{ClockedPort, new_port}
use Rattle.vdcp_port.specs.Port.{done, empty}
use Rattle.vdcp_port.specs.declared.access.Access.TheVariants.{Selected}
use Rattle.vdcp_auto.specs.Commands.{cue_for}
use Rattle.vdcp_auto.specs.Plan.{Plan}
use Rattle.vdcp_auto.specs.State.{Ready, State}
use Rattle.vdcp_auto.specs.Turn.{awaited, came_to, given, ticked}
use Rattle.vdcp_auto.specs.declared.phase.Mode.TheVariants.{Confirming, Plain}
use Rattle.vdcp_auto.specs.declared.phase.Phase.TheVariants as phase
use Rattle.vdcp_wire.specs.Wires.{Arrival, bytes, silence}
use Rattle.vdcp_drive.specs.Traces.{bytes_of}
use Rattle.vdcp_laws.specs.Announced.{Announces, came_again}
use Rattle.vdcp_laws.specs.Automation.{Prompt, gives, new_prompt, led, prompted}
use Rattle.vdcp_drive.specs.Reading.{holds}
use Rattle.vdcp_drive.specs.Served.{items_served, only, served}
use Rattle.vdcp_drive.specs.Serving.{begins, items_in, hook_steps}
use Rattle.vdcp_drive.specs.Turns.{Turn, arrivals, frame, listen}
use Rattle.vdcp_drive.specs.declared.hearing.Hearing.TheVariants.{AtOnce}
use Rattle.vdcp_drive.specs.Auto.{Event, arrives, calls}
use Rattle.vdcp_auto.specs.declared.list_call.ListCall.TheVariants.{Hold}
use Rattle.vdcp_drive.specs.declared.hooks.Call.TheVariants as call
use Rattle.vdcp_world.specs.InTime.{not_yets}
use Rattle.vdcp_laws.specs.InTime as timely
use Rattle.vdcp_laws.specs.InTime.{AreNewInTime}
use Rattle.vdcp_laws.specs.OneConnection.{ends_at}
use Rattle.vdcp_laws.specs.TwoEnds as ends
use Rattle.vdcp_laws.specs.TwoEnds.{AreJoined, Ends, aired_now, bytes_in, log_now, new_ends, port_now, sent_down, sent_up, with_command, with_down}
use Rattle.vdcp_laws.specs.Untorn.{at_once_for}

-- a clip whose ID and the checksum of its cue end as PLAY to unit 0
abbrev clip : ClipId
clip = record { bytes = 0x2E ∷ 0x2E ∷ 0x2E ∷ 0x2E ∷ 0x02 ∷ 0x02 ∷ 0x10 ∷ 0x01 ∷ []; eight = refl }

-- a port of unit 0 and number 1, whose cues take a frame, with that clip of this length; and the playlist of one event

abbrev port : Timecode → ClockedPort
port length = new_port ((clip, length) ∷ []) 0 1 1

abbrev plan : Plan
plan = record { mode = Plain; list = whole clip ∷ []; port = 1; limit = 3 }

abbrev of_command : Command → List ℕ
of_command c = spelling (command_message 0 c)

abbrev open_bytes : List ℕ
open_bytes = of_command (command.Open 1 1)

abbrev select_bytes : List ℕ
select_bytes = of_command (command.Select 1)

abbrev exists_bytes : List ℕ
exists_bytes = of_command (command.IdRequest clip)

abbrev play_bytes : List ℕ
play_bytes = of_command command.Play

abbrev status_bytes : List ℕ
status_bytes = of_command (command.Status 1)

-- the cue in two pieces

abbrev cue_front : List ℕ
cue_front = 0x02 ∷ 0x0A ∷ 0x20 ∷ 0x24 ∷ 0x2E ∷ 0x2E ∷ 0x2E ∷ 0x2E ∷ []

abbrev cue_rest : List ℕ
cue_rest = 0x02 ∷ 0x02 ∷ 0x10 ∷ 0x01 ∷ 0xEF ∷ []

abbrev granted_bytes : List ℕ
granted_bytes = 0x02 ∷ 0x03 ∷ 0x30 ∷ 0x81 ∷ 0x01 ∷ 0x4E ∷ []

abbrev present_bytes : List ℕ
present_bytes = 0x02 ∷ 0x03 ∷ 0x30 ∷ 0x96 ∷ 0x01 ∷ 0x39 ∷ []

-- the cue is done, and nothing plays
abbrev done_bytes : List ℕ
done_bytes = 0x02 ∷ 0x04 ∷ 0x30 ∷ 0x85 ∷ 0x01 ∷ 0x80 ∷ 0xCA ∷ []

the_rest_of_the_cue_is_a_play : (of_command (command.PlayCue clip) ≡ cue_front ++ cue_rest) × (play_bytes ≡ cue_rest)
the_rest_of_the_cue_is_a_play = (refl, refl)

-- the row CLIP0001,00:55:59:20,01:10:02:02 of a playlist at 25 frames a second

abbrev clip_1 : ClipId
clip_1 = record { bytes = 0x43 ∷ 0x4C ∷ 0x49 ∷ 0x50 ∷ 0x30 ∷ 0x30 ∷ 0x30 ∷ 0x31 ∷ []; eight = refl }

abbrev at : Timecode
at = record { rate = F25; label = record { hours = 0; minutes = 55; seconds = 59; frames = 20 }; lawful = refl }

abbrev lasting : Timecode
lasting = record { rate = F25; label = record { hours = 1; minutes = 10; seconds = 2; frames = 2 }; lawful = refl }

the_rest_of_a_plain_row_is_one_too :
    of_command (cue_for clip_1 (Some (record { start = bcd_of at; duration = bcd_of lasting })))
    ≡ (0x02 ∷ 0x12 ∷ 0x20 ∷ 0x25 ∷ clip_1.bytes ++ 0x20 ∷ 0x59 ∷ 0x55 ∷ 0x00 ∷ []) ++ play_bytes
the_rest_of_a_plain_row_is_one_too = refl

-- A run.

-- The time is up while the answer to OPEN is half here; OPEN goes out again, and its answer is heard for the SELECT,
-- which goes out again too. Pieces are cut amid messages, and a frame passes and the line is silent within the cue. A frame
-- later the event airs.

abbrev late_in : List Arrival
late_in = bytes (0x02 ∷ 0x03 ∷ []) ∷ silence ∷ bytes (0x30 ∷ 0x81 ∷ 0x01 ∷ 0x4E ∷ []) ∷ bytes (granted_bytes ++ 0x04 ∷ [])
    ∷ bytes (0x04 ∷ []) ∷ bytes present_bytes ∷ bytes (0x04 ∷ []) ∷ bytes done_bytes ∷ bytes (0x04 ∷ []) ∷ []

abbrev cut_downs : List Turn
cut_downs = listen (bytes open_bytes) ∷ listen (bytes (open_bytes ++ 0x02 ∷ []))
    ∷ listen (bytes (0x03 ∷ 0x20 ∷ 0x22 ∷ 0x01 ∷ 0xBD ∷ [])) ∷ listen (bytes select_bytes) ∷ listen (bytes exists_bytes)
    ∷ listen (bytes cue_front) ∷ frame ∷ listen silence ∷ listen (bytes cue_rest) ∷ frame ∷ listen (bytes status_bytes)
    ∷ listen (bytes play_bytes) ∷ []

abbrev ComesTo : Timecode → List Event → List Turn → Type 0
ComesTo length ups downs = ends.AreLed plan 0 (new_ends (port length) []) (ends_at plan 0 (new_ends (port length) []) ups downs)

-- what comes up is in order, and then the next command is given
abbrev up_to : ℕ → List Event
up_to n = map arrives (take n late_in)

a_run : (length : Timecode) → ComesTo length (map arrives late_in) cut_downs
a_run length =
    let none : ComesTo length [] [] = ends.went_on ends.begun ends.gave in
    let one : ComesTo length [] (take 1 cut_downs) = ends.went_on none (ends.came_down open_bytes [] refl) in
    let two : ComesTo length (up_to 1) (take 1 cut_downs) =
    ends.went_on (ends.went_on one (ends.came_up (0x02 ∷ 0x03 ∷ []) (0x30 ∷ 0x81 ∷ 0x01 ∷ 0x4E ∷ []) refl)) ends.gave in
    let late : ComesTo length (up_to 2) (take 1 cut_downs) = ends.went_on (ends.went_on two ends.waited) ends.gave in
    let three : ComesTo length (up_to 3) (take 1 cut_downs) =
    ends.went_on (ends.went_on late (ends.came_up (0x30 ∷ 0x81 ∷ 0x01 ∷ 0x4E ∷ []) [] refl)) ends.gave in
    let four : ComesTo length (up_to 3) (take 2 cut_downs) =
    ends.went_on three (ends.came_down (open_bytes ++ 0x02 ∷ []) (0x03 ∷ 0x20 ∷ 0x22 ∷ 0x01 ∷ 0xBD ∷ []) refl) in
    let five : ComesTo length (up_to 3) (take 3 cut_downs) =
    ends.went_on four (ends.came_down (0x03 ∷ 0x20 ∷ 0x22 ∷ 0x01 ∷ 0xBD ∷ []) [] refl) in
    let six : ComesTo length (up_to 4) (take 3 cut_downs) =
    ends.went_on (ends.went_on five (ends.came_up (granted_bytes ++ 0x04 ∷ []) [] refl)) ends.gave in
    let seven : ComesTo length (up_to 4) (take 4 cut_downs) = ends.went_on six (ends.came_down select_bytes [] refl) in
    let eight : ComesTo length (up_to 5) (take 4 cut_downs) =
    ends.went_on (ends.went_on seven (ends.came_up (0x04 ∷ []) [] refl)) ends.gave in
    let nine : ComesTo length (up_to 5) (take 5 cut_downs) = ends.went_on eight (ends.came_down exists_bytes [] refl) in
    let ten : ComesTo length (up_to 6) (take 5 cut_downs) =
    ends.went_on (ends.went_on nine (ends.came_up present_bytes [] refl)) ends.gave in
    let half : ComesTo length (up_to 6) (take 8 cut_downs) =
    ends.went_on (ends.went_on (ends.went_on ten (ends.came_down cue_front cue_rest refl)) ends.passed) ends.paused in
    let whole : ComesTo length (up_to 6) (take 9 cut_downs) = ends.went_on half (ends.came_down cue_rest [] refl) in
    let cued : ComesTo length (up_to 7) (take 9 cut_downs) =
    ends.went_on (ends.went_on whole (ends.came_up (0x04 ∷ []) [] refl)) ends.gave in
    let asked : ComesTo length (up_to 7) (take 11 cut_downs) =
    ends.went_on (ends.went_on cued ends.passed) (ends.came_down status_bytes [] refl) in
    let shown : ComesTo length (up_to 8) (take 11 cut_downs) =
    ends.went_on (ends.went_on asked (ends.came_up done_bytes [] refl)) ends.gave in
    let played : ComesTo length (up_to 8) cut_downs = ends.went_on shown (ends.came_down play_bytes [] refl) in
    ends.went_on (ends.went_on played (ends.came_up (0x04 ∷ []) [] refl)) ends.gave

-- A run in time: its commands go out at once, and the state is asked again before a frame passes.

-- something is being cued
abbrev cueing_bytes : List ℕ
cueing_bytes = 0x02 ∷ 0x04 ∷ 0x30 ∷ 0x85 ∷ 0x01 ∷ 0x02 ∷ 0x48 ∷ []

abbrev InTime : Timecode → Type 0
InTime clip_length = (e : Ends) × AreNewInTime plan (port clip_length) e

abbrev exchanges : (clip_length : Timecode) → (x : InTime clip_length) → (down up : List ℕ)
    → sent_down 0 (with_command plan x.0) ≡ bytes_in (arrivals x.0.downs) ++ (down ++ [])
    → sent_up (with_down (listen (bytes down)) (with_command plan x.0)) ≡ x.0.ups ++ (up ++ []) → InTime clip_length
exchanges clip_length x down up sent answered = (
  _,
  timely.went_on
      (timely.went_on (timely.went_on x.1 ends.gave tt) (ends.came_down down [] sent) tt)
      (ends.came_up up [] answered) tt,
)

abbrev polled_in_time : (clip_length : Timecode) → InTime clip_length
polled_in_time clip_length =
    exchanges clip_length
    (exchanges clip_length
    (exchanges clip_length
    (exchanges clip_length
    (exchanges clip_length
    (exchanges clip_length (new_ends (port clip_length) [], timely.begun) open_bytes granted_bytes refl refl)
    select_bytes (0x04 ∷ []) refl refl)
    exists_bytes present_bytes refl refl)
    (cue_front ++ cue_rest) (0x04 ∷ []) refl refl)
    status_bytes cueing_bytes refl refl)
    status_bytes cueing_bytes refl refl

two_of_six_say_not_yet : (clip_length : Timecode) → (length (log_now (polled_in_time clip_length).0) ≡ 6)
    × (not_yets (log_now (polled_in_time clip_length).0) ≡ 2)
two_of_six_say_not_yet clip_length = (refl, refl)

-- the operator holds the list, takes and stops before a command goes out: then STOP goes out first
abbrev stop_bytes : List ℕ
stop_bytes = 0x02 ∷ 0x02 ∷ 0x10 ∷ 0x00 ∷ 0xF0 ∷ []

a_run_with_calls : (length : Timecode)
    → ComesTo length (calls (call.List Hold) ∷ calls call.Take ∷ calls call.Stop ∷ []) (listen (bytes stop_bytes) ∷ [])
a_run_with_calls length =
    ends.went_on (ends.went_on (ends.went_on (ends.went_on (ends.went_on ends.begun
    (ends.calls (call.List Hold) refl)) (ends.calls call.Take refl)) (ends.calls call.Stop refl)) ends.gave)
    (ends.came_down stop_bytes [] refl)

it_airs : (length : Timecode) → items_in (hook_steps (begins AtOnce (port length)) cut_downs) ≡ whole clip ∷ []
it_airs length = refl

and_is_reported : (prompted plan 0 late_in).state.settled ≡ 1
and_is_reported = refl

-- the commands of the exchanges that have ended, and then the one that is awaited
abbrev commands_in : Plan → Prompt → List Command
commands_in plan p = map (λ e. e.command) p.log ++ option_to_list (awaited plan p.state)

-- what an automation has sent once this came to it, the command that it gives next included
abbrev sent_by : Prompt → List Arrival → List ℕ
sent_by p ups = bytes_of 0 (commands_in plan (gives (led plan 0 p (map arrives ups))))

-- A silence within a command, at a server that hears at silences: then a frame passes.

-- The cue is sent three times, since its ACK is late, and a silence falls within the second one.

abbrev torn_downs : List Arrival
torn_downs = bytes open_bytes ∷ bytes select_bytes ∷ bytes exists_bytes ∷ bytes (cue_front ++ cue_rest) ∷ silence
    ∷ bytes cue_front ∷ silence ∷ bytes cue_rest ∷ silence ∷ bytes (cue_front ++ cue_rest) ∷ silence
    ∷ bytes status_bytes ∷ bytes play_bytes ∷ []

abbrev late_ups : List Arrival
late_ups = bytes granted_bytes ∷ bytes (0x04 ∷ []) ∷ bytes present_bytes ∷ silence ∷ silence
    ∷ bytes (0x04 ∷ 0x05 ∷ 0x80 ∷ 0x04 ∷ 0x04 ∷ []) ∷ bytes done_bytes ∷ bytes (0x04 ∷ []) ∷ []

-- The port when the rest of the second cue has put the event to air, if the clip has n frames.
abbrev playing_for : Timecode → ℕ → ClockedPort
playing_for length n = record {
  clips = (clip, length) ∷ [];
  cue_frames = 1;
  state = record { unit = 0; number = 1; access = Selected; cued = empty; playing = Some (whole clip) };
  counts = record { cue = 0; playing = max 1 n };
}

abbrev then_downs : List Arrival
then_downs = silence ∷ bytes (cue_front ++ cue_rest) ∷ silence ∷ bytes status_bytes ∷ bytes play_bytes ∷ []

abbrev sent_then : Timecode → ℕ → List ℕ
sent_then length n =
    granted_bytes ++ 0x04 ∷ present_bytes ++ 0x04 ∷ 0x05 ∷ 0x80 ∷ 0x04 ∷ served (playing_for length n) then_downs

abbrev aired_then : Timecode → ℕ → List Item
aired_then length n = whole clip ∷ items_served (playing_for length n) then_downs

-- Each end has heard all that the other one sent, but for the command that comes next. The clip has one frame.
torn_bytes_keep_order : (length : Timecode) → frames_of length ≡ 1
    → (sent_by new_prompt late_ups ≡ bytes_in torn_downs ++ of_command command.ActiveId)
    × (served (port length) torn_downs ≡ bytes_in late_ups)
torn_bytes_keep_order length one = (refl, ap (sent_then length) one)

-- and the event airs twice
torn_command_airs_twice : (length : Timecode) → frames_of length ≡ 1
    → items_served (port length) torn_downs ≡ whole clip ∷ whole clip ∷ []
torn_command_airs_twice length one = ap (aired_then length) one

-- At a server that hears at once, with a frame after each silence, nothing is torn, and it airs once.

abbrev airs : ClockedPort → List Arrival → List Item
airs p came = items_in (hook_steps (begins AtOnce p) (at_once_for (only came)))

untorn_command_airs_once : (length : Timecode) → airs (port length) torn_downs ≡ whole clip ∷ []
untorn_command_airs_once length = refl

-- A command whose row isn't safe.

abbrev airs_then : Timecode → ℕ → List Item
airs_then length n = whole clip ∷ airs (playing_for length n) then_downs

-- The automation puts the event to air and is killed, and its journal ends with the cue: it goes on by cueing again.

abbrev first_ups : List Arrival
first_ups = bytes granted_bytes ∷ bytes (0x04 ∷ []) ∷ bytes present_bytes ∷ bytes (0x04 ∷ []) ∷ bytes done_bytes ∷ []

abbrev goes_on : Prompt
goes_on = record {
  held = holds [];
  state = came_to plan None (gives (prompted plan 0 (take 3 first_ups))).state;
  log = [];
}

both_send :
    (sent_by new_prompt first_ups
    ≡ open_bytes ++ select_bytes ++ exists_bytes ++ (cue_front ++ cue_rest) ++ status_bytes ++ play_bytes)
    × (sent_by goes_on (bytes (0x04 ∷ []) ∷ bytes done_bytes ∷ [])
    ≡ (cue_front ++ cue_rest) ++ status_bytes ++ play_bytes)
both_send = (refl, refl)

-- and the event airs twice
unsafe_command_airs_twice : (length : Timecode) → frames_of length ≡ 1
    → airs (port length)
    (bytes open_bytes ∷ bytes select_bytes ∷ bytes exists_bytes ∷ bytes (cue_front ++ cue_rest) ∷ silence
    ∷ bytes status_bytes ∷ bytes play_bytes ∷ then_downs)
    ≡ whole clip ∷ whole clip ∷ []
unsafe_command_airs_twice length one = ap (airs_then length) one

-- A PLAY that was announced.

-- The first of two events plays, and the second one's cue is done: the state says so.
abbrev two_events : Plan
two_events = record { mode = Confirming; list = whole clip ∷ whole clip ∷ []; port = 1; limit = 3 }

abbrev waits : State
waits = record { stage = Ready (phase.Wait 1); take = false; stop = false; unanswered = 0; settled = 1; tries = 0 }

abbrev says_so : Heard
says_so = heard.Reply (reply.State 1 (Some 0x84))

it_announces : Announces two_events waits (note.Sent (command.Status 1) ∷ note.Heard says_so ∷ []) says_so
it_announces = record { last = refl; plays = refl }

-- what goes on from there asks first
it_asks : given two_events (came_to two_events None (ticked (came_again two_events says_so waits))) ≡ Some (command.Status 1)
it_asks = refl

-- An automation that goes on without the PLAY takes the cue for lost, and cues again.
abbrev playing_bytes : List ℕ
playing_bytes = 0x02 ∷ 0x04 ∷ 0x30 ∷ 0x85 ∷ 0x01 ∷ 0x04 ∷ 0x46 ∷ []

forgetting_sends :
    bytes_of 0 (commands_in two_events (gives (led two_events 0 (record { held = holds []; state = waits; log = [] })
    (arrives (bytes playing_bytes) ∷ arrives silence ∷ arrives (bytes done_bytes) ∷ []))))
    ≡ status_bytes ++ (cue_front ++ cue_rest) ++ status_bytes ++ play_bytes
forgetting_sends = refl

-- So if the PLAY went out, the second event airs twice.

abbrev next_cued : Timecode → ClockedPort
next_cued length = record {
  clips = (clip, length) ∷ [];
  cue_frames = 1;
  state = record { unit = 0; number = 1; access = Selected; cued = done (whole clip); playing = Some (whole clip) };
  counts = record { cue = 0; playing = 1 };
}

abbrev forgetting_downs : List Arrival
forgetting_downs = bytes status_bytes ∷ bytes (cue_front ++ cue_rest) ∷ silence ∷ bytes status_bytes ∷ bytes play_bytes ∷ []

abbrev forgetting_airs : Timecode → ℕ → List Item
forgetting_airs length n = whole clip ∷ airs (playing_for length n) forgetting_downs

forgotten_play_airs_twice : (length : Timecode) → frames_of length ≡ 1
    → airs (next_cued length) (silence ∷ bytes status_bytes ∷ bytes play_bytes ∷ forgetting_downs)
    ≡ whole clip ∷ whole clip ∷ []
forgotten_play_airs_twice length one = ap (forgetting_airs length) one

-- What an earlier conversation has left.

-- Its answers are heard as a whole run, with nothing sent to the port: an event is reported that hasn't aired.
old_answers_report_an_event :
    (prompted plan 0 (bytes granted_bytes ∷ bytes (0x04 ∷ []) ∷ bytes present_bytes ∷ bytes (0x04 ∷ []) ∷ bytes done_bytes
    ∷ bytes (0x04 ∷ []) ∷ [])).state.settled
    ≡ 1
old_answers_report_an_event = refl

-- Its PLAY airs what is cued, which isn't the list's.
old_play_airs_another : (length : Timecode)
    → airs (record (port length) {
      state = record { unit = 0; number = 1; access = Selected; cued = done (whole clip_1); playing = None };
    })
    (bytes play_bytes ∷ [])
    ≡ whole clip_1 ∷ []
old_play_airs_another length = refl

-- What is asked where it may not be.

abbrev empty_bytes : List ℕ
empty_bytes = 0x02 ∷ 0x04 ∷ 0x30 ∷ 0x85 ∷ 0x01 ∷ 0x01 ∷ 0x49 ∷ []

-- an automation that goes on and asks whether its PLAY was lost
abbrev probing : Prompt
probing = record {
  held = holds [];
  state = record { stage = Ready (phase.Probe 0); take = false; stop = false; unanswered = 1; settled = 0; tries = 0 };
  log = [];
}

-- Another run asks a server that was started anew OPEN and SELECT, and no row says so: the run before it goes on, and takes
-- the empty port for one that has aired its event.
questions_without_a_row_report_an_event : (length : Timecode)
    → (served (port length) (bytes open_bytes ∷ bytes select_bytes ∷ bytes status_bytes ∷ [])
    ≡ granted_bytes ++ 0x04 ∷ empty_bytes)
    × (items_served (port length) (bytes open_bytes ∷ bytes select_bytes ∷ bytes status_bytes ∷ []) ≡ [])
    × ((led plan 0 probing (arrives (bytes empty_bytes) ∷ [])).state.settled ≡ 1)
questions_without_a_row_report_an_event length = (refl, refl, refl)

-- STATUS is asked between two cues: its answer, that the first one is done, is heard behind the first one's ACK, and the
-- second one's ACK for that of the PLAY, which didn't come.
abbrev between_cues : List Arrival
between_cues = bytes open_bytes ∷ bytes select_bytes ∷ bytes exists_bytes ∷ bytes (cue_front ++ cue_rest) ∷ silence
    ∷ bytes status_bytes ∷ bytes (cue_front ++ cue_rest) ∷ []

state_between_cues_reports_an_event : (length : Timecode)
    → (served (port length) between_cues
    ≡ granted_bytes ++ 0x04 ∷ present_bytes ++ 0x04 ∷ done_bytes ++ 0x04 ∷ [])
    × (items_served (port length) between_cues ≡ [])
    × ((prompted plan 0 (bytes granted_bytes ∷ bytes (0x04 ∷ []) ∷ bytes present_bytes ∷ silence ∷ bytes (0x04 ∷ [])
    ∷ bytes done_bytes ∷ bytes (0x04 ∷ []) ∷ [])).state.settled ≡ 1)
state_between_cues_reports_an_event length = (refl, refl, refl)

-- What was asked before a run.

-- OPEN was asked, and its answer is heard for the run's own, and that to the run's own OPEN for that of SELECT.
abbrev questions : List Command
questions = command.Open 1 1 ∷ command.Select 1 ∷ command.Status 1 ∷ []

abbrev an_asked_run : (length : Timecode) → (e : Ends) × AreJoined plan (port length) questions e
an_asked_run length = (
  _,
  ends.went_on
      (ends.went_on
      (ends.went_on (ends.went_on (ends.went_on ends.begun (ends.came_down open_bytes (select_bytes ++ status_bytes) refl))
      ends.gave)
      (ends.came_up granted_bytes [] refl))
      ends.gave)
      (ends.came_down (select_bytes ++ status_bytes ++ open_bytes) select_bytes refl),
)

its_commands : (length : Timecode) → (an_asked_run length).0.notes
    ≡ note.Sent (command.Open 1 1) ∷ note.Heard (heard.Reply (reply.Opened true)) ∷ note.Sent (command.Select 1) ∷ []
its_commands length = refl

-- A kill.

-- The automation is killed once OPEN went out, goes on over a new connection, and opens the port again.
abbrev a_kill : (length : Timecode) → (e : Ends) × AreJoined plan (port length) [] e
a_kill length = (
  _,
  ends.went_on
      (ends.went_on
      (ends.went_on
      (ends.went_on (ends.went_on (ends.went_on ends.begun ends.gave) (ends.came_down open_bytes [] refl)) (ends.resumed ends.as_noted))
      ends.gave)
      (ends.came_down open_bytes [] refl))
      (ends.came_up granted_bytes [] refl),
)

its_journal : (length : Timecode) → (a_kill length).0.notes
    ≡ note.Sent (command.Open 1 1) ∷ note.Silence ∷ note.Sent (command.Open 1 1) ∷ note.Heard
    (heard.Reply (reply.Opened true)) ∷ []
its_journal length = refl
