-- What the definitions say of the worked rows: of the port's answers and of the automation's commands.
use Rattle.std.proofs.Common.{◌≡◌, ℕ, List, [], ◌∷◌, ◌++◌, map, refl}
use Rattle.vdcp_auto.specs.Plan.{Plan}
use Rattle.vdcp_auto.specs.Turn.{start}
use Rattle.vdcp_auto.specs.declared.phase.Mode.{Mode}
use Rattle.vdcp_auto.specs.declared.phase.Mode.TheVariants.{Plain, Confirming}
use Rattle.vdcp_drive.specs.Auto.{Auto, Event, after, arrives, calls}
use Rattle.vdcp_drive.specs.Served.{only, served}
use Rattle.vdcp_drive.specs.Serving.{begins, left_by}
use Rattle.vdcp_port.specs.Clock.{ClockedPort, new_port}
use Rattle.vdcp_drive.specs.declared.hearing.Hearing.TheVariants.{AtSilences}
use Rattle.vdcp_drive.specs.declared.hooks.Call.TheVariants as call
use Rattle.vdcp_drive.specs.Hearing.{Burst, begun, at_once, at_silences}
use Rattle.vdcp_drive.specs.Reading.{Held, holds, skips, completed, held_after}
use Rattle.vdcp_drive.specs.Steps.{opening, steps_of}
use Rattle.vdcp_drive.specs.Traces.{acts_in, sent_in}
use Rattle.vdcp_wire.specs.Wires.{Arrival, bytes, silence, close}

-- commands to port 1 of unit 0, and replies from it

abbrev open_bytes : List ℕ
open_bytes = 0x02 ∷ 0x04 ∷ 0x30 ∷ 0x01 ∷ 0x01 ∷ 0x01 ∷ 0xCD ∷ []

abbrev select_bytes : List ℕ
select_bytes = 0x02 ∷ 0x03 ∷ 0x20 ∷ 0x22 ∷ 0x01 ∷ 0xBD ∷ []

abbrev close_bytes : List ℕ
close_bytes = 0x02 ∷ 0x03 ∷ 0x20 ∷ 0x21 ∷ 0x01 ∷ 0xBE ∷ []

abbrev status_bytes : List ℕ
status_bytes = 0x02 ∷ 0x03 ∷ 0x30 ∷ 0x05 ∷ 0x01 ∷ 0xCA ∷ []

abbrev granted_bytes : List ℕ
granted_bytes = 0x02 ∷ 0x03 ∷ 0x30 ∷ 0x81 ∷ 0x01 ∷ 0x4E ∷ []

abbrev idle_bytes : List ℕ
idle_bytes = 0x02 ∷ 0x04 ∷ 0x30 ∷ 0x85 ∷ 0x01 ∷ 0x01 ∷ 0x49 ∷ []

-- a new port of unit 0 and number 1 without clips
abbrev port : ClockedPort
port = new_port [] 0 1 1

-- the port once it was opened and selected
abbrev selected : ClockedPort
selected =
    (left_by (begins AtSilences port) (only (bytes open_bytes ∷ silence ∷ bytes select_bytes ∷ silence ∷ []))).port

-- OPEN; SELECT in two pieces; STATUS; the close
opening_is_served : served port (bytes open_bytes ∷ silence ∷ bytes (0x02 ∷ 0x03 ∷ 0x20 ∷ []) ∷ bytes
    (0x22 ∷ 0x01 ∷ 0xBD ∷ []) ∷ silence
    ∷ bytes status_bytes ∷ silence ∷ close ∷ []) ≡ granted_bytes ++ 0x04 ∷ idle_bytes
opening_is_served = refl

-- of a burst that the close cuts off, the whole messages are answered
cut_off_burst_is_given_up : served selected
    (bytes (0x02 ∷ 0x02 ∷ 0x10 ∷ 0x01 ∷ 0xEF ∷ 0x02 ∷ 0x02 ∷ 0x10 ∷ []) ∷ close ∷ []) ≡ 0x04 ∷ []
cut_off_burst_is_given_up = refl

-- at a silence its end would be answered too
ended_burst_is_answered : served selected
    (bytes (0x02 ∷ 0x02 ∷ 0x10 ∷ 0x01 ∷ 0xEF ∷ 0x02 ∷ 0x02 ∷ 0x10 ∷ []) ∷ silence ∷ []) ≡ 0x04 ∷ 0x05 ∷ 0x80 ∷ []
ended_burst_is_answered = refl

-- the plan of an empty playlist for port 1, with limit 3
abbrev plan : Mode → Plan
plan mode = record { mode = mode; list = []; port = 1; limit = 3 }

-- an answer and a silence for each command
abbrev answers : List Arrival
answers = bytes granted_bytes ∷ silence ∷ bytes (0x04 ∷ []) ∷ silence ∷ bytes idle_bytes ∷ silence ∷ bytes (0x04 ∷ [])
    ∷ silence ∷ []

-- a new automation, and what it has sent for all that came

abbrev new_auto : Auto Burst
new_auto = record { ear = begun (holds []); state = start }

abbrev new_at_once : Auto Held
new_at_once = record { ear = holds []; state = start }

abbrev sent : Mode → List Arrival → List ℕ
sent mode came = sent_in (acts_in (steps_of at_silences (plan mode) 0 new_auto (map arrives came)))

empty_playlist_is_played : sent Plain answers ≡ open_bytes ++ select_bytes ++ status_bytes ++ close_bytes
empty_playlist_is_played = refl

-- in confirm mode the three answers after SELECT end nothing, and SELECT is still awaited
receipts_confirm_nothing : sent Confirming answers ≡ open_bytes ++ select_bytes
receipts_confirm_nothing = refl

-- the commands that only a receipt answers end at a silence
abbrev confirmed : List Arrival
confirmed = bytes granted_bytes ∷ silence ∷ silence ∷ bytes idle_bytes ∷ silence ∷ bytes idle_bytes ∷ silence ∷ silence
    ∷ []

empty_playlist_is_confirmed : sent Confirming confirmed
    ≡ open_bytes ++ select_bytes ++ status_bytes ++ status_bytes ++ close_bytes
empty_playlist_is_confirmed = refl

-- a close inside a message is a time-out: nothing is awaited then, and OPEN was sent
close_is_a_time_out : sent Plain (bytes (0x02 ∷ 0x03 ∷ 0x30 ∷ []) ∷ close ∷ []) ≡ open_bytes
close_is_a_time_out = refl

-- the operator stops after a run that ended inside the answer to OPEN: the next one hears the rest of it, and then
-- sends STOP and CLOSE
abbrev torn : Auto Burst
torn = after at_silences (plan Plain) 0 new_auto (arrives (bytes (0x02 ∷ 0x03 ∷ 0x30 ∷ [])) ∷ [])

abbrev since : List Event
since = calls call.Stop ∷ arrives (bytes (0x81 ∷ 0x01 ∷ 0x4E ∷ [])) ∷ arrives silence ∷ arrives (bytes (0x04 ∷ []))
    ∷ arrives silence ∷ arrives (bytes (0x04 ∷ [])) ∷ arrives silence ∷ []

stop_goes_out_after_a_torn_answer : sent_in (acts_in (steps_of at_silences (plan Plain) 0 torn since))
    ≡ (0x02 ∷ 0x02 ∷ 0x10 ∷ 0x00 ∷ 0xF0 ∷ []) ++ close_bytes
stop_goes_out_after_a_torn_answer = refl

-- An automation that hears at once: what it has sent when it goes on after all that came.

abbrev sent_after : Mode → List Arrival → List ℕ
sent_after mode came = sent_in (acts_in (steps_of at_once (plan mode) 0 new_at_once (map arrives came)
    ++ opening at_once (plan mode) 0 (after at_once (plan mode) 0 new_at_once (map arrives came))))

-- no silence is needed
answers_are_heard_at_once : sent_after Plain
    (bytes granted_bytes ∷ bytes (0x04 ∷ []) ∷ bytes idle_bytes ∷ bytes (0x04 ∷ []) ∷ [])
    ≡ open_bytes ++ select_bytes ++ status_bytes ++ close_bytes
answers_are_heard_at_once = refl

-- GRANTED that a silence tears answers the second OPEN
torn_answer_is_read_on : sent_after Plain
    (bytes (0x02 ∷ 0x03 ∷ 0x30 ∷ []) ∷ silence ∷ bytes (0x81 ∷ 0x01 ∷ 0x4E ∷ []) ∷ [])
    ≡ open_bytes ++ open_bytes ++ select_bytes
torn_answer_is_read_on = refl

-- ACK came ahead of its time
second_message_answers_nothing : sent_after Plain (bytes (granted_bytes ++ 0x04 ∷ []) ∷ []) ≡ open_bytes ++ select_bytes
second_message_answers_nothing = refl

-- after a fault nothing is read until a silence
nothing_is_read_after_a_fault : completed (holds []) (0x03 ∷ granted_bytes) ≡ []
nothing_is_read_after_a_fault = refl

all_is_skipped_after_a_fault : held_after (holds []) (0x03 ∷ granted_bytes) ≡ skips
all_is_skipped_after_a_fault = refl

reading_begins_anew_at_a_silence : sent_after Plain (bytes (0x03 ∷ granted_bytes) ∷ silence ∷ bytes granted_bytes ∷ [])
    ≡ open_bytes ++ open_bytes ++ select_bytes
reading_begins_anew_at_a_silence = refl

-- in confirm mode an ACK is heard and confirms nothing, and the state after it in the same piece is heard too
receipt_and_state_are_heard : sent_after Confirming
    (bytes granted_bytes ∷ silence ∷ bytes (0x04 ∷ idle_bytes) ∷ [])
    ≡ open_bytes ++ select_bytes ++ status_bytes ++ status_bytes
receipt_and_state_are_heard = refl
