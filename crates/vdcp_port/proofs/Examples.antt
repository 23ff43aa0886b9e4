-- What the table gives for some bursts.
use Rattle.std.proofs.Common.{◌≡◌, ℕ, Bool, true, false, List, [], ◌∷◌, ◌++◌, refl, ap, map, max, if◌then◌else◌}
use Rattle.std.specs.Prelude.{codes, replicate}
use Rattle.std.specs.List.{flat_map, range_with_len}
use Rattle.vdcp_value.proofs.FrameNumbers.{frame_number_is}
use Rattle.vdcp_value.specs.Day.{frame_number}
use Rattle.vdcp_value.specs.Ids.{id_of}
use Rattle.vdcp_value.specs.Parts.{part_fits}
use Rattle.vdcp_value.specs.declared.clip_id.ClipId.{ClipId}
use Rattle.vdcp_value.specs.declared.label.Label.{Label}
use Rattle.vdcp_value.specs.declared.part.Item.{Item}
use Rattle.vdcp_value.specs.declared.rate.Rate.TheVariants.{F25}
use Rattle.vdcp_value.specs.declared.timecode.Timecode.{Timecode}
use Rattle.std.specs.Option.{option_to_list}
use Rattle.vdcp_words.specs.declared.reply.Reply.TheVariants.{Ack}
use Rattle.vdcp_port.specs.Row.{Change, cues, row, refused}
use Rattle.vdcp_port.specs.Answers.{answer_bytes, sent_for, aired_for, after_burst}
use Rattle.vdcp_port.specs.Clips.{whole, part_of, is_playable}
use Rattle.vdcp_port.specs.Clock.{ClockedPort, new_port, after_ready, after_ended, after_frame, completes_cue, ends_clip}
use Rattle.vdcp_port.specs.Port.{state_byte}

-- CLIP0001 and CLIP0002, ten seconds each at 25 frames a second

abbrev clip_1 : ClipId
clip_1 = id_of (codes "CLIP0001")

abbrev clip_2 : ClipId
clip_2 = id_of (codes "CLIP0002")

abbrev ten_seconds : Timecode
ten_seconds = record { rate = F25; label = record { hours = 0; minutes = 0; seconds = 10; frames = 0 }; lawful = refl }

abbrev two_clips : List (ClipId × Timecode)
two_clips = (clip_1, ten_seconds) ∷ (clip_2, ten_seconds) ∷ []

-- the bytes of commands

abbrev open_bytes : List ℕ
open_bytes = 0x02 ∷ 0x04 ∷ 0x30 ∷ 0x01 ∷ 0x01 ∷ 0x01 ∷ 0xCD ∷ []

abbrev select_bytes : List ℕ
select_bytes = 0x02 ∷ 0x03 ∷ 0x20 ∷ 0x22 ∷ 0x01 ∷ 0xBD ∷ []

abbrev close_bytes : List ℕ
close_bytes = 0x02 ∷ 0x03 ∷ 0x20 ∷ 0x21 ∷ 0x01 ∷ 0xBE ∷ []

abbrev status_bytes : List ℕ
status_bytes = 0x02 ∷ 0x03 ∷ 0x30 ∷ 0x05 ∷ 0x01 ∷ 0xCA ∷ []

abbrev active_bytes : List ℕ
active_bytes = 0x02 ∷ 0x02 ∷ 0x30 ∷ 0x07 ∷ 0xC9 ∷ []

abbrev cue_1_bytes : List ℕ
cue_1_bytes = 0x02 ∷ 0x0A ∷ 0x20 ∷ 0x24 ∷ (codes "CLIP0001" ++ 0xD3 ∷ [])

abbrev cue_2_bytes : List ℕ
cue_2_bytes = 0x02 ∷ 0x0A ∷ 0x20 ∷ 0x24 ∷ (codes "CLIP0002" ++ 0xD2 ∷ [])

abbrev cue_9_bytes : List ℕ
cue_9_bytes = 0x02 ∷ 0x0A ∷ 0x20 ∷ 0x24 ∷ (codes "CLIP0009" ++ 0xCB ∷ [])

abbrev play_bytes : List ℕ
play_bytes = 0x02 ∷ 0x02 ∷ 0x10 ∷ 0x01 ∷ 0xEF ∷ []

abbrev stop_bytes : List ℕ
stop_bytes = 0x02 ∷ 0x02 ∷ 0x10 ∷ 0x00 ∷ 0xF0 ∷ []

abbrev select_2_bytes : List ℕ
select_2_bytes = 0x02 ∷ 0x03 ∷ 0x20 ∷ 0x22 ∷ 0x02 ∷ 0xBC ∷ []

abbrev close_2_bytes : List ℕ
close_2_bytes = 0x02 ∷ 0x03 ∷ 0x20 ∷ 0x21 ∷ 0x02 ∷ 0xBD ∷ []

abbrev exists_1_bytes : List ℕ
exists_1_bytes = 0x02 ∷ 0x0A ∷ 0x30 ∷ 0x16 ∷ (codes "CLIP0001" ++ 0xD1 ∷ [])

abbrev exists_9_bytes : List ℕ
exists_9_bytes = 0x02 ∷ 0x0A ∷ 0x30 ∷ 0x16 ∷ (codes "CLIP0009" ++ 0xC9 ∷ [])

abbrev size_1_bytes : List ℕ
size_1_bytes = 0x02 ∷ 0x0A ∷ 0x30 ∷ 0x14 ∷ (codes "CLIP0001" ++ 0xD3 ∷ [])

abbrev size_9_bytes : List ℕ
size_9_bytes = 0x02 ∷ 0x0A ∷ 0x30 ∷ 0x14 ∷ (codes "CLIP0009" ++ 0xCB ∷ [])

-- ports

abbrev fresh : List (ClipId × Timecode) → ClockedPort
fresh clips = new_port clips 0 1 1

abbrev opened : ClockedPort
opened = after_burst (fresh two_clips) open_bytes

abbrev selected : List (ClipId × Timecode) → ClockedPort
selected clips = after_burst (after_burst (fresh clips) open_bytes) select_bytes

abbrev cueing_1 : ClockedPort
cueing_1 = after_burst (selected two_clips) cue_1_bytes

abbrev done_1 : ClockedPort
done_1 = after_ready cueing_1

abbrev playing_1 : ClockedPort
playing_1 = after_burst done_1 play_bytes

abbrev cueing_2 : ClockedPort
cueing_2 = after_burst playing_1 cue_2_bytes

abbrev done_2 : ClockedPort
done_2 = after_ready cueing_2

abbrev playing_2 : ClockedPort
playing_2 = after_burst done_2 play_bytes

abbrev cueing_again : ClockedPort
cueing_again = after_burst (after_ended playing_2) cue_1_bytes

-- with three frames a cue, one item cueing; and two frames later
abbrev slow : ClockedPort
slow = after_burst (after_burst (after_burst (new_port two_clips 0 1 3) open_bytes) select_bytes) cue_1_bytes

abbrev slow_2 : ClockedPort
slow_2 = after_frame (after_frame slow)

abbrev byte_of : ClockedPort → ℕ
byte_of p = state_byte p.state

-- ---- what changes nothing

-- a port, a burst at which it stays as it was, and what it answers
abbrev kept : List (ClockedPort × List ℕ × List ℕ)
kept =
    -- an empty burst; ACK and NAK, which the port hears as nothing
    (selected two_clips, [], []) ∷
    (selected two_clips, 0x04 ∷ 0x05 ∷ 0x01 ∷ [], []) ∷
    (done_2, 0x04 ∷ [], []) ∷
    (done_2, 0x05 ∷ 0x01 ∷ [], []) ∷
    -- a message to another unit
    (selected two_clips, 0x02 ∷ 0x02 ∷ 0x11 ∷ 0x01 ∷ 0xEE ∷ [], []) ∷
    -- a bad sum, a bad start, a bad count, a burst that is cut short, and a fault after a whole message
    (selected two_clips, 0x02 ∷ 0x02 ∷ 0x10 ∷ 0x01 ∷ 0xEE ∷ [], 0x05 ∷ 0x04 ∷ []) ∷
    (selected two_clips, 0x03 ∷ 0x04 ∷ [], 0x05 ∷ 0x04 ∷ []) ∷
    (selected two_clips, 0x02 ∷ 0x01 ∷ 0x10 ∷ 0xF0 ∷ [], 0x05 ∷ 0x04 ∷ []) ∷
    (selected two_clips, 0x02 ∷ 0x0A ∷ 0x20 ∷ 0x24 ∷ 0x43 ∷ [], 0x05 ∷ 0x80 ∷ []) ∷
    (selected two_clips, play_bytes ++ 0xFF ∷ 0x04 ∷ [], 0x04 ∷ 0x05 ∷ 0x04 ∷ []) ∷
    -- PLAY with a byte of data
    (selected two_clips, 0x02 ∷ 0x03 ∷ 0x10 ∷ 0x01 ∷ 0x00 ∷ 0xEF ∷ [], 0x05 ∷ 0x01 ∷ []) ∷
    -- PLAY with nothing cued, while cueing, and again; PLAY and STOP in one burst
    (selected two_clips, play_bytes, 0x04 ∷ []) ∷
    (cueing_1, play_bytes, 0x04 ∷ []) ∷
    (playing_1, play_bytes, 0x04 ∷ []) ∷
    (selected two_clips, play_bytes ++ stop_bytes, 0x04 ∷ 0x04 ∷ []) ∷
    -- the state, which is idle, and none after a bitmap without bit 0
    (selected two_clips, status_bytes, 0x02 ∷ 0x04 ∷ 0x30 ∷ 0x85 ∷ 0x01 ∷ 0x01 ∷ 0x49 ∷ []) ∷
    (selected two_clips, 0x02 ∷ 0x03 ∷ 0x30 ∷ 0x05 ∷ 0x02 ∷ 0xC9 ∷ [], 0x02 ∷ 0x03 ∷ 0x30 ∷ 0x85 ∷ 0x00 ∷ 0x4B ∷ []) ∷
    -- the clip that plays, and none
    (playing_1, active_bytes, 0x02 ∷ 0x0B ∷ 0x30 ∷ 0x87 ∷ 0x01 ∷ (codes "CLIP0001" ++ 0x5F ∷ [])) ∷
    (after_burst cueing_again stop_bytes, active_bytes, 0x02 ∷ 0x03 ∷ 0x30 ∷ 0x87 ∷ 0x00 ∷ 0x49 ∷ []) ∷
    -- whether a clip is there, and how long it is
    (fresh two_clips, exists_1_bytes, 0x02 ∷ 0x03 ∷ 0x30 ∷ 0x96 ∷ 0x01 ∷ 0x39 ∷ []) ∷
    (fresh two_clips, exists_9_bytes, 0x02 ∷ 0x03 ∷ 0x30 ∷ 0x96 ∷ 0x00 ∷ 0x3A ∷ []) ∷
    (fresh two_clips, size_1_bytes, 0x02 ∷ 0x06 ∷ 0x30 ∷ 0x94 ∷ 0x00 ∷ 0x10 ∷ 0x00 ∷ 0x00 ∷ 0x2C ∷ []) ∷
    (fresh two_clips, size_9_bytes, 0x05 ∷ 0x01 ∷ []) ∷
    -- a clip that isn't known isn't cued, nor while another one plays
    (selected [], cue_1_bytes, 0x05 ∷ 0x01 ∷ []) ∷
    (cueing_2, cue_9_bytes, 0x05 ∷ 0x01 ∷ []) ∷
    -- another port's number isn't opened, selected or closed
    (
      fresh two_clips,
      0x02 ∷ 0x04 ∷ 0x30 ∷ 0x01 ∷ 0x02 ∷ 0x01 ∷ 0xCC ∷ [],
      0x02 ∷ 0x03 ∷ 0x30 ∷ 0x81 ∷ 0x00 ∷ 0x4F ∷ [],
    ) ∷
    (opened, select_2_bytes, 0x05 ∷ 0x01 ∷ []) ∷
    (selected two_clips, select_2_bytes, 0x05 ∷ 0x01 ∷ []) ∷
    (selected two_clips, close_2_bytes, 0x05 ∷ 0x01 ∷ []) ∷
    -- a closed port plays nothing; one that is open and not selected plays, cues, stops and tells nothing
    (fresh two_clips, play_bytes, 0x05 ∷ 0x01 ∷ []) ∷
    (opened, play_bytes, 0x05 ∷ 0x01 ∷ []) ∷
    (opened, cue_1_bytes, 0x05 ∷ 0x01 ∷ []) ∷
    (opened, stop_bytes, 0x05 ∷ 0x01 ∷ []) ∷
    (opened, status_bytes, 0x05 ∷ 0x01 ∷ []) ∷
    (opened, active_bytes, 0x05 ∷ 0x01 ∷ []) ∷
    -- a port that is open stays as it is by another OPEN
    (cueing_2, open_bytes, 0x02 ∷ 0x03 ∷ 0x30 ∷ 0x81 ∷ 0x01 ∷ 0x4E ∷ []) ∷
    -- the largest message
    (selected two_clips, 0x02 ∷ 0xFF ∷ 0x70 ∷ 0x00 ∷ (replicate 253 0x00 ++ 0x90 ∷ []), 0x05 ∷ 0x01 ∷ []) ∷ []

what_changes_nothing_is_answered : map (λ row. sent_for row.0 row.1) kept ≡ map (λ row. row.2) kept
what_changes_nothing_is_answered = refl

what_changes_nothing_leaves_the_port : map (λ row. after_burst row.0 row.1) kept ≡ map (λ row. row.0) kept
what_changes_nothing_leaves_the_port = refl

what_changes_nothing_airs_nothing : map (λ row. aired_for row.0 row.1) kept ≡ map (λ row. []) kept
what_changes_nothing_airs_nothing = refl

-- ---- what is executed

-- a port, a burst, what it answers, and what goes to air
abbrev executed : List (ClockedPort × List ℕ × List ℕ × List Item)
executed =
    -- one burst opens, selects and asks
    (
      fresh two_clips,
      open_bytes ++ select_bytes ++ status_bytes,
      0x02 ∷ 0x03 ∷ 0x30 ∷ 0x81 ∷ 0x01 ∷ 0x4E ∷ 0x04 ∷ 0x02 ∷ 0x04 ∷ 0x30 ∷ 0x85 ∷ 0x01 ∷ 0x01 ∷ 0x49 ∷ [],
      [],
    ) ∷
    (opened, select_bytes, 0x04 ∷ [], []) ∷
    -- two clips are cued and aired, and the first one is cued again and stopped
    (selected two_clips, cue_1_bytes, 0x04 ∷ [], []) ∷
    (done_1, play_bytes, 0x04 ∷ [], whole clip_1 ∷ []) ∷
    (playing_1, cue_2_bytes, 0x04 ∷ [], []) ∷
    (done_2, play_bytes, 0x04 ∷ [], whole clip_2 ∷ []) ∷
    (cueing_again, stop_bytes, 0x04 ∷ [], []) ∷
    (done_2, stop_bytes, 0x04 ∷ [], []) ∷ []

what_is_executed_is_answered : map (λ row. sent_for row.0 row.1) executed ≡ map (λ row. row.2) executed
what_is_executed_is_answered = refl

what_is_done_airs : map (λ row. aired_for row.0 row.1) executed ≡ map (λ row. row.3) executed
what_is_done_airs = refl

-- the state byte of ports
abbrev state_bytes : List (ClockedPort × ℕ)
state_bytes =
    (fresh two_clips, 0x01) ∷ (selected two_clips, 0x01) ∷
    (cueing_1, 0x02) ∷ (done_1, 0x80) ∷ (playing_1, 0x04) ∷
    (cueing_2, 0x06) ∷ (done_2, 0x84) ∷ (playing_2, 0x04) ∷ (after_ended playing_2, 0x01) ∷
    (after_burst cueing_again stop_bytes, 0x01) ∷
    -- two frames and three frames after a cue that takes three
    (slow_2, 0x02) ∷ (after_frame slow_2, 0x80) ∷ []

ports_have_their_state_bytes : map (λ row. byte_of row.0) state_bytes ≡ map (λ row. row.1) state_bytes
ports_have_their_state_bytes = refl

-- ports that are the same
abbrev same_ports : List (ClockedPort × ClockedPort)
same_ports =
    -- STOP leaves nothing, with the cue done and while cueing
    (after_burst done_2 stop_bytes, selected two_clips) ∷
    (after_burst cueing_2 stop_bytes, selected two_clips) ∷
    -- nothing is made ready, and what is ready stays so
    (after_ready (selected two_clips), selected two_clips) ∷
    (after_ready done_1, done_1) ∷
    -- nothing ends, and a cue stays if nothing plays
    (after_ended (selected two_clips), selected two_clips) ∷
    (after_ended done_1, done_1) ∷
    -- a port that is closed is a new one
    (after_burst cueing_2 close_bytes, fresh two_clips) ∷
    -- the third of three frames makes the cue ready
    (after_frame slow_2, after_ready slow) ∷ []

ports_are_the_same : map (λ row. row.0) same_ports ≡ map (λ row. row.1) same_ports
ports_are_the_same = refl

third_frame_completes_the_cue : completes_cue slow_2 ≡ true
third_frame_completes_the_cue = refl

-- ---- the largest burst

plays_past_the_limit : ◌≡◌ {A = List ℕ}
    (sent_for (selected two_clips) (flat_map (λ (k : ℕ). play_bytes) (range_with_len 0 820)))
    (replicate 819 0x04 ++ 0x05 ∷ 0x04 ∷ [])
plays_past_the_limit = refl

-- ---- parts of the first clip: three seconds from 2, 7 and 8 seconds on

abbrev seconds : ℕ → Label
seconds n = record { hours = 0; minutes = 0; seconds = n; frames = 0 }

frames_2 : frame_number F25 (seconds 2) ≡ 50
frames_2 = frame_number_is F25 (seconds 2) refl

frames_3 : frame_number F25 (seconds 3) ≡ 75
frames_3 = frame_number_is F25 (seconds 3) refl

frames_7 : frame_number F25 (seconds 7) ≡ 175
frames_7 = frame_number_is F25 (seconds 7) refl

frames_8 : frame_number F25 (seconds 8) ≡ 200
frames_8 = frame_number_is F25 (seconds 8) refl

frames_10 : frame_number F25 (seconds 10) ≡ 250
frames_10 = frame_number_is F25 (seconds 10) refl

abbrev part_2_bytes : List ℕ
part_2_bytes =
    0x02 ∷ 0x12 ∷ 0x20 ∷ 0x25 ∷
    (codes "CLIP0001" ++ 0x00 ∷ 0x02 ∷ 0x00 ∷ 0x00 ∷ 0x00 ∷ 0x03 ∷ 0x00 ∷ 0x00 ∷ 0xCD ∷ [])

abbrev part_7_bytes : List ℕ
part_7_bytes =
    0x02 ∷ 0x12 ∷ 0x20 ∷ 0x25 ∷
    (codes "CLIP0001" ++ 0x00 ∷ 0x07 ∷ 0x00 ∷ 0x00 ∷ 0x00 ∷ 0x03 ∷ 0x00 ∷ 0x00 ∷ 0xC8 ∷ [])

abbrev part_8_bytes : List ℕ
part_8_bytes =
    0x02 ∷ 0x12 ∷ 0x20 ∷ 0x25 ∷
    (codes "CLIP0001" ++ 0x00 ∷ 0x08 ∷ 0x00 ∷ 0x00 ∷ 0x00 ∷ 0x03 ∷ 0x00 ∷ 0x00 ∷ 0xC7 ∷ [])

abbrev three_seconds : List ℕ
three_seconds = 0x00 ∷ 0x03 ∷ 0x00 ∷ 0x00 ∷ []

-- whether a part of it is cued
abbrev judged : List ℕ → List ℕ → Bool
judged start duration = is_playable two_clips (part_of clip_1 start duration)

within : judged (0x00 ∷ 0x02 ∷ 0x00 ∷ 0x00 ∷ []) three_seconds ≡ true
unfolding part_fits
within = rw (frames_3, frames_2, frames_10) refl

up_to_the_end : judged (0x00 ∷ 0x07 ∷ 0x00 ∷ 0x00 ∷ []) three_seconds ≡ true
unfolding part_fits
up_to_the_end = rw (frames_3, frames_7, frames_10) refl

past_the_end : judged (0x00 ∷ 0x08 ∷ 0x00 ∷ 0x00 ∷ []) three_seconds ≡ false
unfolding part_fits
past_the_end = rw (frames_3, frames_8, frames_10) refl

-- what goes out if a part is accepted, and if it isn't
abbrev sent_if : List ℕ → List ℕ → Bool → List ℕ
sent_if start duration accepted =
    let change : Change = cues (part_of clip_1 start duration) in
    answer_bytes 0 (option_to_list (if accepted then row Ack change else refused).answer ++ [] ++ [])

part_within_the_clip : sent_for (selected two_clips) part_2_bytes ≡ 0x04 ∷ []
part_within_the_clip = ap (sent_if (0x00 ∷ 0x02 ∷ 0x00 ∷ 0x00 ∷ []) three_seconds) within

part_within_the_clip_is_cued : byte_of (after_burst (selected two_clips) part_2_bytes) ≡ 0x02
part_within_the_clip_is_cued = rw within refl

part_up_to_the_clips_end : sent_for (selected two_clips) part_7_bytes ≡ 0x04 ∷ []
part_up_to_the_clips_end = ap (sent_if (0x00 ∷ 0x07 ∷ 0x00 ∷ 0x00 ∷ []) three_seconds) up_to_the_end

part_past_the_clips_end : sent_for (selected two_clips) part_8_bytes ≡ 0x05 ∷ 0x01 ∷ []
part_past_the_clips_end = ap (sent_if (0x00 ∷ 0x08 ∷ 0x00 ∷ 0x00 ∷ []) three_seconds) past_the_end

part_past_the_clips_end_changes_nothing : after_burst (selected two_clips) part_8_bytes ≡ selected two_clips
part_past_the_clips_end_changes_nothing = rw past_the_end refl

-- with a duration of no frame, and with labels that 25 frames a second don't have: frame 25, second 60

frames_0 : frame_number F25 (seconds 0) ≡ 0
frames_0 = frame_number_is F25 (seconds 0) refl

no_frame : judged (0x00 ∷ 0x02 ∷ 0x00 ∷ 0x00 ∷ []) (0x00 ∷ 0x00 ∷ 0x00 ∷ 0x00 ∷ []) ≡ false
unfolding part_fits
no_frame = rw frames_0 refl

unlawful_start : judged (0x25 ∷ 0x02 ∷ 0x00 ∷ 0x00 ∷ []) three_seconds ≡ false
unfolding part_fits
unlawful_start = refl

unlawful_duration : judged (0x00 ∷ 0x02 ∷ 0x00 ∷ 0x00 ∷ []) (0x00 ∷ 0x60 ∷ 0x00 ∷ 0x00 ∷ []) ≡ false
unfolding part_fits
unlawful_duration = refl

abbrev no_frame_bytes : List ℕ
no_frame_bytes =
    0x02 ∷ 0x12 ∷ 0x20 ∷ 0x25 ∷
    (codes "CLIP0001" ++ 0x00 ∷ 0x02 ∷ 0x00 ∷ 0x00 ∷ 0x00 ∷ 0x00 ∷ 0x00 ∷ 0x00 ∷ 0xD0 ∷ [])

abbrev unlawful_start_bytes : List ℕ
unlawful_start_bytes =
    0x02 ∷ 0x12 ∷ 0x20 ∷ 0x25 ∷
    (codes "CLIP0001" ++ 0x25 ∷ 0x02 ∷ 0x00 ∷ 0x00 ∷ 0x00 ∷ 0x03 ∷ 0x00 ∷ 0x00 ∷ 0xA8 ∷ [])

abbrev unlawful_duration_bytes : List ℕ
unlawful_duration_bytes =
    0x02 ∷ 0x12 ∷ 0x20 ∷ 0x25 ∷
    (codes "CLIP0001" ++ 0x00 ∷ 0x02 ∷ 0x00 ∷ 0x00 ∷ 0x00 ∷ 0x60 ∷ 0x00 ∷ 0x00 ∷ 0x70 ∷ [])

part_of_no_frame : sent_for (selected two_clips) no_frame_bytes ≡ 0x05 ∷ 0x01 ∷ []
part_of_no_frame = ap (sent_if (0x00 ∷ 0x02 ∷ 0x00 ∷ 0x00 ∷ []) (0x00 ∷ 0x00 ∷ 0x00 ∷ 0x00 ∷ [])) no_frame

part_of_no_frame_changes_nothing : after_burst (selected two_clips) no_frame_bytes ≡ selected two_clips
part_of_no_frame_changes_nothing = rw no_frame refl

part_with_an_unlawful_start : sent_for (selected two_clips) unlawful_start_bytes ≡ 0x05 ∷ 0x01 ∷ []
part_with_an_unlawful_start = ap (sent_if (0x25 ∷ 0x02 ∷ 0x00 ∷ 0x00 ∷ []) three_seconds) unlawful_start

part_with_an_unlawful_start_changes_nothing : after_burst (selected two_clips) unlawful_start_bytes ≡ selected two_clips
part_with_an_unlawful_start_changes_nothing = rw unlawful_start refl

part_with_an_unlawful_duration : sent_for (selected two_clips) unlawful_duration_bytes ≡ 0x05 ∷ 0x01 ∷ []
part_with_an_unlawful_duration =
    ap (sent_if (0x00 ∷ 0x02 ∷ 0x00 ∷ 0x00 ∷ []) (0x00 ∷ 0x60 ∷ 0x00 ∷ 0x00 ∷ [])) unlawful_duration

part_with_an_unlawful_duration_changes_nothing : after_burst (selected two_clips) unlawful_duration_bytes
    ≡ selected two_clips
part_with_an_unlawful_duration_changes_nothing = rw unlawful_duration refl

-- of a clip that isn't known, and while the port isn't selected

abbrev part_9_bytes : List ℕ
part_9_bytes =
    0x02 ∷ 0x12 ∷ 0x20 ∷ 0x25 ∷
    (codes "CLIP0009" ++ 0x00 ∷ 0x02 ∷ 0x00 ∷ 0x00 ∷ 0x00 ∷ 0x03 ∷ 0x00 ∷ 0x00 ∷ 0xC5 ∷ [])

part_of_an_unknown_clip : sent_for (selected two_clips) part_9_bytes ≡ 0x05 ∷ 0x01 ∷ []
part_of_an_unknown_clip = refl

part_of_an_unknown_clip_changes_nothing : after_burst (selected two_clips) part_9_bytes ≡ selected two_clips
part_of_an_unknown_clip_changes_nothing = refl

part_while_unselected : sent_for opened part_2_bytes ≡ 0x05 ∷ 0x01 ∷ []
part_while_unselected = refl

part_while_unselected_changes_nothing : after_burst opened part_2_bytes ≡ opened
part_while_unselected_changes_nothing = refl

-- ---- how long they play

whole_clip_plays_its_length : playing_1.counts.playing ≡ 250
whole_clip_plays_its_length = ap (max 1) frames_10

abbrev part_done : ClockedPort
part_done = after_ready (after_burst (selected two_clips) part_2_bytes)

part_airs_as_a_part : aired_for part_done play_bytes
    ≡ part_of clip_1 (0x00 ∷ 0x02 ∷ 0x00 ∷ 0x00 ∷ []) (0x00 ∷ 0x03 ∷ 0x00 ∷ 0x00 ∷ []) ∷ []
part_airs_as_a_part = rw within refl

part_plays_its_duration : (after_burst part_done play_bytes).counts.playing ≡ 75
part_plays_its_duration = rw (within, frames_3) refl

-- ---- a clip of length 0 plays one frame

abbrev no_length : Timecode
no_length = record { rate = F25; label = seconds 0; lawful = refl }

abbrev short_clip : List (ClipId × Timecode)
short_clip = (clip_1, no_length) ∷ []

abbrev playing_short : ClockedPort
playing_short = after_burst (after_ready (after_burst (selected short_clip) cue_1_bytes)) play_bytes

clip_of_no_length_plays_a_frame : playing_short.counts.playing ≡ 1
clip_of_no_length_plays_a_frame = ap (max 1) frames_0

-- it is cued again, and both counts come to their end in one frame

abbrev both_ending : ClockedPort
both_ending = after_burst playing_short cue_1_bytes

both_slots_are_full : byte_of both_ending ≡ 0x06
both_slots_are_full = refl

frame_completes_the_cue : completes_cue both_ending ≡ true
frame_completes_the_cue = refl

frame_ends_the_clip : ends_clip both_ending ≡ true
frame_ends_the_clip = rw frames_0 refl

frame_does_both : after_frame both_ending ≡ after_ended (after_ready both_ending)
frame_does_both = rw frames_0 refl

cue_is_done_and_nothing_plays : byte_of (after_frame both_ending) ≡ 0x80
cue_is_done_and_nothing_plays = rw frames_0 refl
