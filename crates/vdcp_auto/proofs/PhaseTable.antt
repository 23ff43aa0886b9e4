-- The phase table, line by line, computed from the definitions: where each kind of answer leads in each phase of both
-- modes.
use Rattle.std.specs.Prelude.{◌≡◌, ℕ, Bool, true, false, not, Option, None, Some, is_some, List, [], ◌∷◌, ◌++◌, map, refl}
use Rattle.vdcp_words.specs.declared.reply.Reply.{Reply}
use Rattle.vdcp_words.specs.declared.reply.Reply.TheVariants as reply
use Rattle.vdcp_auto.specs.declared.exchange.Heard.{Heard}
use Rattle.vdcp_auto.specs.declared.exchange.Heard.TheVariants as heard
use Rattle.vdcp_auto.specs.declared.outcome.Outcome.TheVariants.{Done, Stopped, Lost, Denied, Missing, Refused, Foreign, Strange}
use Rattle.vdcp_auto.specs.declared.phase.Mode.{Mode}
use Rattle.vdcp_auto.specs.declared.phase.Mode.TheVariants.{Plain, Confirming}
use Rattle.vdcp_auto.specs.declared.phase.Phase.{Phase}
use Rattle.vdcp_auto.specs.declared.phase.Phase.TheVariants as phase
use Rattle.vdcp_auto.specs.State.{Stage}
use Rattle.vdcp_auto.specs.State.{Ready, Awaiting, Ended}
use Rattle.vdcp_auto.specs.State.{State}
use Rattle.vdcp_auto.specs.Turn.{is_awaiting, ended_by, came_to, stopped, ticked}
use Rattle.vdcp_auto.proofs.Examples.{clip_one, clip_two, two, plan}

abbrev heard_reply : Reply → Option Heard
heard_reply r = Some (heard.Reply r)

abbrev heard_state : ℕ → Option Heard
heard_state byte = heard_reply (reply.State 1 (Some byte))

-- The kinds of answers.

abbrev ack : List (Option Heard)
ack = heard_reply reply.Ack ∷ []

-- NAK 01
abbrev refusal : List (Option Heard)
refusal = heard_reply (reply.Nak 0x01) ∷ []

-- NAKs that refuse nothing
abbrev fault : List (Option Heard)
fault = heard_reply (reply.Nak 0x04) ∷ heard_reply (reply.Nak 0x80) ∷ []

abbrev receipt : List (Option Heard)
receipt = ack ++ refusal ++ fault

abbrev silence : List (Option Heard)
silence = None ∷ []

-- no reply, or another unit's
abbrev other : List (Option Heard)
other = Some heard.Other ∷ []

abbrev granted : List (Option Heard)
granted = heard_reply (reply.Opened true) ∷ []

abbrev denied : List (Option Heard)
denied = heard_reply (reply.Opened false) ∷ []

abbrev opened : List (Option Heard)
opened = granted ++ denied

-- the state byte is idle, cueing, playing, cueing and playing, done, or done and playing
abbrev idle : List (Option Heard)
idle = heard_state 0x01 ∷ []

abbrev cueing : List (Option Heard)
cueing = heard_state 0x02 ∷ []

abbrev playing : List (Option Heard)
playing = heard_state 0x04 ∷ []

abbrev cueing_and_playing : List (Option Heard)
cueing_and_playing = heard_state 0x06 ∷ []

abbrev done : List (Option Heard)
done = heard_state 0x80 ∷ []

abbrev done_and_playing : List (Option Heard)
done_and_playing = heard_state 0x84 ∷ []

abbrev state : List (Option Heard)
state = idle ++ cueing ++ playing ++ cueing_and_playing ++ done ++ done_and_playing

-- a state reply without a state byte
abbrev no_state : List (Option Heard)
no_state = heard_reply (reply.State 0 None) ∷ []

abbrev none_active : List (Option Heard)
none_active = heard_reply (reply.Active None) ∷ []

abbrev one_active : List (Option Heard)
one_active = heard_reply (reply.Active (Some clip_one)) ∷ []

abbrev two_active : List (Option Heard)
two_active = heard_reply (reply.Active (Some clip_two)) ∷ []

abbrev active : List (Option Heard)
active = none_active ++ one_active ++ two_active

abbrev present : List (Option Heard)
present = heard_reply (reply.Present true) ∷ []

abbrev absent : List (Option Heard)
absent = heard_reply (reply.Present false) ∷ []

abbrev presence : List (Option Heard)
presence = present ++ absent

abbrev size : List (Option Heard)
size = heard_reply (reply.Size (0x00 ∷ 0x00 ∷ 0x10 ∷ 0x00 ∷ [])) ∷ []

-- Where the answers lead, with a list of clip one and clip two and limit 3.

-- an answer is awaited in this phase
abbrev in_phase : Phase → Bool → ℕ → ℕ → State
in_phase p take unanswered tries =
    record { stage = Awaiting p; take = take; stop = false; unanswered = unanswered; settled = 0; tries = tries }

-- a line of the table: in this state each of these answers leads there
record Line : Type 0 where
  state : State
  answers : List (Option Heard)
  stage : Stage

abbrev line_from : State → List (Option Heard) → Stage → Line
line_from s answers stage = record { state = s; answers = answers; stage = stage }

-- none of the exchanges before is unanswered
abbrev line : Phase → List (Option Heard) → Stage → Line
line p = line_from (in_phase p false 0 0)

-- the same if a take is wished, and if the cue was lost once less than the limit
abbrev line_with_take : List (Option Heard) → Stage → Line
line_with_take = line_from (in_phase (phase.Wait 0) true 0 0)

abbrev line_of_last_try : List (Option Heard) → Stage → Line
line_of_last_try = line_from (in_phase (phase.Wait 0) false 0 2)

-- where the answers of a line lead, and whether they end the exchange
abbrev led : Mode → Line → List (Stage × Bool)
led mode l = map
    (λ came. ((came_to (plan mode two) came l.state).stage, is_some (ended_by (plan mode two) came l.state))) l.answers

-- where the line says that they lead
abbrev told : Line → List (Stage × Bool)
told l = map (λ came. (l.stage, not (is_awaiting l.stage))) l.answers

-- every line of the table says where its answers lead
abbrev Leads : Mode → List Line → Type 0
Leads mode lines = map (led mode) lines ≡ map told lines

-- Plain mode.

abbrev plain_lines : List Line
plain_lines =
    line phase.Open granted (Ready phase.Select)
    ∷ line phase.Open denied (Ended Denied)
    ∷ line phase.Open refusal (Ended Denied)
    ∷ line phase.Open (fault ++ silence ++ other) (Ready phase.Open)
    ∷ line phase.Open (ack ++ state ++ no_state ++ active ++ presence ++ size) (Ready phase.Open)
    ∷ line phase.Select ack (Ready (phase.Exists 0))
    ∷ line phase.Select refusal (Ended Denied)
    ∷ line phase.Select (fault ++ silence ++ other) (Ready phase.Select)
    ∷ line phase.Select (opened ++ state ++ no_state ++ active ++ presence ++ size) (Ready phase.Select)
    ∷ line (phase.Exists 0) present (Ready (phase.Cue 0))
    ∷ line (phase.Exists 0) absent (Ended (Missing 0))
    ∷ line (phase.Exists 0) refusal (Ended (Refused 0))
    ∷ line (phase.Exists 0) (fault ++ silence ++ other) (Ready (phase.Exists 0))
    ∷ line (phase.Exists 0) (ack ++ opened ++ state ++ no_state ++ active ++ size) (Ready (phase.Exists 0))
    ∷ line (phase.Cue 0) ack (Ready (phase.Wait 0))
    ∷ line (phase.Cue 0) refusal (Ended (Refused 0))
    ∷ line (phase.Cue 0) (fault ++ silence ++ other) (Ready (phase.Cue 0))
    ∷ line (phase.Cue 0) (opened ++ state ++ no_state ++ active ++ presence ++ size) (Ready (phase.Cue 0))
    ∷ line (phase.Wait 0) done (Ready (phase.Play 0))
    ∷ line (phase.Wait 0) done_and_playing (Ready (phase.Wait 0))
    ∷ line (phase.Wait 0) (cueing ++ cueing_and_playing) (Ready (phase.Wait 0))
    ∷ line (phase.Wait 0) (idle ++ playing) (Ended (Strange 0))
    ∷ line (phase.Wait 0) refusal (Ended (Refused 0))
    ∷ line (phase.Wait 0) (fault ++ silence ++ other) (Ready (phase.Wait 0))
    ∷ line (phase.Wait 0) (ack ++ opened ++ no_state ++ active ++ presence ++ size) (Ready (phase.Wait 0))
    ∷ line (phase.Play 0) ack (Ready (phase.Check 0))
    ∷ line (phase.Play 0) refusal (Ended (Refused 0))
    ∷ line (phase.Play 0) (fault ++ silence ++ other) (Ready (phase.Probe 0))
    ∷ line (phase.Play 0) (opened ++ state ++ no_state ++ active ++ presence ++ size) (Ready (phase.Probe 0))
    ∷ line (phase.Probe 0) (done ++ done_and_playing) (Ready (phase.Play 0))
    ∷ line (phase.Probe 0) (cueing ++ cueing_and_playing) (Ready (phase.Probe 0))
    ∷ line (phase.Probe 0) (idle ++ playing) (Ready (phase.Check 0))
    ∷ line (phase.Probe 0) refusal (Ended (Refused 0))
    ∷ line (phase.Probe 0) (fault ++ silence ++ other) (Ready (phase.Probe 0))
    ∷ line (phase.Probe 0) (ack ++ opened ++ no_state ++ active ++ presence ++ size) (Ready (phase.Probe 0))
    ∷ line (phase.Check 0) none_active (Ready (phase.Exists 1))
    ∷ line (phase.Check 0) one_active (Ready (phase.Exists 1))
    ∷ line (phase.Check 0) two_active (Ended (Foreign 0))
    ∷ line (phase.Check 0) refusal (Ended (Refused 0))
    ∷ line (phase.Check 0) (fault ++ silence ++ other) (Ready (phase.Check 0))
    ∷ line (phase.Check 0) (ack ++ opened ++ state ++ no_state ++ presence ++ size) (Ready (phase.Check 0))
    ∷ line (phase.Check 1) none_active (Ready phase.Drain)
    ∷ line (phase.Check 1) two_active (Ready phase.Drain)
    ∷ line (phase.Check 1) one_active (Ended (Foreign 1))
    ∷ line (phase.Check 1) refusal (Ended (Refused 1))
    ∷ line (phase.Check 1) (fault ++ silence ++ other) (Ready (phase.Check 1))
    ∷ line (phase.Check 1) (ack ++ opened ++ state ++ no_state ++ presence ++ size) (Ready (phase.Check 1))
    ∷ line phase.Drain (cueing ++ cueing_and_playing ++ done ++ done_and_playing) (Ended (Strange 2))
    ∷ line phase.Drain playing (Ready phase.Drain)
    ∷ line phase.Drain idle (Ready phase.Close)
    ∷ line phase.Drain refusal (Ended (Refused 2))
    ∷ line phase.Drain (fault ++ silence ++ other) (Ready phase.Drain)
    ∷ line phase.Drain (ack ++ opened ++ no_state ++ active ++ presence ++ size) (Ready phase.Drain)
    ∷ line phase.Close ack (Ended Done)
    ∷ line phase.Close refusal (Ended Done)
    ∷ line phase.Close (fault ++ silence ++ other) (Ready phase.Close)
    ∷ line phase.Close (opened ++ state ++ no_state ++ active ++ presence ++ size) (Ready phase.Close)
    ∷ line phase.Halt ack (Ready phase.HaltClose)
    ∷ line phase.Halt refusal (Ready phase.HaltClose)
    ∷ line phase.Halt (fault ++ silence ++ other) (Ready phase.Halt)
    ∷ line phase.Halt (opened ++ state ++ no_state ++ active ++ presence ++ size) (Ready phase.Halt)
    ∷ line phase.HaltClose ack (Ended Stopped)
    ∷ line phase.HaltClose refusal (Ended Stopped)
    ∷ line phase.HaltClose (fault ++ silence ++ other) (Ready phase.HaltClose)
    ∷ line phase.HaltClose (opened ++ state ++ no_state ++ active ++ presence ++ size) (Ready phase.HaltClose)
    ∷ line_with_take (done ++ done_and_playing) (Ready (phase.Play 0))
    ∷ line_with_take (cueing ++ cueing_and_playing) (Ready (phase.Wait 0))
    ∷ line_with_take (idle ++ playing) (Ended (Strange 0))
    ∷ line_with_take refusal (Ended (Refused 0))
    ∷ line_with_take (fault ++ silence ++ other) (Ready (phase.Wait 0))
    ∷ line_with_take (ack ++ opened ++ no_state ++ active ++ presence ++ size) (Ready (phase.Wait 0))
    ∷ []

plain_table : Leads Plain plain_lines
plain_table = refl

-- Confirm mode. A receipt leaves the answer awaited.

abbrev confirming_lines : List Line
confirming_lines =
    line phase.Open granted (Ready phase.Select)
    ∷ line phase.Open denied (Ended Denied)
    ∷ line phase.Open receipt (Awaiting phase.Open)
    ∷ line phase.Open (silence ++ other) (Ready phase.Open)
    ∷ line phase.Open (state ++ no_state ++ active ++ presence ++ size) (Ready phase.Open)
    ∷ line phase.Select silence (Ready phase.Seen)
    ∷ line phase.Select receipt (Awaiting phase.Select)
    ∷ line phase.Select other (Awaiting phase.Select)
    ∷ line phase.Select (opened ++ state ++ no_state ++ active ++ presence ++ size) (Awaiting phase.Select)
    ∷ line phase.Seen state (Ready (phase.Exists 0))
    ∷ line phase.Seen receipt (Awaiting phase.Seen)
    ∷ line phase.Seen (silence ++ other) (Ready phase.Select)
    ∷ line phase.Seen (opened ++ no_state ++ active ++ presence ++ size) (Ready phase.Select)
    ∷ line (phase.Exists 0) present (Ready (phase.Cue 0))
    ∷ line (phase.Exists 0) absent (Ended (Missing 0))
    ∷ line (phase.Exists 0) receipt (Awaiting (phase.Exists 0))
    ∷ line (phase.Exists 0) (silence ++ other) (Ready (phase.Exists 0))
    ∷ line (phase.Exists 0) (opened ++ state ++ no_state ++ active ++ size) (Ready (phase.Exists 0))
    ∷ line (phase.Cue 0) silence (Ready (phase.Wait 0))
    ∷ line (phase.Cue 0) receipt (Awaiting (phase.Cue 0))
    ∷ line (phase.Cue 0) other (Awaiting (phase.Cue 0))
    ∷ line (phase.Cue 0) (opened ++ state ++ no_state ++ active ++ presence ++ size) (Awaiting (phase.Cue 0))
    ∷ line (phase.Wait 0) done (Ready (phase.Play 0))
    ∷ line (phase.Wait 0) done_and_playing (Ready (phase.Wait 0))
    ∷ line (phase.Wait 0) (cueing ++ cueing_and_playing) (Ready (phase.Wait 0))
    ∷ line (phase.Wait 0) (idle ++ playing) (Ready (phase.Cue 0))
    ∷ line (phase.Wait 0) receipt (Awaiting (phase.Wait 0))
    ∷ line (phase.Wait 0) (silence ++ other) (Ready (phase.Wait 0))
    ∷ line (phase.Wait 0) (opened ++ no_state ++ active ++ presence ++ size) (Ready (phase.Wait 0))
    ∷ line (phase.Play 0) silence (Ready (phase.Probe 0))
    ∷ line (phase.Play 0) receipt (Awaiting (phase.Play 0))
    ∷ line (phase.Play 0) other (Awaiting (phase.Play 0))
    ∷ line (phase.Play 0) (opened ++ state ++ no_state ++ active ++ presence ++ size) (Awaiting (phase.Play 0))
    ∷ line (phase.Probe 0) (done ++ done_and_playing) (Ready (phase.Play 0))
    ∷ line (phase.Probe 0) (cueing ++ cueing_and_playing) (Ready (phase.Probe 0))
    ∷ line (phase.Probe 0) (idle ++ playing) (Ready (phase.Check 0))
    ∷ line (phase.Probe 0) receipt (Awaiting (phase.Probe 0))
    ∷ line (phase.Probe 0) (silence ++ other) (Ready (phase.Probe 0))
    ∷ line (phase.Probe 0) (opened ++ no_state ++ active ++ presence ++ size) (Ready (phase.Probe 0))
    ∷ line (phase.Check 0) none_active (Ready (phase.Exists 1))
    ∷ line (phase.Check 0) one_active (Ready (phase.Exists 1))
    ∷ line (phase.Check 0) two_active (Ended (Foreign 0))
    ∷ line (phase.Check 0) receipt (Awaiting (phase.Check 0))
    ∷ line (phase.Check 0) (silence ++ other) (Ready (phase.Check 0))
    ∷ line (phase.Check 0) (opened ++ state ++ no_state ++ presence ++ size) (Ready (phase.Check 0))
    ∷ line (phase.Check 1) none_active (Ready phase.Drain)
    ∷ line (phase.Check 1) two_active (Ready phase.Drain)
    ∷ line (phase.Check 1) one_active (Ended (Foreign 1))
    ∷ line (phase.Check 1) receipt (Awaiting (phase.Check 1))
    ∷ line (phase.Check 1) (silence ++ other) (Ready (phase.Check 1))
    ∷ line (phase.Check 1) (opened ++ state ++ no_state ++ presence ++ size) (Ready (phase.Check 1))
    ∷ line phase.Drain (cueing ++ cueing_and_playing ++ done ++ done_and_playing) (Ended (Strange 2))
    ∷ line phase.Drain playing (Ready phase.Drain)
    ∷ line phase.Drain idle (Ready phase.Close)
    ∷ line phase.Drain receipt (Awaiting phase.Drain)
    ∷ line phase.Drain (silence ++ other) (Ready phase.Drain)
    ∷ line phase.Drain (opened ++ no_state ++ active ++ presence ++ size) (Ready phase.Drain)
    ∷ line phase.Close silence (Ended Done)
    ∷ line phase.Close receipt (Awaiting phase.Close)
    ∷ line phase.Close other (Awaiting phase.Close)
    ∷ line phase.Close (opened ++ state ++ no_state ++ active ++ presence ++ size) (Awaiting phase.Close)
    ∷ line phase.Halt silence (Ready phase.HaltClose)
    ∷ line phase.Halt receipt (Awaiting phase.Halt)
    ∷ line phase.Halt other (Awaiting phase.Halt)
    ∷ line phase.Halt (opened ++ state ++ no_state ++ active ++ presence ++ size) (Awaiting phase.Halt)
    ∷ line phase.HaltClose silence (Ended Stopped)
    ∷ line phase.HaltClose receipt (Awaiting phase.HaltClose)
    ∷ line phase.HaltClose other (Awaiting phase.HaltClose)
    ∷ line phase.HaltClose (opened ++ state ++ no_state ++ active ++ presence ++ size) (Awaiting phase.HaltClose)
    ∷ line_with_take (done ++ done_and_playing) (Ready (phase.Play 0))
    ∷ line_with_take (cueing ++ cueing_and_playing) (Ready (phase.Wait 0))
    ∷ line_with_take (idle ++ playing) (Ready (phase.Cue 0))
    ∷ line_with_take receipt (Awaiting (phase.Wait 0))
    ∷ line_with_take (silence ++ other) (Ready (phase.Wait 0))
    ∷ line_with_take (opened ++ no_state ++ active ++ presence ++ size) (Ready (phase.Wait 0))
    ∷ line_of_last_try done (Ready (phase.Play 0))
    ∷ line_of_last_try done_and_playing (Ready (phase.Wait 0))
    ∷ line_of_last_try (cueing ++ cueing_and_playing) (Ready (phase.Wait 0))
    ∷ line_of_last_try (idle ++ playing) (Ended (Refused 0))
    ∷ line_of_last_try receipt (Awaiting (phase.Wait 0))
    ∷ line_of_last_try (silence ++ other) (Ready (phase.Wait 0))
    ∷ line_of_last_try (opened ++ no_state ++ active ++ presence ++ size) (Ready (phase.Wait 0))
    ∷ []

confirming_table : Leads Confirming confirming_lines
confirming_table = refl

-- The wish to take.

abbrev after : Mode → Phase → Bool → ℕ → ℕ → Option Heard → State
after mode p take unanswered tries came = came_to (plan mode two) came (in_phase p take unanswered tries)

take_is_spent_when_play_is_sent : (ticked (record (in_phase (phase.Play 0) true 0 0)
    { stage = Ready (phase.Play 0) })).take ≡ false
take_is_spent_when_play_is_sent = refl

take_outlasts_other_commands : (ticked (record (in_phase (phase.Wait 0) true 0 0)
    { stage = Ready (phase.Wait 0) })).take ≡ true
take_outlasts_other_commands = refl

-- What settles an event: ACK of PLAY in plain mode, an empty status after it in both.

ack_of_play_settles : (after Plain (phase.Play 1) false 0 0 (heard_reply reply.Ack)).settled ≡ 2
ack_of_play_settles = refl

ack_of_play_settles_nothing_in_confirm_mode : (after Confirming (phase.Play 1) false 0 0
    (heard_reply reply.Ack)).settled ≡ 0
ack_of_play_settles_nothing_in_confirm_mode = refl

empty_status_settles : (mode : Mode) → (after mode (phase.Probe 1) false 0 0 (heard_state 0x04)).settled ≡ 2
empty_status_settles Plain = refl
empty_status_settles Confirming = refl

empty_status_before_play_settles_nothing : (after Confirming (phase.Wait 1) false 0 0 (heard_state 0x01)).settled ≡ 0
empty_status_before_play_settles_nothing = refl

-- Lost cues in confirm mode.

second_lost_cue_is_tried_again : (after Confirming (phase.Wait 0) false 0 1 (heard_state 0x01)).stage
    ≡ Ready (phase.Cue 0)
second_lost_cue_is_tried_again = refl

lost_cues_are_counted : (after Confirming (phase.Wait 0) false 0 1 (heard_state 0x01)).tries ≡ 2
lost_cues_are_counted = refl

tries_stay_when_the_cue_is_sent_again : (after Confirming (phase.Cue 0) false 0 2 None).tries ≡ 2
tries_stay_when_the_cue_is_sent_again = refl

next_event_begins_with_no_tries : (after Confirming (phase.Check 0) false 0 2 (heard_reply (reply.Active None))).tries
    ≡ 0
next_event_begins_with_no_tries = refl

-- Unanswered exchanges in a row, with limit 3.

third_unanswered_play_ends_lost : (after Plain (phase.Play 0) false 2 0 None).stage ≡ Ended Lost
third_unanswered_play_ends_lost = refl

second_unanswered_play_is_probed : (after Plain (phase.Play 0) false 1 0 None).stage ≡ Ready (phase.Probe 0)
second_unanswered_play_is_probed = refl

fault_for_play_counts : (after Plain (phase.Play 0) false 2 0 (heard_reply (reply.Nak 0x04))).stage ≡ Ended Lost
fault_for_play_counts = refl

third_unanswered_seen_ends_lost : (after Confirming phase.Seen false 2 0 None).stage ≡ Ended Lost
third_unanswered_seen_ends_lost = refl

silent_play_counts_nothing_in_confirm_mode :
    after Confirming (phase.Play 0) false 2 0 None ≡ record (in_phase (phase.Play 0) false 2 0)
    { stage = Ready (phase.Probe 0) }
silent_play_counts_nothing_in_confirm_mode = refl

refusal_sets_the_row_back : (after Plain phase.Halt false 2 0 (heard_reply (reply.Nak 0x01))).unanswered ≡ 0
refusal_sets_the_row_back = refl

answer_sets_the_row_back : (after Plain (phase.Wait 0) false 2 0 (heard_state 0x02)).unanswered ≡ 0
answer_sets_the_row_back = refl

answer_of_select_leaves_the_row_in_confirm_mode : (after Confirming phase.Select false 2 0 None).unanswered ≡ 2
answer_of_select_leaves_the_row_in_confirm_mode = refl

unfit_reply_counts : (mode : Mode)
    → (after mode (phase.Exists 0) false 1 0 (heard_reply (reply.Active None))).unanswered ≡ 2
unfit_reply_counts Plain = refl
unfit_reply_counts Confirming = refl

-- The operator's stop.

stop_in_halt_changes_nothing : stopped (in_phase phase.Halt false 0 0) ≡ in_phase phase.Halt false 0 0
stop_in_halt_changes_nothing = refl

stop_in_halt_close_changes_nothing : stopped (in_phase phase.HaltClose false 0 0) ≡ in_phase phase.HaltClose false 0 0
stop_in_halt_close_changes_nothing = refl

stop_in_close_changes_nothing : stopped (in_phase phase.Close false 0 0) ≡ in_phase phase.Close false 0 0
stop_in_close_changes_nothing = refl

abbrev ended : State
ended = record (in_phase phase.Close false 0 0) { stage = Ended Done }

stop_after_an_end_changes_nothing : stopped ended ≡ ended
stop_after_an_end_changes_nothing = refl

tick_after_an_end_changes_nothing : ticked ended ≡ ended
tick_after_an_end_changes_nothing = refl

stop_is_wished_in_drain : (stopped (in_phase phase.Drain false 0 0)).stop ≡ true
stop_is_wished_in_drain = refl
