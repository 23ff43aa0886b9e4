-- Courses of a controller, computed from the definitions.
use Rattle.std.specs.Prelude.{◌≡◌, ℕ, false, Option, None, Some, List, [], ◌∷◌, map, refl}
use Rattle.std.specs.Option.{option_map}
use Rattle.vdcp_value.specs.declared.part.Item.{Item}
use Rattle.vdcp_words.specs.declared.command.Command.{Command}
use Rattle.vdcp_words.specs.declared.command.Command.TheVariants as command
use Rattle.vdcp_words.specs.declared.reply.Reply.TheVariants as reply
use Rattle.vdcp_auto.specs.declared.exchange.Input.{Input}
use Rattle.vdcp_auto.specs.declared.exchange.Input.TheVariants as input
use Rattle.vdcp_auto.specs.declared.outcome.Outcome.{Outcome}
use Rattle.vdcp_auto.specs.declared.outcome.Outcome.TheVariants.{Done, Stopped, Lost, Denied, Missing, Refused, Foreign, Strange}
use Rattle.vdcp_auto.specs.declared.phase.Mode.TheVariants.{Plain, Confirming}
use Rattle.vdcp_auto.specs.State.{State}
use Rattle.vdcp_auto.specs.Settled.{settled}
use Rattle.vdcp_auto.specs.Plan.{Plan}
use Rattle.vdcp_auto.specs.Turn.{ticked, ended_by, came_to, stopped, outcome_of}
use Rattle.vdcp_auto.specs.Course.{course_from, course, after_inputs_from, after_inputs}
use Rattle.vdcp_auto.proofs.Examples.{clip_one, clip_two, clip_nine, whole, one, two, one_twice, plan, hear, granted, ack, nak, present, state, active, silence}

-- the inputs end exchanges of these commands, and lead to this outcome and this number of settled
-- events, which is also what the log shows to be settled
record Row : Type 0 where
  plan : Plan
  inputs : List Input
  commands : List Command
  outcome : Option Outcome
  settled : ℕ

abbrev row : Plan → List Input → List Command → Option Outcome → ℕ → Row
row p inputs commands outcome reported =
    record { plan = p; inputs = inputs; commands = commands; outcome = outcome; settled = reported }

-- each row says what its inputs give
record Give (rows : List Row) : Type 0 where
  commands : map (λ r. map (λ e. e.command) (course r.plan r.inputs)) rows ≡ map (λ r. r.commands) rows
  outcomes : map (λ r. outcome_of (after_inputs r.plan r.inputs).stage) rows ≡ map (λ r. r.outcome) rows
  counts : map (λ r. (after_inputs r.plan r.inputs).settled) rows ≡ map (λ r. r.settled) rows
  shown : map (λ r. settled r.plan.mode (course r.plan r.inputs)) rows ≡ map (λ r. r.settled) rows

-- the commands

abbrev open_port : Command
open_port = command.Open 1 1

abbrev select_port : Command
select_port = command.Select 1

abbrev status : Command
status = command.Status 1

abbrev close_port : Command
close_port = command.Close 1

abbrev request_one : Command
request_one = command.IdRequest clip_one

abbrev request_two : Command
request_two = command.IdRequest clip_two

abbrev request_nine : Command
request_nine = command.IdRequest clip_nine

abbrev cue_one : Command
cue_one = command.PlayCue clip_one

abbrev cue_two : Command
cue_two = command.PlayCue clip_two

-- an event that is a part of its clip, and its cue
abbrev part : List Item
part = record { id = clip_one; part = Some (record { start = 0 ∷ 8 ∷ 0 ∷ 0 ∷ []; duration = 0 ∷ 3 ∷ 0 ∷ 0 ∷ [] }) }
    ∷ []

abbrev cue_part : Command
cue_part = command.CueData clip_one (0 ∷ 8 ∷ 0 ∷ 0 ∷ []) (0 ∷ 3 ∷ 0 ∷ 0 ∷ [])

-- In plain mode.

abbrev plain_rows : List Row
plain_rows =
    -- empty list closes at once
    row (plan Plain [])
    (granted ∷ ack ∷ state 0x01 ∷ ack ∷ [])
    (open_port ∷ select_port ∷ status ∷ close_port ∷ [])
    (Some Done) 0
    -- two clips air
    ∷ row (plan Plain two)
    (granted ∷ ack ∷ present ∷ ack ∷ state 0x80 ∷ ack ∷ active None ∷ present ∷ ack ∷ state 0x80 ∷ ack
    ∷ active None ∷ state 0x01 ∷ ack ∷ [])
    (open_port ∷ select_port ∷ request_one ∷ cue_one ∷ status ∷ command.Play ∷ command.ActiveId ∷ request_two
    ∷ cue_two ∷ status ∷ command.Play ∷ command.ActiveId ∷ status ∷ close_port ∷ [])
    (Some Done) 2
    -- foreign clip ends foreign
    ∷ row (plan Plain one)
    (granted ∷ ack ∷ present ∷ ack ∷ state 0x80 ∷ ack ∷ active (Some clip_two) ∷ [])
    (open_port ∷ select_port ∷ request_one ∷ cue_one ∷ status ∷ command.Play ∷ command.ActiveId ∷ [])
    (Some (Foreign 0)) 1
    -- lost cue ends strange
    ∷ row (plan Plain one)
    (granted ∷ ack ∷ present ∷ ack ∷ state 0x01 ∷ [])
    (open_port ∷ select_port ∷ request_one ∷ cue_one ∷ status ∷ [])
    (Some (Strange 0)) 0
    -- refused cue ends refused
    ∷ row (plan Plain one)
    (granted ∷ ack ∷ present ∷ nak 0x01 ∷ [])
    (open_port ∷ select_port ∷ request_one ∷ cue_one ∷ [])
    (Some (Refused 0)) 0
    -- unread play is probed
    ∷ row (plan Plain one)
    (granted ∷ ack ∷ present ∷ ack ∷ state 0x80 ∷ nak 0x04 ∷ state 0x80 ∷ ack ∷ [])
    (open_port ∷ select_port ∷ request_one ∷ cue_one ∷ status ∷ command.Play ∷ status ∷ command.Play ∷ [])
    None 1
    -- silences under the limit
    ∷ row (plan Plain one)
    (silence ∷ silence ∷ granted ∷ silence ∷ silence ∷ [])
    (open_port ∷ open_port ∷ open_port ∷ select_port ∷ select_port ∷ [])
    None 0
    -- ungranted port ends denied
    ∷ row (plan Plain one)
    (hear (reply.Opened false) ∷ [])
    (open_port ∷ [])
    (Some Denied) 0
    -- state without byte is no answer
    ∷ row (plan Plain [])
    (granted ∷ hear (reply.State 0 None) ∷ ack ∷ [])
    (open_port ∷ select_port ∷ select_port ∷ [])
    None 0
    -- lost play is sent again
    ∷ row (plan Plain one_twice)
    (granted ∷ ack ∷ present ∷ ack ∷ state 0x80 ∷ ack ∷ active (Some clip_one) ∷ present ∷ ack ∷ input.Take
    ∷ state 0x84 ∷ silence ∷ state 0x84 ∷ ack ∷ active None ∷ state 0x01 ∷ ack ∷ [])
    (open_port ∷ select_port ∷ request_one ∷ cue_one ∷ status ∷ command.Play ∷ command.ActiveId ∷ request_one
    ∷ cue_one ∷ status ∷ command.Play ∷ status ∷ command.Play ∷ command.ActiveId ∷ status ∷ close_port ∷ [])
    (Some Done) 2
    -- lost ack of play is settled by status
    ∷ row (plan Plain one_twice)
    (granted ∷ ack ∷ present ∷ ack ∷ state 0x80 ∷ ack ∷ active None ∷ present ∷ ack ∷ state 0x80 ∷ silence
    ∷ state 0x04 ∷ active None ∷ state 0x01 ∷ ack ∷ [])
    (open_port ∷ select_port ∷ request_one ∷ cue_one ∷ status ∷ command.Play ∷ command.ActiveId ∷ request_one
    ∷ cue_one ∷ status ∷ command.Play ∷ status ∷ command.ActiveId ∷ status ∷ close_port ∷ [])
    (Some Done) 2
    -- executed play with nak is settled by status
    ∷ row (plan Plain one)
    (granted ∷ ack ∷ present ∷ ack ∷ state 0x80 ∷ nak 0x04 ∷ state 0x01 ∷ active None ∷ state 0x01 ∷ ack ∷ [])
    (open_port ∷ select_port ∷ request_one ∷ cue_one ∷ status ∷ command.Play ∷ status ∷ command.ActiveId ∷ status
    ∷ close_port ∷ [])
    (Some Done) 1
    -- missing clip ends missing
    ∷ row (plan Plain (whole clip_one ∷ whole clip_nine ∷ []))
    (granted ∷ ack ∷ present ∷ ack ∷ state 0x80 ∷ ack ∷ active None ∷ hear (reply.Present false) ∷ [])
    (open_port ∷ select_port ∷ request_one ∷ cue_one ∷ status ∷ command.Play ∷ command.ActiveId ∷ request_nine ∷ [])
    (Some (Missing 1)) 1
    -- two silences are under the limit
    ∷ row (plan Plain one)
    (silence ∷ silence ∷ [])
    (open_port ∷ open_port ∷ [])
    None 0
    -- three silences end lost
    ∷ row (plan Plain one)
    (silence ∷ silence ∷ silence ∷ silence ∷ [])
    (open_port ∷ open_port ∷ open_port ∷ [])
    (Some Lost) 0
    -- two clips air after a take
    ∷ row (plan Plain two)
    (granted ∷ ack ∷ present ∷ ack ∷ state 0x80 ∷ ack ∷ active (Some clip_one) ∷ present ∷ ack ∷ state 0x84
    ∷ input.Take ∷ state 0x84 ∷ ack ∷ [])
    (open_port ∷ select_port ∷ request_one ∷ cue_one ∷ status ∷ command.Play ∷ command.ActiveId ∷ request_two
    ∷ cue_two ∷ status ∷ status ∷ command.Play ∷ [])
    None 2
    -- stop is obeyed at once
    ∷ row (plan Plain one)
    (granted ∷ ack ∷ input.Stop ∷ ack ∷ ack ∷ [])
    (open_port ∷ select_port ∷ command.Stop ∷ close_port ∷ [])
    (Some Stopped) 0
    -- refusal sets the row back
    ∷ row (plan Plain one)
    (input.Stop ∷ silence ∷ silence ∷ nak 0x01 ∷ silence ∷ silence ∷ [])
    (command.Stop ∷ command.Stop ∷ command.Stop ∷ close_port ∷ close_port ∷ [])
    None 0
    -- refused part ends refused
    ∷ row (plan Plain part)
    (granted ∷ ack ∷ present ∷ nak 0x01 ∷ [])
    (open_port ∷ select_port ∷ request_one ∷ cue_part ∷ [])
    (Some (Refused 0)) 0
    ∷ []

plain_rows_give : Give plain_rows
plain_rows_give = record { commands = refl; outcomes = refl; counts = refl; shown = refl }

-- A stop while the answer to PLAY is awaited: the exchange ends first.

abbrev before_play : List Input
before_play = granted ∷ ack ∷ present ∷ ack ∷ state 0x80 ∷ []

abbrev stop_during_play : State
stop_during_play = stopped (ticked (after_inputs (plan Plain one) before_play))

abbrev after_silent_play : State
after_silent_play = came_to (plan Plain one) None stop_during_play

stop_during_play_ends_the_play_first : option_map (λ e. e.command) (ended_by (plan Plain one) None stop_during_play)
    ≡ Some command.Play
stop_during_play_ends_the_play_first = refl

stop_during_play_sends_stop_and_close :
    map (λ e. e.command) (course_from (plan Plain one) after_silent_play (ack ∷ ack ∷ [])) ≡ (command.Stop
    ∷ close_port ∷ [])
stop_during_play_sends_stop_and_close = refl

abbrev after_stop_during_play : State
after_stop_during_play = after_inputs_from (plan Plain one) after_silent_play (ack ∷ ack ∷ [])

stop_during_play_ends_stopped : (outcome_of after_stop_during_play.stage ≡ Some Stopped)
    × (after_stop_during_play.settled ≡ 0)
stop_during_play_ends_stopped = (refl, refl)

-- In confirm mode.

abbrev confirming_rows : List Row
confirming_rows =
    -- confirming empty list
    row (plan Confirming [])
    (granted ∷ silence ∷ state 0x01 ∷ state 0x01 ∷ silence ∷ [])
    (open_port ∷ select_port ∷ status ∷ status ∷ close_port ∷ [])
    (Some Done) 0
    -- confirming one clip
    ∷ row (plan Confirming one)
    (granted ∷ ack ∷ silence ∷ state 0x01 ∷ present ∷ ack ∷ silence ∷ state 0x80 ∷ ack ∷ silence ∷ state 0x01
    ∷ active None ∷ state 0x01 ∷ ack ∷ silence ∷ [])
    (open_port ∷ select_port ∷ status ∷ request_one ∷ cue_one ∷ status ∷ command.Play ∷ status ∷ command.ActiveId
    ∷ status ∷ close_port ∷ [])
    (Some Done) 1
    -- receipts end no open
    ∷ row (plan Confirming one)
    (nak 0x01 ∷ ack ∷ [])
    []
    None 0
    -- stray ack settles nothing
    ∷ row (plan Confirming one)
    (granted ∷ ack ∷ silence ∷ state 0x01 ∷ present ∷ ack ∷ silence ∷ state 0x80 ∷ ack ∷ silence ∷ state 0x80 ∷ ack
    ∷ silence ∷ state 0x01 ∷ active None ∷ state 0x01 ∷ ack ∷ silence ∷ [])
    (open_port ∷ select_port ∷ status ∷ request_one ∷ cue_one ∷ status ∷ command.Play ∷ status ∷ command.Play
    ∷ status ∷ command.ActiveId ∷ status ∷ close_port ∷ [])
    (Some Done) 1
    -- two lost cues are under the limit
    ∷ row (plan Confirming one)
    (granted ∷ silence ∷ state 0x01 ∷ present ∷ silence ∷ state 0x01 ∷ silence ∷ state 0x01 ∷ [])
    (open_port ∷ select_port ∷ status ∷ request_one ∷ cue_one ∷ status ∷ cue_one ∷ status ∷ [])
    None 0
    -- three lost cues end refused
    ∷ row (plan Confirming one)
    (granted ∷ silence ∷ state 0x01 ∷ present ∷ silence ∷ state 0x01 ∷ silence ∷ state 0x01 ∷ silence ∷ state 0x01
    ∷ [])
    (open_port ∷ select_port ∷ status ∷ request_one ∷ cue_one ∷ status ∷ cue_one ∷ status ∷ cue_one ∷ status ∷ [])
    (Some (Refused 0)) 0
    -- each event has its own tries
    ∷ row (plan Confirming two)
    (granted ∷ silence ∷ state 0x01 ∷ present ∷ silence ∷ state 0x01 ∷ silence ∷ state 0x01 ∷ silence ∷ state 0x80
    ∷ silence ∷ state 0x04 ∷ active None ∷ present ∷ silence ∷ state 0x01 ∷ silence ∷ state 0x01 ∷ [])
    (open_port ∷ select_port ∷ status ∷ request_one ∷ cue_one ∷ status ∷ cue_one ∷ status ∷ cue_one ∷ status
    ∷ command.Play ∷ status ∷ command.ActiveId ∷ request_two ∷ cue_two ∷ status ∷ cue_two ∷ status ∷ [])
    None 1
    -- three unanswered requests end lost
    ∷ row (plan Confirming one)
    (silence ∷ silence ∷ silence ∷ [])
    (open_port ∷ open_port ∷ open_port ∷ [])
    (Some Lost) 0
    -- third unanswered seen ends lost
    ∷ row (plan Confirming one)
    (granted ∷ silence ∷ silence ∷ silence ∷ silence ∷ silence ∷ silence ∷ [])
    (open_port ∷ select_port ∷ status ∷ select_port ∷ status ∷ select_port ∷ status ∷ [])
    (Some Lost) 0
    -- confirming denied
    ∷ row (plan Confirming one)
    (hear (reply.Opened false) ∷ [])
    (open_port ∷ [])
    (Some Denied) 0
    -- confirming missing
    ∷ row (plan Confirming one)
    (granted ∷ silence ∷ state 0x01 ∷ hear (reply.Present false) ∷ [])
    (open_port ∷ select_port ∷ status ∷ request_one ∷ [])
    (Some (Missing 0)) 0
    -- confirming foreign
    ∷ row (plan Confirming one)
    (granted ∷ silence ∷ state 0x01 ∷ present ∷ silence ∷ state 0x80 ∷ silence ∷ state 0x01
    ∷ active (Some clip_two) ∷ [])
    (open_port ∷ select_port ∷ status ∷ request_one ∷ cue_one ∷ status ∷ command.Play ∷ status ∷ command.ActiveId
    ∷ [])
    (Some (Foreign 0)) 1
    -- stop while play is awaited
    ∷ row (plan Confirming one)
    (granted ∷ silence ∷ state 0x01 ∷ present ∷ silence ∷ state 0x80 ∷ ack ∷ input.Stop ∷ silence ∷ silence
    ∷ silence ∷ [])
    (open_port ∷ select_port ∷ status ∷ request_one ∷ cue_one ∷ status ∷ command.Play ∷ command.Stop ∷ close_port
    ∷ [])
    (Some Stopped) 0
    -- stop while stop is awaited
    ∷ row (plan Confirming one)
    (input.Stop ∷ ack ∷ input.Stop ∷ silence ∷ silence ∷ [])
    (command.Stop ∷ close_port ∷ [])
    (Some Stopped) 0
    -- refused part is tried three times in confirm mode
    ∷ row (plan Confirming part)
    (granted ∷ silence ∷ state 0x01 ∷ present ∷ nak 0x01 ∷ silence ∷ state 0x01 ∷ nak 0x01 ∷ silence ∷ state 0x01
    ∷ nak 0x01 ∷ silence ∷ state 0x01 ∷ [])
    (open_port ∷ select_port ∷ status ∷ request_one ∷ cue_part ∷ status ∷ cue_part ∷ status ∷ cue_part ∷ status ∷ [])
    (Some (Refused 0)) 0
    ∷ []

confirming_rows_give : Give confirming_rows
confirming_rows_give = record { commands = refl; outcomes = refl; counts = refl; shown = refl }
