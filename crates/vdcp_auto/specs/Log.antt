-- A log is a list of exchanges, the oldest first. What an exchange of it is.
use Rattle.std.specs.Prelude.{Bool, true, false, ◌||◌, ◌&&◌, if◌then◌else◌, Option, None, Some, is_some}
use Rattle.vdcp_words.specs.declared.command.Command.{Command}
use Rattle.vdcp_words.specs.declared.reply.Reply.{Reply}
use Rattle.vdcp_auto.specs.declared.exchange.Exchange.{Exchange}
use Rattle.vdcp_auto.specs.declared.exchange.Heard.{Heard}
use Rattle.vdcp_auto.specs.declared.exchange.Heard.TheVariants as heard
use Rattle.vdcp_auto.specs.declared.phase.Mode.{Mode}
use Rattle.vdcp_auto.specs.declared.phase.Mode.TheVariants.{Plain, Confirming}
use Rattle.vdcp_auto.specs.Replies.{is_ack, is_refusal, is_granted, is_done, is_empty}
use Rattle.vdcp_auto.specs.Commands.{is_cue_command, is_play_command, is_stop_command, is_close_command, is_open_command, is_status_command, is_sense, fits}

-- a reply of this kind came
abbrev pub hears : (Reply → Bool) → Option Heard → Bool
hears kind (Some (heard.Reply r)) = kind r
hears kind _ = false

-- the reply that answers a command: NAK 01, or one that fits the command
abbrev pub answer_to : Command → Option Heard → Option Reply
answer_to c (Some (heard.Reply r)) = if is_refusal r || fits c r then Some r else None
answer_to c _ = None

abbrev pub answer_in : Exchange → Option Reply
answer_in e = answer_to e.command e.heard

abbrev pub is_answered : Exchange → Bool
is_answered e = is_some (answer_in e)

-- heard ACK
abbrev pub is_acked : Exchange → Bool
is_acked e = hears is_ack e.heard

abbrev pub is_play : Exchange → Bool
is_play e = is_play_command e.command

abbrev pub is_stop : Exchange → Bool
is_stop e = is_stop_command e.command

abbrev pub is_close : Exchange → Bool
is_close e = is_close_command e.command

-- PLAY CUE or CUE WITH DATA
abbrev pub is_cue : Exchange → Bool
is_cue e = is_cue_command e.command

-- an OPEN that heard granted
abbrev pub is_grant : Exchange → Bool
is_grant e = is_open_command e.command && hears is_granted e.heard

-- a PORT STATUS REQUEST that heard a state byte with the cue done
abbrev pub is_done_status : Exchange → Bool
is_done_status e = is_status_command e.command && hears is_done e.heard

-- a PORT STATUS REQUEST that heard a state byte with nothing cued, nor being cued
abbrev pub is_empty_status : Exchange → Bool
is_empty_status e = is_status_command e.command && hears is_empty e.heard

-- the exchanges among which unanswered ones in a row are counted: in confirm mode those that ask for
-- a reply
abbrev pub is_counted : Mode → Exchange → Bool
is_counted Plain e = true
is_counted Confirming e = is_sense e.command
