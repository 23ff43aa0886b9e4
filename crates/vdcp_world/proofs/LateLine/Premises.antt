-- The premises of the headline are needed: runs, computed from the definitions, in which one of them is dropped and the
-- headline
-- fails.
use Rattle.std.proofs.Common.{◌≡◌, ℕ, true, false, List, [], ◌∷◌, ◌++◌, refl}
use Rattle.std.specs.Prelude.{Some, reverse}
use Rattle.vdcp_value.specs.declared.clip_id.ClipId.{ClipId}
use Rattle.vdcp_value.specs.declared.part.Item.{Item}
use Rattle.vdcp_value.specs.declared.rate.Rate.TheVariants.{F25}
use Rattle.vdcp_value.specs.declared.timecode.Timecode.{Timecode}
use Rattle.vdcp_frame.specs.Message.{spelling}
use Rattle.vdcp_words.specs.Commands.{command_message}
use Rattle.vdcp_words.specs.declared.command.Command.{Command}
use Rattle.vdcp_words.specs.declared.command.Command.TheVariants as command
use Rattle.vdcp_words.specs.Replies.{reply_message}
use Rattle.vdcp_words.specs.declared.reply.Reply.{Reply}
use Rattle.vdcp_words.specs.declared.reply.Reply.TheVariants as reply
use Rattle.vdcp_port.specs.Clips.{whole}
use Rattle.vdcp_port.specs.Clock.{ClockedPort, new_port}
use Rattle.vdcp_port.specs.Port.{done}
use Rattle.vdcp_port.specs.declared.access.Access.TheVariants.{Selected}
use Rattle.vdcp_auto.specs.Settled.{may_have_aired}
use Rattle.vdcp_auto.specs.Turn.{outcome_of}
use Rattle.vdcp_auto.specs.declared.outcome.Outcome.TheVariants.{Refused}
use Rattle.vdcp_auto.specs.declared.phase.Mode.{Mode}
use Rattle.vdcp_auto.specs.declared.phase.Mode.TheVariants.{Plain, Confirming}
use Rattle.vdcp_world.specs.LateLine.LateChannel.{LateChannel, new_late_channel, after_late_events}
use Rattle.vdcp_world.specs.LateLine.LateHeadline.{log_so_far}
use Rattle.vdcp_world.specs.LateLine.LateEvent.{LateEvent, Tick, Down, Up, DownCopy, UpCopy, LoseDown, LoseUp, Timeout, Ready, ServerAnew}

-- CLIP0001 and CLIP0002, ten seconds each at 25 frames a second

abbrev clip_1 : ClipId
clip_1 = record { bytes = 0x43 ∷ 0x4C ∷ 0x49 ∷ 0x50 ∷ 0x30 ∷ 0x30 ∷ 0x30 ∷ 0x31 ∷ []; eight = refl }

abbrev clip_2 : ClipId
clip_2 = record { bytes = 0x43 ∷ 0x4C ∷ 0x49 ∷ 0x50 ∷ 0x30 ∷ 0x30 ∷ 0x30 ∷ 0x32 ∷ []; eight = refl }

abbrev ten_seconds : Timecode
ten_seconds = record { rate = F25; label = record { hours = 0; minutes = 0; seconds = 10; frames = 0 }; lawful = refl }

abbrev two_clips : List (ClipId × Timecode)
two_clips = (clip_1, ten_seconds) ∷ (clip_2, ten_seconds) ∷ []

-- the playlist of one event, and a new channel of unit 0 and port 1, whose controller gives up after three unanswered
-- exchanges

abbrev one : List Item
one = whole clip_1 ∷ []

abbrev begins_with : Mode → ClockedPort → List (List ℕ) → List (List ℕ) → LateChannel
begins_with mode port down up =
    new_late_channel (record { mode = mode; list = one; port = 1; limit = 3 }) port down up

abbrev new : Mode → LateChannel
new mode = begins_with mode (new_port two_clips 0 1 1) [] []

-- the bytes of a command, and of an ACK

abbrev bytes_of : Command → List ℕ
bytes_of c = spelling (command_message 0 c)

abbrev an_ack : List ℕ
an_ack = 0x04 ∷ []

-- what went to air, and how many events are reported
pub record Seen : Type 0 where
  pub aired : List Item
  pub reported : ℕ

abbrev seen : LateChannel → Seen
seen c = record { aired = c.aired; reported = c.state.settled }

-- reported, and not aired: the headline fails
abbrev reported_alone : Seen
reported_alone = record { aired = []; reported = 1 }

-- aired, and no beginning of the playlist: the headline fails
abbrev another_aired : Seen
another_aired = record { aired = whole clip_2 ∷ []; reported = 0 }

-- a command, what the port makes of it, and what the controller hears
abbrev round : List LateEvent
round = Tick ∷ Down ∷ Up ∷ []

-- in plain mode from a new channel to Cue(0), and in confirm mode, where SELECT times out and a status shows that the
-- port is
-- selected

abbrev to_cue : List LateEvent
to_cue = round ++ round ++ round

abbrev to_cue_confirmed : List LateEvent
to_cue_confirmed = round ++ Tick ∷ Down ∷ Up ∷ Timeout ∷ round ++ round

-- ---- with all premises

a_run_keeps_it :
    seen (after_late_events (new Plain) (to_cue ++ round ++ Ready ∷ round ++ round))
    ≡ record { aired = one; reported = 1 }
a_run_keeps_it = refl

a_late_answer_does_no_harm :
    seen (after_late_events (new Plain) (to_cue ++ round ++ Ready ∷ round ++ Tick ∷ Timeout ∷ Tick ∷ Down ∷ Up ∷ Timeout
    ∷ round ++ Up ∷ []))
    ≡ record { aired = one; reported = 1 }
a_late_answer_does_no_harm = refl

-- ---- all that aired is reported after Done and Missing, and in confirm mode after Refused

-- In plain mode a copy of the PLAY is refused by a server that was started anew since the PLAY aired.
abbrev refused_in_plain_mode : LateChannel
refused_in_plain_mode =
    after_late_events (new Plain) (to_cue ++ round ++ Ready ∷ round ++ Tick ∷ DownCopy ∷ LoseUp 0 ∷ ServerAnew ∷ Down ∷
    Up ∷ [])

a_refusal_may_leave_one_out : seen refused_in_plain_mode ≡ record { aired = one; reported = 0 }
a_refusal_may_leave_one_out = refl

and_is_one : outcome_of refused_in_plain_mode.state.stage ≡ Some (Refused 0)
and_is_one = refl

and_its_event_may_have_aired : may_have_aired Plain (log_so_far refused_in_plain_mode) ≡ true
and_its_event_may_have_aired = refl

-- before its PLAY it can't have, nor once it is settled
abbrev played : LateChannel
played = after_late_events (new Plain) (to_cue ++ round ++ Ready ∷ round ++ Tick ∷ [])

what_may_have_aired :
    may_have_aired Plain (log_so_far (after_late_events (new Plain) (to_cue ++ round ++ Ready ∷ round))) ∷
    may_have_aired Plain (log_so_far played) ∷
    may_have_aired Plain (log_so_far (after_late_events played (Down ∷ Up ∷ []))) ∷ []
    ≡ false ∷ true ∷ false ∷ []
what_may_have_aired = refl

-- ---- order

-- A copy of the cue is answered too; its answer comes after that to the status, and is heard for the PLAY.
abbrev swaps : LateChannel → LateChannel
swaps c = record c { up = reverse c.up }

order_is_needed :
    seen (after_late_events (swaps (after_late_events (new Plain)
    (to_cue ++ Tick ∷ DownCopy ∷ Down ∷ Up ∷ Ready ∷ Tick ∷ Down ∷ [])))
    (Up ∷ Tick ∷ Up ∷ [])) ≡ reported_alone
order_is_needed = refl

-- A status that shows that nothing is cued is copied, and the copy comes after a newer one, which shows the cue to be
-- done.
order_is_needed_in_confirm_mode :
    seen (after_late_events
    (swaps (after_late_events (new Confirming)
    (to_cue_confirmed ++ Tick ∷ LoseDown 0 ∷ Timeout ∷ Tick ∷ Down ∷ UpCopy ∷ Tick ∷ Down ∷ Timeout ∷ Ready ∷ Tick
    ∷ Down ∷ [])))
    (Up ∷ Tick ∷ Timeout ∷ Tick ∷ Up ∷ Up ∷ [])) ≡ reported_alone
order_is_needed_in_confirm_mode = refl

-- ---- damage shows

-- The cue becomes one of another clip, and its bytes don't show it.
abbrev becomes : Command → LateChannel → LateChannel
becomes c channel = record channel { down = bytes_of c ∷ [] }

damage_has_to_show :
    seen (after_late_events (becomes (command.PlayCue clip_2) (after_late_events (new Plain) (to_cue ++ Tick ∷ [])))
    (Down ∷ Up ∷ Ready ∷ round ++ Tick ∷ Down ∷ [])) ≡ another_aired
damage_has_to_show = refl

damage_has_to_show_in_confirm_mode :
    seen (after_late_events (becomes (command.PlayCue clip_2)
    (after_late_events (new Confirming) (to_cue_confirmed ++ Tick ∷ [])))
    (Down ∷ Up ∷ Timeout ∷ Ready ∷ round ++ Tick ∷ Down ∷ [])) ≡ another_aired
damage_has_to_show_in_confirm_mode = refl

-- ---- no receipt is forged, in plain mode

abbrev forges : LateChannel → LateChannel
forges c = record c { up = an_ack ∷ c.up }

no_ack_may_be_forged :
    seen (after_late_events (forges (after_late_events (new Plain) (to_cue ++ round ++ Ready ∷ round ++ Tick ∷ [])))
    (Up ∷ [])) ≡ reported_alone
no_ack_may_be_forged = refl

-- ---- nothing is cued at the start, in confirm mode

abbrev with_a_cue : ClockedPort → ClockedPort
with_a_cue port = record port { state = record port.state { cued = done (whole clip_2) } }

-- The own cue is lost, and the status shows the other one to be done.
nothing_may_be_cued_at_the_start :
    seen (after_late_events
    (begins_with Confirming (with_a_cue (new_port two_clips 0 1 1)) [] [])
    (to_cue_confirmed ++ Tick ∷ LoseDown 0 ∷ Timeout ∷ round ++ Tick ∷ Down ∷ [])) ≡ another_aired
nothing_may_be_cued_at_the_start = refl

-- ---- what is on the way at the start asks, or answers that

abbrev answered : Reply → List ℕ
answered r = spelling (reply_message 0 r)

-- Two of these answers are heard for the run's own.
what_was_asked_does_no_harm :
    seen (after_late_events
    (begins_with Plain (new_port two_clips 0 1 1) (bytes_of (command.Status 1) ∷ [])
    (answered (reply.Opened true) ∷ an_ack ∷ []))
    (Tick ∷ Up ∷ Tick ∷ Up ∷ Tick ∷ Down ∷ Down ∷ Down ∷ Down ∷ LoseUp 0 ∷ LoseUp 0 ∷ LoseUp 0 ∷ Up ∷ round ++ Ready
    ∷ round ++ round)) ≡ record { aired = one; reported = 1 }
what_was_asked_does_no_harm = refl

-- The answers that an earlier run left are heard for a whole run.
no_other_answer_may_be_left :
    seen (after_late_events
    (begins_with Plain (new_port two_clips 0 1 1) []
    (answered (reply.Opened true) ∷ an_ack ∷ answered (reply.Present true) ∷ an_ack
    ∷ answered (reply.State 1 (Some 0x80)) ∷ an_ack ∷ []))
    (Tick ∷ Up ∷ Tick ∷ Up ∷ Tick ∷ Up ∷ Tick ∷ Up ∷ Tick ∷ Up ∷ Tick ∷ Up ∷ [])) ≡ reported_alone
no_other_answer_may_be_left = refl

abbrev selected : ClockedPort → ClockedPort
selected port = record port { state = record port.state { access = Selected } }

-- A PLAY that it left airs what was cued there before.
no_play_may_be_left :
    seen (after_late_events
    (begins_with Plain (selected (with_a_cue (new_port two_clips 0 1 1))) (bytes_of command.Play ∷ []) []) (Down ∷ []))
    ≡ another_aired
no_play_may_be_left = refl

-- ---- one controller

-- Another one cues its own clip after ours.
abbrev cues_too : LateChannel → LateChannel
cues_too c = record c { down = c.down ++ bytes_of (command.PlayCue clip_2) ∷ [] }

one_controller_is_needed :
    seen (after_late_events (cues_too (after_late_events (new Plain) (to_cue ++ Tick ∷ [])))
    (Down ∷ Down ∷ Up ∷ Ready ∷ Up ∷ Tick ∷ Down ∷ Up ∷ Tick ∷ Down ∷ [])) ≡ another_aired
one_controller_is_needed = refl

one_controller_is_needed_in_confirm_mode :
    seen (after_late_events (cues_too (after_late_events (new Confirming) (to_cue_confirmed ++ Tick ∷ [])))
    (Down ∷ Down ∷ Up ∷ Up ∷ Timeout ∷ Ready ∷ round ++ Tick ∷ Down ∷ [])) ≡ another_aired
one_controller_is_needed_in_confirm_mode = refl
