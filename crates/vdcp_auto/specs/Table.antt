-- The controller's phase table: what each phase sends, and where it leads.
use Rattle.std.specs.Prelude.{ℕ, ◌+◌, Bool, true, false, not, ◌||◌, ◌&&◌, nat_lt, if◌then◌else◌, Option, Some, List, length, slice_get}
use Rattle.std.specs.Option.{option_map}
use Rattle.vdcp_value.specs.declared.part.Item.{Item}
use Rattle.vdcp_value.specs.Ids.{is_same_id}
use Rattle.vdcp_words.specs.declared.command.Command.{Command}
use Rattle.vdcp_words.specs.declared.command.Command.TheVariants as command
use Rattle.vdcp_words.specs.declared.reply.Reply.{Reply}
use Rattle.vdcp_words.specs.declared.reply.Reply.TheVariants as reply
use Rattle.vdcp_auto.specs.declared.outcome.Outcome.TheVariants.{Done, Stopped, Denied, Missing, Refused, Foreign, Strange}
use Rattle.vdcp_auto.specs.declared.phase.Mode.{Mode}
use Rattle.vdcp_auto.specs.declared.phase.Mode.TheVariants.{Plain, Confirming}
use Rattle.vdcp_auto.specs.declared.phase.Phase.{Phase}
use Rattle.vdcp_auto.specs.declared.phase.Phase.TheVariants as phase
use Rattle.vdcp_auto.specs.declared.phase.Transition.{Transition}
use Rattle.vdcp_auto.specs.declared.phase.Transition.TheVariants.{Goes, Settles, Retries, Ends}
use Rattle.vdcp_auto.specs.Replies.{is_granted, is_present, is_cueing, is_done, is_playing, is_empty}
use Rattle.vdcp_auto.specs.Commands.{cue_of}

-- what a phase sends; nothing for an event that the list doesn't have
abbrev pub command_in : List Item → ℕ → Phase → Option Command
command_in list port phase.Open = Some (command.Open port 1)
command_in list port phase.Select = Some (command.Select port)
command_in list port phase.Seen = Some (command.Status 1)
command_in list port (phase.Exists k) =
    option_map (λ item. command.IdRequest item.id) (slice_get list k)
command_in list port (phase.Cue k) = option_map cue_of (slice_get list k)
command_in list port (phase.Wait k) = Some (command.Status 1)
command_in list port (phase.Play k) = Some command.Play
command_in list port (phase.Probe k) = Some (command.Status 1)
command_in list port (phase.Check k) = Some command.ActiveId
command_in list port phase.Drain = Some (command.Status 1)
command_in list port phase.Close = Some (command.Close port)
command_in list port phase.Halt = Some command.Stop
command_in list port phase.HaltClose = Some (command.Close port)

-- the phase for event k, or Drain if there is none
abbrev pub next : List Item → ℕ → Phase
next list k = if nat_lt k (length list) then phase.Exists k else phase.Drain

-- the reply names a clip, and not the item's
abbrev pub names_other : Option Item → Reply → Bool
names_other (Some item) (reply.Active (Some id)) = not (is_same_id id item.id)
names_other _ _ = false

-- a state in Wait(k) with nothing cued: strange in plain mode; in confirm mode the cue was lost,
-- and is tried until the limit
abbrev pub on_lost_cue : Mode → ℕ → ℕ → ℕ → Transition
on_lost_cue Plain limit tries k = Ends (Strange k)
on_lost_cue Confirming limit tries k =
    if nat_lt (tries + 1) limit then Retries k else Ends (Refused k)

-- where a reply leads that fits the phase's command. The wish to take and the tries count in Wait
abbrev pub on_reply : Mode → List Item → ℕ → Bool → ℕ → Phase → Reply → Transition
on_reply mode list limit take tries phase.Open r =
    if is_granted r then Goes phase.Select else Ends Denied
on_reply mode list limit take tries phase.Select r = Goes (next list 0)
on_reply mode list limit take tries phase.Seen r = Goes (next list 0)
on_reply mode list limit take tries (phase.Exists k) r =
    if is_present r then Goes (phase.Cue k) else Ends (Missing k)
on_reply mode list limit take tries (phase.Cue k) r = Goes (phase.Wait k)
on_reply mode list limit take tries (phase.Wait k) r =
    if is_done r && (not (is_playing r) || take) then Goes (phase.Play k)
    else (if is_empty r then on_lost_cue mode limit tries k else Goes (phase.Wait k))
on_reply mode list limit take tries (phase.Play k) r = Settles k
on_reply mode list limit take tries (phase.Probe k) r =
    if is_done r then Goes (phase.Play k) else (if is_empty r then Settles k else Goes (phase.Probe k))
on_reply mode list limit take tries (phase.Check k) r =
    if names_other (slice_get list k) r then Ends (Foreign k) else Goes (next list (k + 1))
on_reply mode list limit take tries phase.Drain r =
    if is_cueing r || is_done r then Ends (Strange (length list))
    else (if is_playing r then Goes phase.Drain else Goes phase.Close)
on_reply mode list limit take tries phase.Close r = Ends Done
on_reply mode list limit take tries phase.Halt r = Goes phase.HaltClose
on_reply mode list limit take tries phase.HaltClose r = Ends Stopped

-- where NAK 01 leads, for a list of n items
abbrev pub on_refusal : ℕ → Phase → Transition
on_refusal n phase.Open = Ends Denied
on_refusal n phase.Select = Ends Denied
on_refusal n phase.Seen = Ends Denied
on_refusal n (phase.Exists k) = Ends (Refused k)
on_refusal n (phase.Cue k) = Ends (Refused k)
on_refusal n (phase.Wait k) = Ends (Refused k)
on_refusal n (phase.Play k) = Ends (Refused k)
on_refusal n (phase.Probe k) = Ends (Refused k)
on_refusal n (phase.Check k) = Ends (Refused k)
on_refusal n phase.Drain = Ends (Refused n)
on_refusal n phase.Close = Ends Done
on_refusal n phase.Halt = Goes phase.HaltClose
on_refusal n phase.HaltClose = Ends Stopped

-- where an unanswered exchange leads, short of the limit. In confirm mode the time-out is the end
-- of each command that only a receipt answers
abbrev pub on_no_answer : Mode → Phase → Transition
on_no_answer Plain (phase.Play k) = Goes (phase.Probe k)
on_no_answer Plain p = Goes p
on_no_answer Confirming phase.Open = Goes phase.Open
on_no_answer Confirming phase.Select = Goes phase.Seen
on_no_answer Confirming phase.Seen = Goes phase.Select
on_no_answer Confirming (phase.Exists k) = Goes (phase.Exists k)
on_no_answer Confirming (phase.Cue k) = Goes (phase.Wait k)
on_no_answer Confirming (phase.Wait k) = Goes (phase.Wait k)
on_no_answer Confirming (phase.Play k) = Goes (phase.Probe k)
on_no_answer Confirming (phase.Probe k) = Goes (phase.Probe k)
on_no_answer Confirming (phase.Check k) = Goes (phase.Check k)
on_no_answer Confirming phase.Drain = Goes phase.Drain
on_no_answer Confirming phase.Close = Ends Done
on_no_answer Confirming phase.Halt = Goes phase.HaltClose
on_no_answer Confirming phase.HaltClose = Ends Stopped

-- the phases after the operator's stop
abbrev pub is_halting : Phase → Bool
is_halting phase.Halt = true
is_halting phase.HaltClose = true
is_halting _ = false

-- whether the operator's stop counts in this phase
abbrev pub can_stop : Phase → Bool
can_stop phase.Close = false
can_stop phase.Halt = false
can_stop phase.HaltClose = false
can_stop _ = true
