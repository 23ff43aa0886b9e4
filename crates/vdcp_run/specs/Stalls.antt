-- How long the first event is cued until that is told.
use Rattle.std.specs.Prelude.{ℕ, ◌-◌, Bool, true, false, nat_lt, if◌then◌else◌, Option, Some}
use Rattle.vdcp_auto.specs.Replies.{is_done}
use Rattle.vdcp_auto.specs.declared.exchange.Heard.{Heard}
use Rattle.vdcp_auto.specs.declared.exchange.Heard.TheVariants as heard
use Rattle.vdcp_drive.specs.declared.hearing.Hearing.{Hearing}
use Rattle.vdcp_drive.specs.declared.hearing.Hearing.TheVariants as hears
use Rattle.vdcp_run.specs.declared.stalling.Stall.{Stall}
use Rattle.vdcp_run.specs.declared.stalling.Stall.TheVariants.{Nothing, Since, Told}

-- a run that hears at silences tells nothing
abbrev pub first_stall : Hearing → Stall
first_stall hears.AtSilences = Told
first_stall hears.AtOnce = Nothing

-- a state that shows the cue done ends it
abbrev pub stall_heard : Option Heard → Stall → Stall
stall_heard (Some (heard.Reply r)) (Since begun) = if is_done r then Nothing else Since begun
stall_heard h stall = stall

-- five seconds after it was first seen so it is told, once
abbrev pub stall_after : (cues : Bool) → Stall → (now : ℕ) → Stall
stall_after cues Told now = Told
stall_after false Nothing now = Nothing
stall_after false (Since begun) now = Nothing
stall_after true Nothing now = Since now
stall_after true (Since begun) now = if nat_lt (now - begun) 5000000000 then Since begun else Told
