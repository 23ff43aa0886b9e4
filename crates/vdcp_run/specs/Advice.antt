-- What an operator is told of a run that didn't end as it was to.
use Rattle.std.specs.Prelude.{ℕ, Bool, true, false, ◌||◌, List, Option, None, Some, option_map, slice_get, if◌then◌else◌}
use Rattle.vdcp_auto.specs.declared.outcome.Outcome.{Outcome}
use Rattle.vdcp_auto.specs.declared.outcome.Outcome.TheVariants.{Done, Stopped, Lost, Denied, Missing, Refused, Foreign, Strange}
use Rattle.vdcp_auto.specs.declared.phase.Mode.{Mode}
use Rattle.vdcp_auto.specs.declared.phase.Mode.TheVariants.{Plain, Confirming}
use Rattle.vdcp_run.specs.Run.{journal_left, name_of, told_outcome}
use Rattle.vdcp_run.specs.declared.advice.Advice.{Advice}
use Rattle.vdcp_run.specs.declared.advice.Next.{Next}
use Rattle.vdcp_run.specs.declared.advice.Next.TheVariants.{Resume, Stay, OpenAgain, LoadedAgain, From, Loaded}
use Rattle.vdcp_run.specs.declared.advice.Reason.{Reason}
use Rattle.vdcp_run.specs.declared.advice.Reason.TheVariants as reasons
use Rattle.vdcp_run.specs.declared.run_end.LineEnd.{LineEnd}
use Rattle.vdcp_run.specs.declared.run_end.LineEnd.TheVariants as line_end
use Rattle.vdcp_run.specs.declared.run_end.RunEnd.{RunEnd}
use Rattle.vdcp_run.specs.declared.run_end.Signs.{Signs}
use Rattle.vdcp_run.specs.declared.run_end.Why.TheVariants as why
use Rattle.vdcp_run.specs.declared.settings.RunJournal.{RunJournal}
use Rattle.vdcp_run.specs.declared.settings.RunSettings.{RunSettings}
use Rattle.vdcp_value.specs.declared.clip_id.ClipId.{ClipId}
use Rattle.vdcp_value.specs.declared.part.Item.{Item}

-- after an end that wasn't wanted: the journal goes on, with the port opened again if the controller ended there; without a
-- journal the list goes on from the first event that isn't reported; a clip that the server doesn't have is loaded before
abbrev pub next_after : Option Outcome → Option RunJournal → ℕ → Option Next
next_after (Some Done) journal reported = None
next_after (Some Stopped) journal reported = None
next_after None None reported = Some (From reported)
next_after (Some Lost) None reported = Some (From reported)
next_after (Some Denied) None reported = Some (From reported)
next_after (Some (Missing k)) None reported = Some (Loaded reported)
next_after (Some (Refused k)) None reported = Some (From reported)
next_after (Some (Foreign k)) None reported = Some (From reported)
next_after (Some (Strange k)) None reported = Some (From reported)
next_after None (Some journal) reported = Some (Resume (name_of journal))
next_after (Some Lost) (Some journal) reported = Some (Resume (name_of journal))
next_after (Some Denied) (Some journal) reported = Some (OpenAgain (name_of journal))
next_after (Some (Missing k)) (Some journal) reported = Some (LoadedAgain (name_of journal) reported)
next_after (Some (Refused k)) (Some journal) reported = Some (OpenAgain (name_of journal))
next_after (Some (Foreign k)) (Some journal) reported = Some (OpenAgain (name_of journal))
next_after (Some (Strange k)) (Some journal) reported = Some (OpenAgain (name_of journal))

abbrev pub is_confirming : Mode → Bool
is_confirming Plain = false
is_confirming Confirming = true

-- what an outcome means: of a clip that the server doesn't have, if that is known; whether it was the cue that was refused (in
-- confirm mode no command is: the cue was lost again and again); and whether nothing was heard
abbrev pub reason_with : Mode → Signs → Option ClipId → Option Outcome → Option Reason
reason_with mode signs missing None = None
reason_with mode signs missing (Some Done) = None
reason_with mode signs missing (Some Stopped) = None
reason_with mode signs missing (Some Lost) = Some (if signs.heard then reasons.Lost else reasons.Unheard)
reason_with mode signs missing (Some Denied) = Some reasons.Denied
reason_with mode signs missing (Some (Missing k)) = option_map (reasons.Missing k) missing
reason_with mode signs missing (Some (Refused k)) =
    Some (if signs.cueing || is_confirming mode then reasons.RefusedCue k else reasons.Refused k)
reason_with mode signs missing (Some (Foreign k)) = Some (reasons.Foreign k)
reason_with mode signs missing (Some (Strange k)) = Some (reasons.Strange k)

-- nothing was heard of the server for as long as a run that stays tries, the port isn't open any more, or the next event is left out;
-- or what the outcome means
abbrev pub reason_by : Mode → LineEnd → RunEnd → Option Reason
reason_by mode (line_end.NotBegun why.GivenUp) end = Some reasons.Unreached
reason_by mode (line_end.NotBegun why.Unheard) end = Some reasons.Unreached
reason_by mode (line_end.NotBegun why.Unopened) end = Some reasons.Unopened
reason_by mode (line_end.LeftOut kept) end = Some (reasons.LeftOut end.reported)
reason_by mode line end = reason_with mode end.signs end.missing (told_outcome line end.outcome)

abbrev pub reason_of : Mode → RunEnd → Option Reason
reason_of mode end = reason_by mode end.line end

-- after an event that is left out a run goes on if it stays; a port that isn't open is opened again; else as the outcome says
abbrev pub next_by : LineEnd → Option Outcome → Option RunJournal → ℕ → Option Next
next_by (line_end.LeftOut kept) outcome (Some journal) reported = Some (Stay (name_of journal))
next_by (line_end.NotBegun why.Unopened) outcome journal reported = next_after (Some Denied) journal reported
next_by line outcome journal reported = next_after (told_outcome line outcome) journal reported

abbrev pub advice_of : Option Reason → Option Next → Option Advice
advice_of reason None = None
advice_of reason (Some next) = Some (record { reason = reason; next = next })

abbrev pub advice_after : RunSettings → RunEnd → Option Advice
advice_after settings end = advice_of (reason_of settings.mode end)
    (next_by end.line end.outcome (journal_left end.unkept settings.journal) end.reported)

-- the clip that the server doesn't have, if that ended the controller of these items
abbrev pub missing_in : List Item → Option Outcome → Option ClipId
missing_in items (Some (Missing k)) = option_map (λ item. item.id) (slice_get items k)
missing_in items outcome = None
