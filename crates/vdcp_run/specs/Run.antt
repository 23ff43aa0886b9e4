-- How a run begins, tries again and ends.
use Rattle.std.specs.Borrow.{Bor}
use Rattle.std.specs.declared.fs.File.{File as StdFile}
use Rattle.std.specs.Option.{option_map}
use Rattle.std.specs.Prelude.{ℕ, ◌≡◌, ◌⊎◌, ◌+◌, ◌-◌, ◌*◌, ◌<◌, ◌≤◌, Bool, true, false, not, ◌&&◌, ◌||◌, is_some, min, nat_le, nat_lt, List, [], drop, length, take, Option, None, Some, unwrap_or, Result, Ok, Err, IfSome, IsSome, if◌then◌else◌}
use Rattle.vdcp_value.specs.declared.part.Item.{Item}
use Rattle.vdcp_value.specs.declared.rate.Rate.{Rate}
use Rattle.vdcp_auto.specs.Course.{Reached}
use Rattle.vdcp_auto.specs.Plan.{Plan, View}
use Rattle.vdcp_auto.specs.Turn as turns
use Rattle.vdcp_auto.specs.Turn.{outcome_of}
use Rattle.vdcp_auto.specs.declared.exchange.Exchange.{Exchange}
use Rattle.vdcp_auto.specs.declared.outcome.Outcome.{Outcome}
use Rattle.vdcp_auto.specs.declared.outcome.Outcome.TheVariants.{Done, Stopped, Lost, Denied, Missing, Refused, Foreign, Strange}
use Rattle.vdcp_auto.specs.declared.phase.Mode.{Mode}
use Rattle.vdcp_auto.specs.declared.phase.Mode.TheVariants.{Plain, Confirming}
use Rattle.vdcp_auto.specs.State.{State}
use Rattle.vdcp_auto.specs.declared.list_call.ListCall.{ListCall}
use Rattle.vdcp_drive.specs.declared.hearing.Hearing.{Hearing}
use Rattle.vdcp_drive.specs.declared.hearing.Hearing.TheVariants as hears
use Rattle.vdcp_drive.specs.declared.line.Ran.TheVariants as ran
use Rattle.vdcp_text.specs.declared.failure.Failure.{Failure}
use Rattle.vdcp_text.specs.declared.failure.Failure.TheVariants as failures
use Rattle.vdcp_files.specs.Files.{File, bytes_of}
use Rattle.vdcp_journal.specs.declared.row.Heading.{Heading}
use Rattle.vdcp_journal.specs.declared.row.Note.TheVariants as note
use Rattle.vdcp_journal.specs.Runs.{Run}
use Rattle.vdcp_list.specs.Asrun.{events_text, has_part}
use Rattle.vdcp_list.specs.Playlists.{IsListOf}
use Rattle.vdcp_list.specs.Rests.{FromEvent}
use Rattle.vdcp_list.specs.Rows.{FileBytes}
use Rattle.vdcp_journal_file.specs.Recording.{BeganWith, IsTimedOut, IsUnbegun, Recording}
use Rattle.vdcp_journal_file.specs.Resuming.{beginning_note, IsOpenedAgain, IsReplayed, IsUnopenedAgain, IsUnresumed, JournalShows, next_event, open_after, plan_of_run}
use Rattle.vdcp_journal_file.specs.Showing.{IsAsrunOf, digest_of}
use Rattle.vdcp_journal_file.specs.declared.again.Beginning.{Beginning}
use Rattle.vdcp_journal_file.specs.declared.again.Beginning.TheVariants as beginnings
use Rattle.vdcp_journal_file.specs.declared.pending.RecordFault.{RecordFault}
use Rattle.vdcp_journal_file.specs.declared.pending.RecordFault.TheVariants as records
use Rattle.vdcp_journal_file.specs.declared.reading.RunAirings.{RunAirings}
use Rattle.vdcp_operator.specs.OnList.{list_by, sparing_each}
use Rattle.vdcp_operator.specs.declared.on_list.OnList.{OnList}
use Rattle.vdcp_run.specs.Asking.{Start}
use Rattle.vdcp_run.specs.Ends.{is_unplayable}
use Rattle.vdcp_run.specs.Session.{HasSession}
use Rattle.vdcp_run.specs.declared.lack.Lack.{Lack}
use Rattle.vdcp_run.specs.declared.place.Apart.{Apart}
use Rattle.vdcp_run.specs.declared.settings.RunJournal.{RunJournal}
use Rattle.vdcp_run.specs.declared.settings.RunJournal.TheVariants as journals
use Rattle.vdcp_run.specs.declared.run_end.LineEnd.{LineEnd}
use Rattle.vdcp_run.specs.declared.run_end.LineEnd.TheVariants as line_end
use Rattle.vdcp_run.specs.declared.run_end.RunEnd.{RunEnd}
use Rattle.vdcp_run.specs.declared.run_end.Signs.{Signs}
use Rattle.vdcp_run.specs.declared.run_end.Why.TheVariants as why
use Rattle.vdcp_run.specs.declared.saved.SavedText.{SavedText}
use Rattle.vdcp_run.specs.declared.settings.RunSettings.{RunSettings}
use Rattle.vdcp_run.specs.declared.settings.Staying.{Staying}
use Rattle.vdcp_run.specs.declared.settings.Unsure.{Unsure}
use Rattle.vdcp_run.specs.declared.settings.Unsure.TheVariants as unsure
use Rattle.vdcp_wire.specs.Streams.{Streamed}

-- what the controller is made with for these items
abbrev pub plan_for : RunSettings → List Item → Plan
plan_for settings items = record {
  mode = settings.mode;
  list = items;
  port = settings.port;
  limit = settings.limit;
}

-- the event that a new controller begins with: the one that is named, or else the list's first
abbrev pub first_event : Option ℕ → ℕ
first_event from = unwrap_or from 0

-- the new controller of a list
abbrev pub new_controller : {S : Type 0} → RunSettings → S → View (FromEvent S)
new_controller settings source = turns.new_controller (record { source = source; from = first_event settings.from })
    settings.mode settings.port settings.limit

-- ---- how the line ended

-- the failure to report of the line itself; a journal that failed is reported by its own
abbrev pub line_failure : LineEnd → Option Failure
line_failure (line_end.Ran ran.Ended) = None
line_failure (line_end.Ran ran.Closed) = Some failures.LineClosed
line_failure (line_end.Ran ran.Spent) = Some failures.Spent
line_failure line_end.Failed = Some failures.LineFailed
line_failure line_end.Unkept = None
line_failure (line_end.NotBegun why.Occupied) = Some failures.NotEmpty
line_failure (line_end.NotBegun why.Unanswered) = None
line_failure (line_end.NotBegun why.Stopped) = None
line_failure (line_end.NotBegun why.Unopened) = None
line_failure (line_end.NotBegun why.GivenUp) = Some failures.Connect
line_failure (line_end.NotBegun why.Unheard) = Some failures.Unanswered
line_failure (line_end.LeftOut kept) = Some failures.Spent

-- how the run ended, as it is told: a port that didn't answer its questions, or not for too long, or isn't open any more, is lost, and
-- a run that the operator stopped without a command is stopped
abbrev pub told_outcome : LineEnd → Option Outcome → Option Outcome
told_outcome (line_end.NotBegun why.Unanswered) outcome = Some Lost
told_outcome (line_end.NotBegun why.Unopened) outcome = Some Lost
told_outcome (line_end.NotBegun why.GivenUp) outcome = Some Lost
told_outcome (line_end.NotBegun why.Unheard) outcome = Some Lost
told_outcome (line_end.NotBegun why.Stopped) outcome = Some Stopped
told_outcome line outcome = outcome

-- ---- a run that stays

-- the name of a journal's file
abbrev pub name_of : RunJournal → Bor (List ℕ)
name_of (journals.New name) = name
name_of (journals.Older name) = name
name_of (journals.Again name) = name
name_of (journals.Left name) = name

-- it ended by its line: the controller was lost, or else the line closed or failed before that had ended
abbrev pub is_by_line : LineEnd → Option Outcome → Bool
is_by_line (line_end.NotBegun why.GivenUp) outcome = false
is_by_line (line_end.NotBegun why.Unheard) outcome = false
is_by_line line (Some Lost) = true
is_by_line (line_end.Ran ran.Closed) None = true
is_by_line line_end.Failed None = true
is_by_line line outcome = false

-- how many turns are left to a run that tries again: a connection takes one at least
abbrev pub turns_left : RunSettings → RunEnd → ℕ
turns_left settings end = min end.left (settings.listens - 1)

-- the controller was refused, or what asked before: by NAK 01, or by a port that is denied
abbrev pub is_refused : LineEnd → Option Outcome → Bool
is_refused (line_end.NotBegun why.Unopened) outcome = true
is_refused (line_end.Ran ran.Ended) (Some Denied) = true
is_refused (line_end.Ran ran.Ended) (Some (Refused k)) = true
is_refused line outcome = false

-- the controller was lost, and nothing was unanswered: it had ended so before
abbrev pub is_lost : LineEnd → Signs → Option Outcome → Bool
is_lost (line_end.Ran ran.Ended) signs (Some Lost) = not signs.unanswered
is_lost line signs outcome = false

-- The run goes on no more from the journal's last rows. The server lost the port since: the run that goes on from them was refused,
-- and over its connection came only what a port answers that isn't open. Or their controller was lost for good.
abbrev pub has_lost_port : RunJournal → RunEnd → Bool
has_lost_port (journals.New name) end = false
has_lost_port (journals.Older name) end =
    end.signs.unopened && (is_refused end.line end.outcome || is_lost end.line end.signs end.outcome)
has_lost_port (journals.Again name) end = false
has_lost_port (journals.Left name) end = false

-- a run that stays, with these settings, may try again after this end: nobody stopped it, its journal is whole, and a turn is
-- left
abbrev pub may_try : RunSettings → RunEnd → Bool
may_try settings end =
    not end.signs.stopped && (not (is_some end.unkept) && nat_lt 0 (turns_left settings end))

-- the settings of a run that goes on from the journal that it has, with so many turns
abbrev pub going_on : RunSettings → RunJournal → ℕ → RunSettings
going_on settings journal left = record settings { journal = Some (journals.Older (name_of journal)); listens = left }

abbrev pub is_confirming : Mode → Bool
is_confirming Plain = false
is_confirming Confirming = true

-- and of one that begins anew after the journal's last run, with the first event that this doesn't report; in confirm mode only
-- if the port is empty, since what is cued there may air in place of that
abbrev pub beginning_anew : RunSettings → RunJournal → ℕ → RunSettings
beginning_anew settings journal left = record settings {
  ask = settings.ask || is_confirming settings.mode;
  journal = Some (journals.Again (name_of journal));
  from = None;
  listens = left;
}

-- the event of so many with which the list goes on behind one that is left out, if that is: by the operator, or since it
-- can't be played, if such events are skipped
abbrev pub behind_with : LineEnd → (skips : Bool) → (reported count : ℕ) → Option ℕ
behind_with (line_end.LeftOut kept) skips reported count = if nat_lt reported kept && nat_le kept count then Some kept else None
behind_with (line_end.Ran ran.Ended) skips reported count = if skips && nat_lt reported count then Some (reported + 1) else None
behind_with line skips reported count = None

abbrev pub behind_left_out : (skips : Bool) → Mode → (count : ℕ) → RunEnd → Option ℕ
behind_left_out skips mode count end =
    behind_with end.line (skips && is_unplayable mode end.signs end.outcome) end.reported count

-- the journal then: it says that the operator left the run, if it was so
abbrev pub journal_behind : LineEnd → RunJournal → RunJournal
journal_behind (line_end.LeftOut kept) journal = journals.Left (name_of journal)
journal_behind line journal = journals.Again (name_of journal)

-- and behind it, without asking the port, where the clip before may play
abbrev pub leaving_out : RunSettings → RunJournal → LineEnd → (first left : ℕ) → RunSettings
leaving_out settings journal line first left =
    record settings { ask = false; journal = Some (journal_behind line journal); from = Some first; listens = left }

-- the first begins with the next event after the loss of the port; the second goes on after an end by the line; the third begins
-- behind the next event, if it is left out
abbrev pub next_by : RunSettings → Staying → ℕ → RunJournal → RunEnd → Option RunSettings
next_by settings stay count journal end =
    if has_lost_port journal end then Some (beginning_anew settings journal (turns_left settings end))
    else (if is_by_line end.line (told_outcome end.line end.outcome)
    then Some (going_on settings journal (turns_left settings end))
    else option_map (λ first. leaving_out settings journal end.line first (turns_left settings end))
    (behind_left_out stay.skip settings.mode count end))

abbrev pub later_by : RunSettings → ℕ → Option Staying → Option RunJournal → RunEnd → Option RunSettings
later_by settings count None journal end = None
later_by settings count (Some stay) None end = None
later_by settings count (Some stay) (Some journal) end =
    if may_try settings end then next_by settings stay count journal end else None

-- the settings with which it tries again, if it does, to play a list of so many events
abbrev pub later_of : RunSettings → ℕ → RunEnd → Option RunSettings
later_of settings count end = later_by settings count settings.stay settings.journal end

-- a run with this journal, which begins with this event, leaves out the one before
abbrev pub leaves_out : Option RunJournal → (from : Option ℕ) → Bool
leaves_out (Some (journals.Again name)) (Some first) = true
leaves_out (Some (journals.Left name)) (Some first) = true
leaves_out journal from = false

-- the next try goes on over the same line, if messages are heard at once: each command over it was answered, and an event is
-- left out
abbrev pub keeps_line_by : Hearing → (unanswered : Bool) → (later : Option RunSettings) → Bool
keeps_line_by hears.AtOnce false (Some later) = leaves_out later.journal later.from
keeps_line_by hearing unanswered later = false

abbrev pub keeps_line : RunSettings → ℕ → RunEnd → Bool
keeps_line settings count end = keeps_line_by settings.hearing end.signs.unanswered (later_of settings count end)

-- the run was left before an event that is left out, or has ended: no answer is awaited
abbrev pub IsAtRest : LineEnd → Type 0
IsAtRest (line_end.LeftOut kept) = Unit {0}
IsAtRest (line_end.Ran ran.Ended) = Unit {0}
IsAtRest line = ⊥

-- the wire that a try leaves to the next one
abbrev pub line_left : {W : Type 0} → (keeps : Bool) → Option W → Option W
line_left true last = last
line_left false last = None

-- the event with which no run begins, since it may have aired
abbrev pub unsure_event : Failure → Option ℕ
unsure_event (failures.MayHaveAired event) = Some event
unsure_event _ = None

-- a run begins behind such an event, or with it again, or not at all
abbrev pub first_once : Unsure → ℕ → Option ℕ
first_once unsure.LeaveOut event = Some (event + 1)
first_once unsure.Again event = Some event
first_once unsure.Stop event = None

-- a run that stays, of so many events, which leaves out one turn
abbrev pub once_unsure_by : RunSettings → ℕ → Option Staying → Option ℕ → Option RunSettings
once_unsure_by settings count None event = None
once_unsure_by settings count (Some stay) None = None
once_unsure_by settings count (Some stay) (Some event) = if nat_lt event count && nat_lt 1 settings.listens
    then option_map (λ first. record settings { from = Some first; listens = settings.listens - 1 }) (first_once stay.unsure event)
    else None

abbrev pub once_unsure : RunSettings → ℕ → Option ℕ → Option RunSettings
once_unsure settings count event = once_unsure_by settings count settings.stay event

-- a run that stays, and goes on in its journal, asks a port again that wasn't empty
abbrev pub once_occupied_by : RunSettings → Option Staying → Option RunJournal → Option RunSettings
once_occupied_by settings None journal = None
once_occupied_by settings (Some stay) None = None
once_occupied_by settings (Some stay) (Some (journals.New name)) = None
once_occupied_by settings (Some stay) (Some journal) =
    if nat_lt 1 settings.listens then Some (going_on settings journal (settings.listens - 1)) else None

abbrev pub once_occupied : RunSettings → Option RunSettings
once_occupied settings = once_occupied_by settings settings.stay settings.journal

-- the settings of the next try of a list of so many events
abbrev pub later_after : RunSettings → ℕ → Result RunEnd Failure → Option RunSettings
later_after settings count (Ok end) = later_of settings count end
later_after settings count (Err failures.NotEmpty) = once_occupied settings
later_after settings count (Err failure) = once_unsure settings count (unsure_event failure)

-- since this moment nothing was heard for so many seconds, by a stopwatch; that is never so without a number
abbrev pub IsSilentFor : Option ℕ → (since now : ℕ) → Type 0
IsSilentFor None since now = ⊥
IsSilentFor (Some seconds) since now = seconds * 1000000000 ≤ now - since

-- ---- the as-run file

-- why a file of this name hasn't got the as-run list, if it hasn't: it can't be made or written, or memory was refused
abbrev pub IsUnwritten : Bor (List ℕ) → Failure → Type 0
IsUnwritten name failure = (failure ≡ failures.Open name)
    ⊎ ((failure ≡ failures.Write name) ⊎ (failure ≡ failures.Memory))

-- why there is no list for the file: memory was refused, or the journal that goes on is
abbrev pub IsUnlisted : Option RunJournal → Failure → Type 0
IsUnlisted None failure = failure ≡ failures.Memory
IsUnlisted (Some (journals.New name)) failure = failure ≡ failures.Memory
IsUnlisted (Some (journals.Older name)) failure = Unit {0}
IsUnlisted (Some (journals.Again name)) failure = Unit {0}
IsUnlisted (Some (journals.Left name)) failure = Unit {0}

-- this value shows that the file of this name, if there is one, isn't this other file
abbrev pub IsApart : Option (Bor (List ℕ)) → Bor (List ℕ) → Apart → Type 0
IsApart name other apart = (apart.name ≡ name) × (apart.other ≡ other)

-- it is a file that has to stay, or can't have its list
abbrev pub IsPlaceRefused : Option (Bor (List ℕ)) → Failure → Type 0
IsPlaceRefused None failure = ⊥
IsPlaceRefused (Some name) failure = (failure ≡ failures.Exists name) ⊎ IsUnwritten name failure

-- the text of the list: the events of these items from one to before another, with their numbers
abbrev pub reported_text : Rate → List Item → (from reported : ℕ) → List ℕ
reported_text rate items from reported =
    events_text rate (has_part items) from (take (reported - from) (drop from items))

-- the text that the file gets of a run that reported them: if a journal goes on, all that some journal of these items shows
abbrev pub IsListed : Rate → Option RunJournal → List Item → (from reported : ℕ) → List ℕ → Type 0
IsListed rate None items from reported text = text ≡ reported_text rate items from reported
IsListed rate (Some (journals.New name)) items from reported text = text ≡ reported_text rate items from reported
IsListed rate (Some (journals.Older name)) items from reported text = IsAsrunOf rate items text
IsListed rate (Some (journals.Again name)) items from reported text = IsAsrunOf rate items text
IsListed rate (Some (journals.Left name)) items from reported text = IsAsrunOf rate items text

-- the file of this name has this text
abbrev pub IsSaved : Bor (List ℕ) → List ℕ → SavedText → Type 0
IsSaved name text saved = (saved.name ≡ name) × (saved.text.items ≡ text)

-- the file of this name, if one is wanted, has its list, or there is a failure
abbrev pub IsAsrunMade : Rate → Option RunJournal → List Item → (from reported : ℕ) → Option (Bor (List ℕ))
    → Option (Result SavedText Failure) → Type 0
IsAsrunMade rate journal items from reported None made = made ≡ None
IsAsrunMade rate journal items from reported (Some name) None = ⊥
IsAsrunMade rate journal items from reported (Some name) (Some (Ok saved)) =
    (saved.name ≡ name) × IsListed rate journal items from reported saved.text.items
IsAsrunMade rate journal items from reported (Some name) (Some (Err failure)) =
    IsUnwritten name failure ⊎ IsUnlisted journal failure

-- the name of the file that is wanted once the line ended so: none if the port isn't empty
abbrev pub wanted_after : LineEnd → Option (Bor (List ℕ)) → Option (Bor (List ℕ))
wanted_after (line_end.NotBegun why.Occupied) name = None
wanted_after line name = name

-- none before a run tries again
abbrev pub wanted_unless : Option RunSettings → Option (Bor (List ℕ)) → Option (Bor (List ℕ))
wanted_unless None name = name
wanted_unless (Some later) name = None

-- so it is after a run of these items
abbrev pub HasAsrun : RunSettings → List Item → RunEnd → Type 0
HasAsrun settings items end = IsAsrunMade settings.rate settings.journal items end.from end.reported
    (wanted_unless (later_of settings (length items) end) (wanted_after end.line settings.asrun)) end.asrun

abbrev pub asrun_failure : Option (Result SavedText Failure) → Option Failure
asrun_failure None = None
asrun_failure (Some (Ok saved)) = None
asrun_failure (Some (Err failure)) = Some failure

-- ---- the journal

-- what a journal of these items is of
abbrev pub heading_for : RunSettings → List Item → Heading
heading_for settings items = record {
  digest = digest_of settings.rate items;
  mode = settings.mode;
  unit = settings.unit;
  port = settings.port;
  limit = settings.limit;
}

-- why the journal can't be kept, of a run that plays these items
abbrev pub IsJournalRefused : RunSettings → List Item → RunJournal → Failure → Type 0
IsJournalRefused settings items (journals.New name) failure = IsUnbegun name failure
IsJournalRefused settings items (journals.Older name) failure =
    IsUnresumed items name (heading_for settings items) failure
IsJournalRefused settings items journal failure =
    IsUnopenedAgain items (name_of journal) (heading_for settings items) settings.from failure

-- why a run of these items isn't begun with this journal, if it has one: that can't be kept, or the as-run list can't be
abbrev pub IsUnkept : RunSettings → List Item → Option RunJournal → Failure → Type 0
IsUnkept settings items None failure = ⊥
IsUnkept settings items (Some journal) failure =
    (failure ≡ failures.Memory) ⊎ (IsJournalRefused settings items journal failure
    ⊎ IsPlaceRefused settings.asrun failure)

-- the one that isn't kept of a session that came to this: a new one, if the list wasn't begun
abbrev pub unbegun_journal : Result RunEnd Failure → Option RunJournal → Option (Bor (List ℕ))
unbegun_journal (Ok end) journal = None
unbegun_journal (Err failure) None = None
unbegun_journal (Err failure) (Some (journals.New name)) = Some name
unbegun_journal (Err failure) (Some (journals.Older name)) = None
unbegun_journal (Err failure) (Some (journals.Again name)) = None
unbegun_journal (Err failure) (Some (journals.Left name)) = None

-- the journal that a run goes on from: that which it had, unless that isn't where it was
abbrev pub journal_after : RecordFault → Option RunJournal → Option RunJournal
journal_after records.Device journal = journal
journal_after records.Memory journal = journal
journal_after records.Replaced journal = None

abbrev pub journal_left : Option Lack → Option RunJournal → Option RunJournal
journal_left None journal = journal
journal_left (Some lack) journal = journal_after lack.fault journal

-- ---- the exit status

abbrev pub outcome_status : Option Outcome → ℕ
outcome_status None = 3
outcome_status (Some Done) = 0
outcome_status (Some Stopped) = 0
outcome_status (Some Lost) = 3
outcome_status (Some Denied) = 1
outcome_status (Some (Missing k)) = 1
outcome_status (Some (Refused k)) = 1
outcome_status (Some (Foreign k)) = 1
outcome_status (Some (Strange k)) = 1

-- 3 if there is a failure
abbrev pub status_unless : {A : Type 0} → Option A → ℕ → ℕ
status_unless None status = status
status_unless (Some wrong) status = 3

abbrev pub run_status : RunEnd → ℕ
run_status end =
    status_unless (asrun_failure end.asrun)
    (status_unless end.unkept (status_unless end.failed
    (status_unless (line_failure end.line) (outcome_status (told_outcome end.line end.outcome)))))

-- ---- the whole

-- A run begins so, with this recorder, if its controller hasn't ended: if the last run of some journal of these items
-- goes on, which is made with these settings, that nothing came is still to be written, if an exchange was open
pub record GoesOn {F : Type 0} (settings : RunSettings) (items : List Item) (start : Start) (recorder : Option (Recording F))
    : Type 0 where
  pub lines : FileBytes
  pub run : Run
  pub replayed : IsReplayed items (heading_for settings items) lines run start.plan start.state
  pub from_is : start.from ≡ run.from
  pub left : IfSome recorder
      (λ r. IsTimedOut (open_after (plan_of_run (heading_for settings items) items run) run.rows) r.pending)

-- how a new run begins in this journal: behind one that the operator left, or else with this event, if one is named
abbrev pub beginning_of : RunJournal → (from : Option ℕ) → Beginning
beginning_of (journals.Left name) (Some event) = beginnings.Left event
beginning_of journal (Some event) = beginnings.From event
beginning_of journal None = beginnings.Next

-- a new run begins in the journal, after its last one
abbrev pub IsAgain : RunJournal → Type 0
IsAgain (journals.New name) = ⊥
IsAgain (journals.Older name) = ⊥
IsAgain (journals.Again name) = Unit {0}
IsAgain (journals.Left name) = Unit {0}

-- if that is opened again, it begins with this event, and the journal says so
pub record BeginsAgain {F : Type 0} (settings : RunSettings) (items : List Item) (journal : RunJournal) (start : Start)
    (recorder : Option (Recording F)) : Type 0 where
  pub opened : IsOpenedAgain items (heading_for settings items) settings.from start.from start.plan start.state
  pub began : IfSome recorder (BeganWith (Some (beginning_note (beginning_of journal settings.from) start.from)))

-- a new controller of these items, with the event that is named, or else the first one
abbrev pub BeginsNew : RunSettings → List Item → Start → Type 0
BeginsNew settings items begun = (begun.from ≡ first_event settings.from)
    × (begun.plan ≡ plan_for settings (drop (first_event settings.from) items)) × (begun.state ≡ turns.start)

-- by the journal that the run has, if it has one
abbrev pub BeginsBy : {F : Type 0} → RunSettings → List Item → Option RunJournal → Start → Option (Recording F) → Type 0
BeginsBy settings items None begun recorder = BeginsNew settings items begun
BeginsBy settings items (Some (journals.New name)) begun recorder =
    BeginsNew settings items begun × IfSome recorder (BeganWith (option_map note.From settings.from))
BeginsBy settings items (Some (journals.Older name)) begun recorder = GoesOn settings items begun recorder
BeginsBy settings items (Some journal) begun recorder = BeginsAgain settings items journal begun recorder

-- so, with a controller that some calls led there, and that plays from an event of them on
pub record IsBegun {F : Type 0} (settings : RunSettings) (items : List Item) (journal : Option RunJournal) (start : Start)
    (recorder : Option (Recording F)) : Type 0 where
  pub begins : BeginsBy settings items journal start recorder
  pub within : start.from ≤ length items
  pub log : List Exchange
  pub reached : Reached start.plan start.state log

-- what keeps the exchanges of a run at this unit whose controller is in this state: the recorder of its journal, if it has
-- one, unless it has ended
abbrev pub HasRecorder : {F : Type 0} → ℕ → Option RunJournal → State → Option (Recording F) → Type 0
HasRecorder unit None state recorder = recorder ≡ None
HasRecorder unit (Some journal) state None = IsSome (outcome_of state.stage)
HasRecorder unit (Some journal) state (Some recorder) = (recorder.name ≡ name_of journal) × (recorder.unit ≡ unit)

-- The journal of a run of these items said this of the list before, call by call; a new one nothing.
abbrev pub SaysOfList : RunSettings → List Item → Option RunJournal → List ListCall → Type 0
SaysOfList settings items None calls = calls ≡ []
SaysOfList settings items (Some (journals.New name)) calls = calls ≡ []
SaysOfList settings items (Some journal) calls = (lines : FileBytes) × (runs : List RunAirings)
    × JournalShows items (heading_for settings items) lines runs calls

-- How a try of these items with these settings ended: a session played them from one on, over the wire that the try before left,
-- if it left one. If it has a journal, its controller begins as that says, and its exchanges were kept there. The operator's calls on
-- the list are those of the journal, but for the one that is wanted, and what the process heeded before. To the next
-- try it left this wire, if any.
pub record IsTried (Stream : Type 0) (settings : RunSettings) (items : List Item) (before : Option Streamed) (end : RunEnd)
    (left : Option Streamed) : Type 0 where
  pub start : Start
  pub recorder : Option (Recording StdFile)
  pub begun : IsBegun settings items settings.journal start recorder
  pub kept : HasRecorder settings.unit settings.journal start.state recorder
  pub last : Option Streamed
  pub calls : List ListCall
  pub said : SaysOfList settings items settings.journal calls
  pub heeded : OnList
  pub session : HasSession Stream (λ file. None) settings start (list_by (sparing_each settings.wanted calls) heeded) recorder before end
      last
  pub left_is : left ≡ line_left (keeps_line settings (length items) end) last
  pub asrun : HasAsrun settings items end

-- why a try of these items with these settings came to nothing: the journal can't be kept, or else nobody takes the
-- connection, or else the port isn't empty
pub data IsUntried (settings : RunSettings) (items : List Item) (failure : Failure) : Type 0 where
  not_kept : IsUnkept settings items settings.journal failure → IsUntried settings items failure
  unconnected : failure ≡ failures.Connect → IsUntried settings items failure
  occupied : failure ≡ failures.NotEmpty → IsUntried settings items failure

-- what a try came to, and the wire that it left
abbrev pub CameTo : (Stream : Type 0) → RunSettings → List Item → (before : Option Streamed) → Result RunEnd Failure → (left : Option Streamed) → Type 0
CameTo Stream settings items before (Ok end) left = IsTried Stream settings items before end left
CameTo Stream settings items before (Err failure) left = IsUntried settings items failure × (left ≡ None)

-- the run sends an event again that may have aired
abbrev pub SendsAgain : Option Staying → Type 0
SendsAgain None = ⊥
SendsAgain (Some stay) = stay.unsure ≡ unsure.Again

-- How a run begins anew in its journal after what a try came to. After an end it begins with the first event that this doesn't
-- report, which can't have aired (`BeginsAfter`), or behind it. After a refusal it begins behind the first event that the last
-- run of a journal of these items doesn't report, or with it, if it is to be sent again.
abbrev pub BeginsBehind : List Item → Result RunEnd Failure → RunSettings → Type 0
BeginsBehind items (Ok end) next = (next.from ≡ None) ⊎ ((first : ℕ) × (next.from ≡ Some first) × (end.reported < first))
BeginsBehind items (Err failure) next = (lines : FileBytes) × (run : Run) × (ended : Plan) × (end : State)
    × IsReplayed items (heading_for next items) lines run ended end
    × ((next.from ≡ Some (next_event (heading_for next items) run + 1))
    ⊎ (SendsAgain next.stay × (next.from ≡ Some (next_event (heading_for next items) run))))

-- with which settings and over which wire, if there is one yet, a run tries: with its own first, and then with those that follow
-- from what the last try came to, over the wire that it left
pub data IsTry (Stream : Type 0) (settings : RunSettings) (items : List Item) : RunSettings → Option Streamed → Type 0 where
  first : IsTry Stream settings items settings None
  later : {before next : RunSettings} {wire left : Option Streamed} → IsTry Stream settings items before wire
      → (end : Result RunEnd Failure) → CameTo Stream before items wire end left → later_after before (length items) end ≡ Some next
      → IsTry Stream settings items next left

-- this is the end of a try that it made with these settings
pub record EndsTry (Stream : Type 0) (settings : RunSettings) (items : List Item) (last : RunSettings) (end : RunEnd) : Type 0 where
  pub wire : Option Streamed
  pub tries : IsTry Stream settings items last wire
  pub left : Option Streamed
  pub tried : IsTried Stream last items wire end left

-- this is the end of one of its tries
abbrev pub IsEarlier : (Stream : Type 0) → RunSettings → List Item → RunEnd → Type 0
IsEarlier Stream settings items end = (with_settings : RunSettings) × EndsTry Stream settings items with_settings end

-- this is the end of its last try, after which it doesn't try again
pub record IsLastTry (Stream : Type 0) (settings : RunSettings) (items : List Item) (end : RunEnd) : Type 0 where
  pub last : RunSettings
  pub ends : EndsTry Stream settings items last end
  pub over : later_of last (length items) end ≡ None

-- the last of two ends, if there is one
abbrev pub latest_end : Result RunEnd Failure → (earlier : Option RunEnd) → Option RunEnd
latest_end (Ok end) earlier = Some end
latest_end (Err failure) earlier = earlier

-- Its last try came to nothing, and it doesn't try again. This is the end of one before, with the as-run file of its journal.
pub record CameToNothing (Stream : Type 0) (settings : RunSettings) (items : List Item) (failure : Failure) (end : RunEnd) : Type 0 where
  pub last : RunSettings
  pub wire : Option Streamed
  pub tries : IsTry Stream settings items last wire
  pub untried : IsUntried last items failure
  pub over : later_after last (length items) (Err failure) ≡ None
  pub before : RunEnd
  pub earlier : IsEarlier Stream settings items before
  pub end_is : end ≡ record before { asrun = end.asrun; failed = Some failure }
  pub asrun : IfSome last.journal (λ journal. IsAsrunMade last.rate (Some (journals.Again (name_of journal))) items end.from
      end.reported last.asrun end.asrun)

abbrev pub IsEndWith : (Stream : Type 0) → RunSettings → List Item → Option Failure → RunEnd → Type 0
IsEndWith Stream settings items None end = IsLastTry Stream settings items end
IsEndWith Stream settings items (Some failure) end = CameToNothing Stream settings items failure end

-- this is the run's end
abbrev pub IsEnd : (Stream : Type 0) → RunSettings → List Item → RunEnd → Type 0
IsEnd Stream settings items end = IsEndWith Stream settings items end.failed end

-- the file is a playlist, and this is the end of a controller that plays it, from an event on
pub record IsPlayed (Stream : Type 0) (settings : RunSettings) (list : File) (end : RunEnd) : Type 0 where
  pub items : List Item
  pub lists : IsListOf settings.rate (bytes_of list) items
  pub plays : IsEnd Stream settings items end

-- the list was played to its end, or until the operator stopped, and nothing failed
pub record IsRun (Stream : Type 0) (settings : RunSettings) (list : File) : Type 0 where
  pub end : RunEnd
  pub played : IsPlayed Stream settings list end
  pub whole : run_status end ≡ 0
