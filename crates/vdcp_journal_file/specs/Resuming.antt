-- What goes on from a journal, and why nothing does.
use Rattle.std.specs.Borrow.{Bor}
use Rattle.std.specs.Prelude.{ℕ, ◌≡◌, ◌≢◌, ◌⊎◌, ◌+◌, ◌-◌, ◌≤◌, ◌<◌, ◌||◌, Bool, false, IsFalse, IsTrue, List, [], ◌∷◌, ◌++◌, Option, None, Some, Result, Ok, Err, drop, if◌then◌else◌, length, map, nat_lt}
use Rattle.vdcp_auto.specs.Law.{IsLawful}
use Rattle.vdcp_auto.specs.Plan.{Plan, View, plan_of}
use Rattle.vdcp_auto.specs.Snapshots.{CanStand, view_of}
use Rattle.vdcp_auto.specs.State.{State}
use Rattle.vdcp_auto.specs.Turn.{awaited, outcome_of, start}
use Rattle.vdcp_auto.specs.declared.list_call.ListCall.{ListCall}
use Rattle.vdcp_auto.specs.declared.snapshot.Snapshot.{Snapshot}
use Rattle.vdcp_auto.specs.declared.outcome.Outcome.{Outcome}
use Rattle.vdcp_auto.specs.declared.outcome.Outcome.TheVariants as outcome
use Rattle.vdcp_auto.specs.declared.outcome.Outcome.TheVariants.{Done, Stopped}
use Rattle.vdcp_journal.specs.Airings.{AreAirings, FoundSoFar as FoundOf, end_in, ended_by, may_have_played, settled_in, unsettled_event}
use Rattle.vdcp_journal.specs.RunsSoFar.{IsMadeBy, RunView}
use Rattle.vdcp_journal.specs.ListCalls.{list_calls}
use Rattle.vdcp_journal.specs.Mending.{last_note}
use Rattle.vdcp_journal.specs.Journals.{IsJournal, IsJournalFault, Journal}
use Rattle.vdcp_journal.specs.Resume.{AllStand, AreTold, IsResumeFault, after_rows, log_of, plan_after, timed_out}
use Rattle.vdcp_journal.specs.Runs.{Run, last_run, runs_of}
use Rattle.vdcp_journal.specs.Thinned.{heard_last, notes_in}
use Rattle.vdcp_journal.specs.declared.airings.Airing.{Airing}
use Rattle.vdcp_journal.specs.declared.faults.JournalReadFault.{JournalReadFault}
use Rattle.vdcp_journal.specs.declared.faults.JournalReadFault.TheVariants as unread
use Rattle.vdcp_journal.specs.declared.faults.JournalRowFault.{JournalRowFault}
use Rattle.vdcp_journal.specs.declared.faults.JournalRowFault.TheVariants as wrong
use Rattle.vdcp_journal.specs.declared.faults.ResumeFault.{ResumeFault}
use Rattle.vdcp_journal.specs.declared.faults.ResumeFault.TheVariants as refused
use Rattle.vdcp_journal.specs.declared.replay.Resumed.{Resumed}
use Rattle.vdcp_journal.specs.declared.row.Heading.{Heading}
use Rattle.vdcp_journal.specs.declared.row.Row.{Row}
use Rattle.vdcp_journal.specs.declared.row.Note.{Note}
use Rattle.vdcp_journal.specs.declared.row.Note.TheVariants as note
use Rattle.vdcp_list.specs.Rests.{FromEvent, items_left}
use Rattle.vdcp_list.specs.Rows.{FileBytes}
use Rattle.vdcp_journal_file.specs.Recording.{IsUnopened, IsUnwritten}
use Rattle.vdcp_journal_file.specs.declared.again.Beginning.{Beginning}
use Rattle.vdcp_journal_file.specs.declared.again.Beginning.TheVariants.{From, Left, Next}
use Rattle.vdcp_journal_file.specs.declared.reading.Refusal.{Refusal}
use Rattle.vdcp_journal_file.specs.declared.reading.FoundRun.{FoundRun}
use Rattle.vdcp_journal_file.specs.declared.reading.FoundRuns.{FoundRuns}
use Rattle.vdcp_journal_file.specs.declared.reading.LastRun.{LastRun}
use Rattle.vdcp_journal_file.specs.declared.reading.RunAirings.{RunAirings}
use Rattle.vdcp_journal_file.specs.declared.reading.Refusal.TheVariants as refusal
use Rattle.vdcp_text.specs.declared.failure.Failure.{Failure}
use Rattle.vdcp_text.specs.declared.failure.Failure.TheVariants as failures
use Rattle.vdcp_text.specs.declared.failure.JournalFault.{JournalFault}
use Rattle.vdcp_text.specs.declared.failure.JournalFault.TheVariants as fault
use Rattle.vdcp_value.specs.declared.part.Item.{Item}
use Rattle.vdcp_words.specs.declared.command.Command.{Command}

-- the plan of a controller that plays these items, by a journal's heading
abbrev pub plan_in : Heading → List Item → Plan
plan_in heading items = record {
  mode = heading.mode;
  list = items;
  port = heading.port;
  limit = heading.limit;
}

-- the plan with which one of a journal's runs of this list was begun: it plays the events from its first one on
abbrev pub plan_begun : Heading → List Item → Run → Plan
plan_begun heading items run = plan_in heading (drop run.from items)

-- the plan under which it goes on: wherever it was lost its limit was raised
abbrev pub plan_of_run : Heading → List Item → Run → Plan
plan_of_run heading items run = plan_after (plan_begun heading items run) run.rows

-- where a controller is after the rows, with the open exchange timed out
abbrev pub state_after : Plan → List Row → State
state_after plan rows = timed_out plan (after_rows plan start rows)

-- the command whose exchange is open after them
abbrev pub open_after : Plan → List Row → Option Command
open_after plan rows = awaited plan (after_rows plan start rows)

-- each row tells what a new controller of this plan does, and the one with this plan and state goes on from there. So its
-- log is the one that the rows show, with all that holds of a controller and its log
pub record IsResumed (plan : Plan) (rows : List Row) (plan' : Plan) (state : State) : Type 0 where
  pub told : AreTold plan start rows
  pub plan_is : plan' ≡ plan
  pub state_is : state ≡ state_after plan rows
  pub lawful : IsLawful plan state (log_of rows)

-- the last of the runs that the rows of a journal are of
abbrev pub IsLastRun : List Row → Run → Type 0
IsLastRun rows run = (before : List Run) × (runs_of rows ≡ before ++ run ∷ [])

-- the word of what is wrong with a row
abbrev pub row_fault : JournalRowFault → JournalFault
row_fault wrong.Fields = fault.Columns
row_fault wrong.Time = fault.Time
row_fault wrong.Word = fault.Word
row_fault wrong.Command = fault.Command
row_fault wrong.Reply = fault.Reply
row_fault wrong.Outcome = fault.Outcome
row_fault wrong.Detail = fault.Detail
row_fault wrong.Digest = fault.Digest
row_fault wrong.Mode = fault.Mode
row_fault wrong.Number = fault.Number
row_fault wrong.Event = fault.Event

-- the failure of a journal of this name that is refused so
abbrev pub failure_of : Bor (List ℕ) → Refusal → Failure
failure_of name (refusal.Row row fault) = failures.JournalRow name row fault
failure_of name refusal.Read = failures.Read name
failure_of name refusal.Memory = failures.Memory

-- why lines are no journal's
abbrev pub read_refusal : JournalReadFault → Refusal
read_refusal unread.Empty = refusal.Row 1 fault.Empty
read_refusal (unread.Heading wrong) = refusal.Row 1 (row_fault wrong)
read_refusal (unread.Row row wrong) = refusal.Row row (row_fault wrong)
read_refusal (unread.Long row) = refusal.Row row fault.Long
read_refusal unread.Memory = refusal.Memory
read_refusal unread.Device = refusal.Read

-- the word of what is wrong with a row that doesn't stand where it is
abbrev pub standing_fault : ResumeFault → JournalFault
standing_fault refused.Command = fault.Command
standing_fault refused.Unawaited = fault.Unawaited
standing_fault refused.Outcome = fault.Outcome

-- where a heading differs first from the one that is wanted
abbrev pub Differs : Heading → Heading → JournalFault → Type 0
Differs found wanted fault.List = found.digest ≢ wanted.digest
Differs found wanted fault.Mode = (found.digest ≡ wanted.digest) × (found.mode ≢ wanted.mode)
Differs found wanted fault.Unit =
    (found.digest ≡ wanted.digest) × (found.mode ≡ wanted.mode) × (found.unit ≢ wanted.unit)
Differs found wanted fault.Port =
    (found.digest ≡ wanted.digest) × (found.mode ≡ wanted.mode) × (found.unit ≡ wanted.unit)
    × (found.port ≢ wanted.port)
Differs found wanted fault.Limit =
    (found.digest ≡ wanted.digest) × (found.mode ≡ wanted.mode) × (found.unit ≡ wanted.unit)
    × (found.port ≡ wanted.port) × (found.limit ≢ wanted.limit)
Differs found wanted _ = ⊥

-- why a run of a journal is none of these items: it begins with no event of them, or a row doesn't stand where it is. The
-- heading is row 1, and the row that begins the run stands before its others
pub data IsRunRefused (items : List Item) (heading : Heading) (run : Run) (why : Refusal) : Type 0 where
  no_event : length items < run.from → why ≡ refusal.Row (run.begin + 1) fault.Event
      → IsRunRefused items heading run why
  falls : (k : ℕ) (wrong : ResumeFault) → IsResumeFault (plan_begun heading items run) run.rows k wrong
      → why ≡ refusal.Row (run.begin + k + 2) (standing_fault wrong) → IsRunRefused items heading run why

-- why whole lines are no journal of what is wanted, whose last run goes on with these items
pub data IsRefused (items : List Item) (wanted : Heading) (lines : FileBytes) (why : Refusal) : Type 0 where
  no_journal : (wrong : JournalReadFault) → IsJournalFault lines wrong → why ≡ read_refusal wrong
      → IsRefused items wanted lines why
  of_other : (journal : Journal) → IsJournal lines journal → (differs : JournalFault)
      → Differs journal.heading wanted differs → why ≡ refusal.Row 1 differs → IsRefused items wanted lines why
  bad_run : (journal : Journal) → IsJournal lines journal → (run : Run) → IsLastRun journal.rows run
      → IsRunRefused items wanted run why → IsRefused items wanted lines why
  no_memory : why ≡ refusal.Memory → IsRefused items wanted lines why

-- the whole lines are a journal of what is wanted, this is its last run, and the controller with this plan and state goes on
-- from there
pub record IsReplayed (items : List Item) (wanted : Heading) (lines : FileBytes) (run : Run) (plan : Plan) (state : State)
    : Type 0 where
  pub journal : Journal
  pub reads : IsJournal lines journal
  pub wanted_is : journal.heading ≡ wanted
  pub last : IsLastRun journal.rows run
  pub within : run.from ≤ length items
  pub stand : AllStand (plan_begun wanted items run) run.rows
  pub resumes : IsResumed (plan_of_run wanted items run) run.rows plan state

-- a run of a journal of what is wanted goes on with this list: with this controller, this command whose exchange was open,
-- and this event that may have aired besides
pub record IsRunOn {S : Type 0} (items : S → List Item) (wanted : Heading) (list : List Item) (run : Run)
    (controller : View (FromEvent S)) (asked : Option Command) (unsettled : Option ℕ) : Type 0 where
  pub within : run.from ≤ length list
  pub stand : AllStand (plan_begun wanted list run) run.rows
  pub resumes : IsResumed (plan_of_run wanted list run) run.rows (plan_of (items_left items) controller) controller.state
  pub list_is : items controller.source.source ≡ list
  pub from_is : controller.source.from ≡ run.from
  pub asked_is : asked ≡ open_after (plan_of_run wanted list run) run.rows
  pub unsettled_is : unsettled ≡ unsettled_event wanted.mode run

-- so the controller of these rows stood before the exchange that is open was timed out
pub record HasStood {S : Type 0} (items : S → List Item) (plan : Plan) (rows : List Row) (controller : View S)
    (stood : Snapshot) : Type 0 where
  pub is : view_of controller.source stood ≡ record controller { state = after_rows plan start rows }
  pub can_stand : CanStand (length (items controller.source)) stood

-- a run that began with event `from` has this last note: it ended with an event missing or refused, and the next run
-- begins behind that one
abbrev pub is_passed_over : (from next : ℕ) → Option Note → Bool
is_passed_over from next (Some (note.End (outcome.Missing k))) = nat_lt k (next - from)
is_passed_over from next (Some (note.End (outcome.Refused k))) = nat_lt k (next - from)
is_passed_over from next last = false

-- what is on air when a run ends plays on in the next one: its operator left it, or it passes over the event with which it ended
abbrev pub plays_on : Run → (next : ℕ) → Bool
plays_on run next = run.left || is_passed_over run.from next (last_note run.rows)

-- the rows behind a run, in these runs after it, over which that plays on
abbrev pub rows_behind : Run → List Run → List Row
rows_behind run [] = []
rows_behind run (next ∷ runs) = if plays_on run next.from then next.rows ++ rows_behind next runs else []

-- the rows of a run of a journal of these items are those of a controller, which reports no more than there is
pub record RunStands (items : List Item) (heading : Heading) (run : Run) : Type 0 where
  pub within : run.from + settled_in heading.mode run.rows ≤ length items
  pub stand : AllStand (plan_begun heading items run) run.rows
  pub told : AreTold (plan_of_run heading items run) start run.rows
  pub lawful : IsLawful (plan_of_run heading items run) (state_after (plan_of_run heading items run) run.rows)
      (log_of run.rows)

-- this is the first event that it doesn't report, and it ended so; or it is refused
abbrev pub EndsSo : List Item → Heading → Run → Result (ℕ × Option Outcome) Refusal → Type 0
EndsSo items heading run (Ok (first, outcome)) = RunStands items heading run
    × (first ≡ run.from + settled_in heading.mode run.rows)
    × (outcome ≡ outcome_of (state_after (plan_of_run heading items run) run.rows).stage)
EndsSo items heading run (Err why) = IsRunRefused items heading run why

-- so many events aired in a run from its first on, at these times, and this one may have aired besides; and where its own
-- rows show no end, this row behind them does, if there is one
pub record RunShows (items : List Item) (heading : Heading) (run : Run) (end : Option Row) (shown : RunAirings) : Type 0 where
  pub begin_is : shown.begin ≡ run.begin + 1
  pub from_is : shown.from ≡ run.from
  pub own : List Airing
  pub are : AreAirings heading.mode run.rows own
  pub airings_are : shown.airings.items ≡ map (ended_by end) own
  pub besides : shown.unsettled ≡ unsettled_event heading.mode run
  pub left_is : shown.left ≡ run.left
  pub last_is : shown.last ≡ last_note run.rows
  pub first_end_is : shown.first_end ≡ end_in run.rows
  pub ends_so : EndsSo items heading run shown.ended

-- that of each of these runs, by what is to be said of the rows behind it
abbrev pub EachShows : (Run → List Run → Option Row) → List Item → Heading → List Run → List RunAirings → Type 0
EachShows end items heading [] [] = Unit {0}
EachShows end items heading [] (first ∷ shown) = ⊥
EachShows end items heading (run ∷ runs) [] = ⊥
EachShows end items heading (run ∷ runs) (first ∷ shown) =
    RunShows items heading run (end run runs) first × EachShows end items heading runs shown

-- each by its own rows alone
abbrev pub EachShowsAlone : List Item → Heading → List Run → List RunAirings → Type 0
EachShowsAlone = EachShows (λ run runs. None)

-- and each with the end of what it left on air
abbrev pub RunsShow : List Item → Heading → List Run → List RunAirings → Type 0
RunsShow = EachShows (λ run runs. end_in (rows_behind run runs))

-- the event with which the first of these runs begins, if there is one
abbrev pub next_begin : List Run → Option ℕ
next_begin [] = None
next_begin (run ∷ runs) = Some run.from

-- the whole lines are a journal, whose runs show this of these items, and whose rows say this of the list
pub record JournalShows (items : List Item) (heading : Heading) (lines : FileBytes) (shown : List RunAirings)
    (calls : List ListCall) : Type 0 where
  pub journal : Journal
  pub reads : IsJournal lines journal
  pub show : RunsShow items heading (runs_of journal.rows) shown
  pub calls_are : calls ≡ list_calls journal.rows

-- the last run of a journal of what is wanted, which has these whole lines, goes on so, and stood so before; this is the
-- journal's last note, and what ended the last exchange, if since then at the most the state was asked; and so much is shown
-- by its runs, and said of the list by its rows
pub record Continues {S : Type 0} (items : Bor S → List Item) (wanted : Heading) (list : List Item) (lines : FileBytes)
    (r : LastRun S) : Type 0 where
  pub journal : Journal
  pub reads : IsJournal lines journal
  pub wanted_is : journal.heading ≡ wanted
  pub run : Run
  pub last : IsLastRun journal.rows run
  pub on : IsRunOn items wanted list run r.controller r.«open» r.unsettled
  pub has_stood : HasStood (items_left items) (plan_of_run wanted list run) run.rows r.controller r.stood
  pub noted_is : r.last_note ≡ last_note journal.rows
  pub heard_is : r.heard ≡ heard_last (notes_in journal.rows)
  pub show : RunsShow list wanted (runs_of journal.rows) r.runs.items
  pub calls_are : r.calls.items ≡ list_calls journal.rows

-- a journal's heading differs from the one that is wanted, and it is refused so
abbrev pub IsOther : Heading → Heading → Refusal → Type 0
IsOther found wanted why = (differs : JournalFault) × Differs found wanted differs × (why ≡ refusal.Row 1 differs)

-- a run of a journal of this list is made of its rows so far, or refused
abbrev pub IsMadeOrRefused : {S : Type 0} → (S → List Item) → Heading → List Item → Run → Result (RunView (FromEvent S)) Refusal
    → Type 0
IsMadeOrRefused {S} items heading list run (Ok made) = (run.from ≤ length list) × (source : S)
    × (items source ≡ list) × IsMadeBy (items_left items) (plan_begun heading list run) (record { source = source; from = run.from }) run.rows made
IsMadeOrRefused items heading list run (Err why) = IsRunRefused list heading run why

-- what is made of a run's rows so far
pub record FoundSoFar {S : Type 0} (items : Bor S → List Item) (heading : Heading) (list : List Item) (run : Run)
    (found : FoundRun S) : Type 0 where
  pub begin_is : found.begin ≡ run.begin + 1
  pub from_is : found.from ≡ run.from
  pub is : IsMadeOrRefused items heading list run found.made
  pub airings : FoundOf items heading.mode run.rows found.airings
  pub last_is : found.last ≡ last_note run.rows

-- its controller goes on so, or it is refused
abbrev pub GoesOnOrNot : {S : Type 0} → (S → List Item) → Heading → List Item → Run → (unsettled : Option ℕ)
    → Result (Resumed (FromEvent S)) Refusal → Type 0
GoesOnOrNot {S} items heading list run unsettled (Ok r) = IsRunOn items heading list run r.controller r.«open» unsettled
    × HasStood (items_left items) (plan_of_run heading list run) run.rows r.controller r.stood
GoesOnOrNot {S} items heading list run unsettled (Err why) = IsRunRefused list heading run why

-- the whole lines are a journal of this heading, and so much is found of it by controllers of one: what its runs show, what
-- its last run makes, and what its rows say of the list
pub record AreFound {S : Type 0} (items : Bor S → List Item) (heading read : Heading) (list : List Item) (lines : FileBytes)
    (found : FoundRuns S) : Type 0 where
  pub journal : Journal
  pub reads : IsJournal lines journal
  pub read_is : journal.heading ≡ read
  pub show : RunsShow list heading (runs_of journal.rows) found.runs.items
  pub goes_on : GoesOnOrNot items heading list (last_run journal.rows) found.unsettled found.last
  pub noted_is : found.last_note ≡ last_note journal.rows
  pub heard_is : found.heard ≡ heard_last (notes_in journal.rows)
  pub calls_are : found.calls.items ≡ list_calls journal.rows

-- why the file of this name isn't read
abbrev pub IsUnread : Bor (List ℕ) → Failure → Type 0
IsUnread name failure = (failure ≡ failures.Read name) ⊎ (failure ≡ failures.Memory)

-- why nothing goes on from the journal of this name: its file can't be had, read or written, or it is refused
pub data IsUnresumed (items : List Item) (name : Bor (List ℕ)) (wanted : Heading) (failure : Failure) : Type 0 where
  no_file : IsUnopened name failure → IsUnresumed items name wanted failure
  not_read : IsUnread name failure → IsUnresumed items name wanted failure
  kept : IsUnwritten name failure → IsUnresumed items name wanted failure
  bad : (lines : FileBytes) (why : Refusal) → IsRefused items wanted lines why → failure ≡ failure_of name why
      → IsUnresumed items name wanted failure

-- ---- a journal that is opened again

-- the first event that a run doesn't report, by its number in the list
abbrev pub next_event : Heading → Run → ℕ
next_event heading run = run.from + settled_in heading.mode run.rows

-- that event may have aired
abbrev pub next_may_have_aired : Heading → Run → Bool
next_may_have_aired heading run = may_have_played heading.mode run

-- the event that the operator says, if one is said
abbrev pub said_event : Beginning → Option ℕ
said_event Next = None
said_event (From k) = Some k
said_event (Left k) = Some k

-- the note with which a run begins so, at this event
abbrev pub beginning_note : Beginning → ℕ → Note
beginning_note (Left k) from = note.Left from
beginning_note beginning from = note.From from

-- the event with which a controller begins after a run: the one that the operator says, or else the first that the run
-- doesn't report, which can't have aired
abbrev pub BeginsAfter : Heading → Run → Option ℕ → ℕ → Type 0
BeginsAfter heading run (Some word) from = from ≡ word
BeginsAfter heading run None from = (from ≡ next_event heading run) × IsFalse (next_may_have_aired heading run)

-- why no controller begins after a run
pub data IsNoBeginning (items : List Item) (heading : Heading) (run : Run) (word : Option ℕ) (failure : Failure)
    : Type 0 where
  may_have : word ≡ None → IsTrue (next_may_have_aired heading run) → failure ≡ failures.MayHaveAired (next_event heading run)
      → IsNoBeginning items heading run word failure
  not_listed : (k : ℕ) → word ≡ Some k → length items < k → failure ≡ failures.NoEvent k
      → IsNoBeginning items heading run word failure

-- a run came to its end, and nothing is to be sent after it
abbrev pub IsOver : Option Outcome → Type 0
IsOver outcome = (outcome ≡ Some Done) ⊎ (outcome ≡ Some Stopped)

-- after the last run of a journal of what is wanted, which has these whole lines, the controller with this plan and state
-- goes on, which plays the items from an event on: a new one; or, if that run is over and the operator says nothing, the
-- one of that run
pub data IsOpenedAfter (items : List Item) (wanted : Heading) (lines : FileBytes) (word : Option ℕ) (from : ℕ) (plan : Plan)
    (state : State) : Type 0 where
  begins : (run : Run) (ended : Plan) (end : State) → IsReplayed items wanted lines run ended end → from ≤ length items
      → BeginsAfter wanted run word from → plan ≡ plan_in wanted (drop from items) → state ≡ start
      → IsOpenedAfter items wanted lines word from plan state
  is_over : word ≡ None → (run : Run) → IsReplayed items wanted lines run plan state → from ≡ run.from
      → IsOver (outcome_of state.stage) → IsOpenedAfter items wanted lines word from plan state

-- it goes on so after some journal
abbrev pub IsOpenedAgain : List Item → Heading → Option ℕ → ℕ → Plan → State → Type 0
IsOpenedAgain items wanted word from plan state =
    (lines : FileBytes) × IsOpenedAfter items wanted lines word from plan state

-- why no controller begins after the last run of the journal of this name: nothing goes on from it, its next event may
-- have aired, or there is no event of the number that the operator says
pub data IsUnopenedAgain (items : List Item) (name : Bor (List ℕ)) (wanted : Heading) (word : Option ℕ) (failure : Failure)
    : Type 0 where
  unresumed : IsUnresumed items name wanted failure → IsUnopenedAgain items name wanted word failure
  unsettled : word ≡ None → (lines : FileBytes) (run : Run) (ended : Plan) (end : State)
      → IsReplayed items wanted lines run ended end → IsTrue (next_may_have_aired wanted run)
      → failure ≡ failures.MayHaveAired (next_event wanted run) → IsUnopenedAgain items name wanted word failure
  no_event : (k : ℕ) → word ≡ Some k → length items < k → failure ≡ failures.NoEvent k
      → IsUnopenedAgain items name wanted word failure
