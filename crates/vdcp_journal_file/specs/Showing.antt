-- The as-run list that a journal shows.
use Rattle.csv.specs.Writing.{default_writer, row_text}
use Rattle.sha2.specs.Sha256.{sha256}
use Rattle.std.specs.Io.KnownBytes.{Appends, Keeps}
use Rattle.std.specs.List.{list_any}
use Rattle.std.specs.Prelude.{ℕ, zero, suc, ◌≡◌, ◌+◌, ◌-◌, ◌&&◌, ◌∷◌, ◌++◌, List, [], Option, None, Some, IfSome, Bool, false, true, codes, decimal, drop, if◌then◌else◌, length, map, min, nat_eq, nat_le, nat_lt, option_map, replicate, take}
use Rattle.vdcp_auto.specs.State.{State}
use Rattle.vdcp_auto.specs.Turn.{outcome_of}
use Rattle.vdcp_auto.specs.declared.list_call.ListCall.{ListCall}
use Rattle.vdcp_auto.specs.declared.list_call.ListCall.TheVariants.{Skip}
use Rattle.vdcp_auto.specs.declared.outcome.Outcome.{Outcome}
use Rattle.vdcp_auto.specs.declared.outcome.Outcome.TheVariants as outcome
use Rattle.vdcp_files.specs.Files.{File, bytes_of}
use Rattle.vdcp_journal.specs.Airings.{AreAirings, end_in, ended_by, settled_in, unsettled_event}
use Rattle.vdcp_journal.specs.Journals.{IsJournal, Journal}
use Rattle.vdcp_journal.specs.ListCalls.{list_calls}
use Rattle.vdcp_journal.specs.Reading.{whole_lines}
use Rattle.vdcp_journal.specs.Runs.{Run, runs_of}
use Rattle.vdcp_journal.specs.Times.{clocked_text, end_text, ended_text}
use Rattle.vdcp_journal.specs.declared.airings.Airing.{Airing}
use Rattle.vdcp_journal.specs.declared.row.Heading.{Heading}
use Rattle.vdcp_list.specs.Asrun.{asrun_text, events_text, has_part}
use Rattle.vdcp_list.specs.Playlists.{IsListOf}
use Rattle.vdcp_list.specs.Rows.{FileBytes}
use Rattle.vdcp_list.specs.Timed.{timed_heading, timed_rows, times_of}
use Rattle.vdcp_journal_file.specs.Resuming.{RunStands, next_begin, plan_of_run, rows_behind, state_after}
use Rattle.vdcp_journal_file.specs.Torn.{closed}
use Rattle.vdcp_journal_file.specs.declared.asrun.AsrunSettings.{AsrunSettings}
use Rattle.vdcp_journal_file.specs.declared.asrun.Shown.{Shown}
use Rattle.vdcp_journal_file.specs.declared.skipped.Skipped.{Skipped}
use Rattle.vdcp_journal_file.specs.declared.skipped.Skipped.TheVariants.{ByHand, Missing, Refused, Unsure}
use Rattle.vdcp_text.specs.Failure.{failure_line, status_of}
use Rattle.vdcp_text.specs.Text.{line}
use Rattle.vdcp_text.specs.declared.failure.Failure.{Failure}
use Rattle.vdcp_value.specs.declared.part.Item.{Item}
use Rattle.vdcp_value.specs.declared.rate.Rate.{Rate}

-- the digest of a list: of its as-run list, if all of it has aired
abbrev pub digest_of : Rate → List Item → List ℕ
digest_of rate items = sha256 (asrun_text rate items (length items))

-- the rows of the events that a run reports, from this one of the list on, plain or with the times of each event
abbrev pub reported_text : AsrunSettings → List Item → ℕ → ℕ → List Airing → List ℕ
reported_text settings items from reported airings =
    if settings.times
    then timed_rows (times_of (λ airing. clocked_text airing.played) (λ airing. clocked_text airing.known)
    (λ airing. ended_text airing.ended) (λ airing. end_text airing.ended)) settings.rate (has_part items) from (drop from items) airings
    else events_text settings.rate (has_part items) from (take reported (drop from items))

-- what the row of an event that was left out ends with
abbrev pub skipped_end : Skipped → List ℕ
skipped_end Missing = codes "skipped: missing"
skipped_end Refused = codes "skipped: refused"
skipped_end Unsure = codes "skipped: unsure"
skipped_end ByHand = codes "skipped: by hand"

-- the event that is unsure after a run, by its number in the list: the one that may have aired in it; or else the one that
-- was unsure before it, if the run begins with that one and reports nothing
abbrev pub left_unsure : (before : Option ℕ) → (from reported : ℕ) → (may_have_aired : Option ℕ) → Option ℕ
left_unsure before from reported (Some k) = Some (from + k)
left_unsure None from reported None = None
left_unsure (Some event) from reported None = if nat_eq reported 0 && nat_eq event from then Some event else None

-- that of a run of a journal, if this event is unsure before it
abbrev pub unsure_after : Heading → (before : Option ℕ) → Run → Option ℕ
unsure_after heading before run =
    left_unsure before run.from (settled_in heading.mode run.rows) (unsettled_event heading.mode run)

-- a call leaves out this event
abbrev pub leaves_out : ListCall → ℕ → Bool
leaves_out (Skip first end) event = nat_le first event && nat_lt event end
leaves_out c event = false

-- one of these calls does
abbrev pub is_left_out : List ListCall → ℕ → Bool
is_left_out calls event = list_any (λ c. leaves_out c event) calls

-- why the first event that a run doesn't report was left out: since it may have aired, or else since the operator said so, or
-- else since the run ended so, or else by hand
abbrev pub why_skipped : (unsure : Option ℕ) → (said : Bool) → Option Outcome → Skipped
why_skipped (Some event) said ended = Unsure
why_skipped None true ended = ByHand
why_skipped None false (Some (outcome.Missing event)) = Missing
why_skipped None false (Some (outcome.Refused event)) = Refused
why_skipped None false ended = ByHand

-- why each of so many events was left out: the first one for this reason, the others by hand
abbrev pub reasons : ℕ → Skipped → List Skipped
reasons zero first = []
reasons (suc n) first = first ∷ replicate n ByHand

-- with times, the rows of the events that were left out: from the first one that a run doesn't report up to the one with
-- which the next run begins, or the list's end; after the last run there are none
abbrev pub skipped_text : AsrunSettings → List Item → (next : Option ℕ) → (first : ℕ) → Skipped → List ℕ
skipped_text settings items None first why = []
skipped_text settings items (Some next) first why =
    if settings.times
    then timed_rows (times_of (λ skipped. []) (λ skipped. []) (λ skipped. []) skipped_end) settings.rate (has_part items) first
    (drop first items) (reasons (min next (length items) - first) why) else []

-- the rows of a run that begins with this event of the list, has come to this state, and leaves this event unsure, in a journal
-- that says this of the list: of what it reports, and then of what was left out
abbrev pub run_text : AsrunSettings → List Item → List ListCall → (next : Option ℕ) → (from : ℕ) → State → List Airing → Option ℕ
    → List ℕ
run_text settings items calls next from state airings unsure =
    reported_text settings items from state.settled airings
    ++ skipped_text settings items next (from + state.settled)
    (why_skipped unsure (is_left_out calls (from + state.settled)) (outcome_of state.stage))

-- what stands above them
abbrev pub heading_text : AsrunSettings → List Item → List ℕ
heading_text settings items = if settings.times then row_text default_writer (timed_heading (has_part items)) else []

-- what is told of an event that is unsure after the run that begins with this row of the journal
abbrev pub open_text : ℕ → Option ℕ → List ℕ
open_text row None = []
open_text row (Some event) =
    codes "vdcp: event " ++ (decimal event ++ (codes " may have aired (run of row " ++ (decimal row ++ line (codes ")"))))

-- the event that may have aired in a run, if it is told of there. It isn't if the next run begins with it, since that run
-- tells of it then, nor if that begins behind it, since the operator knew then whether it aired
abbrev pub undecided : (next unsure : Option ℕ) → Option ℕ
undecided next None = None
undecided None (Some event) = Some event
undecided (Some next) (Some event) = if nat_le event next then None else Some event

-- a run of a journal of these items, which these runs follow, shows this text, and this is told of it: its rows are those of
-- a controller of the items from its first event on, and the text is the rows of what that one reports, its count being what
-- the log of the rows shows, and of what was left out before the next run. An end that its own rows don't show is the one
-- that the rows behind it show first. If this event is unsure before it, the one that is unsure after it is told, unless the
-- next run, if there is one, begins with that one or behind it
pub record ShowsRun (settings : AsrunSettings) (items : List Item) (heading : Heading) (calls : List ListCall)
    (before : Option ℕ) (run : Run) (behind : List Run) (text told : List ℕ) : Type 0 where
  pub stands : RunStands items heading run
  pub own : List Airing
  pub are : AreAirings heading.mode run.rows own
  pub text_is : text ≡ run_text settings items calls (next_begin behind) run.from
      (state_after (plan_of_run heading items run) run.rows) (map (ended_by (end_in (rows_behind run behind))) own)
      (unsure_after heading before run)
  pub told_is : told ≡ open_text (run.begin + 1) (undecided (next_begin behind) (unsure_after heading before run))

-- the texts of these runs are one after another this text, and what is told of them is this, if this event is unsure before
-- them
abbrev pub ShowRuns : AsrunSettings → List Item → Heading → List ListCall → (before : Option ℕ) → List Run → List ℕ → List ℕ
    → Type 0
ShowRuns settings items heading calls before [] text told = (text ≡ []) × (told ≡ [])
ShowRuns settings items heading calls before (run ∷ runs) text told = (first first_told rest rest_told : List ℕ)
    × ShowsRun settings items heading calls before run runs first first_told
    × ShowRuns settings items heading calls (unsure_after heading before run) runs rest rest_told
    × (text ≡ first ++ rest) × (told ≡ first_told ++ rest_told)

-- the runs show this, below what stands above the rows
pub record AreShown (settings : AsrunSettings) (items : List Item) (heading : Heading) (calls : List ListCall) (runs : List Run)
    (text told : List ℕ) : Type 0 where
  pub rows : List ℕ
  pub show : ShowRuns settings items heading calls None runs rows told
  pub text_is : text ≡ heading_text settings items ++ rows

-- these are still to be shown: with their texts behind what is shown so far, all runs are
abbrev pub ShowsSoFar : AsrunSettings → List Item → Heading → List ListCall → (all rest : List Run) → Shown → Type 0
ShowsSoFar settings items heading calls all rest shown = (text told : List ℕ)
    → ShowRuns settings items heading calls shown.unsure rest text told
    → AreShown settings items heading calls all (shown.text.items ++ text) (shown.told.items ++ told)

-- what is shown gained what a run shows
pub record ShowsOneMore (settings : AsrunSettings) (items : List Item) (heading : Heading) (calls : List ListCall) (run : Run)
    (behind : List Run) (before after : Shown) : Type 0 where
  pub text : List ℕ
  pub told : List ℕ
  pub shows : ShowsRun settings items heading calls before.unsure run behind text told
  pub text_is : after.text.items ≡ before.text.items ++ text
  pub told_is : after.told.items ≡ before.told.items ++ told
  pub unsure_is : after.unsure ≡ unsure_after heading before.unsure run

-- whole lines are those of a journal, of the list with this digest if one is given, whose rows are those of controllers of
-- these items: this is its as-run list, and what is told of it
pub record ShowsJournal (settings : AsrunSettings) (items : List Item) (digest : Option (List ℕ)) (lines : FileBytes)
    (text told : List ℕ) : Type 0 where
  pub journal : Journal
  pub reads : IsJournal lines journal
  pub of_list : IfSome digest (λ known. journal.heading.digest ≡ known)
  pub show : AreShown settings items journal.heading (list_calls journal.rows) (runs_of journal.rows) text told

-- the text is the as-run list, without times, of some journal of these items
pub record IsAsrunOf (rate : Rate) (items : List Item) (text : List ℕ) : Type 0 where
  pub lines : FileBytes
  pub told : List ℕ
  pub shows : ShowsJournal (record { rate = rate; times = false }) items None lines text told

-- a journal that is of a list with this digest is of these items: of those of a playlist, if one is given. If none is they
-- are any of whose controllers the rows are: by the rule book each PLAY is of the item that was cued last, so the rows alone
-- say what was played
abbrev pub AreItemsOf : AsrunSettings → Option File → List Item → Option (List ℕ) → Type 0
AreItemsOf settings None items digest = digest ≡ None
AreItemsOf settings (Some list) items digest =
    IsListOf settings.rate (bytes_of list) items × (digest ≡ Some (digest_of settings.rate items))

-- the files are an optional playlist and a journal of it, and a writer gained the as-run list that this shows
pub record IsShown (settings : AsrunSettings) (list : Option File) (journal : File) (old new : Option (List ℕ))
    (told : List ℕ) : Type 0 where
  pub items : List Item
  pub digest : Option (List ℕ)
  pub text : List ℕ
  pub are_items : AreItemsOf settings list items digest
  pub shows : ShowsJournal settings items digest (option_map whole_lines (option_map closed (bytes_of journal))) text told
  pub printed : Appends old new text

-- and another writer gained what is told of the events that may have aired
pub record IsShownAndTold (settings : AsrunSettings) (list : Option File) (journal : File)
    (out out' err err' : Option (List ℕ)) : Type 0 where
  pub told : List ℕ
  pub shown : IsShown settings list journal out out' told
  pub tells : Appends err err' told

-- a row of a file is refused: one writer gained the line that says so, and the other nothing
pub record IsToldOnly (out out' err err' : Option (List ℕ)) : Type 0 where
  pub failure : Failure
  pub of_row : status_of failure ≡ 1
  pub told : Appends err err' (failure_line failure)
  pub silent : Keeps out out'
