-- What a run begins with, and whose end it is.
use Rattle.std.proofs.Common.{ℕ, ◌≡◌, ◌≤◌, ◌+◌, Bor, List, [], ◌∷◌, arith, inl, inr, subst, sym}
use Rattle.std.proofs.Math.Nat.{one-le-mul}
use Rattle.std.specs.Prelude.{◌*◌, Err, IfOk, IfSome, None, Ok, Option, Result, Some, drop, length}
use Rattle.vdcp_auto.specs.Course.{Call, Reached, Receive, begun, called, ended_by_call, logged}
use Rattle.vdcp_auto.specs.Plan.{Plan, View}
use Rattle.vdcp_auto.specs.State.{State}
use Rattle.vdcp_auto.specs.Turn.{start}
use Rattle.vdcp_auto.specs.declared.exchange.Exchange.{Exchange}
use Rattle.vdcp_auto.specs.declared.list_call.ListCall.{ListCall}
use Rattle.vdcp_journal.specs.Resume.{after_call_if, after_rows, call_of, limit_after, losses}
use Rattle.vdcp_journal.specs.Runs.{Run}
use Rattle.vdcp_journal.specs.declared.row.Heading.{Heading}
use Rattle.vdcp_journal.specs.declared.row.Row.{Row}
use Rattle.vdcp_list.specs.Rests.{FromEvent}
use Rattle.vdcp_list.specs.Rows.{FileBytes}
use Rattle.vdcp_journal_file.specs.Recording.{BeganWith, IsTimedOut, Recording}
use Rattle.vdcp_journal_file.specs.Resuming as resuming
use Rattle.vdcp_journal_file.specs.Resuming.{IsOpenedAgain, IsReplayed, IsUnopenedAgain, JournalShows, beginning_note, open_after, plan_of_run, said_event, state_after}
use Rattle.vdcp_journal_file.specs.declared.again.Beginning.{Beginning}
use Rattle.vdcp_journal_file.specs.declared.reading.RunAirings.{RunAirings}
use Rattle.vdcp_run.specs.Run.{beginning_of, BeginsAgain, BeginsBy, IsAgain, IsBegun, IsUnkept, SaysOfList, first_event, heading_for, name_of, new_controller, plan_for}
use Rattle.vdcp_run.specs.Asking.{Start, start_of}
use Rattle.vdcp_run.specs.declared.settings.RunJournal.{RunJournal}
use Rattle.vdcp_run.specs.declared.settings.RunJournal.TheVariants as journals
use Rattle.vdcp_run.specs.declared.settings.RunSettings.{RunSettings}
use Rattle.vdcp_text.specs.declared.failure.Failure.{Failure}
use Rattle.vdcp_value.specs.declared.part.Item.{Item}

-- a call that a row tells of, if it tells of one
called_if : (plan : Plan) (state : State) (log : List Exchange) → Reached plan state log → (call : Option Call)
    → (log' : List Exchange) × Reached plan (after_call_if plan call state) log'
called_if plan state log reached None = (log, reached)
called_if plan state log reached (Some call) = (logged log (ended_by_call plan call state), called reached call)

-- the calls that rows tell of
told_by : (plan : Plan) (state : State) (log : List Exchange) → Reached plan state log → (rows : List Row)
    → (log' : List Exchange) × Reached plan (after_rows plan state rows) log'
told_by plan state log reached [] = (log, reached)
told_by plan state log reached (row ∷ rows) =
    let next = called_if plan state log reached (call_of row.note) in
    told_by plan (after_call_if plan (call_of row.note) state) next.0 next.1 rows

-- a state that is that of some rows, which a controller of this plan was led to
reached_after : (plan plan' : Plan) (state : State) (rows : List Row) → 1 ≤ plan.limit → plan.limit ≤ 1000
    → plan' ≡ plan → state ≡ state_after plan rows → (log : List Exchange) × Reached plan' state log
reached_after plan plan' state rows some few plan_is state_is =
    let told = told_by plan start [] (begun some few) rows in
    let log = logged told.0 (ended_by_call plan (Receive None) (after_rows plan start rows)) in (
      log,
      subst (λ (p : Plan). Reached p state log) (sym plan_is)
          (subst (λ (s : State). Reached plan s log) (sym state_is) (called told.1 (Receive None))),
    )

-- a limit that was raised
raised_limit : (limit lost : ℕ) → 1 ≤ limit → (1 ≤ limit_after limit lost) × (limit_after limit lost ≤ 1000)
raised_limit limit lost some =
    let more : 1 ≤ limit * (lost + 1) = one-le-mul some (omega arith) in (omega (arith, more), omega arith)

-- a new controller
pub begun_new : {S F : Type 0} (items : S → List Item) (source : S) (settings : RunSettings) (journal : Option RunJournal)
    (controller : View (FromEvent S)) (recorder : Option (Recording F))
    → controller ≡ new_controller settings source → 1 ≤ settings.limit → settings.limit ≤ 1000
    → first_event settings.from ≤ length (items source)
    → BeginsBy settings (items source) journal (start_of items (new_controller settings source)) recorder
    → IsBegun settings (items source) journal (start_of items controller) recorder
begun_new {S} items source settings journal controller recorder is some few listed begins =
    subst (λ (v : View (FromEvent S)). IsBegun settings (items source) journal (start_of items v) recorder) (sym is) (record {
      begins = begins;
      within = listed;
      log = [];
      reached = begun some few;
    })

-- one that goes on from the last run of a journal
replayed_so : {F : Type 0} (list : List Item) (settings : RunSettings) (journal : Option RunJournal) (first : Start)
    (recorder : Option (Recording F)) (lines : FileBytes) (run : Run)
    → 1 ≤ settings.limit → IsReplayed list (heading_for settings list) lines run first.plan first.state
    → first.from ≡ run.from → BeginsBy settings list journal first recorder → IsBegun settings list journal first recorder
replayed_so list settings journal first recorder lines run some replayed is begins =
    let resumed = replayed.resumes in
    let raised = raised_limit settings.limit (losses run.rows) some in
    let reached = reached_after (plan_of_run (heading_for settings list) list run) first.plan first.state run.rows raised.0
    raised.1 resumed.plan_is resumed.state_is in
    record {
      begins = begins;
      within = subst (λ (k : ℕ). k ≤ length list) (sym is) replayed.within;
      log = reached.0;
      reached = reached.1;
    }

-- its exchange that was open is timed out
abbrev IsTimedOutIn : {F : Type 0} → List Item → Heading → Run → Option (Recording F) → Type 0
IsTimedOutIn list heading run recorder =
    IfSome recorder (λ r. IsTimedOut (open_after (plan_of_run heading list run) run.rows) r.pending)

pub begun_older : {F : Type 0} (list : List Item) (settings : RunSettings) (name : Bor (List ℕ)) (heading : Heading)
    (first : Start) (recorder : Option (Recording F)) → 1 ≤ settings.limit → heading ≡ heading_for settings list
    → (lines : FileBytes) × (run : Run) × IsReplayed list heading lines run first.plan first.state
    × (first.from ≡ run.from)
    × IfSome recorder (λ r. IsTimedOut (open_after (plan_of_run heading list run) run.rows) r.pending)
    → IsBegun settings list (Some (journals.Older name)) first recorder
begun_older list settings name heading first recorder some of (lines, run, replayed, is, left) =
    let replayed = subst (λ (h : Heading). IsReplayed list h lines run first.plan first.state) of replayed in
    let left = subst (λ (h : Heading). IsTimedOutIn list h run recorder) of left in
    replayed_so list settings (Some (journals.Older name)) first recorder lines run some replayed is (record {
      lines = lines;
      run = run;
      replayed = replayed;
      from_is = is;
      left = left;
    })

-- one that begins after that, or tells its end again
again_so : {F : Type 0} (list : List Item) (settings : RunSettings) (journal : RunJournal) (from : ℕ) (plan : Plan)
    (state : State) (recorder : Option (Recording F)) → 1 ≤ settings.limit → settings.limit ≤ 1000
    → BeginsBy settings list (Some journal) (record { plan = plan; from = from; state = state }) recorder
    → IsOpenedAgain list (heading_for settings list) settings.from from plan state
    → IsBegun settings list (Some journal) (record { plan = plan; from = from; state = state }) recorder
again_so list settings journal from plan state recorder some few begins
    (lines, resuming.begins run ended end replayed within after plan_is state_is) =
    let first : Plan = plan_for settings (drop from list) in
    let new : Reached first start [] = begun some few in
    record {
      begins = begins;
      within = within;
      log = [];
      reached = subst (λ (p : Plan). Reached p state []) (sym plan_is)
          (subst (λ (s : State). Reached first s []) (sym state_is) new);
    }
again_so list settings journal from plan state recorder some few begins
    (lines, resuming.is_over unsaid run replayed is over) =
    replayed_so list settings (Some journal) (record { plan = plan; from = from; state = state }) recorder lines run some replayed
    is begins

-- so it is whether the operator left the run before or not
begins_by : {F : Type 0} (list : List Item) (settings : RunSettings) (journal : RunJournal) (first : Start)
    (recorder : Option (Recording F)) → IsAgain journal → BeginsAgain settings list journal first recorder
    → BeginsBy settings list (Some journal) first recorder
begins_by list settings (journals.New name) first recorder again begins = absurd again
begins_by list settings (journals.Older name) first recorder again begins = absurd again
begins_by list settings (journals.Again name) first recorder again begins = begins
begins_by list settings (journals.Left name) first recorder again begins = begins

pub begun_again : {F : Type 0} (list : List Item) (settings : RunSettings) (journal : RunJournal) (heading : Heading)
    (beginning : Beginning) (first : Start) (recorder : Option (Recording F)) → 1 ≤ settings.limit → settings.limit ≤ 1000
    → heading ≡ heading_for settings list → IsAgain journal → beginning ≡ beginning_of journal settings.from
    → said_event beginning ≡ settings.from → IsOpenedAgain list heading (said_event beginning) first.from first.plan first.state
    → IfSome recorder (BeganWith (Some (beginning_note beginning first.from)))
    → IsBegun settings list (Some journal) first recorder
begun_again {F} list settings journal heading beginning first recorder some few of again is said opened began =
    let opened = subst (λ (h : Heading). IsOpenedAgain list h settings.from first.from first.plan first.state) of
    (subst (λ (word : Option ℕ). IsOpenedAgain list heading word first.from first.plan first.state) said opened) in
    again_so list settings journal first.from first.plan first.state recorder some few
    (begins_by list settings journal first recorder again (record {
      opened = opened;
      began = subst (λ (b : Beginning). IfSome recorder (BeganWith (Some (beginning_note b first.from)))) is began;
    })) opened

pub unkept_again : (list : List Item) (settings : RunSettings) (journal : RunJournal) (name : Bor (List ℕ)) (heading : Heading)
    (beginning : Beginning) (failure : Failure) → IsAgain journal → name ≡ name_of journal → heading ≡ heading_for settings list
    → said_event beginning ≡ settings.from → IsUnopenedAgain list name heading (said_event beginning) failure
    → IsUnkept settings list (Some journal) failure
unkept_again list settings journal name heading beginning failure again is of said h =
    by journal again (subst (λ (n : Bor (List ℕ)). IsUnopenedAgain list n (heading_for settings list) settings.from failure) is
    (subst (λ (x : Heading). IsUnopenedAgain list name x settings.from failure) of
    (subst (λ (word : Option ℕ). IsUnopenedAgain list name heading word failure) said h))) where
      by : (j : RunJournal) → IsAgain j
          → IsUnopenedAgain list (name_of j) (heading_for settings list) settings.from failure → IsUnkept settings list (Some j) failure
      by (journals.New name) again h = absurd again
      by (journals.Older name) again h = absurd again
      by (journals.Again name) again h = inr (inl h)
      by (journals.Left name) again h = inr (inl h)

-- what the journal said of the list before
pub says_again : (list : List Item) (settings : RunSettings) (journal : RunJournal) (calls : List ListCall) → IsAgain journal
    → (lines : FileBytes) (runs : List RunAirings) → JournalShows list (heading_for settings list) lines runs calls
    → SaysOfList settings list (Some journal) calls
says_again list settings (journals.New name) calls again lines runs shows = absurd again
says_again list settings (journals.Older name) calls again lines runs shows = absurd again
says_again list settings (journals.Again name) calls again lines runs shows = (lines, runs, shows)
says_again list settings (journals.Left name) calls again lines runs shows = (lines, runs, shows)

-- ---- the end

pub both : {A E : Type 0} (r : Result A E) (P Q : A → Type 0) → IfOk r P → IfOk r Q → IfOk r (λ x. P x × Q x)
both (Ok x) P Q p q = (p, q)
both (Err e) P Q p q = tt
