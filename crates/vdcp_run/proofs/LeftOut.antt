-- With which event a run that stays begins anew.
use Rattle.std.proofs.Common.{◌≡◌, ◌⊎◌, ◌∙◌, Bor, List, ℕ, ap, arith, inl, inr, refl, subst, sym}
use Rattle.std.specs.Option.{option_map}
use Rattle.std.specs.Prelude.{◌+◌, ◌-◌, ◌<◌, ◌&&◌, Bool, true, false, if◌then◌else◌, length, nat_le, nat_lt, None, Option, Result, Ok, Err, Some, IfSome}
use Rattle.vdcp_auto.specs.Plan.{Plan}
use Rattle.vdcp_auto.specs.State.{State}
use Rattle.vdcp_drive.specs.declared.line.Ran.TheVariants as ran
use Rattle.vdcp_journal.specs.Runs.{Run}
use Rattle.vdcp_journal.specs.declared.row.Heading.{Heading}
use Rattle.vdcp_journal_file.specs.Recording.{IsUnbegun, IsUnopened, IsUnwritten as IsRowsUnwritten}
use Rattle.vdcp_journal_file.specs.Resuming as resuming
use Rattle.vdcp_journal_file.specs.Resuming.{IsReplayed, IsUnopenedAgain, IsUnresumed, failure_of, next_event}
use Rattle.vdcp_journal_file.specs.declared.reading.Refusal.{Refusal}
use Rattle.vdcp_journal_file.specs.declared.reading.Refusal.TheVariants as refusal
use Rattle.vdcp_list.specs.Rows.{FileBytes}
use Rattle.vdcp_run.specs.Run.{BeginsBehind, CameTo, IsJournalRefused, IsPlaceRefused, IsUnkept, IsUntried, SendsAgain, beginning_anew, behind_left_out, behind_with, first_once, going_on, has_lost_port, heading_for, is_by_line, later_after, later_by, leaving_out, may_try, not_kept, occupied, once_occupied_by, once_unsure_by, told_outcome, turns_left, unconnected, unsure_event}
use Rattle.vdcp_run.specs.declared.run_end.LineEnd.{LineEnd}
use Rattle.vdcp_run.specs.declared.run_end.LineEnd.TheVariants as line_end
use Rattle.vdcp_run.specs.declared.run_end.RunEnd.{RunEnd}
use Rattle.vdcp_run.specs.declared.settings.RunJournal.{RunJournal}
use Rattle.vdcp_run.specs.declared.settings.RunJournal.TheVariants as journals
use Rattle.vdcp_run.specs.declared.settings.RunSettings.{RunSettings}
use Rattle.vdcp_run.specs.declared.settings.Staying.{Staying}
use Rattle.vdcp_run.specs.declared.settings.Unsure.{Unsure}
use Rattle.vdcp_run.specs.declared.settings.Unsure.TheVariants as unsure
use Rattle.vdcp_text.specs.declared.failure.Failure.{Failure}
use Rattle.vdcp_text.specs.declared.failure.Failure.TheVariants as failures
use Rattle.vdcp_value.specs.declared.part.Item.{Item}
use Rattle.vdcp_wire.specs.Streams.{Streamed}

-- ---- after an end: with the first that isn't reported, or behind it

-- a new run begins in the journal of this name
abbrev pub IsAnew : Bor (List ℕ) → Option RunJournal → Type 0
IsAnew name journal = (journal ≡ Some (journals.Again name)) ⊎ (journal ≡ Some (journals.Left name))

not_older : (of name : Bor (List ℕ)) → IsAnew name (Some (journals.Older of)) → ⊥
not_older of name (inl e) = cc e
not_older of name (inr e) = cc e

guarded : (b : Bool) (first reported : ℕ) → (b ≡ true → reported < first)
    → IfSome (if b then Some first else None) (λ n. reported < n)
guarded true first reported more = more refl
guarded false first reported more = tt

left : (a b : Bool) → (a && b) ≡ true → a ≡ true
left true b e = refl
left false b e = cc e

above : (n m : ℕ) → nat_lt n m ≡ true → n < m
above n m is = grind arith

behind_more : (line : LineEnd) (skips : Bool) (reported count : ℕ) → IfSome (behind_with line skips reported count) (λ first. reported < first)
behind_more (line_end.LeftOut kept) skips reported count =
    guarded (nat_lt reported kept && nat_le kept count) kept reported
    (λ is. above reported kept (left (nat_lt reported kept) (nat_le kept count) is))
behind_more (line_end.Ran ran.Ended) skips reported count =
    guarded (skips && nat_lt reported count) (reported + 1) reported (λ is. omega arith)
behind_more line skips reported count = tt

chosen : (may lost by : Bool) (anew on next : RunSettings) (leaving : ℕ → RunSettings) (behind : Option ℕ)
    (of name : Bor (List ℕ)) (reported : ℕ) → on.journal ≡ Some (journals.Older of) → anew.from ≡ None
    → ((first : ℕ) → (leaving first).from ≡ Some first) → IfSome behind (λ first. reported < first)
    → (if may then (if lost then Some anew else (if by then Some on else option_map leaving behind)) else None) ≡ Some next
    → IsAnew name next.journal
    → (next.from ≡ None) ⊎ ((first : ℕ) × (next.from ≡ Some first) × (reported < first))
chosen false lost by anew on next leaving behind of name reported older none some more e again = cc
chosen true true by anew on next leaving behind of name reported older none some more e again =
    let same : anew ≡ next = cc e in inl (sym (ap (λ (s : RunSettings). s.from) same) ∙ none)
chosen true false true anew on next leaving behind of name reported older none some more e again =
    let same : on ≡ next = cc e in
    absurd (not_older of name (subst (IsAnew name) (sym (ap (λ (s : RunSettings). s.journal) same) ∙ older) again))
chosen true false false anew on next leaving None of name reported older none some more e again = cc
chosen true false false anew on next leaving (Some first) of name reported older none some more e again =
    let same : leaving first ≡ next = cc e in
    inr (first, sym (ap (λ (s : RunSettings). s.from) same) ∙ some first, more)

after_end : (before next : RunSettings) (count : ℕ) (stay : Option Staying) (journal : Option RunJournal) (end : RunEnd)
    (name : Bor (List ℕ)) → later_by before count stay journal end ≡ Some next → IsAnew name next.journal
    → (next.from ≡ None) ⊎ ((first : ℕ) × (next.from ≡ Some first) × (end.reported < first))
after_end before next count None journal end name e again = cc
after_end before next count (Some stay) None end name e again = cc
after_end before next count (Some stay) (Some journal) end name e again =
    let turns : ℕ = turns_left before end in
    chosen (may_try before end) (has_lost_port journal end) (is_by_line end.line (told_outcome end.line end.outcome))
    (beginning_anew before journal turns) (going_on before journal turns) next
    (λ first. leaving_out before journal end.line first turns) (behind_left_out stay.skip before.mode count end) _ name end.reported refl refl
    (λ first. refl) (behind_more end.line _ end.reported count) e again

-- ---- after a refusal: behind the event that may have aired

abbrev IsSure : Failure → Type 0
IsSure failure = unsure_event failure ≡ None

unopened_sure : (name : Bor (List ℕ)) (failure : Failure) → IsUnopened name failure → IsSure failure
unopened_sure name failure (inl e) = ap unsure_event e
unopened_sure name failure (inr (inl e)) = ap unsure_event e
unopened_sure name failure (inr (inr e)) = ap unsure_event e

unwritten_sure : (name : Bor (List ℕ)) (failure : Failure) → IsRowsUnwritten name failure → IsSure failure
unwritten_sure name failure (inl e) = ap unsure_event e
unwritten_sure name failure (inr e) = ap unsure_event e

unbegun_sure : (name : Bor (List ℕ)) (failure : Failure) → IsUnbegun name failure → IsSure failure
unbegun_sure name failure (inl e) = ap unsure_event e
unbegun_sure name failure (inr (inl h)) = unopened_sure name failure h
unbegun_sure name failure (inr (inr h)) = unwritten_sure name failure h

refusal_sure : (name : Bor (List ℕ)) (failure : Failure) (why : Refusal) → failure ≡ failure_of name why → IsSure failure
refusal_sure name failure (refusal.Row row wrong) e = ap unsure_event e
refusal_sure name failure refusal.Read e = ap unsure_event e
refusal_sure name failure refusal.Memory e = ap unsure_event e

unresumed_sure : (items : List Item) (name : Bor (List ℕ)) (wanted : Heading) (failure : Failure)
    → IsUnresumed items name wanted failure → IsSure failure
unresumed_sure items name wanted failure (resuming.no_file h) = unopened_sure name failure h
unresumed_sure items name wanted failure (resuming.not_read (inl e)) = ap unsure_event e
unresumed_sure items name wanted failure (resuming.not_read (inr e)) = ap unsure_event e
unresumed_sure items name wanted failure (resuming.kept h) = unwritten_sure name failure h
unresumed_sure items name wanted failure (resuming.bad lines why h e) = refusal_sure name failure why e

place_sure : (name : Option (Bor (List ℕ))) (failure : Failure) → IsPlaceRefused name failure → IsSure failure
place_sure None failure refused = absurd refused
place_sure (Some name) failure (inl e) = ap unsure_event e
place_sure (Some name) failure (inr (inl e)) = ap unsure_event e
place_sure (Some name) failure (inr (inr (inl e))) = ap unsure_event e
place_sure (Some name) failure (inr (inr (inr e))) = ap unsure_event e

-- it is the next of a run that goes on from a journal of these items
abbrev IsNextOf : List Item → Heading → ℕ → Type 0
IsNextOf items heading event = (lines : FileBytes) × (run : Run) × (ended : Plan) × (end : State)
    × IsReplayed items heading lines run ended end × (event ≡ next_event heading run)

sure_not : {A : Type 0} (failure : Failure) (event : ℕ) → unsure_event failure ≡ Some event → IsSure failure → A
sure_not failure event is sure = let both : Some event ≡ None = sym is ∙ sure in cc

unsure_again : (items : List Item) (name : Bor (List ℕ)) (wanted : Heading) (word : Option ℕ) (failure : Failure) (event : ℕ)
    → unsure_event failure ≡ Some event → IsUnopenedAgain items name wanted word failure → IsNextOf items wanted event
unsure_again items name wanted word failure event is (resuming.unresumed h) =
    sure_not failure event is (unresumed_sure items name wanted failure h)
unsure_again items name wanted word failure event is (resuming.unsettled unsaid lines run ended end replayed may e) =
    let same : Some event ≡ Some (next_event wanted run) = sym is ∙ ap unsure_event e in
    (lines, run, ended, end, replayed, cc same)
unsure_again items name wanted word failure event is (resuming.no_event k said few e) =
    sure_not failure event is (ap unsure_event e)

unsure_journal : (settings : RunSettings) (items : List Item) (journal : RunJournal) (failure : Failure) (event : ℕ)
    → unsure_event failure ≡ Some event → IsJournalRefused settings items journal failure
    → IsNextOf items (heading_for settings items) event
unsure_journal settings items (journals.New name) failure event is h =
    sure_not failure event is (unbegun_sure name failure h)
unsure_journal settings items (journals.Older name) failure event is h =
    sure_not failure event is (unresumed_sure items name (heading_for settings items) failure h)
unsure_journal settings items (journals.Again name) failure event is h =
    unsure_again items name (heading_for settings items) settings.from failure event is h
unsure_journal settings items (journals.Left name) failure event is h =
    unsure_again items name (heading_for settings items) settings.from failure event is h

unsure_kept : (settings : RunSettings) (items : List Item) (journal : Option RunJournal) (failure : Failure) (event : ℕ)
    → unsure_event failure ≡ Some event → IsUnkept settings items journal failure
    → IsNextOf items (heading_for settings items) event
unsure_kept settings items None failure event is h = absurd h
unsure_kept settings items (Some journal) failure event is (inl e) = sure_not failure event is (ap unsure_event e)
unsure_kept settings items (Some journal) failure event is (inr (inl h)) = unsure_journal settings items journal failure event is h
unsure_kept settings items (Some journal) failure event is (inr (inr h)) =
    sure_not failure event is (place_sure settings.asrun failure h)

unsure_untried : (settings : RunSettings) (items : List Item) (failure : Failure) (event : ℕ)
    → unsure_event failure ≡ Some event → IsUntried settings items failure → IsNextOf items (heading_for settings items) event
unsure_untried settings items failure event is (not_kept h) = unsure_kept settings items settings.journal failure event is h
unsure_untried settings items failure event is (unconnected e) = sure_not failure event is (ap unsure_event e)
unsure_untried settings items failure event is (occupied e) = sure_not failure event is (ap unsure_event e)

-- what the next try has
next_so : (may : Bool) (how : Unsure) (event : ℕ) (with_first : ℕ → RunSettings) (next : RunSettings)
    → (if may then option_map with_first (first_once how event) else None) ≡ Some next
    → (with_first (event + 1) ≡ next) ⊎ ((how ≡ unsure.Again) × (with_first event ≡ next))
next_so false how event with_first next e = cc
next_so true unsure.LeaveOut event with_first next e = inl (cc e)
next_so true unsure.Again event with_first next e = inr (refl, cc e)
next_so true unsure.Stop event with_first next e = cc

-- behind that event, or with it
begun_so : (before next : RunSettings) (items : List Item) (failure : Failure) (stay : Staying) (event : ℕ)
    → before.stay ≡ Some stay → IsNextOf items (heading_for before items) event
    → (let first_of : ℕ → RunSettings = λ first. record before { from = Some first; listens = before.listens - 1 } in
    (first_of (event + 1) ≡ next) ⊎ ((stay.unsure ≡ unsure.Again) × (first_of event ≡ next)))
    → BeginsBehind items (Err failure) next
begun_so before next items failure stay event is (lines, run, ended, end, replayed, event_is) (inl same) =
    subst (λ (s : RunSettings). BeginsBehind items (Err failure) s) same
    (lines, run, ended, end, replayed, inl (ap (λ (k : ℕ). Some (k + 1)) event_is))
begun_so before next items failure stay event is (lines, run, ended, end, replayed, event_is) (inr (again, same)) =
    subst (λ (s : RunSettings). BeginsBehind items (Err failure) s) same
    (lines, run, ended, end, replayed, inr (subst (λ (s : Option Staying). SendsAgain s) (sym is) again, ap (λ (k : ℕ). Some k) event_is))

after_refusal : (before next : RunSettings) (items : List Item) (failure : Failure) (stay : Option Staying) (event : Option ℕ)
    → before.stay ≡ stay → unsure_event failure ≡ event → IsUntried before items failure
    → once_unsure_by before (length items) stay event ≡ Some next → BeginsBehind items (Err failure) next
after_refusal before next items failure None event stays is untried e = cc
after_refusal before next items failure (Some stay) None stays is untried e = cc
after_refusal before next items failure (Some stay) (Some event) stays is untried e =
    begun_so before next items failure stay event stays (unsure_untried before items failure event is untried)
    (next_so (nat_lt event (length items) && nat_lt 1 before.listens) stay.unsure event
    (λ first. record before { from = Some first; listens = before.listens - 1 }) next e)

-- a port that wasn't empty is asked again by the same run
asks_again : (may : Bool) (on next : RunSettings) (of name : Bor (List ℕ)) → on.journal ≡ Some (journals.Older of)
    → (if may then Some on else None) ≡ Some next → IsAnew name next.journal → ⊥
asks_again false on next of name older e again = cc
asks_again true on next of name older e again =
    let same : on ≡ next = cc e in
    not_older of name (subst (IsAnew name) (sym (ap (λ (s : RunSettings). s.journal) same) ∙ older) again)

occupied_again : (before next : RunSettings) (stay : Option Staying) (journal : Option RunJournal) (name : Bor (List ℕ))
    → once_occupied_by before stay journal ≡ Some next → IsAnew name next.journal → ⊥
occupied_again before next None journal name e again = cc
occupied_again before next (Some stay) None name e again = cc
occupied_again before next (Some stay) (Some (journals.New of)) name e again = cc
occupied_again before next (Some stay) (Some (journals.Older of)) name e again =
    asks_again (nat_lt 1 before.listens) (going_on before (journals.Older of) (before.listens - 1)) next of name refl e again
occupied_again before next (Some stay) (Some (journals.Again of)) name e again =
    asks_again (nat_lt 1 before.listens) (going_on before (journals.Again of) (before.listens - 1)) next of name refl e again
occupied_again before next (Some stay) (Some (journals.Left of)) name e again =
    asks_again (nat_lt 1 before.listens) (going_on before (journals.Left of) (before.listens - 1)) next of name refl e again

pub begins_behind : (Stream : Type 0) (before next : RunSettings) (items : List Item) (wire left : Option Streamed) (end : Result RunEnd Failure)
    (name : Bor (List ℕ)) → CameTo Stream before items wire end left → later_after before (length items) end ≡ Some next
    → IsAnew name next.journal → BeginsBehind items end next
begins_behind Stream before next items wire left (Ok end) name came e again =
    after_end before next (length items) before.stay before.journal end name e again
begins_behind Stream before next items wire left (Err failures.NotEmpty) name came e again =
    absurd (occupied_again before next before.stay before.journal name e again)
begins_behind Stream before next items wire left (Err failure) name came e again =
    after_refusal before next items failure before.stay (unsure_event failure) refl refl came.0 e
