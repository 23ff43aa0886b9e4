-- The rows of a journal so far, and what is made of them.
use Rattle.std.proofs.Common.{ℕ, zero, suc, ◌≡◌, ◌+◌, ◌-◌, ◌*◌, ◌≤◌, ◌||◌, true, false, List, [], ◌∷◌, ◌++◌, ap, ap₂, append-nil, arith, length, map, refl, subst, sym, take, ◌∙◌}
use Rattle.std.proofs.lemmas.Grind.{flat_map-append}
use Rattle.std.proofs.lemmas.List.{length-drop}
use Rattle.std.proofs.Math.Nat.{one-le-mul}
use Rattle.std.specs.Borrow.{Bor}
use Rattle.std.specs.Option.{option_or}
use Rattle.std.specs.Prelude.{⊤, Bool, IfNone, IfSome, Option, None, Some, Ok, Err, Result, if◌then◌else◌, slice_get}
use Rattle.vdcp_auto.specs.Law.{IsLawful}
use Rattle.vdcp_auto.specs.declared.outcome.Outcome.{Outcome}
use Rattle.vdcp_auto.specs.Plan.{Plan, View, plan_of}
use Rattle.vdcp_auto.specs.Snapshots.{CanStand, view_of}
use Rattle.vdcp_auto.specs.State.{State}
use Rattle.vdcp_auto.specs.declared.exchange.Heard.{Heard}
use Rattle.vdcp_auto.specs.declared.list_call.ListCall.{ListCall}
use Rattle.vdcp_auto.specs.declared.snapshot.Snapshot.{Snapshot}
use Rattle.vdcp_auto.specs.Turn.{awaited, outcome_of, start}
use Rattle.vdcp_journal.specs.Airings.{end_in, ended_by, settled_in, unsettled_event}
use Rattle.vdcp_journal.specs.RunsSoFar.{RunView}
use Rattle.vdcp_journal.specs.Resume.{AllStand, AreTold, IsResumeFault, Stands, after_rows, fault_of, limit_after, log_of, losses, timed_out}
use Rattle.vdcp_journal.specs.ListCalls.{list_calls, list_calls_of}
use Rattle.vdcp_journal.specs.Mending.{last_note}
use Rattle.vdcp_journal.specs.Runs.{Run, begins_at, last_run, run_after}
use Rattle.vdcp_journal.specs.Thinned.{heard_after, heard_from, heard_last, notes_in}
use Rattle.vdcp_journal.specs.declared.airings.Airing.{Airing}
use Rattle.vdcp_journal.specs.declared.faults.JournalReadFault.TheVariants as unread
use Rattle.vdcp_journal.specs.declared.faults.ResumeFault.{ResumeFault}
use Rattle.vdcp_journal.specs.declared.row.Heading.{Heading}
use Rattle.vdcp_journal.specs.declared.row.Row.{Row}
use Rattle.vdcp_journal_file.specs.Resuming.{EachShowsAlone, EndsSo, FoundSoFar, HasStood, IsMadeOrRefused, IsRefused, IsRunOn, IsRunRefused, RunShows, falls, is_passed_over, next_begin, no_event, no_journal, plan_begun, plan_of_run, plays_on, rows_behind, state_after}
use Rattle.vdcp_journal_file.specs.declared.reading.FoundRun.{FoundRun}
use Rattle.vdcp_journal_file.specs.declared.reading.Refusal.{Refusal}
use Rattle.vdcp_journal_file.specs.declared.reading.RunAirings.{RunAirings}
use Rattle.vdcp_journal_file.specs.declared.reading.Refusal.TheVariants as refusal
use Rattle.vdcp_text.specs.declared.failure.JournalFault.TheVariants as fault
use Rattle.vdcp_list.specs.Rests.{FromEvent, items_left}
use Rattle.vdcp_list.specs.Rows.{FileBytes, HasRows, rows_of}
use Rattle.vdcp_value.specs.declared.part.Item.{Item}
use Rattle.vdcp_words.specs.declared.command.Command.{Command}

-- ---- one row more

at_front : (rows : List Row) (row found : Row) (k : ℕ) → slice_get rows k ≡ Some found
    → slice_get (rows ++ row ∷ []) k ≡ Some found
at_front [] row found k at = cc at
at_front (first ∷ rows) row found zero at = at
at_front (first ∷ rows) row found (suc k) at = at_front rows row found k at

same_front : (rows : List Row) (row found : Row) (k : ℕ) → slice_get rows k ≡ Some found
    → take k (rows ++ row ∷ []) ≡ take k rows
same_front [] row found k at = cc at
same_front (first ∷ rows) row found zero at = refl
same_front (first ∷ rows) row found (suc k) at = ap (λ (rs : List Row). first ∷ rs) (same_front rows row found k at)

at_end : (rows : List Row) (row : Row) → slice_get (rows ++ row ∷ []) (length rows) ≡ Some row
at_end [] row = refl
at_end (first ∷ rows) row = at_end rows row

whole_front : (rows : List Row) (row : Row) → take (length rows) (rows ++ row ∷ []) ≡ rows
whole_front [] row = refl
whole_front (first ∷ rows) row = ap (λ (rs : List Row). first ∷ rs) (whole_front rows row)

fault_on : (plan : Plan) (rows : List Row) (row : Row) (k : ℕ) (wrong : ResumeFault) → IsResumeFault plan rows k wrong
    → IsResumeFault plan (rows ++ row ∷ []) k wrong
fault_on plan rows row k wrong f =
    let front = sym (same_front rows row f.row k f.at_k) in
    record {
      row = f.row;
      at_k = at_front rows row f.row k f.at_k;
      before = subst (λ (rs : List Row). AllStand plan rs) front f.before;
      falls = subst (λ (rs : List Row). ¬ Stands plan rs f.row.note) front f.falls;
      fault_is = f.fault_is;
    }

-- a run that is refused stays so
pub refused_on : (items : List Item) (heading : Heading) (run : Run) (row : Row) (why : Refusal)
    → IsRunRefused items heading run why → IsRunRefused items heading (record run { rows = run.rows ++ row ∷ [] }) why
refused_on items heading run row why (no_event past is) = no_event past is
refused_on items heading run row why (falls k wrong f is) =
    falls k wrong (fault_on (plan_begun heading items run) run.rows row k wrong f) is

-- the row that doesn't stand is the first that doesn't
pub first_to_fall : (plan : Plan) (rows : List Row) (row : Row) (wrong : ResumeFault) → AllStand plan rows
    → ¬ Stands plan rows row.note → wrong ≡ fault_of row.note → IsResumeFault plan (rows ++ row ∷ []) (length rows) wrong
first_to_fall plan rows row wrong stand falls_so is =
    let front = sym (whole_front rows row) in
    record {
      row = row;
      at_k = at_end rows row;
      before = subst (λ (rs : List Row). AllStand plan rs) front stand;
      falls = subst (λ (rs : List Row). ¬ Stands plan rs row.note) front falls_so;
      fault_is = is;
    }

-- ---- the run that goes on

limits : (limit lost : ℕ) → 1 ≤ limit → (1 ≤ limit_after limit lost) × (limit_after limit lost ≤ 1000)
limits limit lost some =
    let more : 1 ≤ limit * (lost + 1) = one-le-mul some (omega arith) in (omega (arith, more), omega arith)

pub runs_on : {S : Type 0} (items : S → List Item) (wanted : Heading) (list : List Item) (run : Run)
    (made : RunView (FromEvent S)) (resumed : View (FromEvent S)) (asked : Option Command) (unsettled : Option ℕ)
    → ((plan : Plan) (rows : List Row) → 1 ≤ plan.limit → plan.limit ≤ 1000 → AreTold plan start rows
    → IsLawful plan (timed_out plan (after_rows plan start rows)) (log_of rows))
    → IsMadeOrRefused items wanted list run (Ok made)
    → resumed ≡ record made.controller
    { state = timed_out (plan_of (items_left items) made.controller) made.controller.state }
    → asked ≡ awaited (plan_of (items_left items) made.controller) made.controller.state
    → unsettled ≡ unsettled_event wanted.mode run
    → IsRunOn items wanted list run resumed asked unsettled
runs_on {S} items wanted list run made resumed asked unsettled law (within, source, of, f) resumed_is asked_is unsettled_is =
    let plan : Plan = plan_of_run wanted list run in
    let limit = limits wanted.limit (losses run.rows) f.some in
    let state_is : resumed.state ≡ state_after plan run.rows = ap (λ (v : View (FromEvent S)). v.state) resumed_is
    ∙ ap (λ (p : Plan). timed_out p made.controller.state) f.plan_is ∙ ap (timed_out plan) f.state_is in
    record {
      within = within;
      stand = f.stand;
      resumes = record {
        told = f.told;
        plan_is = ap (plan_of (items_left items)) resumed_is ∙ f.plan_is;
        state_is = state_is;
        lawful = subst (λ (s : State). IsLawful plan s (log_of run.rows)) (sym state_is)
            (law plan run.rows limit.0 limit.1 f.told);
      };
      list_is = ap (λ (v : View (FromEvent S)). items v.source.source) resumed_is
          ∙ ap (λ (e : FromEvent S). items e.source) f.source_is ∙ of;
      from_is = ap (λ (v : View (FromEvent S)). v.source.from) resumed_is
          ∙ ap (λ (e : FromEvent S). e.from) f.source_is;
      asked_is = asked_is ∙ ap (λ (p : Plan). awaited p made.controller.state) f.plan_is ∙ ap (awaited plan) f.state_is;
      unsettled_is = unsettled_is;
    }

-- ---- the rows so far

-- that its operator left a run changes nothing of what is made of it
pub made_left : {S : Type 0} (items : S → List Item) (heading : Heading) (list : List Item) (run : Run) (left : Bool)
    (made : Result (RunView (FromEvent S)) Refusal) → IsMadeOrRefused items heading list run made
    → IsMadeOrRefused items heading list (record run { left = left }) made
made_left items heading list run left (Ok made) is = is
made_left items heading list run left (Err why) (no_event past is) = no_event past is
made_left items heading list run left (Err why) (falls k wrong f is) = falls k wrong f is

-- what is found of the last run, after a row that begins it or doesn't
pub found_next : {S : Type 0} (items : Bor S → List Item) (heading : Heading) (list : List Item) (rows : List Row) (row : Row)
    (found : FoundRun S) (begins : Option ℕ) → last_run (rows ++ row ∷ []) ≡ run_after (begins_at row.note) row (last_run rows)
    → begins_at row.note ≡ begins → FoundSoFar items heading list (run_after begins row (last_run rows)) found
    → FoundSoFar items heading list (last_run (rows ++ row ∷ [])) found
found_next items heading list rows row found begins next is so =
    subst (λ (run : Run). FoundSoFar items heading list run found)
    (sym (next ∙ ap (λ (o : Option ℕ). run_after o row (last_run rows)) is)) so

-- a run that goes on stands, and ended so
pub stands_so : {S : Type 0} (items : S → List Item) (heading : Heading) (list : List Item) (run : Run)
    (controller : View (FromEvent S)) (asked : Option Command) (unsettled : Option ℕ) (first : ℕ) (ended : Option Outcome)
    → IsRunOn items heading list run controller asked unsettled → first ≡ controller.source.from + controller.state.settled
    → first ≤ controller.source.from + length (items_left items controller.source) → ended ≡ outcome_of controller.state.stage
    → EndsSo list heading run (Ok (first, ended))
stands_so items heading list run controller asked unsettled first ended on first_is within ended_is =
    let settled_is : controller.state.settled ≡ settled_in heading.mode run.rows = on.resumes.lawful.is_settled in
    let left : length (items_left items controller.source) ≡ length list - run.from =
    ap (λ (p : Plan). length p.list) on.resumes.plan_is ∙ length-drop run.from list in (
      record {
        within = omega (arith, on.from_is, first_is, within, settled_is, left, on.within);
        stand = on.stand;
        told = on.resumes.told;
        lawful = subst (λ (s : State). IsLawful (plan_of_run heading list run) s (log_of run.rows)) on.resumes.state_is
            on.resumes.lawful;
      },
      omega (arith, first_is, on.from_is, settled_is),
      ended_is ∙ ap (λ (s : State). outcome_of s.stage) on.resumes.state_is,
    )

-- ---- what the runs show

-- if no end is seen behind a run, nothing changes
unended : (airing : Airing) → ended_by None airing ≡ airing
unended airing = grind arith

pub alone : (own : List Airing) → map (ended_by None) own ≡ own
alone [] = refl
alone (airing ∷ own) = ap₂ (λ (a : Airing) (l : List Airing). a ∷ l) (unended airing) (alone own)

-- one run more
pub shows_more : (items : List Item) (heading : Heading) (runs : List Run) (shown : List RunAirings) (run : Run)
    (last : RunAirings) → EachShowsAlone items heading runs shown → RunShows items heading run None last
    → EachShowsAlone items heading (runs ++ run ∷ []) (shown ++ last ∷ [])
shows_more items heading [] [] run last all so = (so, tt)
shows_more items heading [] (first ∷ shown) run last all so = absurd all
shows_more items heading (next ∷ runs) [] run last all so = absurd all
shows_more items heading (next ∷ runs) (first ∷ shown) run last all so =
    (all.0, shows_more items heading runs shown run last all.1 so)

-- one run fewer
pub shows_fewer : (items : List Item) (heading : Heading) (runs : List Run) (shown : List RunAirings) (last : RunAirings)
    → EachShowsAlone items heading runs (shown ++ last ∷ [])
    → (front : List Run) × (run : Run) × (runs ≡ front ++ run ∷ []) × EachShowsAlone items heading front shown
    × RunShows items heading run None last
shows_fewer items heading [] [] last all = absurd all
shows_fewer items heading [] (first ∷ shown) last all = absurd all
shows_fewer items heading (run ∷ []) [] last all = ([], run, refl, tt, all.0)
shows_fewer items heading (run ∷ next ∷ runs) [] last all = absurd all.1
shows_fewer items heading (next ∷ runs) (first ∷ shown) last all =
    let (front, run, is, so, shows) = shows_fewer items heading runs shown last all.1 in
    (next ∷ front, run, ap (λ (rs : List Run). next ∷ rs) is, (all.0, so), shows)

-- and none
pub shows_none : (items : List Item) (heading : Heading) (runs : List Run) → EachShowsAlone items heading runs [] → runs ≡ []
shows_none items heading [] all = refl
shows_none items heading (run ∷ runs) all = absurd all

-- the first end that these runs show, if the first of them plays on in the others, of what played before them
abbrev pub end_ahead : List Run → Option Row
end_ahead [] = None
end_ahead (run ∷ runs) = option_or (end_in run.rows) (end_in (rows_behind run runs))

end_on : (rows more : List Row) → end_in (rows ++ more) ≡ option_or (end_in rows) (end_in more)
end_on [] more = refl
end_on (row ∷ rows) more = let rest = end_on rows more in grind arith

end_if : (b : Bool) (rows more : List Row)
    → (if b then option_or (end_in rows) (end_in more) else None) ≡ end_in (if b then rows ++ more else [])
end_if true rows more = sym (end_on rows more)
end_if false rows more = refl

pub behind_is : (items : List Item) (heading : Heading) (run : Run) (shown : RunAirings) (rest : List Run) (next : Option ℕ)
    (end behind : Option Row) → RunShows items heading run None shown → next ≡ next_begin rest → end ≡ end_ahead rest
    → IfNone next (behind ≡ None) → IfSome next (λ n. behind
    ≡ (if shown.left || is_passed_over shown.from n shown.last then end else None))
    → behind ≡ end_in (rows_behind run rest)
behind_is items heading run shown [] next end behind so next_is end_is none some =
    subst (λ (o : Option ℕ). IfNone o (behind ≡ None)) next_is none
behind_is items heading run shown (following ∷ rest) next end behind so next_is end_is none some =
    let on : Bool = shown.left || is_passed_over shown.from following.from shown.last in
    let same : on ≡ plays_on run following.from = cc (so.left_is, so.from_is, so.last_is) in
    subst (λ (o : Option ℕ). IfSome o (λ n. behind
    ≡ (if shown.left || is_passed_over shown.from n shown.last then end else None))) next_is some
    ∙ ap₂ (λ (b : Bool) (e : Option Row). if b then e else None) same end_is
    ∙ end_if (plays_on run following.from) following.rows (rows_behind following rest)

-- a run and the end that is seen behind it
pub shows_ended : (items : List Item) (heading : Heading) (run : Run) (end : Option Row) (shown ended : RunAirings)
    → RunShows items heading run None shown → ended.airings.items ≡ map (ended_by end) shown.airings.items
    → ended ≡ record shown { airings = ended.airings } → RunShows items heading run end ended
shows_ended items heading run end shown ended so airings_are same =
    subst (λ (r : RunAirings). RunShows items heading run end r) (sym same) (record {
      begin_is = so.begin_is;
      from_is = so.from_is;
      own = so.own;
      are = so.are;
      airings_are = airings_are ∙ ap (map (ended_by end)) (so.airings_are ∙ alone so.own);
      besides = so.besides;
      left_is = so.left_is;
      last_is = so.last_is;
      first_end_is = so.first_end_is;
      ends_so = so.ends_so;
    })

-- ---- the end of the rows

pub some_rows : (file : FileBytes) → HasRows file (λ lines. ⊤)
some_rows None = ([], tt, tt)
some_rows (Some bytes) = (rows_of bytes, refl, tt)

-- what the last row notes
pub last_of : (rows : List Row) (row : Row) → last_note (rows ++ row ∷ []) ≡ Some row.note
last_of [] row = refl
last_of (first ∷ []) row = refl
last_of (first ∷ next ∷ rows) row = last_of (next ∷ rows) row

-- what ended the last exchange, after one row more
heard_on : (before : Option Heard) (rows : List Row) (row : Row)
    → heard_from before (notes_in (rows ++ row ∷ [])) ≡ heard_after (heard_from before (notes_in rows)) row.note
heard_on before [] row = refl
heard_on before (first ∷ rows) row = heard_on (heard_after before first.note) rows row

pub heard_more : (rows : List Row) (row : Row)
    → heard_last (notes_in (rows ++ row ∷ [])) ≡ heard_after (heard_last (notes_in rows)) row.note
heard_more rows row = heard_on None rows row

-- what the rows say of the list, after one row more
pub calls_more : (rows : List Row) (row : Row) → list_calls (rows ++ row ∷ []) ≡ list_calls rows ++ list_calls_of row.note
calls_more rows row = flat_map-append (λ (r : Row). list_calls_of r.note) rows (row ∷ [])
    ∙ ap (λ (l : List ListCall). list_calls rows ++ l) (append-nil (list_calls_of row.note))

-- so it stood
pub stood_so : {S : Type 0} (items : S → List Item) (wanted : Heading) (list : List Item) (run : Run)
    (made : RunView (FromEvent S)) (resumed : View (FromEvent S)) (stood : Snapshot)
    → IsMadeOrRefused items wanted list run (Ok made)
    → resumed ≡ record made.controller
    { state = timed_out (plan_of (items_left items) made.controller) made.controller.state }
    → made.controller ≡ view_of made.controller.source stood
    → CanStand (length (items_left items made.controller.source)) stood
    → HasStood (items_left items) (plan_of_run wanted list run) run.rows resumed stood
stood_so {S} items wanted list run made resumed stood (within, source, of, f) resumed_is stands can =
    let source_is : resumed.source ≡ made.controller.source = ap (λ (v : View (FromEvent S)). v.source) resumed_is in
    let with : View (FromEvent S) → State → View (FromEvent S) = λ v s. record v { state = s } in
    record {
      is = ap (λ (e : FromEvent S). view_of e stood) source_is ∙ sym stands
          ∙ sym (ap (λ (v : View (FromEvent S)). with v made.controller.state) resumed_is)
          ∙ ap (with resumed) f.state_is;
      can_stand = subst (λ (e : FromEvent S). CanStand (length (items_left items e)) stood) (sym source_is) can;
    }

-- one that has a line that is too long isn't read to its end
pub long_so : (list : List Item) (wanted : Heading) (lines : FileBytes) (long : Option ℕ) (why told : Refusal)
    → IfSome long (λ row. told ≡ refusal.Row row fault.Long) → IfNone long (told ≡ why) → IsRefused list wanted lines why
    → IsRefused list wanted lines told
long_so list wanted lines None why told is_long other refused =
    subst (λ (w : Refusal). IsRefused list wanted lines w) (sym other) refused
long_so list wanted lines (Some row) why told is_long other refused =
    no_journal (unread.Long row) (some_rows lines) is_long
