-- What the runs of a journal show, one after another.
use Rattle.std.proofs.Common.{ℕ, ◌≡◌, ◌+◌, ◌-◌, ◌≤◌, ◌<◌, ◌^◌, Bool, true, false, List, [], ◌∷◌, ◌++◌, ap, ap₂, append_assoc, append-nil, arith, drop, get_or, length, map, refl, subst, sym, take, ◌∙◌}
use Rattle.std.proofs.Math.Seq.{drop-cons}
use Rattle.std.proofs.lemmas.List.{length-map, take_rest}
use Rattle.std.specs.Prelude.{Option, None, Some, Ok, IfSome, if◌then◌else◌}
use Rattle.vdcp_auto.specs.State.{State}
use Rattle.vdcp_auto.specs.declared.list_call.ListCall.{ListCall}
use Rattle.vdcp_auto.specs.declared.outcome.Outcome.{Outcome}
use Rattle.vdcp_journal.specs.Airings.{end_in, ended_by, may_have_played, settled_in}
use Rattle.vdcp_journal.specs.Runs.{Run}
use Rattle.vdcp_journal.specs.declared.airings.Airing.{Airing}
use Rattle.vdcp_journal.specs.declared.row.Heading.{Heading}
use Rattle.vdcp_journal.specs.declared.row.Row.{Row}
use Rattle.vdcp_journal_file.specs.Resuming.{EndsSo, RunShows, RunsShow, next_begin, plan_of_run, rows_behind, state_after}
use Rattle.vdcp_journal_file.specs.Showing.{AreShown, ShowRuns, ShowsOneMore, ShowsRun, ShowsSoFar, heading_text, is_left_out, left_unsure, open_text, reported_text, run_text, skipped_text, undecided, unsure_after, why_skipped}
use Rattle.vdcp_journal_file.specs.declared.asrun.AsrunSettings.{AsrunSettings}
use Rattle.vdcp_journal_file.specs.declared.asrun.Shown.{Shown}
use Rattle.vdcp_journal_file.specs.declared.reading.RunAirings.{RunAirings}
use Rattle.vdcp_value.specs.declared.part.Item.{Item}

-- the number of an unsettled event in the whole list is one of the machine's
unsettled_counts : (is_one : Bool) (from n : ℕ) → from + n < 2 ^ 64
    → IfSome (if is_one then Some n else None) (λ k. from + k < 2 ^ 64)
unsettled_counts true from n few = few
unsettled_counts false from n few = tt

-- what is known of a run that stands, when it is to be printed
pub record ToPrint (items : List Item) (heading : Heading) (run : Run) (shown : RunAirings) (first : ℕ) : Type 0 where
  pub count : length shown.airings.items ≡ settled_in heading.mode run.rows
  pub listed : shown.from + length shown.airings.items ≤ length items
  pub left : first ≤ length items
  pub counts : IfSome shown.unsettled (λ k. shown.from + k < 2 ^ 64)
  pub is_after : (before : Option ℕ)
      → left_unsure before shown.from (length shown.airings.items) shown.unsettled ≡ unsure_after heading before run

pub to_print : (items : List Item) (heading : Heading) (run : Run) (end : Option Row) (shown : RunAirings) (first : ℕ)
    (ended : Option Outcome) → RunShows items heading run end shown → EndsSo items heading run (Ok (first, ended))
    → length items < 2 ^ 64 → ToPrint items heading run shown first
to_print items heading run end shown first ended so (stands, first_is, ended_is) few =
    let count : length shown.airings.items ≡ settled_in heading.mode run.rows =
    ap (λ (l : List Airing). length l) so.airings_are ∙ length-map so.own (ended_by end) ∙ so.are.one_each in
    let from_is = so.from_is in
    let within = stands.within in
    record {
      count = count;
      listed = omega (arith, count, from_is, within);
      left = omega (arith, first_is, within);
      counts = subst (λ (n : ℕ). IfSome shown.unsettled (λ k. n + k < 2 ^ 64)) (sym from_is)
          (subst (λ (o : Option ℕ). IfSome o (λ k. run.from + k < 2 ^ 64)) (sym so.besides)
          (unsettled_counts (may_have_played heading.mode run) run.from (settled_in heading.mode run.rows)
          (omega (arith, within, few))));
      is_after = λ before. ap (λ (n : ℕ). left_unsure before n (length shown.airings.items) shown.unsettled) from_is
          ∙ ap (λ (n : ℕ). left_unsure before run.from n shown.unsettled) count
          ∙ ap (left_unsure before run.from (settled_in heading.mode run.rows)) so.besides;
    }

-- the rows that are written of a run
abbrev written : AsrunSettings → List Item → List ListCall → Option ℕ → (from reported first : ℕ) → List Airing → Option ℕ → Option Outcome → List ℕ
written settings items calls next from reported first airings unsure ended =
    reported_text settings items from reported airings ++ skipped_text settings items next first (why_skipped unsure (is_left_out calls first) ended)

-- they are those that it shows
pub shows_written : (settings : AsrunSettings) (items : List Item) (heading : Heading) (calls : List ListCall) (run : Run) (behind : List Run)
    (shown : RunAirings) (first : ℕ) (ended : Option Outcome) (before next unsure : Option ℕ)
    → RunShows items heading run (end_in (rows_behind run behind)) shown → EndsSo items heading run (Ok (first, ended))
    → ToPrint items heading run shown first → next ≡ next_begin behind
    → unsure ≡ left_unsure before shown.from (length shown.airings.items) shown.unsettled
    → ShowsRun settings items heading calls before run behind
    (written settings items calls next shown.from (length shown.airings.items) first shown.airings.items unsure ended)
    (open_text shown.begin (undecided next unsure))
shows_written settings items heading calls run behind shown first ended before next unsure so (stands, first_is, ended_is) p next_is
    unsure_is =
    let state : State = state_after (plan_of_run heading items run) run.rows in
    let airings : List Airing = shown.airings.items in
    let settled_is : settled_in heading.mode run.rows ≡ state.settled = sym stands.lawful.is_settled in
    let is_after = unsure_is ∙ p.is_after before in
    record {
      stands = stands;
      own = so.own;
      are = so.are;
      text_is = ap (λ (o : Option ℕ). written settings items calls o shown.from (length airings) first airings unsure ended) next_is
          ∙ ap (λ (n : ℕ). written settings items calls (next_begin behind) n (length airings) first airings unsure ended) so.from_is
          ∙ ap (λ (n : ℕ). written settings items calls (next_begin behind) run.from n first airings unsure ended) (p.count ∙ settled_is)
          ∙ ap (λ (n : ℕ). written settings items calls (next_begin behind) run.from state.settled n airings unsure ended)
          (first_is ∙ ap (λ (n : ℕ). run.from + n) settled_is)
          ∙ ap (λ (o : Option Outcome). written settings items calls (next_begin behind) run.from state.settled
          (run.from + state.settled) airings unsure o) ended_is
          ∙ ap (λ (l : List Airing). run_text settings items calls (next_begin behind) run.from state l unsure) so.airings_are
          ∙ ap (run_text settings items calls (next_begin behind) run.from state (map (ended_by (end_in (rows_behind run behind))) so.own))
          is_after;
      told_is = ap (λ (n : ℕ). open_text n (undecided next unsure)) so.begin_is
          ∙ ap (λ (o : Option ℕ). open_text (run.begin + 1) (undecided o unsure)) next_is
          ∙ ap (λ (o : Option ℕ). open_text (run.begin + 1) (undecided (next_begin behind) o)) is_after;
    }

-- a text that gained two
pub text_twice : (text first second text' text'' : List ℕ) → text' ≡ text ++ first → text'' ≡ text' ++ second
    → text'' ≡ text ++ (first ++ second)
text_twice text first second text' text'' one other =
    other ∙ ap (λ (l : List ℕ). l ++ second) one ∙ append_assoc text first second

-- before the first run nothing stands but what is above the rows
pub shows_first : (settings : AsrunSettings) (items : List Item) (heading : Heading) (calls : List ListCall) (all : List Run) (shown : Shown)
    → shown.text.items ≡ heading_text settings items → shown.told.items ≡ [] → shown.unsure ≡ None
    → ShowsSoFar settings items heading calls all all shown
shows_first settings items heading calls all shown text_is told_is unsure_is = λ text told show. record {
  rows = text;
  show = subst (λ (l : List ℕ). ShowRuns settings items heading calls None all text (l ++ told)) (sym told_is)
      (subst (λ (o : Option ℕ). ShowRuns settings items heading calls o all text told) unsure_is show);
  text_is = ap (λ (l : List ℕ). l ++ text) text_is;
}

-- a run more
pub shows_next : (settings : AsrunSettings) (items : List Item) (heading : Heading) (calls : List ListCall) (all : List Run) (run : Run)
    (behind : List Run) (before after : Shown) → ShowsSoFar settings items heading calls all (run ∷ behind) before
    → ShowsOneMore settings items heading calls run behind before after → ShowsSoFar settings items heading calls all behind after
shows_next settings items heading calls all run behind before after so more = λ text told show.
    subst (λ (l : List ℕ). AreShown settings items heading calls all l (after.told.items ++ told))
    (sym (ap (λ (l : List ℕ). l ++ text) more.text_is ∙ append_assoc before.text.items more.text text))
    (subst (λ (l : List ℕ). AreShown settings items heading calls all (before.text.items ++ (more.text ++ text)) l)
    (sym (ap (λ (l : List ℕ). l ++ told) more.told_is ∙ append_assoc before.told.items more.told told))
    (so (more.text ++ text) (more.told ++ told) (
      more.text,
      more.told,
      text,
      told,
      more.shows,
      subst (λ (o : Option ℕ). ShowRuns settings items heading calls o behind text told) more.unsure_is show,
      refl,
      refl,
    )))

-- all runs
pub shows_all : (settings : AsrunSettings) (items : List Item) (heading : Heading) (calls : List ListCall) (all rest : List Run) (left : List RunAirings)
    (shown : Shown) → ShowsSoFar settings items heading calls all rest shown → length left < 1 → RunsShow items heading rest left
    → AreShown settings items heading calls all shown.text.items shown.told.items
shows_all settings items heading calls all [] left shown so none is =
    subst (λ (l : List ℕ). AreShown settings items heading calls all l shown.told.items) (append-nil shown.text.items)
    (subst (λ (l : List ℕ). AreShown settings items heading calls all (shown.text.items ++ []) l) (append-nil shown.told.items)
    (so [] [] (refl, refl)))
shows_all settings items heading calls all (run ∷ rest) [] shown so none is = absurd is
shows_all settings items heading calls all (run ∷ rest) (first ∷ left) shown so none is = absurd (omega (arith, none))

-- what is left to be shown begins with a run
first_of : (items : List Item) (heading : Heading) (runs : List Run) (shown : RunAirings) (behind : List RunAirings)
    → RunsShow items heading runs (shown ∷ behind)
    → (run : Run) × (rest : List Run) × (runs ≡ run ∷ rest) × RunsShow items heading (run ∷ rest) (shown ∷ behind)
first_of items heading [] shown behind all = absurd all
first_of items heading (run ∷ rest) shown behind all = (run, rest, refl, all)

pub parted : (items : List Item) (heading : Heading) (runs : List Run) (left : List RunAirings) (shown : RunAirings)
    → RunsShow items heading runs left → 1 ≤ length left → shown ≡ get_or left 0 shown
    → (run : Run) × (rest : List Run) × (runs ≡ run ∷ rest)
    × RunsShow items heading (run ∷ rest) (shown ∷ take (length left - 1) (drop 1 left))
parted items heading runs left shown all some is = first_of items heading runs shown (take (length left - 1) (drop 1 left))
    (subst (λ (l : List RunAirings). RunsShow items heading runs l) (drop-cons left 0 shown (omega (arith, some))
    ∙ ap₂ (λ (y : RunAirings) (ys : List RunAirings). y ∷ ys) (sym is) (sym (take_rest left 1))) all)
