-- What a run that goes on behind an event that is left out has of the try before.
use Rattle.std.proofs.Common.{◌≡◌, ◌∙◌, Bor, List, ℕ, ap, refl, subst, sym}
use Rattle.std.specs.Option.{option_map}
use Rattle.std.specs.Prelude.{◌≢◌, IfSome, ◌&&◌, Bool, true, false, not, if◌then◌else◌, is_some, nat_le, nat_lt, None, Option, Some}
use Rattle.vdcp_drive.specs.declared.hearing.Hearing.{Hearing}
use Rattle.vdcp_drive.specs.declared.hearing.Hearing.TheVariants as hears
use Rattle.vdcp_drive.specs.declared.line.Ran.TheVariants as ran
use Rattle.vdcp_run.specs.Run.{IsAtRest, beginning_anew, behind_left_out, behind_with, going_on, has_lost_port, is_by_line, journal_behind, keeps_line, keeps_line_by, later_by, later_of, leaves_out, leaving_out, line_left, may_try, told_outcome, turns_left}
use Rattle.vdcp_run.specs.declared.lack.Lack.{Lack}
use Rattle.vdcp_run.specs.declared.run_end.LineEnd.{LineEnd}
use Rattle.vdcp_run.specs.declared.run_end.LineEnd.TheVariants as line_end
use Rattle.vdcp_run.specs.declared.run_end.RunEnd.{RunEnd}
use Rattle.vdcp_run.specs.declared.settings.RunJournal.{RunJournal}
use Rattle.vdcp_run.specs.declared.settings.RunJournal.TheVariants as journals
use Rattle.vdcp_run.specs.declared.settings.RunSettings.{RunSettings}
use Rattle.vdcp_run.specs.declared.settings.Staying.{Staying}
use Rattle.vdcp_journal_file.specs.Recording.{Recording}
use Rattle.vdcp_operator.specs.declared.on_list.OnList.{OnList}
use Rattle.vdcp_run.specs.Asking.{Start}
use Rattle.vdcp_run.specs.Session.{HasSession}
use Rattle.vdcp_wire.specs.Streams.{Streamed, failures_of}

-- a run that goes on behind an event: so it ended, and may try again
record GoesBehind (settings : RunSettings) (count : ℕ) (stay : Staying) (journal : RunJournal) (end : RunEnd) (next : RunSettings)
    : Type 0 where
  may : may_try settings end ≡ true
  first : ℕ
  behind : behind_left_out stay.skip settings.mode count end ≡ Some first
  next_is : leaving_out settings journal end.line first (turns_left settings end) ≡ next

-- of the ways to go on this has it that only what goes on behind an event has
chosen : (has : RunSettings → Bool) (may lost by : Bool) (anew on next : RunSettings) (leaving : ℕ → RunSettings)
    (behind : Option ℕ) → has on ≡ false → has anew ≡ false → has next ≡ true
    → (if may then (if lost then Some anew else (if by then Some on else option_map leaving behind)) else None) ≡ Some next
    → (may ≡ true) × ((first : ℕ) × (behind ≡ Some first) × (leaving first ≡ next))
chosen has false lost by anew on next leaving behind older again it e = cc
chosen has true true by anew on next leaving behind older again it e =
    let same : anew ≡ next = cc e in
    let wrong : false ≡ true = sym again ∙ ap has same ∙ it in cc wrong
chosen has true false true anew on next leaving behind older again it e =
    let same : on ≡ next = cc e in
    let wrong : false ≡ true = sym older ∙ ap has same ∙ it in cc wrong
chosen has true false false anew on next leaving None older again it e = cc
chosen has true false false anew on next leaving (Some first) older again it e = (refl, (first, refl, cc e))

behind_so : (has : RunSettings → Bool) (settings next : RunSettings) (count : ℕ) (stay : Option Staying)
    (journal : Option RunJournal) (end : RunEnd)
    → ((j : RunJournal) (left : ℕ) → has (going_on settings j left) ≡ false)
    → ((j : RunJournal) (left : ℕ) → has (beginning_anew settings j left) ≡ false) → has next ≡ true
    → later_by settings count stay journal end ≡ Some next
    → (s : Staying) × (j : RunJournal) × GoesBehind settings count s j end next
behind_so has settings next count None journal end older again it e = cc
behind_so has settings next count (Some stay) None end older again it e = cc
behind_so has settings next count (Some stay) (Some journal) end older again it e =
    let turns : ℕ = turns_left settings end in
    let r = chosen has (may_try settings end) (has_lost_port journal end) (is_by_line end.line (told_outcome end.line end.outcome))
    (beginning_anew settings journal turns) (going_on settings journal turns) next
    (λ first. leaving_out settings journal end.line first turns) (behind_left_out stay.skip settings.mode count end) (older journal turns)
    (again journal turns) it e in
    (stay, journal, record { may = r.0; first = r.1.0; behind = r.1.1; next_is = r.1.2 })

if_some : {A : Type 0} (b : Bool) (x y : A) → (if b then Some x else None) ≡ Some y → (b ≡ true) × (x ≡ y)
if_some true x y e = (refl, cc e)
if_some false x y e = cc

-- ---- it ended between two exchanges

rests : (line : LineEnd) (skips : Bool) (reported count first : ℕ) → behind_with line skips reported count ≡ Some first → IsAtRest line
rests (line_end.LeftOut kept) skips reported count first e = tt
rests (line_end.Ran ran.Ended) skips reported count first e = tt
rests line skips reported count first e = cc

kept_by : (hearing : Hearing) (unanswered : Bool) (later : Option RunSettings) → keeps_line_by hearing unanswered later ≡ true
    → (hearing ≡ hears.AtOnce) × (unanswered ≡ false)
    × ((next : RunSettings) × (later ≡ Some next) × (leaves_out next.journal next.from ≡ true))
kept_by hears.AtOnce false (Some later) e = (refl, refl, (later, refl, e))
kept_by hearing unanswered later e = cc e

pub at_rest : (settings : RunSettings) (count : ℕ) (end : RunEnd) → keeps_line settings count end ≡ true
    → (settings.hearing ≡ hears.AtOnce) × (end.signs.unanswered ≡ false) × IsAtRest end.line
at_rest settings count end e =
    let kept = kept_by settings.hearing end.signs.unanswered (later_of settings count end) e in
    let goes = behind_so (λ s. leaves_out s.journal s.from) settings kept.2.0 count settings.stay settings.journal end
    (λ j left. refl) (λ j left. refl) kept.2.2 kept.2.1 in
    (kept.0, kept.1, rests end.line _ end.reported count goes.2.first goes.2.behind)

not_failed : (line : LineEnd) → IsAtRest line → line ≢ line_end.Failed
not_failed line rests is = subst IsAtRest is rests

-- a wire that is left to the next try hasn't failed
pub works_on : (settings : RunSettings) (count : ℕ) (keeps : Bool) (end : RunEnd) (wire : Streamed) (line : Option Streamed)
    → keeps ≡ keeps_line settings count end → line ≡ line_left keeps (Some wire)
    → (end.line ≢ line_end.Failed → failures_of wire.connection ≡ 0) → IfSome line (λ w. failures_of w.connection ≡ 0)
works_on settings count keeps end wire line is line_is works =
    subst (λ (l : Option Streamed). IfSome l (λ w. failures_of w.connection ≡ 0)) (sym line_is)
    (by keeps (λ kept. works (not_failed end.line (at_rest settings count end (sym is ∙ kept)).2))) where
      by : (b : Bool) → (b ≡ true → failures_of wire.connection ≡ 0)
          → IfSome (line_left b (Some wire)) (λ w. failures_of w.connection ≡ 0)
      by true works = works refl
      by false works = tt

no_line_left : (b : Bool) → line_left {W = Streamed} b None ≡ None
no_line_left true = refl
no_line_left false = refl

-- where there was no wire, none is left
pub unkept_line : {Stream F : Type 0} {safe : F → Option (List ℕ)} (settings : RunSettings) (count : ℕ) (end : RunEnd)
    (line : Option Streamed) (start : Start) (list : OnList) (recorder : Option (Recording F)) (before : Option Streamed) → line ≡ None
    → HasSession Stream safe settings start list recorder before end None
    → (last : Option Streamed) × HasSession Stream safe settings start list recorder before end last
    × (line ≡ line_left (keeps_line settings count end) last)
unkept_line settings count end line start list recorder before none session =
    (None, session, none ∙ sym (no_line_left (keeps_line settings count end)))

-- ---- the operator left it

whole_if : (stopped : Bool) (unkept : Option Lack) (some : Bool) → (not stopped && (not (is_some unkept) && some)) ≡ true
    → unkept ≡ None
whole_if stopped None some may = refl
whole_if true (Some lack) some may = cc may
whole_if false (Some lack) some may = cc may

left_with : (line : LineEnd) (skips : Bool) (reported count first : ℕ) (journal : RunJournal) (name : Bor (List ℕ))
    → behind_with line skips reported count ≡ Some first → journal_behind line journal ≡ journals.Left name
    → line ≡ line_end.LeftOut first
left_with (line_end.LeftOut kept) skips reported count first journal name e left =
    ap (λ (n : ℕ). line_end.LeftOut n) (if_some (nat_lt reported kept && nat_le kept count) kept first e).1
left_with line skips reported count first journal name e left = cc left

is_left : Option RunJournal → Bool
is_left (Some (journals.Left name)) = true
is_left journal = false

pub left_so : (before next : RunSettings) (count : ℕ) (end : RunEnd) (name : Bor (List ℕ)) → later_of before count end ≡ Some next
    → next.journal ≡ Some (journals.Left name)
    → (end.unkept ≡ None) × ((kept : ℕ) × (end.line ≡ line_end.LeftOut kept) × (next.from ≡ Some kept))
unfolding is_left
left_so before next count end name e left =
    let goes = behind_so (λ s. is_left s.journal) before next count before.stay before.journal end (λ j n. refl) (λ j n. refl)
    (ap is_left left) e in
    let of = goes.2 in
    let journal_is : Some (journal_behind end.line goes.1) ≡ Some (journals.Left name) =
    ap (λ (s : RunSettings). s.journal) of.next_is ∙ left in (
      whole_if end.signs.stopped end.unkept _ of.may,
      (
        of.first,
        left_with end.line _ end.reported count of.first goes.1 name of.behind (cc journal_is),
        sym (ap (λ (s : RunSettings). s.from) of.next_is),
      ),
    )
