-- A journal that is opened again.
use Rattle.std.specs.Borrow.{Bor}
use Rattle.std.proofs.Common.{ℕ, ◌≡◌, ◌⊎◌, inl, inr, ◌+◌, ◌-◌, ◌≤◌, Bool, true, false, List, ap, arith, length, refl, subst, sym, ◌∙◌}
use Rattle.std.proofs.lemmas.List.{length-drop}
use Rattle.std.specs.Prelude.{IfOk, IsFalse, IsSome, IsTrue, Option, None, Some, Result, Ok, Err, if◌then◌else◌}
use Rattle.vdcp_auto.specs.Plan.{Plan, View, plan_of}
use Rattle.vdcp_auto.specs.State.{State}
use Rattle.vdcp_journal.specs.Airings.{settled_in}
use Rattle.vdcp_journal.specs.Runs.{Run}
use Rattle.vdcp_journal.specs.declared.row.Heading.{Heading}
use Rattle.vdcp_journal_file.specs.Recording.{IsUnwritten}
use Rattle.vdcp_journal_file.specs.Resuming.{BeginsAfter, Continues, IsNoBeginning, IsReplayed, IsRunOn, IsUnopenedAgain, IsUnread, kept, JournalShows, may_have, next_event, next_may_have_aired, no_event, not_listed, not_read, unresumed, unsettled}
use Rattle.vdcp_journal_file.specs.declared.reading.LastRun.{LastRun}
use Rattle.vdcp_text.specs.declared.failure.Failure.{Failure}
use Rattle.vdcp_text.specs.declared.failure.Failure.TheVariants as failures
use Rattle.vdcp_list.specs.Rests.{FromEvent, items_left}
use Rattle.vdcp_list.specs.Rows.{FileBytes}
use Rattle.vdcp_value.specs.declared.part.Item.{Item}
use Rattle.vdcp_words.specs.declared.command.Command.{Command}

-- nothing begins after the last run of this journal
pub not_begun : (items : List Item) (name : Bor (List ℕ)) (wanted : Heading) (word : Option ℕ) (lines : FileBytes) (run : Run)
    (ended : Plan) (end : State) (failure : Failure) → IsReplayed items wanted lines run ended end
    → IsNoBeginning items wanted run word failure → IsUnopenedAgain items name wanted word failure
not_begun items name wanted word lines run ended end failure replayed (may_have unsaid may is) =
    unsettled unsaid lines run ended end replayed may is
not_begun items name wanted word lines run ended end failure replayed (not_listed k said past is) =
    no_event k said past is

pub unended : (items : List Item) (name : Bor (List ℕ)) (wanted : Heading) (word : Option ℕ) (failure : Failure)
    → IsUnread name failure ⊎ IsUnwritten name failure → IsUnopenedAgain items name wanted word failure
unended items name wanted word failure (inl h) = unresumed (not_read h)
unended items name wanted word failure (inr h) = unresumed (kept h)

-- if the operator says nothing

unsettled_none : (is_one : Bool) (n : ℕ) → (if is_one then Some n else None) ≡ None → IsFalse is_one
unsettled_none true n is = cc
unsettled_none false n is = refl

unsettled_some : (is_one : Bool) (n : ℕ) → IsSome (if is_one then Some n else None) → IsTrue is_one
unsettled_some true n is = refl
unsettled_some false n is = cc

event_is : {S : Type 0} (items : S → List Item) (wanted : Heading) (list : List Item) (run : Run)
    (controller : View (FromEvent S)) (asked : Option Command) (unsettled : Option ℕ)
    → IsRunOn items wanted list run controller asked unsettled
    → controller.source.from + controller.state.settled ≡ next_event wanted run
event_is items wanted list run controller asked may on =
    ap (λ (n : ℕ). n + controller.state.settled) on.from_is ∙ ap (λ (n : ℕ). run.from + n) on.resumes.lawful.is_settled

pub next_begins : {S : Type 0} (items : S → List Item) (wanted : Heading) (list : List Item) (run : Run)
    (controller : View (FromEvent S)) (asked : Option Command) (unsettled : Option ℕ) (k : ℕ)
    → IsRunOn items wanted list run controller asked unsettled
    → k ≡ controller.source.from + controller.state.settled → unsettled ≡ None
    → k ≤ controller.source.from + length (items_left items controller.source)
    → BeginsAfter wanted run None k × (k ≤ length list)
next_begins items wanted list run controller asked may k on is none few =
    let left : length (items_left items controller.source) ≡ length list - run.from =
    ap (λ (p : Plan). length p.list) on.resumes.plan_is ∙ length-drop run.from list in (
      (
        is ∙ event_is items wanted list run controller asked may on,
        unsettled_none (next_may_have_aired wanted run) (settled_in wanted.mode run.rows) (sym on.unsettled_is ∙ none),
      ),
      omega (arith, few, left, on.from_is, on.within),
    )

pub none_next : {S : Type 0} (items : S → List Item) (wanted : Heading) (list : List Item) (run : Run)
    (controller : View (FromEvent S)) (asked : Option Command) (unsettled : Option ℕ) (failure : Failure)
    → IsRunOn items wanted list run controller asked unsettled → IsSome unsettled
    → failure ≡ failures.MayHaveAired (controller.source.from + controller.state.settled)
    → IsNoBeginning list wanted run None failure
none_next items wanted list run controller asked may failure on some is =
    may_have refl
    (unsettled_some (next_may_have_aired wanted run) (settled_in wanted.mode run.rows) (subst IsSome on.unsettled_is some))
    (is ∙ ap failures.MayHaveAired (event_is items wanted list run controller asked may on))

pub both : {A E : Type 0} (result : Result A E) (P Q : A → Type 0) → IfOk result P → IfOk result Q
    → IfOk result (λ x. P x × Q x)
both (Ok x) P Q p q = (p, q)
both (Err e) P Q p q = tt

-- what continues was replayed
pub replayed_of : {S : Type 0} (items : Bor S → List Item) (wanted : Heading) (list : List Item) (lines : FileBytes) (r : LastRun S)
    → (c : Continues items wanted list lines r)
    → IsReplayed list wanted lines c.run (plan_of (items_left items) r.controller) r.controller.state
replayed_of items wanted list lines r c = record {
  journal = c.journal;
  reads = c.reads;
  wanted_is = c.wanted_is;
  last = c.last;
  within = c.on.within;
  stand = c.on.stand;
  resumes = c.on.resumes;
}

-- and shows this
pub shown_of : {S : Type 0} (items : Bor S → List Item) (wanted : Heading) (list : List Item) (lines : FileBytes) (r : LastRun S)
    → Continues items wanted list lines r → JournalShows list wanted lines r.runs.items r.calls.items
shown_of items wanted list lines r c =
    record { journal = c.journal; reads = c.reads; show = c.show; calls_are = c.calls_are }
