-- A run whose beginning is kept.
use Rattle.std.proofs.Common.{ℕ, ◌≡◌, List, ◌++◌, ap, inl, inr, refl, subst, sym, ◌∙◌}
use Rattle.std.proofs.KnownBytes.{Appends-trans}
use Rattle.std.specs.Io.KnownBytes.{Appends, Keeps}
use Rattle.std.specs.Prelude.{◌↔◌, IfSome, IsSome, Option, None, Some}
use Rattle.vdcp_auto.specs.declared.outcome.Outcome.{Outcome}
use Rattle.vdcp_journal.specs.Rows.{rows_text}
use Rattle.vdcp_journal.specs.declared.moment.Moment.{Moment}
use Rattle.vdcp_journal.specs.declared.row.Note.{Note}
use Rattle.vdcp_journal.specs.declared.row.Row.{Row}
use Rattle.vdcp_journal_file.specs.Disks.{HasJust}
use Rattle.vdcp_journal_file.specs.Recording.{Adds, BeganWith, HasBegun, MakesSafe, Recording, from_rows, rows_left}
use Rattle.vdcp_journal_file.specs.Resuming.{IsOver}
use Rattle.vdcp_journal_file.specs.declared.pending.Pending.{Pending}
use Rattle.vdcp_journal_file.specs.declared.pending.Pending.TheVariants.{Nothing}

-- where nothing was left the row is all that is written
pub saved : {F : Type 0} (safe : F → Option (List ℕ)) (old new : Recording F) (time : Moment) (from : Option Note) (rows : List Row)
    → old.pending ≡ Nothing → rows ≡ from_rows time from → Adds safe old new rows → MakesSafe safe old new (from_rows time from)
saved safe old new time from rows none is adds =
    subst (λ (l : List Row). MakesSafe safe old new l)
    (ap (λ (p : Pending). rows_left p ++ rows) none ∙ is) adds

-- what appends to what is kept
kept_first : (a b c : Option (List ℕ)) (xs : List ℕ) → Keeps a b → Appends b c xs → Appends a c xs
kept_first None b c xs keeps appends = tt
kept_first (Some x) None c xs keeps appends = absurd keeps
kept_first (Some x) (Some y) None xs keeps appends = absurd appends
kept_first (Some x) (Some y) (Some z) xs keeps appends = appends ∙ ap (λ (l : List ℕ). l ++ xs) keeps

pub has_begun : {F : Type 0} (safe written : F → Option (List ℕ)) (bytes : Option (List ℕ)) (old new : Recording F)
    (from : Option Note) → HasJust safe written bytes old.file
    → (time : Moment) × MakesSafe safe old new (from_rows time from)
    → safe new.file ≡ written new.file → new ≡ record old { file = new.file; from = from }
    → HasBegun safe written bytes new
has_begun {F} safe written bytes old new from just (time, made) synced is = record {
  time = time;
  begun = kept_first bytes (written old.file) (safe new.file) (rows_text new.unit (from_rows time new.from)) just.has
      (subst (λ (s : Option (List ℕ)). Appends s (safe new.file) (rows_text new.unit (from_rows time new.from))) just.synced
      (subst (λ (n : ℕ). Appends (safe old.file) (safe new.file) (rows_text n (from_rows time new.from)))
      (sym (ap (λ (r : Recording F). r.unit) is))
      (subst (λ (n : Option Note). Appends (safe old.file) (safe new.file) (rows_text old.unit (from_rows time n)))
      (sym (ap (λ (r : Recording F). r.from) is)) made)));
  synced = synced;
}

pub began_with : {F : Type 0} (old new : Recording F) (from : Option Note) → old.pending ≡ Nothing
    → new ≡ record old { file = new.file; from = from } → BeganWith from new
began_with {F} old new from none is =
    (ap (λ (r : Recording F). r.from) is, ap (λ (r : Recording F). r.pending) is ∙ none)

-- a new journal
pub begun_new : {F : Type 0} (safe : F → Option (List ℕ)) (empty : Option (List ℕ)) (first : List ℕ) (old new : Recording F)
    (time : Moment) (from : Option Note) (unit : ℕ) → Appends empty (safe old.file) first → old.unit ≡ unit
    → MakesSafe safe old new (from_rows time from)
    → Appends empty (safe new.file) (first ++ rows_text unit (from_rows time from))
begun_new safe empty first old new time from unit begun is made =
    Appends-trans empty (safe old.file) (safe new.file) first (rows_text unit (from_rows time from)) begun
    (subst (λ (n : ℕ). Appends (safe old.file) (safe new.file) (rows_text n (from_rows time from))) is made)

-- a run that is over has no recorder
over_so : (outcome : Option Outcome) → IsOver outcome → outcome ≡ None → ⊥
over_so None (inl is) none = cc
over_so None (inr is) none = cc
over_so (Some o) is none = cc

pub unrecorded : {A : Type 0} (recorder : Option A) (P : A → Type 0) (outcome over : Option Outcome) → outcome ≡ over → IsOver over
    → (IsSome recorder ↔ (outcome ≡ None)) → IfSome recorder P
unrecorded None P outcome over same is iff = tt
unrecorded (Some r) P outcome over same is iff = absurd (over_so over is (sym same ∙ iff.0 refl))
