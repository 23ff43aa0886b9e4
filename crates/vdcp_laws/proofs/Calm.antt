-- What a run keeps says nothing of a loss, nor does what is left of it.
use Rattle.std.proofs.Common.{◌≡◌, arith, ℕ, ◌+◌, Bool, true, false, ◌||◌, cond, List, [], ◌∷◌, ◌++◌, Option, None, Some, map, refl, sym, ap, ap₂, ◌∙◌, add-zero}
use Rattle.std.proofs.lemmas.List.Folds.{list_any-append}
use Rattle.std.proofs.lemmas.List.Sums.{sum_by-cons}
use Rattle.std.specs.List.{list_any}
use Rattle.std.specs.Prelude.{IsTrue}
use Rattle.vdcp_words.specs.declared.command.Command.{Command}
use Rattle.vdcp_words.specs.declared.command.Command.TheVariants as command
use Rattle.vdcp_journal.specs.Resume.{is_loss, losses}
use Rattle.vdcp_journal.specs.Thinned.{IsThinned, before_play, hears_free, notes_in, takes, whole, without}
use Rattle.vdcp_journal.specs.declared.row.Note.{Note}
use Rattle.vdcp_journal.specs.declared.row.Note.TheVariants as note
use Rattle.vdcp_journal.specs.declared.row.Row.{Row}
use Rattle.vdcp_drive.specs.declared.hooks.Call.TheVariants as call
use Rattle.vdcp_drive.specs.declared.hooks.Kept.{Kept}
use Rattle.vdcp_drive.specs.declared.hooks.Kept.TheVariants as kept
use Rattle.vdcp_journal_file.specs.Recorded.{WaitsSince, note_for}
use Rattle.vdcp_journal_file.specs.Recording.{IsTimedOut, notes_seen, rows_left, seen_before}
use Rattle.vdcp_journal_file.specs.declared.pending.Pending.{Pending}
use Rattle.vdcp_journal_file.specs.declared.pending.Seen.{Seen}
use Rattle.vdcp_laws.proofs.Mended.{losses_more, silence_if, waits_so}

-- no note says that the run was lost
abbrev pub AreCalm : List Note → Type 0
AreCalm notes = list_any is_loss notes ≡ false

abbrev pub any : List Note → Bool
any notes = list_any is_loss notes

both_calm : (a b : List Note) → AreCalm a → AreCalm b → AreCalm (a ++ b)
both_calm a b first second = list_any-append is_loss a b ∙ ap₂ (λ (x y : Bool). x || y) first second

first_of : (x y : Bool) → (x || y) ≡ false → x ≡ false
first_of x y is = grind arith

second_of : (x y : Bool) → (x || y) ≡ false → y ≡ false
second_of x y is = grind arith

pub calm_first : (a b : List Note) → AreCalm (a ++ b) → AreCalm a
calm_first a b is = first_of (any a) (any b) (sym (list_any-append is_loss a b) ∙ is)

calm_second : (a b : List Note) → AreCalm (a ++ b) → AreCalm b
calm_second a b is = second_of (any a) (any b) (sym (list_any-append is_loss a b) ∙ is)

once : (b a h r : Bool) → (b || (a || (h || (a || (h || (a || r)))))) ≡ false → (b || (a || (h || (a || r)))) ≡ false
once b a h r is = grind arith

plays : (b a f r : Bool) → b ≡ false → a ≡ false → f ≡ false → r ≡ false → (b || (a || (f || (false || r)))) ≡ false
plays b a f r one two three four = grind arith

free_calm : (n : Note) → IsTrue (hears_free n) → is_loss n ≡ false
free_calm (note.Heard h) is = refl
free_calm n is = cc is

behind_take : (took : Bool) (hears : Note) (after : List Note) → AreCalm (takes took ++ (hears ∷ note.Sent command.Play ∷ after))
    → AreCalm after
behind_take true hears after is = second_of false (any after) (second_of (is_loss hears) (false || any after) is)
behind_take false hears after is = second_of false (any after) (second_of (is_loss hears) (false || any after) is)

thinned_calm : (all rows : List Note) → IsThinned all rows → AreCalm all → AreCalm rows
thinned_calm all _ whole calm = calm
thinned_calm all _ (without before after asks hears a h thin) calm =
    list_any-append is_loss before (asks ∷ hears ∷ asks ∷ after)
    ∙ once (any before) (is_loss asks) (is_loss hears) (any after)
    (sym (list_any-append is_loss before (asks ∷ hears ∷ asks ∷ hears ∷ asks ∷ after)) ∙ thinned_calm all _ thin calm)
thinned_calm all _ (before_play before after took asks hears free a h f thin) calm =
    let more : List Note = takes took ++ (hears ∷ note.Sent command.Play ∷ after) in
    let is : AreCalm (before ++ (asks ∷ more)) = thinned_calm all _ thin calm in
    let behind : AreCalm (asks ∷ more) = calm_second before (asks ∷ more) is in
    list_any-append is_loss before (asks ∷ free ∷ note.Sent command.Play ∷ after)
    ∙ plays (any before) (is_loss asks) (is_loss free) (any after) (calm_first before (asks ∷ more) is)
    (first_of (is_loss asks) (any more) behind) (free_calm free f)
    (behind_take took hears after (second_of (is_loss asks) (any more) behind))

kept_calm : (ks : List Kept) → AreCalm (map note_for ks)
kept_calm [] = refl
kept_calm (kept.Sent c ∷ ks) = kept_calm ks
kept_calm (kept.Heard h ∷ ks) = kept_calm ks
kept_calm (kept.Silence ∷ ks) = kept_calm ks
kept_calm (kept.Called call.Take ∷ ks) = kept_calm ks
kept_calm (kept.Called call.Stop ∷ ks) = kept_calm ks
kept_calm (kept.Called (call.List c) ∷ ks) = kept_calm ks

seen_calm : (o : Option Seen) → AreCalm (notes_seen o)
seen_calm None = refl
seen_calm (Some seen) = refl

-- what is written in a run, and what waits then, is calm if what waited before was
pub record LeftCalm (written : List Row) (left : Pending) : Type 0 where
  pub rows : AreCalm (notes_in written)
  pub waits : AreCalm (notes_in (rows_left left))

pub left_calm : (before left : Pending) (notes : List Kept) (written : List Row) → AreCalm (notes_in (rows_left before))
    → WaitsSince before notes written left → LeftCalm written left
left_calm before left notes written calm w =
    let seen : List Note = notes_seen (seen_before before) in
    let old : List Note = notes_in (rows_left before) in
    let waits : List Note = notes_in (rows_left left) in
    let is : AreCalm ((seen ++ notes_in written) ++ waits) =
    thinned_calm (seen ++ (old ++ map note_for notes)) ((seen ++ notes_in written) ++ waits) w.thinned
    (both_calm seen (old ++ map note_for notes) (seen_calm (seen_before before))
    (both_calm old (map note_for notes) calm (kept_calm notes))) in record {
      rows = calm_second seen (notes_in written) (calm_first (seen ++ notes_in written) waits is);
      waits = calm_second (seen ++ notes_in written) waits is;
    }

-- what waits before a session says at most that nothing came
pub waits_calm : (waits : Pending) → (o : Option Command) × IsTimedOut o waits → AreCalm (notes_in (rows_left waits))
waits_calm waits (o, is) = ap any (waits_so o waits is).0 ∙ silence_calm o where
  silence_calm : (o : Option Command) → AreCalm (silence_if o)
  silence_calm None = refl
  silence_calm (Some c) = refl

pub none_in : (rows : List Row) → AreCalm (notes_in rows) → losses rows ≡ 0
none_in [] calm = refl
none_in (row ∷ rows) calm =
    sum_by-cons (λ (r : Row). cond (is_loss r.note) 1 0) row rows
    ∙ ap₂ (λ (b : Bool) (n : ℕ). cond b 1 0 + n) (first_of (is_loss row.note) (any (notes_in rows)) calm)
    (none_in rows (second_of (is_loss row.note) (any (notes_in rows)) calm))

-- rows that say nothing of a loss leave the count as it was
pub still_calm : (rows more : List Row) → AreCalm (notes_in more) → losses (rows ++ more) ≡ losses rows
still_calm rows more calm = losses_more rows more ∙ ap (λ (n : ℕ). losses rows + n) (none_in more calm) ∙ add-zero (losses rows)

pub waits_unseen : (waits : Pending) → (o : Option Command) × IsTimedOut o waits → seen_before waits ≡ None
waits_unseen waits (o, is) = (waits_so o waits is).1
