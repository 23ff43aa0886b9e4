-- What writes in a row do to a disk's bytes.
use Rattle.std.proofs.Common.{ℕ, ◌≡◌, Bool, true, false, true≢false, ◌+◌, ◌-◌, List, [], ◌∷◌, ◌++◌, length, take, drop, inl, inr, refl, sym, ap, subst, ◌∙◌, append_assoc}
use Rattle.std.proofs.KnownBytes.{Appends-kept, Appends-nil, Appends-trans}
use Rattle.std.proofs.Math.Seq.{take-add, take-append_seam}
use Rattle.std.proofs.lemmas.List.{append_cancel_left, take_rest, take-append-drop}
use Rattle.std.specs.Io.KnownBytes.{Appends, WriteAppends}
use Rattle.std.specs.Prelude.{◌==◌, OnErr, Option, None, Some, Result, Ok, Err, if◌then◌else◌}
use Rattle.vdcp_list.specs.Asrun.{AppendsBeginning}
use Rattle.vdcp_journal.specs.Reading.{line_before, whole_lines}
use Rattle.vdcp_journal.specs.declared.row.Row.{Row}
use Rattle.vdcp_journal_file.specs.Disks.{Spills}
use Rattle.vdcp_journal_file.specs.Recording.{IsSynced, ended, is_announced, with_play}
use Rattle.vdcp_journal_file.specs.declared.pending.Pending.{Pending}
use Rattle.vdcp_journal_file.specs.declared.pending.Pending.TheVariants as pending

-- one more write
pub appends_more : (a b c : Option (List ℕ)) (xs : List ℕ) (at n : ℕ) → Appends a b (take at xs)
    → Appends b c (take n (take (length xs - at) (drop at xs))) → Appends a c (take (at + n) xs)
appends_more a b c xs at n first next =
    subst (Appends a c) (ap (λ (l : List ℕ). take at xs ++ take n l) (take_rest xs at) ∙ sym (take-add at n xs))
    (Appends-trans a b c (take at xs) (take n (take (length xs - at) (drop at xs))) first next)

-- nothing was written
pub none_written : {A E : Type 0} (result : Result A E) (known : Option (List ℕ)) (xs : List ℕ)
    → OnErr result (AppendsBeginning known known xs)
none_written (Ok x) known xs = tt
none_written (Err e) known xs = (0, Appends-nil known)

pub spills_none : (safe written : Option (List ℕ)) → safe ≡ written → Spills safe safe written
spills_none safe written is = record {
  more = [];
  unsafe = [];
  grows = Appends-nil safe;
  within = subst (λ (w : Option (List ℕ)). Appends safe w []) is (Appends-nil safe);
}

pub spills_more : (a b c w w' : Option (List ℕ)) → Spills a b w → Spills b c w' → Spills a c w'
spills_more a b c w w' first next = record {
  more = first.more ++ next.more;
  unsafe = next.unsafe;
  grows = Appends-trans a b c first.more next.more first.grows next.grows;
  within = next.within;
}

-- of what was written since, a beginning is safe
spilled : (safe safe' written' : Option (List ℕ)) (xs : List ℕ) → AppendsBeginning safe written' xs
    → Spills safe safe' written' → AppendsBeginning safe safe' xs
spilled None safe' written' xs wrote spills = (0, tt)
spilled (Some s) None written' xs wrote spills = absurd spills.grows
spilled (Some s) (Some t) None xs wrote spills = absurd spills.within
spilled (Some s) (Some t) (Some w) xs wrote spills =
    let rest : List ℕ = drop wrote.0 xs in
    let front : take wrote.0 xs ≡ spills.more ++ spills.unsafe = append_cancel_left s _ _
    (sym wrote.1 ∙ spills.within ∙ ap (λ (l : List ℕ). l ++ spills.unsafe) spills.grows ∙ append_assoc s spills.more spills.unsafe) in
    let all : xs ≡ spills.more ++ (spills.unsafe ++ rest) = sym (take-append-drop wrote.0 xs)
    ∙ ap (λ (l : List ℕ). l ++ rest) front ∙ append_assoc spills.more spills.unsafe rest in (
      length spills.more,
      spills.grows ∙ ap (λ (l : List ℕ). s ++ l)
          (sym (ap (take (length spills.more)) all ∙ take-append_seam spills.more (spills.unsafe ++ rest))),
    )

pub safe_front : (safe safe' w w' : Option (List ℕ)) (xs : List ℕ) (n : ℕ) → safe ≡ w → Appends w w' (take n xs)
    → Spills safe safe' w' → AppendsBeginning safe safe' xs
safe_front safe safe' w w' xs n synced wrote = spilled safe safe' w' xs
    (n, subst (λ (from : Option (List ℕ)). Appends from w' (take n xs)) (sym synced) wrote)

-- a write that is the last
pub broke_off : {E : Type 0} (safe safe' safe'' w w' w'' : Option (List ℕ)) (xs : List ℕ) (at : ℕ) (wrote : Result ℕ E)
    → safe ≡ w → Appends w w' (take at xs) → (safe ≡ w → Spills safe safe' w')
    → WriteAppends w' w'' wrote (take (length xs - at) (drop at xs)) → Spills safe' safe'' w'' → AppendsBeginning safe safe'' xs
broke_off safe safe' safe'' w w' w'' xs at (Ok n) synced first spills next more = safe_front safe safe'' w w'' xs (at + n)
    synced (appends_more w w' w'' xs at n first next) (spills_more safe safe' safe'' w' w'' (spills synced) more)
broke_off safe safe' safe'' w w' w'' xs at (Err e) synced first spills next more = safe_front safe safe'' w w'' xs at
    synced (Appends-kept w w' w'' (take at xs) first next) (spills_more safe safe' safe'' w' w'' (spills synced) more)

-- all that was written is safe, also once an end is noted
pub synced_at_end : (left : Pending) (row : Row) (safe written : Option (List ℕ)) → IsSynced left safe written
    → IsSynced (ended left row) safe written
synced_at_end left row safe written (inl failed) = inl (failed.0, ap (λ (p : Pending). ended p row) failed.1)
synced_at_end left row safe written (inr is) = inr is

-- and once a PLAY is held back
pub synced_with_play : (left : Pending) (row : Row) (safe written : Option (List ℕ)) → is_announced left row.note ≡ true
    → IsSynced left safe written → IsSynced (with_play left row) safe written
synced_with_play left row safe written announced (inl failed) =
    let gone : is_announced (pending.Failed failed.0) row.note ≡ true =
    subst (λ (p : Pending). is_announced p row.note ≡ true) failed.1 announced in absurd (true≢false (sym gone))
synced_with_play left row safe written announced (inr is) = inr is

-- whole lines are a beginning of a text

front_of : (byte : ℕ) (more lines : List ℕ) → take (length lines) more ≡ lines
    → take (length (line_before byte lines)) (byte ∷ more) ≡ line_before byte lines
front_of byte more [] is =
    elim (byte == 10) as (λ (b : Bool). take (length (if b then byte ∷ [] else [])) (byte ∷ more) ≡ (if b then byte ∷ [] else []))
    [ true ↦ refl | false ↦ refl ]
front_of byte more (next ∷ lines) is = ap (λ (l : List ℕ). byte ∷ l) is

pub lines_in_front : (text : List ℕ) → take (length (whole_lines text)) text ≡ whole_lines text
lines_in_front [] = refl
lines_in_front (byte ∷ more) = front_of byte more (whole_lines more) (lines_in_front more)
