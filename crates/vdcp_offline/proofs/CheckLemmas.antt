-- How a subcommand ends that gave up, and what `check` refuses.
use Rattle.std.proofs.Common.{◌≡◌, ◌≢◌, ◌⊎◌, ◌<◌, ℕ, Bool, List, ap, arith, inl, inr, refl, sym, ◌∙◌}
use Rattle.std.specs.Io.KnownBytes.{Appends, Keeps}
use Rattle.std.specs.Prelude.{Option, None, Some}
use Rattle.vdcp_files.specs.Files.{File}
use Rattle.vdcp_text.specs.Subcommand.{IsSubcommand}
use Rattle.vdcp_offline.specs.Check.{IsRefused, IsUnchecked, no_files, writer_failed}
use Rattle.vdcp_text.specs.Failure.{failure_line, status_of}
use Rattle.vdcp_text.specs.declared.failure.Failure.{Failure}
use Rattle.vdcp_text.specs.declared.failure.Failure.TheVariants as failures
use Rattle.vdcp_value.specs.declared.rate.Rate.{Rate}

-- a writer to which nothing is written is as it was
pub kept : (bytes : Option (List ℕ)) → Keeps bytes bytes
kept None = tt
kept (Some xs) = refl

-- a failure's status is 1, 2 or 3
statuses : (failure : Failure) → (status_of failure ≡ 1) ⊎ (status_of failure ≡ 2) ⊎ (status_of failure ≡ 3)
statuses failures.Text = inr (inl refl)
statuses failures.Address = inr (inl refl)
statuses (failures.Open name) = inr (inr refl)
statuses (failures.Read name) = inr (inr refl)
statuses (failures.Write name) = inr (inr refl)
statuses (failures.IsList name) = inr (inr refl)
statuses (failures.Exists name) = inr (inr refl)
statuses (failures.InUse name) = inr (inr refl)
statuses failures.Connect = inr (inr refl)
statuses failures.Bind = inr (inr refl)
statuses failures.LineFailed = inr (inr refl)
statuses failures.LineClosed = inr (inr refl)
statuses failures.Unanswered = inr (inr refl)
statuses failures.Spent = inr (inr refl)
statuses failures.Memory = inr (inr refl)
statuses failures.Writer = inr (inr refl)
statuses failure = inl refl

pub gave_up : (Prints : Bool → Option (List ℕ) → Option (List ℕ) → Type 0)
    (Refuses : Option (List ℕ) → Option (List ℕ) → Option (List ℕ) → Option (List ℕ) → Type 0) (AreWhole : Type 0)
    (out out' err err' : Option (List ℕ)) (failure : Failure) (status : ℕ)
    → (status ≡ status_of failure) ⊎ (status ≡ 3) → status_of failure ≢ 2
    → (status ≡ 1 → Refuses out out' err err') → Keeps out out' ⊎ AreWhole
    → IsSubcommand Prints Refuses AreWhole out out' err err' status
gave_up Prints Refuses AreWhole out out' err err' failure status is no_two refused silent = record {
  good = λ zero. absurd (none zero (statuses failure) is);
  bad = λ one. inr (refused one);
  silent = silent;
  statuses = by (statuses failure) is;
}
  where
    none : status ≡ 0 → (status_of failure ≡ 1) ⊎ (status_of failure ≡ 2) ⊎ (status_of failure ≡ 3)
        → (status ≡ status_of failure) ⊎ (status ≡ 3) → ⊥
    none zero (inl one) (inl is) = omega (arith, zero, one, is)
    none zero (inr (inl two)) (inl is) = omega (arith, zero, two, is)
    none zero (inr (inr three)) (inl is) = omega (arith, zero, three, is)
    none zero s (inr three) = omega (arith, zero, three)

    by : (status_of failure ≡ 1) ⊎ (status_of failure ≡ 2) ⊎ (status_of failure ≡ 3)
        → (status ≡ status_of failure) ⊎ (status ≡ 3) → (status < 2) ⊎ (status ≡ 3)
    by (inl one) (inl is) = inl (omega (arith, one, is))
    by (inr (inl two)) (inl is) = absurd (no_two two)
    by (inr (inr three)) (inl is) = inr (is ∙ three)
    by s (inr three) = inr three

-- a failure that is told with status 1 has it
pub status_1 : (failure : Failure) (status : ℕ) → (status ≡ status_of failure) ⊎ (status ≡ 3) → status ≡ 1
    → status_of failure ≡ 1
status_1 failure status (inl e) one = sym e ∙ one
status_1 failure status (inr three) one = absurd (omega (arith, three, one))

pub refused_by : (rate : Rate) (list catalogue : File) (out out' err err' : Option (List ℕ)) (failure : Failure)
    (status : ℕ) → IsUnchecked rate list catalogue out out' failure → (status ≡ status_of failure) ⊎ (status ≡ 3)
    → (status < 3 → Appends err err' (failure_line failure)) → status ≡ 1
    → IsRefused rate list catalogue out out' err err'
refused_by rate list catalogue out out' err err' failure status (writer_failed writer) is told one =
    let three : status_of failure ≡ 3 = ap status_of writer in
    absurd (omega (arith, three, status_1 failure status is one))
refused_by rate list catalogue out out' err err' failure status (no_files refuses silent) is told one = record {
  failure = failure;
  refused = refuses;
  of_row = status_1 failure status is one;
  told = told (omega (arith, one));
  silent = silent;
}
