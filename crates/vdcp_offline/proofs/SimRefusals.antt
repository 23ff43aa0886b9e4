-- A failure with status 1 is a refused row, or a refused script.
use Rattle.std.proofs.Common.{◌≡◌, ℕ, ◌<◌, List, sym, ap, ◌∙◌, arith, inl, inr, ◌⊎◌, Bor}
use Rattle.std.specs.Io.KnownBytes.{Appends}
use Rattle.std.specs.Prelude.{Option}
use Rattle.vdcp_offline.specs.Check.{IsRefused}
use Rattle.vdcp_files.specs.Files.{File}
use Rattle.vdcp_offline.proofs.CheckLemmas.{status_1}
use Rattle.vdcp_offline.specs.Sim.{IsScriptRefused, IsUnsimulated, no_files, no_script, writer_failed}
use Rattle.vdcp_text.specs.Failure.{failure_line, status_of}
use Rattle.vdcp_text.specs.declared.failure.Failure.{Failure}
use Rattle.vdcp_value.specs.declared.rate.Rate.{Rate}

pub refused_with_1 : (rate : Rate) (list catalogue : File) (name : Bor (List ℕ)) (out out' err err' : Option (List ℕ))
    (failure : Failure) (status : ℕ)
    → IsUnsimulated rate list catalogue name out out' failure → (status ≡ status_of failure) ⊎ (status ≡ 3)
    → (status < 3 → Appends err err' (failure_line failure)) → status ≡ 1
    → IsRefused rate list catalogue out out' err err' ⊎ IsScriptRefused rate list catalogue name out out' err err'
refused_with_1 rate list catalogue name out out' err err' failure status (writer_failed writer) is told one =
    let three : status_of failure ≡ 3 = ap status_of writer in
    absurd (omega (arith, three, status_1 failure status is one))
refused_with_1 rate list catalogue name out out' err err' failure status (no_files refuses silent) is told one =
    inl (record {
      failure = failure;
      refused = refuses;
      of_row = status_1 failure status is one;
      told = told
          (omega (arith, one));
      silent = silent;
    })
refused_with_1 rate list catalogue name out out' err err' failure status (no_script whole refused silent) is told one =
    inr (record {
      whole = whole;
      failure = failure;
      refused = refused;
      of_script = status_1 failure status is one;
      told = told (omega (arith, one));
      silent = silent;
    })
