use Rattle.std.proofs.Common.{◌≡◌, ◌∙◌, ℕ, arith, sym}
use Rattle.std.specs.Prelude.{IfOk, Result, Ok, Err}
use Rattle.std.specs.Result.{result_unwrap_or}
use Rattle.vdcp_files.specs.Files.{File}
use Rattle.vdcp_run.proofs.run.do_run.Goals as goal
use Rattle.vdcp_run.specs.Run.{IsPlayed, IsRun, run_status}
use Rattle.vdcp_run.specs.declared.run_end.RunEnd.{RunEnd}
use Rattle.vdcp_run.specs.declared.settings.RunSettings.{RunSettings}

-- a run that was told with status 0
whole_run : {Stream E : Type 0} (settings : RunSettings) (list : File) (end : RunEnd) (told : Result ℕ E)
    → IsPlayed Stream settings list end → IfOk told (λ status. status ≡ run_status end) → result_unwrap_or told 3 ≡ 0
    → IsRun Stream settings list
whole_run settings list end (Ok status) played is none = record { end = end; played = played; whole = sym is ∙ none }
whole_run settings list end (Err e) played is none = absurd (omega (arith, none))

pub returns-after-end : goal.returns-after-end
returns-after-end g c = λ none.
    whole_run c.args.settings _ c.in-Ok.end c.tell.result c.in-Ok.ensures c.tell.ensures (sym c.unwrap_or.ensures ∙ none)
