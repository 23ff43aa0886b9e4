-- What is said of an event, one run more at a time.
use Rattle.std.proofs.Common.{◌≡◌, ℕ, ◌+◌, zero, suc, List, [], ◌∷◌, ap, arith, take, ◌∙◌}
use Rattle.std.specs.Prelude.{Some, slice_get}
use Rattle.vdcp_journal_file.specs.declared.reading.RunAirings.{RunAirings}
use Rattle.vdcp_run.specs.Before.{said_after, said_from}
use Rattle.vdcp_run.specs.declared.before.Said.{Said}

said_next : (said : Said) (runs : List RunAirings) (event k : ℕ) (run : RunAirings) → slice_get runs k ≡ Some run
    → said_from said (take (suc k) runs) event ≡ said_after (said_from said (take k runs) event) run event
said_next said [] event k run at = cc at
said_next said (first ∷ runs) event zero run at =
    let same : first ≡ run = cc at in ap (λ (r : RunAirings). said_after said r event) same
said_next said (first ∷ runs) event (suc k) run at = said_next (said_after said first event) runs event k run at

pub said_more : (said : Said) (runs : List RunAirings) (event k : ℕ) (run : RunAirings) → slice_get runs k ≡ Some run
    → said_from said (take (k + 1) runs) event ≡ said_after (said_from said (take k runs) event) run event
said_more said runs event k run at =
    let next : k + 1 ≡ suc k = omega arith in
    ap (λ (n : ℕ). said_from said (take n runs) event) next ∙ said_next said runs event k run at
