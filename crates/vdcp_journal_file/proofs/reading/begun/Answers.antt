use Rattle.std.proofs.Common.{◌≤◌, arith, length, refl}
use Rattle.vdcp_journal_file.proofs.reading.begun.Goals as goal

pub returns : goal.returns
returns g c = λ run from none begin.
    let within : run.from ≤ length (g.S.Source.items c.args.source.now) = omega (arith, from) in
    (within, c.args.source, refl, rw (from, none) c.new.ensures)
