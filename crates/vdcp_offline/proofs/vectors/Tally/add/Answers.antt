use Rattle.std.proofs.Common.{◌+◌, ap, refl}
use Rattle.vdcp_offline.proofs.VectorLemmas.{tally_push}
use Rattle.vdcp_offline.proofs.vectors.Tally.add.Goals as goal
use Rattle.vdcp_offline.specs.Vectors.{finding_of}

pub returns : goal.returns
returns c findings h =
    tally_push findings (finding_of c.args.verdict) c.args.self.now _ h refl
    (ap (λ n. c.args.self.now.bad + n) c.bad.ensures.bad) c.in_ok-write_line.ensures
