-- A burst ends clean if nothing is held.
use Rattle.std.proofs.Common.{ℕ, List, take, refl}
use Rattle.vdcp_frame.specs.Progress.{reading}
use Rattle.vdcp_c.proofs.Short.{clean_end, cut_end}
use Rattle.vdcp_c.proofs.reader.end_in.Goals as goal

pub returns-in-empty-clause-ended : goal.returns-in-empty-clause-ended
returns-in-empty-clause-ended c _ =
    let held : List ℕ = take c.args.reader.now.held c.args.reader.now.bytes in (
      reading c.args.reader.now.taken held,
      c.if-not-can_go_on.ensures.is refl,
      clean_end c.args.reader.now.taken held c.in-empty.len_below,
    )

pub returns-in-len1-up-clause-ended : goal.returns-in-len1-up-clause-ended
returns-in-len1-up-clause-ended c _ =
    let held : List ℕ = take c.args.reader.now.held c.args.reader.now.bytes in (
      reading c.args.reader.now.taken held,
      c.if-not-can_go_on.ensures.is refl,
      cut_end c.args.reader.now.taken held c.in-len1-up.len_at_least,
    )
