use Rattle.std.proofs.Common.{inl, inr}
use Rattle.std.proofs.lemmas.Result.{err_from_is_err_and}
use Rattle.vdcp_offline.proofs.CheckLemmas.{kept}
use Rattle.vdcp_offline.proofs.check.check.Goals as goal
use Rattle.vdcp_offline.specs.Check.{no_files}
use Rattle.vdcp_list.specs.List.{items_of}

pub returns-in_err-events-clause-unchecked : goal.returns-in_err-events-clause-unchecked
returns-in_err-events-clause-unchecked g c =
    let p = err_from_is_err_and c.from_residual.result c.from_residual.ensures.1 in
    rw (p.1, p.2) (no_files (inl c.in_err-events.ensures.refused) (kept (g.W.Write.contents c.args.out.now)))

pub returns-in_err-clips-clause-unchecked : goal.returns-in_err-clips-clause-unchecked
returns-in_err-clips-clause-unchecked g c =
    let p = err_from_is_err_and c.from_residual-in_err-clips.result c.from_residual-in_err-clips.ensures.1 in
    rw (p.1, p.2) (no_files (inr (
      (items_of c.in_ok-events.events, c.in_ok-events.ensures.events),
      c.in_err-clips.ensures.refused,
    ))
    (kept (g.W.Write.contents c.args.out.now)))

pub returns-clause-silent : goal.returns-clause-silent
returns-clause-silent g c =
    inr (
      (items_of c.in_ok-events.events, c.in_ok-events.ensures.events),
      (c.in_ok-clips.clips, c.in_ok-clips.ensures.clips),
    )
