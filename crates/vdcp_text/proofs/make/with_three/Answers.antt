-- If the first argument is no ID's text, no CUE WITH DATA has these words.
use Rattle.std.proofs.Common.{inr, ◌∷◌, []}
use Rattle.vdcp_text.proofs.MakeLemmas.{no_id}
use Rattle.vdcp_text.proofs.make.with_three.Goals as goal

pub returns-in_err-id_of-in-text-clause-none : goal.returns-in_err-id_of-in-text-clause-none
returns-in_err-id_of-in-text-clause-none c =
    rw c.from_residual.ensures
    (no_id _ _ (c.args.start.now ∷ c.args.duration.now ∷ []) c.in_err-id_of-in-text.ensures.none (inr (inr (inr c.in-text.is))))
