-- If the argument is no ID's text, no command that takes an ID has these words.
use Rattle.std.proofs.Common.{inl, inr, []}
use Rattle.vdcp_text.proofs.MakeLemmas.{no_id}
use Rattle.vdcp_text.proofs.make.with_one.Goals as goal

pub returns-in_err-id_of-in-cue-clause-none : goal.returns-in_err-id_of-in-cue-clause-none
returns-in_err-id_of-in-cue-clause-none c =
    rw c.from_residual-in_err-id_of-in-cue.ensures (no_id _ _ [] c.in_err-id_of-in-cue.ensures.none (inl c.in-cue.is))

pub returns-in_err-id_of-in-exists-clause-none : goal.returns-in_err-id_of-in-exists-clause-none
returns-in_err-id_of-in-exists-clause-none c =
    rw c.from_residual-in_err-id_of-in-exists.ensures
    (no_id _ _ [] c.in_err-id_of-in-exists.ensures.none (inr (inl c.in-exists.is)))

pub returns-in_err-id_of-in-size-clause-none : goal.returns-in_err-id_of-in-size-clause-none
returns-in_err-id_of-in-size-clause-none c =
    rw c.from_residual-in_err-id_of-in-size.ensures
    (no_id _ _ [] c.in_err-id_of-in-size.ensures.none (inr (inr (inl c.in-size.is))))
