use Rattle.std.proofs.Common.{◌≡◌, true, ap, sym, ◌∙◌, arith}
use Rattle.std.specs.Prelude.{Some, codes}
use Rattle.vdcp_journal.proofs.Moments.{form_size, same_moment}
use Rattle.vdcp_journal.proofs.moment.Moment.parse.Goals as goal
use Rattle.vdcp_journal.specs.Moments.{is_moment}

pub copy_from_slice-requires : goal.copy_from_slice-requires
copy_from_slice-requires c =
    let formed : is_moment c.args.text.now ≡ true = sym c.is_moment.ensures ∙ c.if-not-is_moment.false in
    omega (arith, form_size (codes "0000-00-00T00:00:00.000Z") c.args.text.now formed)

pub returns-clause-accepts : goal.returns-clause-accepts
returns-clause-accepts c = λ moment e. ap Some (same_moment _ moment (c.copy_from_slice.ensures.after ∙ sym e))
