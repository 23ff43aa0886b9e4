use Rattle.std.proofs.Common.{◌≡◌, length, sym, ap, ◌∙◌}
use Rattle.std.proofs.lemmas.Bool.{eqb-true}
use Rattle.std.specs.Prelude.{Some}
use Rattle.vdcp_journal.proofs.FieldTexts.{heard_other}
use Rattle.vdcp_journal.proofs.texts.heard_in.Goals as goal

pub returns-then-is_empty-clause-found : goal.returns-then-is_empty-clause-found
returns-then-is_empty-clause-found c = λ h w e.
    let none : length c.args.digits.now ≡ 0 = eqb-true _ _ (sym c.is_empty.ensures ∙ c.if-is_empty.true) in
    ap Some (sym (heard_other c.args.unit h c.args.text.now c.args.digits.now e none))
