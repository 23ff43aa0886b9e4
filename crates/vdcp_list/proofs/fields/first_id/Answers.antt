use Rattle.std.proofs.Common.{sym, ap, ◌∙◌, subst}
use Rattle.std.specs.Prelude.{Some}
use Rattle.vdcp_list.proofs.ItemRows.{one_some}
use Rattle.vdcp_list.proofs.fields.first_id.Goals as goal
use Rattle.vdcp_value.specs.IdText.{IsTextOf}
use Rattle.vdcp_value.specs.Ids.{id_bytes, text_of_id}

pub returns-in-Ok-clause-some : goal.returns-in-Ok-clause-some
returns-in-Ok-clause-some c = sym c.in-Some.ensures ∙ ap Some
    (c.an_id_has_one_text.ensures.one c.in-Ok.id c.in-Some.field.now c.in-Ok.ensures.read)

pub returns-in-Err-clause-none : goal.returns-in-Err-clause-none
returns-in-Err-clause-none c =
    λ (id, e). c.a_refused_text_is_no_ids.ensures id c.in-Some.field.now _ c.in-Err.ensures.refused
    (subst (λ t. IsTextOf t (id_bytes id)) (sym (one_some c.in-Some.field.now (text_of_id id) (c.in-Some.ensures ∙ e)))
    (c.an_id_has_one_text.ensures.some id))
