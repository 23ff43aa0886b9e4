use Rattle.std.proofs.Common.{sym, subst}
use Rattle.vdcp_value.proofs.clip_id.ClipId.parse.Goals as goal
use Rattle.vdcp_value.specs.IdText.{IsTextOf}
use Rattle.vdcp_value.specs.Ids.{id_bytes}

pub returns-clause-accepts : goal.returns-clause-accepts
returns-clause-accepts c =
    λ id t. c.parse_ascii.ensures.accepts id
    (subst (λ text. IsTextOf text (id_bytes id)) (sym c.as_bytes.ensures.value) t)
