use Rattle.vdcp_value.proofs.IdTexts.{only_accepted}
use Rattle.vdcp_value.proofs.clip_id.ClipId.parse_ascii.Goals as goal

pub returns-then-is_hex_long-clause-accepts : goal.returns-then-is_hex_long-clause-accepts
returns-then-is_hex_long-clause-accepts c =
    λ id t.
    only_accepted c.args.text.now c.from_hex.result c.from_hex.ensures.read c.from_hex.ensures.refused id t

pub returns-else-is_hex_long-clause-accepts : goal.returns-else-is_hex_long-clause-accepts
returns-else-is_hex_long-clause-accepts c =
    λ id t.
    only_accepted c.args.text.now c.from_plain.result c.from_plain.ensures.read c.from_plain.ensures.refused id t
