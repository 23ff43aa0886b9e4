use Rattle.std.proofs.Common.{◌∙◌, ◌*◌, ap, length}
use Rattle.hex.proofs.HexLemmas.{length-encode_with}
use Rattle.hex.specs.Hex.{lower_digits}
use Rattle.vdcp_panel.proofs.panel.token_text.Goals as goal

pub returns-clause-long : goal.returns-clause-long
returns-clause-long c =
    ap length c.in_ok-text.ensures ∙ length-encode_with lower_digits c.args.bytes.now ∙ ap (λ n. 2 * n) c.told-bytes
