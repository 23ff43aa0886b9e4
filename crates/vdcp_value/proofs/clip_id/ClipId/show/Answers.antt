use Rattle.std.proofs.Common.{◌≡◌, sym, subst, arith}
use Rattle.std.proofs.lemmas.Grind.{common_steps}
use Rattle.vdcp_value.proofs.IdTexts.{text_of_id_is}
use Rattle.vdcp_value.proofs.clip_id.ClipId.show.Goals as goal
use Rattle.vdcp_value.specs.IdText.{IsTextOf}
use Rattle.vdcp_value.specs.Ids.{id_bytes, text_of_id}

pub returns-then-is_plain-clause-text : goal.returns-then-is_plain-clause-text
returns-then-is_plain-clause-text c =
    let same : c.push_plain.new.text.bytes ≡ text_of_id c.args.self.now = grind (arith, common_steps) in
    subst (λ text. IsTextOf text (id_bytes c.args.self.now)) (sym same) (text_of_id_is c.args.self.now)

pub returns-else-is_plain-clause-text : goal.returns-else-is_plain-clause-text
returns-else-is_plain-clause-text c =
    let same : c.push_hex.new.text.bytes ≡ text_of_id c.args.self.now = grind (arith, common_steps) in
    subst (λ text. IsTextOf text (id_bytes c.args.self.now)) (sym same) (text_of_id_is c.args.self.now)
