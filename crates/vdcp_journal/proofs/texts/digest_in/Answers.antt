use Rattle.hex.specs.Hex.{encode_lower}
use Rattle.std.proofs.Common.{◌≡◌, sym, ap, ◌∙◌, length, rules}
use Rattle.std.specs.Prelude.{Some}
use Rattle.vdcp_journal.proofs.HexTexts.{differ, no_error, read_back}
use Rattle.vdcp_journal.proofs.texts.digest_in.Goals as goal

pub returns-then-is_err-clause-found : goal.returns-then-is_err-clause-found
returns-then-is_err-clause-found c = λ digest h e.
    let counted = (c.bytes_are_counted.ensures 32 digest).0 h in
    let back = read_back digest _ _ _ _ counted.1 (counted.0 ∙ sym (ap length c.as_mut_slice.ensures.value)) e
    c.decode_to_slice.ensures.value in
    absurd (no_error _ back.0 (sym c.is_err.ensures.value ∙ c.if-is_err.true))

pub returns-then-ne-clause-found : goal.returns-then-ne-clause-found
returns-then-ne-clause-found c = λ digest h e.
    let counted = (c.bytes_are_counted.ensures 32 digest).0 h in
    let back = read_back digest _ _ _ _ counted.1 (counted.0 ∙ sym (ap length c.as_mut_slice.ensures.value)) e
    c.decode_to_slice.ensures.value in
    let shown : c.digits_of.result.bytes ≡ encode_lower c.decode_to_slice.new.out = search rules in
    absurd (differ _ _ c.ne.result c.if-ne.true c.ne.ensures
    (c.as_bytes.ensures.value ∙ c.deref.ensures.0 ∙ shown ∙ ap encode_lower back.1 ∙ e))

pub returns-clause-found : goal.returns-clause-found
returns-clause-found c = λ digest h e.
    let counted = (c.bytes_are_counted.ensures 32 digest).0 h in
    let back = read_back digest _ _ _ _ counted.1 (counted.0 ∙ sym (ap length c.as_mut_slice.ensures.value)) e
    c.decode_to_slice.ensures.value in
    ap Some (search rules)
