use Rattle.std.proofs.Common.{◌≡◌, sym, ap, subst, ◌∙◌}
use Rattle.std.proofs.lemmas.Fmt.{IsAscii-decimal, parse-decimal}
use Rattle.std.proofs.lemmas.Str.{IsUtf8-from_ascii}
use Rattle.std.specs.Prelude.{decimal}
use Rattle.std.specs.Str.{IsUtf8}
use Rattle.vdcp_panel.proofs.Numbers.{differ, reads_none, reads_number, same_unless}
use Rattle.vdcp_panel.proofs.number.number_in.Goals as goal

pub returns-in_default : goal.returns-in_default
returns-in_default c = reads_none c.args.digits.now (λ n small e.
    absurd (c.in_default.ensures.cases.0 (subst IsUtf8 e (IsUtf8-from_ascii (decimal n) (IsAscii-decimal n small)))))

pub returns-in_default-parse : goal.returns-in_default-parse
returns-in_default-parse c = reads_none c.args.digits.now (λ n small e.
    let read = parse-decimal 64 n _ _ small small (c.in-Ok.ensures.cases.0 ∙ sym e) c.parse.ensures.value.0 in
    absurd (cc (read, c.in_default-parse.is)))

pub returns-then-ne : goal.returns-then-ne
returns-then-ne c = reads_none c.args.digits.now (λ n small e.
    let read = parse-decimal 64 n _ _ small small (c.in-Ok.ensures.cases.0 ∙ sym e) c.parse.ensures.value.0 in
    let same : c.in-Ok-parse.number ≡ n = cc (read, c.in-Ok-parse.is) in
    differ _ _ c.ne.result c.if-ne.true c.ne.ensures
    (c.format.ensures.text ∙ ap decimal same ∙ e ∙ sym c.in-Ok.ensures.cases.0))

pub returns : goal.returns
returns c =
    let parsed = rw c.in-Ok-parse.is at c.parse.ensures.value.0 in
    let same = same_unless _ _ c.ne.result c.if-ne.false c.ne.ensures in
    reads_number c.args.digits.now c.in-Ok-parse.number (rw parsed.1 parsed.0.1)
    (sym c.format.ensures.text ∙ same ∙ c.in-Ok.ensures.cases.0)
