use Rattle.std.proofs.Common.{◌≡◌, sym, ap, subst, ◌∙◌}
use Rattle.std.proofs.lemmas.Fmt.{IsAscii-decimal, parse-decimal}
use Rattle.std.proofs.lemmas.Str.{IsUtf8-from_ascii}
use Rattle.std.specs.Prelude.{decimal}
use Rattle.std.specs.Str.{IsUtf8}
use Rattle.vdcp_journal.proofs.HexTexts.{differ}
use Rattle.vdcp_journal.proofs.texts.number_in.Goals as goal

pub returns-in_default-clause-found : goal.returns-in_default-clause-found
returns-in_default-clause-found c = λ n small e.
    absurd (c.in_default.ensures.cases.0 (subst IsUtf8 e (IsUtf8-from_ascii (decimal n) (IsAscii-decimal n small))))

pub returns-in_default-parse-clause-found : goal.returns-in_default-parse-clause-found
returns-in_default-parse-clause-found c = λ n small e.
    let read = parse-decimal 64 n _ _ small small (c.in-Ok.ensures.cases.0 ∙ sym e) c.parse.ensures.value.0 in
    absurd (cc (read, c.in_default-parse.is))

pub returns-then-ne-clause-found : goal.returns-then-ne-clause-found
returns-then-ne-clause-found c = λ n small e.
    let read = parse-decimal 64 n _ _ small small (c.in-Ok.ensures.cases.0 ∙ sym e) c.parse.ensures.value.0 in
    let same : c.in-Ok-parse.number ≡ n = cc (read, c.in-Ok-parse.is) in
    absurd (differ _ _ c.ne.result c.if-ne.true c.ne.ensures
    (c.format.ensures.text ∙ ap decimal same ∙ e ∙ sym c.in-Ok.ensures.cases.0))

pub returns-clause-found : goal.returns-clause-found
returns-clause-found c = λ n small e.
    let read = parse-decimal 64 n _ _ small small (c.in-Ok.ensures.cases.0 ∙ sym e) c.parse.ensures.value.0 in
    cc (read, c.in-Ok-parse.is)
