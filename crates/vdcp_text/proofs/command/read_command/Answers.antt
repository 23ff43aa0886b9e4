-- The text of a command is text, and is read as that command.
use Rattle.std.proofs.Common.{◌≡◌, ap, arith, sym, subst, ◌∙◌}
use Rattle.std.proofs.lemmas.Grind.{common_steps}
use Rattle.std.proofs.lemmas.Str.{IsUtf8-from_ascii}
use Rattle.std.proofs.lemmas.Slice.Eq.{bytes_eq-Decides}
use Rattle.std.specs.Str.{IsUtf8}
use Rattle.vdcp_words.specs.Texts.{command_text}
use Rattle.vdcp_text.proofs.Named.{command_text_is_ascii, decoded}
use Rattle.vdcp_text.proofs.command.read_command.Goals as goal

pub returns-in_err-text-clause-accepts : goal.returns-in_err-text-clause-accepts
returns-in_err-text-clause-accepts c command writable is =
    let ascii = command_text_is_ascii c.the_text_of_an_id_is_short.ensures.ascii command writable in
    let text : IsUtf8 c.args.text.now = subst IsUtf8 is (IsUtf8-from_ascii _ ascii) in
    grind (arith, common_steps)

pub returns-then-eq-clause-accepts : goal.returns-then-eq-clause-accepts
returns-then-eq-clause-accepts c command writable is =
    let same = decoded c.args.text.now _ _ c.from_utf8.result c.in_ok-text.text c.from_utf8.ensures.cases
    (sym c.ok.ensures.value ∙ c.in_ok-text.was) in
    let read = c.command_in.ensures command writable (is ∙ sym same) in
    cc (read, c.in_ok-command.was)

pub returns-else-eq-clause-accepts : goal.returns-else-eq-clause-accepts
returns-else-eq-clause-accepts c command writable is =
    let same = decoded c.args.text.now _ _ c.from_utf8.result c.in_ok-text.text c.from_utf8.ensures.cases
    (sym c.ok.ensures.value ∙ c.in_ok-text.was) in
    let read = c.command_in.ensures command writable (is ∙ sym same) in
    let that : c.in_ok-command.command ≡ command = cc (read, c.in_ok-command.was) in
    let shown : c.as_str.result.now ≡ c.in_ok-text.text.now =
    c.as_str.ensures.value ∙ c.show.ensures ∙ ap command_text that ∙ is ∙ sym same in
    absurd (cc (c.if-eq.ensures, (bytes_eq-Decides c.as_str.result.now c.in_ok-text.text.now).1 shown))
