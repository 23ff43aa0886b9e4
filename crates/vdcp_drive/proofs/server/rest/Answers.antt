use Rattle.std.proofs.Common.{◌≡◌, true, ◌∙◌, ap, rules}
use Rattle.std.proofs.lemmas.Grind.{common_steps}
use Rattle.std.specs.Option.{option_to_list}
use Rattle.vdcp_port.specs.Answers.{reply_at_end}
use Rattle.vdcp_frame.specs.Progress.{is_failed}
use Rattle.vdcp_drive.specs.declared.hearing.Hearing.TheVariants.{AtOnce}
use Rattle.vdcp_drive.proofs.Serving.{silenced}
use Rattle.vdcp_drive.proofs.server.rest.Goals.{in_default-via-in-AtSilences-1, in_default-via-in-AtOnce+else-not-has_failed}
use Rattle.vdcp_drive.proofs.server.rest.Goals as goal

pub returns-2-clause-says : goal.returns-2-clause-says
returns-2-clause-says c ear h =
    let fault : (c.args.hearing ≡ AtOnce → is_failed c.args.reader.now ≡ true) =
    elim c.in_default.branch [
      | in_default-via-in-AtSilences-1 w ↦ λ is. absurd cc
      | in_default-via-in-AtOnce+else-not-has_failed w ↦ λ is. grind (rules, common_steps)
    ] in
    ap option_to_list (c.reply_at_end.ensures.exact ∙ ap reply_at_end c.silence.ensures.ended)
    ∙ (silenced c.laws_below.ensures c.one_answer_to_the_end.ensures c.args.hearing ear c.args.reader.now fault h).0
