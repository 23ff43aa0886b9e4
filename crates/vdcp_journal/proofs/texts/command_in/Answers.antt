use Rattle.std.proofs.Common.{◌≡◌, ap, ◌∙◌}
use Rattle.std.specs.Result.{result_ok}
use Rattle.vdcp_frame.specs.Message.{content_of}
use Rattle.vdcp_words.specs.Commands.{command_message}
use Rattle.vdcp_words.specs.Computed.{command_of}
use Rattle.vdcp_journal.proofs.texts.command_in.Goals as goal

pub returns-in-Some-clause-found : goal.returns-in-Some-clause-found
returns-in-Some-clause-found c = λ command w e.
    let found = c.in-Some.ensures (command_message c.args.unit command)
    (c.command_is_read_first.ensures.fits c.args.unit command c.requires w) e in
    let same : content_of c.in-Some.message ≡ command_message c.args.unit command = cc found in
    c.ok.ensures.value
    ∙ ap result_ok (c.read.ensures.exact ∙ ap command_of same
    ∙ c.written_command_is_read.ensures.computed c.args.unit command w)

pub returns-in-None-clause-found : goal.returns-in-None-clause-found
returns-in-None-clause-found c = λ command w e.
    let found = c.in-None.ensures (command_message c.args.unit command)
    (c.command_is_read_first.ensures.fits c.args.unit command c.requires w) e in
    absurd (cc found)
