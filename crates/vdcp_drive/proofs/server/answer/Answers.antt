use Rattle.std.proofs.Common.{◌≡◌, rules}
use Rattle.vdcp_frame.specs.Message.{content_of}
use Rattle.vdcp_port.specs.Answers.{bytes_for}
use Rattle.vdcp_drive.proofs.server.answer.Goals as goal

pub returns-in-Some-clause-front : goal.returns-in-Some-clause-front
returns-in-Some-clause-front g c =
    let is : bytes_for c.args.port.now (content_of c.args.message.now) ≡ c.as_slice.result.now = search rules in
    rw is c.send.ensures.sends_some
