use Rattle.std.proofs.Common.{◌≡◌, rules}
use Rattle.std.specs.Option.{option_to_list}
use Rattle.vdcp_port.specs.Answers.{answer_bytes}
use Rattle.vdcp_drive.proofs.Taking.{on_err_of}
use Rattle.vdcp_drive.proofs.server.end_burst.Goals as goal

pub returns-in_err-send-clause-front : goal.returns-in_err-send-clause-front
returns-in_err-send-clause-front g c =
    let is : answer_bytes c.args.port.now.state.unit (option_to_list c.args.reply) ≡ c.as_slice.result.now = search rules in
    rw is (on_err_of _ c.in_err-send.ensures.sends_some)
