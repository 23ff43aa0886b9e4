use Rattle.vdcp_lossy.proofs.Sending.{asked_twice}
use Rattle.vdcp_lossy.proofs.carry.ask.Goals as goal
use Rattle.vdcp_auto.specs.declared.burst.Way.TheVariants.{Down}

pub returns-in-Copied-clause-sent : goal.returns-in-Copied-clause-sent
returns-in-Copied-clause-sent g c =
    asked_twice c.ask_twice.result Down c.args.command.now.items _ c.in_ok-doing.doing _ _ _ _ c.in-Copied.is
    c.in_ok-doing.ensures c.in_ok-drop_waiting.ensures.dropped c.as_slice.ensures.value c.in_ok-send_once.ensures.sent
    c.ask_twice.ensures.sent
