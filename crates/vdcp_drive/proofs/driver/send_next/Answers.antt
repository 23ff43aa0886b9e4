use Rattle.std.proofs.Common.{refl, rules, sym, ◌∙◌}
use Rattle.vdcp_drive.specs.Leaves.{in_drop}
use Rattle.vdcp_drive.proofs.Sending.{send_broke}
use Rattle.vdcp_drive.proofs.driver.send_next.Goals as goal

pub returns-then-is_err-clause-sends : goal.returns-then-is_err-clause-sends
returns-then-is_err-clause-sends g c = (
  search rules,
  in_drop c.in-Some.command (search rules) (sym c.drops.ensures ∙ c.if-drops.true) refl (search rules),
)

pub returns-in-Err-send-clause-sends : goal.returns-in-Err-send-clause-sends
returns-in-Err-send-clause-sends g c = (
  search rules,
  send_broke g.W.Wire.does g.E.Ear.fold.drops _ c.args.unit _ _ c.in-Some.command _ c.args.wire.now c.else-drops.wire _
      (search rules) (search rules) (search rules) (search rules) c.in-Err-send.ensures.sends_some,
)
