use Rattle.std.proofs.Common.{sym}
use Rattle.vdcp_operator.proofs.start.on_day.Goals as goal

pub returns-in-Ok : goal.returns-in-Ok
returns-in-Ok c = (
  c.to_datetime.result,
  c.to_datetime.ensures.date,
  c.to_datetime.ensures.time,
  c.in-Ok.then,
  c.in-Ok.ensures,
  sym c.timestamp.ensures,
)
