use Rattle.std.proofs.Common.{inr}
use Rattle.vdcp_operator.proofs.start.time_of_day.Goals as goal

pub returns-in_ok-then-in-Ok : goal.returns-in_ok-then-in-Ok
returns-in_ok-then-in-Ok g c = inr (c.in-Ok.time, c.in-Ok.ensures, c.in_ok-then-in-Ok.ensures)
