use Rattle.std.proofs.Common.{sym}
use Rattle.vdcp_operator.proofs.start.next_in.Goals as goal

pub returns-in-Some : goal.returns-in-Some
returns-in-Some c = record {
  today = c.date_in-today.result;
  is_today = c.date_in-today.ensures;
  tomorrow = c.in-Ok.tomorrow;
  follows = c.in-Ok.ensures.value;
  on_today = c.on_day.result;
  today_at = c.on_day.ensures;
  on_tomorrow = c.on_day-2.result;
  tomorrow_at = c.on_day-2.ensures;
  first = sym c.in-Some.ensures;
}
