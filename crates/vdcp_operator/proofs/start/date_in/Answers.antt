use Rattle.std.proofs.Common.{sym}
use Rattle.vdcp_operator.proofs.start.date_in.Goals as goal

pub returns : goal.returns
returns c = (c.to_datetime.result, sym c.date.ensures, c.to_datetime.ensures)
