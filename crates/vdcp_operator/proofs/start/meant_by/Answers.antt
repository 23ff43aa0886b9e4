use Rattle.std.proofs.Common.{inl, sym}
use Rattle.vdcp_operator.proofs.start.meant_by.Goals as goal

pub returns-in-Ok : goal.returns-in-Ok
returns-in-Ok g c = inl (sym c.in-Ok.ensures)
