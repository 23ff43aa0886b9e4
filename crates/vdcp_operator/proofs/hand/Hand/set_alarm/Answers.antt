use Rattle.std.proofs.Common.{[], refl}
use Rattle.vdcp_operator.proofs.hand.Hand.set_alarm.Goals as goal

pub returns-in_default : goal.returns-in_default
returns-in_default g c = (record { bytes = []; spare = [] }, rw c.in_default.is refl)
