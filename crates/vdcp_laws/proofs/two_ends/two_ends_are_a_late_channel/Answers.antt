use Rattle.vdcp_laws.proofs.Connecting.{are_late_channel}
use Rattle.vdcp_laws.proofs.two_ends.two_ends_are_a_late_channel.Goals as goal

pub returns : goal.returns
returns c = record { ends = are_late_channel c.what_is_below.ensures }
