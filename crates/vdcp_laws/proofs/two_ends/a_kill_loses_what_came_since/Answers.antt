use Rattle.vdcp_laws.proofs.Killed.{kept_aired, kept_gives, kept_joined, kept_port}
use Rattle.vdcp_laws.proofs.two_ends.a_kill_loses_what_came_since.Goals as goal

pub returns : goal.returns
returns c = record { joined = kept_joined; gives = kept_gives; port = kept_port; aired = kept_aired }
