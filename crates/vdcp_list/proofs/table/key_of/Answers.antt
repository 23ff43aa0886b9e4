use Rattle.std.proofs.Common.{rules}
use Rattle.vdcp_list.proofs.table.key_of.Goals as goal
use Rattle.vdcp_list.specs.Places.{key_of}

pub returns : goal.returns
unfolding key_of
returns c = search rules
