use Rattle.std.proofs.Common.{◌≡◌, length}
use Rattle.vdcp_value.proofs.id_text.without_end_spaces.Given as goal
use Rattle.vdcp_value.specs.IdText.{without_end_spaces}

abbrev pub invariant-loop-kept : goal.invariant-loop-kept
invariant-loop-kept l = without_end_spaces l.kept ≡ without_end_spaces l.bytes

abbrev pub decreases-loop-kept : goal.decreases-loop-kept
decreases-loop-kept l = length l.kept
