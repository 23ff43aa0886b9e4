-- The keys up to the last one looked at ascend.
use Rattle.std.proofs.Common.{ℕ, ◌+◌, ◌<◌}
use Rattle.std.specs.Prelude.{slice_index}
use Rattle.vdcp_c.specs.Clips.{keys_of}
use Rattle.vdcp_c.proofs.clips.ascends.Given as goal

abbrev pub invariant-loop-k : goal.invariant-loop-k
invariant-loop-k l = (i : ℕ) → i + 1 < l.k → slice_index (keys_of l.rows) i < slice_index (keys_of l.rows) (i + 1)
