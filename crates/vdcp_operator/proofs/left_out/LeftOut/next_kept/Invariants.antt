-- All that was passed is left out.
use Rattle.std.proofs.Common.{◌≡◌, ◌-◌, ◌<◌, ◌^◌, ◌≤◌, ℕ, true}
use Rattle.vdcp_operator.proofs.left_out.LeftOut.next_kept.Given as goal
use Rattle.vdcp_operator.specs.LeftOut.{is_left_out}

abbrev pub invariant-loop-span : goal.invariant-loop-span
invariant-loop-span l = record {
  from : l.event ≤ l.kept;
  passed : (k : ℕ) → l.event ≤ k → k < l.kept → is_left_out l.self k ≡ true;
}

abbrev pub decreases-loop-span : goal.decreases-loop-span
decreases-loop-span l = 2 ^ 64 - l.kept
