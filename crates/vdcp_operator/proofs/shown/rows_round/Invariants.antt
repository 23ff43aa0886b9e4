-- The rows are those of the events before this one.
use Rattle.std.proofs.Common.{◌≡◌, ◌-◌, ◌≤◌, drop, map, take}
use Rattle.std.specs.Prelude.{All}
use Rattle.vdcp_operator.proofs.shown.rows_round.Given as goal
use Rattle.vdcp_operator.specs.Rows.{IsRow}
use Rattle.vdcp_operator.specs.Seen.{numbered, with_number}

abbrev pub invariant-loop-k : goal.invariant-loop-k
invariant-loop-k g l = record {
  after : l.first ≤ l.k;
  few : l.k - l.first ≤ 60;
  rows : map with_number l.rows.items
      ≡ take (l.k - l.first) (numbered l.first (drop l.first (g.S.Source.items l.list)));
  are : All (IsRow l.news l.older l.said) l.rows.items;
}
