-- There is a row for each of the events so far.
use Rattle.std.proofs.Common.{◌≡◌, map, take}
use Rattle.serde_json.specs.View.{view}
use Rattle.vdcp_operator.specs.Seen.{row_data}
use Rattle.vdcp_operator.proofs.seen.rows_of.Given as goal

abbrev pub invariant-loop-k : goal.invariant-loop-k
invariant-loop-k l = map view l.rows.items ≡ map (row_data l.rate l.clips l.left_out l.ahead) (take l.k l.events)
