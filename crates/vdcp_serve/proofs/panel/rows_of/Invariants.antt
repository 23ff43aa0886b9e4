-- There is a row for each of the airings so far.
use Rattle.std.proofs.Common.{◌≡◌, map, take}
use Rattle.serde_json.specs.View.{view}
use Rattle.vdcp_serve.specs.Panel.{airing_data}
use Rattle.vdcp_serve.proofs.panel.rows_of.Given as goal

abbrev pub invariant-loop-k : goal.invariant-loop-k
invariant-loop-k l = map view l.rows.items ≡ map (airing_data l.rate) (take l.k l.last.items)
