-- The judge of the lent list rules so.
use Rattle.std.proofs.Common.{List, ap}
use Rattle.vdcp_value.specs.declared.part.Item.{Item}
use Rattle.vdcp_c.specs.Lists.{items_of}
use Rattle.vdcp_c.specs.declared.list.LentList.{LentList}
use Rattle.vdcp_c.proofs.Judged.{ruled}
use Rattle.vdcp_c.proofs.judging.allows.Goals as goal

abbrev items : LentList → List Item
items s = items_of s.rows.now

pub returns : goal.returns
returns c log k =
    ruled items c.of.result (items_of c.args.list.now) log c.args.notes.now c.of_notes.result c.allows.result c.args.c.now
    (ap items_of c.of.ensures) c.of_notes.ensures (c.allows.ensures log) k
