-- The judge of the lent list knows one exchange more.
use Rattle.std.proofs.Common.{List, ap}
use Rattle.vdcp_value.specs.declared.part.Item.{Item}
use Rattle.vdcp_c.specs.Lists.{items_of}
use Rattle.vdcp_c.specs.declared.list.LentList.{LentList}
use Rattle.vdcp_c.proofs.Judged.{added}
use Rattle.vdcp_c.proofs.judging.after.Goals as goal

abbrev items : LentList → List Item
items s = items_of s.rows.now

pub returns : goal.returns
returns c =
    added items c.of.result (items_of c.args.list.now) c.args.notes.now c.notes.result c.args.exchange.now
    c.of_notes-judge.result c.add.new.self
    (ap items_of c.of.ensures) c.of_notes-judge.ensures c.notes.ensures c.add.ensures.source c.add.ensures.mode
    c.add.ensures.knows
