use Rattle.std.proofs.Common.{rules}
use Rattle.vdcp_list.specs.Rests.{items_left}
use Rattle.vdcp_journal.proofs.RunsSoFar.{calls, raises}
use Rattle.vdcp_journal.proofs.replay.RunSoFar.follow.Goals as goal
use Rattle.vdcp_journal.proofs.replay.RunSoFar.follow.Goals.{then-is_loss, else-is_loss}

pub returns-clause-stands : goal.returns-clause-stands
returns-clause-stands g c = λ plan source rows f. elim c.if-is_loss.branch [
  | then-is_loss w ↦ rw w.self-is (raises (items_left (λ s. g.S.Source.items s.now)) plan source rows c.args.row.now c.args.self.now _ f (search rules) (search rules) (search rules))
  | else-is_loss w ↦ rw w.self-is (calls (items_left (λ s. g.S.Source.items s.now)) plan source rows c.args.row.now c.args.self.now _ f (search rules) (search rules) (search rules))
]
