use Rattle.vdcp_auto.specs.Turn.{start}
use Rattle.vdcp_journal.proofs.Raised.{told_raised}
use Rattle.vdcp_journal.proofs.laws.a_greater_limit_tells_the_same.Goals as goal

pub returns : goal.returns
returns c = λ plan limit rows few told goes. told_raised plan limit rows start few told goes
