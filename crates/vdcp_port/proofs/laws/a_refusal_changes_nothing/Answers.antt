-- A refusal keeps the port.
use Rattle.std.proofs.Common.{refl}
use Rattle.vdcp_port.proofs.Refusals.{refusal_keeps}
use Rattle.vdcp_port.proofs.laws.a_refusal_changes_nothing.Goals as goal

pub returns-clause-refused : goal.returns-clause-refused
returns-clause-refused c = λ p m e. refusal_keeps p m _ refl e

pub returns-clause-denied : goal.returns-clause-denied
returns-clause-denied c = λ p m e. refusal_keeps p m _ refl e

pub returns-clause-unanswered : goal.returns-clause-unanswered
returns-clause-unanswered c = λ p m e. refusal_keeps p m _ refl e
