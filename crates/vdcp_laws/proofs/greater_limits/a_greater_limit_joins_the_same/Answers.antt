use Rattle.vdcp_laws.proofs.LostGoesOn.{goes_on}
use Rattle.vdcp_laws.proofs.Mended.{lost_safe}
use Rattle.vdcp_laws.proofs.RaisedEnds.{are_joined}
use Rattle.vdcp_laws.proofs.greater_limits.a_greater_limit_joins_the_same.Goals as goal

pub returns-clause-joined : goal.returns-clause-joined
returns-clause-joined c = are_joined

pub returns-clause-safe : goal.returns-clause-safe
returns-clause-safe c = lost_safe

pub returns-clause-goes_on : goal.returns-clause-goes_on
returns-clause-goes_on c = λ plan limit rows some more told is. goes_on plan limit some more rows told is
