use Rattle.std.proofs.Common.{zero-add}
use Rattle.vdcp_list.proofs.asrun.write_asrun.Goals as goal

pub returns-clause-unlawful : goal.returns-clause-unlawful
returns-clause-unlawful g c = λ k. rw (zero-add c.args.reported) at (c.write_events.ensures.unlawful k)
