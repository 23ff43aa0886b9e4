use Rattle.vdcp_laws.proofs.Announced.{goes, shows}
use Rattle.vdcp_laws.proofs.killed_runs.an_announced_play_may_go_out_unkept.Goals as goal

pub returns-clause-goes : goal.returns-clause-goes
returns-clause-goes c =
    goes (
      c.the_unit_stays.ensures.burst,
      c.the_unit_stays.ensures.frame,
      c.the_unit_stays.ensures.ready,
      c.the_unit_stays.ensures.ended,
    )

pub returns-clause-shows : goal.returns-clause-shows
returns-clause-shows c = shows
