use Rattle.vdcp_auto.specs.Plan.{plan_of}
use Rattle.vdcp_drive.specs.Leaves.{steps_in}
use Rattle.vdcp_list.specs.Rests.{items_left}
use Rattle.vdcp_run.proofs.Driven.{list_stays}
use Rattle.vdcp_run.proofs.asking.Inquiry.ask.Goals as goal

pub returns-clause-list : goal.returns-clause-list
returns-clause-list g c =
    let runs = c.run_by.ensures.comes.runs in
    list_stays g.W.Wire.does (plan_of (items_left g.S.Source.items) c.with_ear-driver.result.controller) (steps_in runs.run) _ _
    runs.happened
