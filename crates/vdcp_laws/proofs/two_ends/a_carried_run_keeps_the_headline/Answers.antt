use Rattle.std.proofs.Common.{◌++◌, subst}
use Rattle.vdcp_drive.specs.Auto as auto
use Rattle.vdcp_drive.specs.Hearing.{at_once}
use Rattle.vdcp_drive.specs.Leaves.{steps_in}
use Rattle.vdcp_drive.specs.Traces.{acts_in}
use Rattle.vdcp_laws.specs.Carried.{driver_of}
use Rattle.vdcp_laws.specs.EndsHeadline.{EndsHeadline}
use Rattle.vdcp_laws.specs.TwoEnds.{AreLed, log_now}
use Rattle.vdcp_laws.proofs.CarriedRun.{joined, leads_on, of_joined}
use Rattle.vdcp_laws.proofs.Carrying.{side_of}
use Rattle.vdcp_laws.proofs.Servers.{Laws, served_so}
use Rattle.vdcp_laws.proofs.two_ends.a_carried_run_keeps_the_headline.Given.{Over}
use Rattle.vdcp_laws.proofs.two_ends.a_carried_run_keeps_the_headline.Goals as goal

laws : (g : Over) → goal.After-what_goes_out_is_answered g → Laws
laws g c = record {
  goes_on = c.servers_go_on.ensures.acts;
  hooks = c.servers_go_on.ensures.hooks;
  answered = c.what_goes_out_is_answered.ensures;
  acts = c.untorn_turns_are_at_once.ensures.acts;
  items = c.untorn_turns_are_at_once.ensures.items;
}

pub returns-clause-joined : goal.returns-clause-joined
returns-clause-joined g c plan port asked e count a' answer turns below aired j run served carried =
    joined plan port asked e _ (acts_in (steps_in run)) turns below aired j
    (side_of plan port.state.unit count (AreLed plan port.state.unit) (leads_on plan port.state.unit) e answer a' run) (served_so (laws g c) e turns below aired served) carried

pub returns-clause-headline : goal.returns-clause-headline
returns-clause-headline g c plan port asked e count a' answer turns below aired start j run served carried =
    subst (EndsHeadline plan port.clips a'.state
    (log_now e ++ auto.log_of at_once plan port.state.unit (driver_of e.automation) run.events))
    (served_so (laws g c) e turns below aired served).aired_is
    (of_joined (record {
      ends = c.two_ends_are_a_late_channel.ensures.ends;
      headline = c.a_late_line_keeps_the_headline.ensures;
    }) plan port asked e count answer a' (e.downs ++ turns) start run
    (returns-clause-joined g c plan port asked e count a' answer turns below aired j run served carried))
