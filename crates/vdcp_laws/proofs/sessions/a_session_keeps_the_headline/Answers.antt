use Rattle.std.proofs.Common.{[], ◌++◌, refl, subst, sym}
use Rattle.vdcp_laws.specs.EndsHeadline.{EndsHeadline}
use Rattle.vdcp_laws.specs.Sessions.{acts_tried, ends_held, ends_left_by, log_tried, state_tried}
use Rattle.vdcp_laws.specs.Servers as servers
use Rattle.vdcp_laws.specs.TwoEnds.{begun, log_now, new_ends, port_now}
use Rattle.vdcp_laws.proofs.AsNew.{as_new, carried_since, still_answered}
use Rattle.vdcp_laws.proofs.AsrunRows.{reported_rows}
use Rattle.vdcp_laws.proofs.OneRun.{led_on}
use Rattle.vdcp_laws.proofs.Servers.{Laws, served_so}
use Rattle.vdcp_laws.proofs.Tried.{tried_answers, tried_headline, tried_led, tried_left, tried_reports, tried_rests}
use Rattle.vdcp_laws.proofs.Headline as headline
use Rattle.vdcp_laws.proofs.Tried as session
use Rattle.vdcp_run.specs.Asking.{over}
use Rattle.vdcp_laws.proofs.sessions.a_session_keeps_the_headline.Given.{Over}
use Rattle.vdcp_laws.proofs.sessions.a_session_keeps_the_headline.Goals as goal

laws : (g : Over) → goal.After-only_questions_are_asked g → Laws
laws g c = record {
  goes_on = c.servers_go_on.ensures.acts;
  hooks = c.servers_go_on.ensures.hooks;
  answered = c.what_goes_out_is_answered.ensures;
  acts = c.untorn_turns_are_at_once.ensures.acts;
  items = c.untorn_turns_are_at_once.ensures.items;
}

tried_laws : (g : Over) → goal.After-only_questions_are_asked g → session.Laws g.A.Wire.does
tried_laws g c = record {
  asks = c.only_questions_are_asked.ensures;
  rows = c.steps_are_exchanges.ensures.rows;
  steps = record { bytes = c.steps_are_exchanges.ensures.bytes; came = c.steps_are_exchanges.ensures.came };
}

headlines : (g : Over) → goal.After-only_questions_are_asked g → headline.Laws
headlines g c =
    record { ends = c.two_ends_are_a_late_channel.ensures.ends; headline = c.a_late_line_keeps_the_headline.ensures }

pub returns-clause-joined : goal.returns-clause-joined
returns-clause-joined g c plan from settings port asked e wire last recorder count signs list end turns below aired j ready tried served
    carried =
    led_on plan port.state.unit (new_ends port asked) e _ j
    (tried_led (tried_laws g c) (headlines g c) plan from settings port e (over wire recorder) count signs list last end ready tried turns
    below aired (served_so (laws g c) e turns below aired served) carried)

pub returns-clause-headline : goal.returns-clause-headline
returns-clause-headline g c plan from settings port asked e wire last recorder count signs list end turns below aired can j ready tried
    served carried =
    subst (EndsHeadline plan port.clips (state_tried tried) (log_now e ++ log_tried tried))
    (served_so (laws g c) e turns below aired served).aired_is
    (tried_headline (tried_laws g c) (headlines g c) plan from settings port e (over wire recorder) count signs list last end ready tried
    asked (e.downs ++ turns) can
    (returns-clause-joined g c plan from settings port asked e wire last recorder count signs list end turns below aired j ready tried served
    carried))

pub returns-clause-answered : goal.returns-clause-answered
returns-clause-answered g c plan from settings port asked e wire last recorder count signs list end turns below aired can j answered ready
    tried calm rest served carried =
    let law = tried_laws g c in
    let begun = over wire recorder in
    let free = tried_rests law (headlines g c) plan from settings port e begun count signs list last end ready tried rest in
    let now = ends_left_by tried.ended (ends_held tried.held e) in
    let joined = led_on plan port.state.unit (new_ends port asked) e _ j
    (tried_left law (headlines g c) plan from settings port e begun count signs list last end ready tried turns below aired free
    (served_so (laws g c) e turns below aired served) carried) in (
      joined,
      still_answered c.what_is_below.ensures plan port asked e now (acts_tried tried) (e.downs ++ turns) can j joined answered
          (tried_answers law (headlines g c) plan from settings port e begun count signs list last end ready tried calm free),
    )

pub returns-clause-follows : goal.returns-clause-follows
returns-clause-follows g c plan next from settings port asked e wire last recorder count signs list end turns below since can j answered
    can_next tried served carried =
    let new = as_new c.what_is_below.ensures plan port asked e can j answered in
    let now = port_now e in
    let served_now = servers.went_on since (sym new.server_is) served in
    let carried_now = carried_since e new.come carried in (
      returns-clause-headline g c next from settings now [] (new_ends now []) wire last recorder count signs list end turns below since can_next
          begun refl tried served_now carried_now,
      returns-clause-joined g c next from settings now [] (new_ends now []) wire last recorder count signs list end turns below since begun refl
          tried served_now carried_now,
    )

pub returns-clause-given : goal.returns-clause-given
returns-clause-given g c settings start list wire last recorder end tried = tried

pub returns-clause-reported : goal.returns-clause-reported
returns-clause-reported g c plan from settings e wire last recorder count signs list end tried =
    tried_reports _ last end tried

pub returns-clause-asrun : goal.returns-clause-asrun
returns-clause-asrun g c = reported_rows
