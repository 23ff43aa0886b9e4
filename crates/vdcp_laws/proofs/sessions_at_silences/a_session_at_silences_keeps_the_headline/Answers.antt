use Rattle.vdcp_laws.proofs.Servers.{Laws, served_so}
use Rattle.vdcp_laws.proofs.Silences.{now, now_aired, now_headline, now_joined, now_log, now_notes, now_port, now_state}
use Rattle.vdcp_laws.proofs.Tried.{tried_reports}
use Rattle.vdcp_laws.proofs.Headline as headline
use Rattle.vdcp_laws.proofs.Silences as session
use Rattle.vdcp_run.specs.Asking.{over}
use Rattle.vdcp_laws.proofs.sessions_at_silences.a_session_at_silences_keeps_the_headline.Given.{Over}
use Rattle.vdcp_laws.proofs.sessions_at_silences.a_session_at_silences_keeps_the_headline.Goals as goal

laws : (g : Over) → goal.After-only_questions_are_asked g → Laws
laws g c = record {
  goes_on = c.servers_go_on.ensures.acts;
  hooks = c.servers_go_on.ensures.hooks;
  answered = c.what_goes_out_is_answered.ensures;
  acts = c.untorn_turns_are_at_once.ensures.acts;
  items = c.untorn_turns_are_at_once.ensures.items;
}

session_laws : (g : Over) → goal.After-only_questions_are_asked g → session.Laws g.A.Wire.does
session_laws g c = record {
  asks = c.only_questions_are_asked.ensures;
  steps = record { bytes = c.steps_are_exchanges.ensures.bytes; came = c.steps_are_exchanges.ensures.came };
  below = c.what_is_below.ensures;
}

headlines : (g : Over) → goal.After-only_questions_are_asked g → headline.Laws
headlines g c =
    record { ends = c.two_ends_are_a_late_channel.ensures.ends; headline = c.a_late_line_keeps_the_headline.ensures }

pub returns-clause-headline : goal.returns-clause-headline
returns-clause-headline g c plan from settings port asked e wire last recorder count signs list end left same turns below aired can j ready held
    tried heard served carried =
    now_headline (session_laws g c) (headlines g c) plan from settings port asked e (over wire recorder) count signs list last end left same
    turns below aired j ready held tried heard (served_so (laws g c) e turns below aired served) carried can

pub returns-clause-joined : goal.returns-clause-joined
returns-clause-joined g c plan from settings port asked e wire last recorder count signs list end left same turns below aired j ready held
    tried heard served carried =
    let law = session_laws g c in
    let h = headlines g c in
    let world = over wire recorder in
    let s = served_so (laws g c) e turns below aired served in record {
      ends = now law h plan from settings port asked e world count signs list last end left same turns below aired j ready held tried
          heard s carried;
      joined = now_joined law h plan from settings port asked e world count signs list last end left same turns below aired j ready held tried
          heard s carried;
      state_is = now_state law h plan from settings port asked e world count signs list last end left same turns below aired j ready held tried
          heard s carried;
      log_is = now_log law h plan from settings port asked e world count signs list last end left same turns below aired j ready held tried
          heard s carried;
      notes_are = now_notes law h plan from settings port asked e world count signs list last end left same turns below aired j ready held tried
          heard s carried;
      port_is = now_port law h plan from settings port asked e world count signs list last end left same turns below aired j ready held tried
          heard s carried;
      aired_are = now_aired law h plan from settings port asked e world count signs list last end left same turns below aired j ready held tried
          heard s carried;
    }

pub returns-clause-reported : goal.returns-clause-reported
returns-clause-reported g c plan from settings e wire last recorder count signs list end tried = tried_reports _ last end tried

pub returns-clause-given : goal.returns-clause-given
returns-clause-given g c settings start list wire last recorder end tried = tried
