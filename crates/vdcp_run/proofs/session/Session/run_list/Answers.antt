use Rattle.vdcp_list.specs.List.{items_of}
use Rattle.vdcp_run.proofs.session.Session.run_list.Goals as goal

pub returns-in-Ok-play_events : goal.returns-in-Ok-play_events
returns-in-Ok-play_events g c = record {
  items = items_of c.in_ok-events.events;
  lists = c.in_ok-events.ensures.events;
  plays = c.in-Ok-play_events.ensures;
}
