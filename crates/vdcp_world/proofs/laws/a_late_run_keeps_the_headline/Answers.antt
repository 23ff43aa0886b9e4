use Rattle.std.proofs.Common.{refl}
use Rattle.vdcp_world.specs.LateLine.LateChannel.{after_late_events, new_late_channel}
use Rattle.vdcp_world.proofs.LateLine.Happened.{make_after_all, nothing_cued, quiet_start}
use Rattle.vdcp_world.proofs.laws.a_late_run_keeps_the_headline.Goals as goal

pub returns-clause-headline : goal.returns-clause-headline
returns-clause-headline c =
    λ plan port down up events can_start.
    c.a_late_line_keeps_the_headline.ensures (after_late_events (new_late_channel plan port down up) events) (record {
      plan = plan;
      port = port;
      down = down;
      up = up;
      events = events;
      can_start = can_start;
      led = refl;
    })

pub returns-clause-make : goal.returns-clause-make
returns-clause-make c = make_after_all

pub returns-clause-start : goal.returns-clause-start
returns-clause-start c =
    λ plan port some few unit_fits port_fits of_bytes off.
    quiet_start plan port some few unit_fits port_fits of_bytes
    (λ confirms. nothing_cued port.state.cued port.state.playing (off confirms))
