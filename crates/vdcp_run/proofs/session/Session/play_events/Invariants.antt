-- So far the run tried again after each try, and the last one was made with these settings.
use Rattle.std.proofs.Common.{◌≡◌, ◌≤◌}
use Rattle.std.specs.Prelude.{IfSome, Option, length}
use Rattle.vdcp_list.specs.List.{items_of}
use Rattle.vdcp_run.proofs.session.Session.play_events.Given as goal
use Rattle.vdcp_run.specs.Run.{CameTo, IsEarlier, IsTry, first_event}
use Rattle.vdcp_wire.specs.Streams.{Streamed, failures_of}

abbrev pub invariant-tries : goal.invariant-tries
invariant-tries g l = record {
  unit : l.settings.unit ≤ 15;
  some : 1 ≤ l.settings.limit;
  few : l.settings.limit ≤ 1000;
  listed : first_event l.settings.from ≤ length (items_of l.events);
  works : IfSome l.session.line (λ wire. failures_of wire.connection ≡ 0);
  tries : (wire : Option Streamed) × IsTry g.row.R-Stream.Denot l.initial.settings (items_of l.events) l.settings wire
      × CameTo g.row.R-Stream.Denot l.settings (items_of l.events) wire l.end l.session.line;
  earlier : IfSome l.earlier (IsEarlier g.row.R-Stream.Denot l.initial.settings (items_of l.events));
}

abbrev pub decreases-tries : goal.decreases-tries
decreases-tries g l = l.settings.listens
