use Rattle.std.proofs.Common.{refl}
use Rattle.vdcp_serve.proofs.hooks.Hooks.show.Goals as goal
use Rattle.vdcp_serve.proofs.hooks.Hooks.show.Goals.{in-Some, in_default}

pub returns-in-Some-panel-clause-looks : goal.returns-in-Some-panel-clause-looks
returns-in-Some-panel-clause-looks g c = record {
  noted = c.match-aired.self.panel;
  notes = elim c.match-aired.branch [
    | in-Some w ↦ rw (w.in-Some.is, w.self-is) w.note.ensures.noted
    | in_default w ↦ rw (w.in_default.is, w.self-is) refl
  ];
  shows = rw c.in-Some-panel.is c.show.ensures.shows;
  count = elim c.match-aired.branch [
    | in-Some w ↦ rw (w.in-Some.is, w.self-is) w.note.ensures.counted
    | in_default w ↦ rw (w.in_default.is, w.self-is) refl
  ];
}
