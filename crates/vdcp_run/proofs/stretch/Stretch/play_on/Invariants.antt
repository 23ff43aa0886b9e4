-- So far the operator has held some PLAYs, and the list goes on over the same wire.
use Rattle.std.proofs.Common.{◌≡◌}
use Rattle.vdcp_run.proofs.stretch.Stretch.play_on.Given as goal
use Rattle.vdcp_run.specs.Asking.{over, start_of}
use Rattle.vdcp_run.specs.Session.{HasHeld, Onset, onset_of}

abbrev pub invariant-stretches : goal.invariant-stretches
invariant-stretches g l = record {
  works : g.W.Wire.failures l.stretch.wire ≡ 0;
  list : l.stretch.controller.source ≡ l.initial.stretch.controller.source;
  held : (z : Onset g.row.E.Denot g.row.W.Denot g.row.F.Denot)
      → HasHeld g.W.Wire.does g.F.Disk.safe g.E.Ear.fold l.initial.settings z (onset_of (start_of g.S.Source.items l.stretch.controller)
      l.stretch.ear (over l.stretch.wire l.stretch.playing.recorder) l.stretch.playing.left l.stretch.playing.signs
      l.stretch.playing.console.hand.list)
      → HasHeld g.W.Wire.does g.F.Disk.safe g.E.Ear.fold l.initial.settings z
      (onset_of (start_of g.S.Source.items l.initial.stretch.controller) l.initial.stretch.ear
      (over l.initial.stretch.wire l.initial.stretch.playing.recorder) l.initial.stretch.playing.left l.initial.stretch.playing.signs
      l.initial.stretch.playing.console.hand.list);
}

abbrev pub decreases-stretches : goal.decreases-stretches
decreases-stretches g l = l.stretch.playing.left
