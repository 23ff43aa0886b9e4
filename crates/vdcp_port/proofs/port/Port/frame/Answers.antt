-- A frame later the slots are sound.
use Rattle.vdcp_port.proofs.port.Port.frame.Goals as goal

pub invariant_of-self : goal.invariant_of-self
invariant_of-self g c = record {
  unit_fits = c.self.invariant.unit_fits;
  cue_takes = c.self.invariant.cue_takes;
  at_most = c.self.invariant.at_most;
  cued = c.count_cue-cued.ensures.kept _ c.self.invariant.cued;
  playing = c.count_clip-playing.ensures.kept _ c.self.invariant.playing;
}
