-- With the cue done the slots are sound.
use Rattle.vdcp_port.proofs.port.Port.ready.Goals as goal

pub invariant_of-self : goal.invariant_of-self
invariant_of-self g c = record {
  unit_fits = c.self.invariant.unit_fits;
  cue_takes = c.self.invariant.cue_takes;
  at_most = c.self.invariant.at_most;
  cued = c.finish_cue-self-inside.ensures.kept _ c.self.invariant.cued;
  playing = c.self.invariant.playing;
}
