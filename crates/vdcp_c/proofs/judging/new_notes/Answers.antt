-- A new judge knows of no exchange.
use Rattle.std.proofs.Common.{refl}
use Rattle.vdcp_c.proofs.Judged.{no_cue, no_play}
use Rattle.vdcp_c.proofs.judging.new_notes.Goals as goal

pub returns-clause-knows : goal.returns-clause-knows
returns-clause-knows c list = record {
  settled = refl;
  open_play = refl;
  airing = refl;
  stopped = refl;
  closed = refl;
  granted = refl;
  cue_stands = no_cue c.args.mode list;
  may_play = no_play c.args.mode list;
}
