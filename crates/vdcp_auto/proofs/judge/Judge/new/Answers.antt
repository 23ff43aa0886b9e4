use Rattle.std.proofs.Common.{refl}
use Rattle.vdcp_auto.proofs.Cues.{no_cue_yet, play_stands}
use Rattle.vdcp_auto.proofs.Judged.{false_is}
use Rattle.vdcp_auto.proofs.judge.Judge.new.Goals as goal

pub returns-clause-knows : goal.returns-clause-knows
returns-clause-knows g c =
    let list = g.S.Source.items c.args.source in
    let none = no_cue_yet c.args.mode list in
    record {
      settled = refl;
      open_play = refl;
      airing = refl;
      stopped = refl;
      closed = refl;
      granted = refl;
      cue_stands = false_is none;
      may_play = false_is (λ m. none (play_stands m));
    }
