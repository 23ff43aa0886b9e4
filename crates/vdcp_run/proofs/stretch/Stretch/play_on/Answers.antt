use Rattle.std.proofs.Common.{◌∙◌, refl, subst}
use Rattle.vdcp_run.proofs.stretch.Stretch.play_on.Goals as goal
use Rattle.vdcp_run.specs.Asking.{over, start_of}
use Rattle.vdcp_run.specs.Run.{HasAsrun}
use Rattle.vdcp_run.specs.Session.{none, onset_of}

pub stretches-init : goal.stretches-init
stretches-init g c = record { works = c.requires.works; list = refl; held = λ z later. later }

pub stretches-preserved : goal.stretches-preserved
stretches-preserved g c = record {
  works = c.in-Ok.ensures.works;
  list = c.in-Ok.ensures.list ∙ c.stretches.invariant.list;
  held = λ z later. c.stretches.invariant.held z (c.in-Ok.ensures.held z later);
}

pub returns-in-Err-clause-session : goal.returns-in-Err-clause-session
returns-in-Err-clause-session g c =
    let at = c.stretches.stretch in
    record {
      onset = onset_of (start_of g.S.Source.items at.controller) at.ear (over at.wire at.playing.recorder) at.playing.left
          at.playing.signs at.playing.console.hand.list;
      held = c.stretches.invariant.held _ none;
      ended = c.in-Err.ensures.ended;
    }

pub returns-in-Err-clause-asrun : goal.returns-in-Err-clause-asrun
returns-in-Err-clause-asrun g c =
    subst (λ source. HasAsrun c.args.settings (g.S.Source.items source.source) c.in-Err.end.0) c.stretches.invariant.list
    c.in-Err.ensures.asrun
