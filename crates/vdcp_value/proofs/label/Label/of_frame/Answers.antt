use Rattle.std.proofs.Common.{◌≡◌, arith, true}
use Rattle.std.proofs.lemmas.Grind.{common_steps}
use Rattle.vdcp_value.proofs.Places.{IsPlace, frame_at, label_at}
use Rattle.vdcp_value.proofs.label.Label.of_frame.Goals as goal
use Rattle.vdcp_value.proofs.label.Label.of_frame.Goals.{in-F24, in-D30}
use Rattle.vdcp_value.specs.Labels.{is_lawful}

pub returns-clause-number : goal.returns-clause-number
returns-clause-number c =
    let place : IsPlace c.args.rate c.args.frame c.match-rate.place =
    elim c.match-rate.branch [
      | in-F24 w ↦ grind (arith, w.place-is, w.in-F24.is)
      | in-D30 w ↦
          rw w.in-D30.is (rw w.place-is w.place_among_all-place.ensures.passed)
    ] in
    let lawful : is_lawful c.args.rate (label_at c.args.rate c.match-rate.place) ≡ true =
    elim c.match-rate.branch [ in-F24 w ↦ grind (arith, common_steps) | in-D30 w ↦ grind (arith, common_steps) ] in
    rw (c.frames_per_second.ensures, c.frames_per_second-2.ensures)
    (frame_at c.args.rate c.args.frame c.match-rate.place place lawful)
