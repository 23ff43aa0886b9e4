use Rattle.std.proofs.Common.{length, ◌≡◌, ◌-◌, ◌≤◌, take}
use Rattle.vdcp_auto.specs.Plan.{plan_of}
use Rattle.vdcp_drive.specs.Leaves.{HearsPiece}
use Rattle.vdcp_drive.proofs.driver.hear_piece.Given as goal

abbrev pub invariant-piece : goal.invariant-piece
invariant-piece g l = record {
  within : l.at ≤ length l.piece;
  controller : l.controller ≡ record l.fn.controller { state = l.controller.state };
  hears : HearsPiece g.E.Ear.fold g.H.Hooks.adds (plan_of g.S.Source.items l.fn.controller) l.unit
      (take l.at l.piece) l.fn.controller.state l.fn.ear (g.H.Hooks.journal l.fn.hooks) l.controller.state l.ear (g.H.Hooks.journal l.hooks);
}

abbrev pub decreases-piece : goal.decreases-piece
decreases-piece g l = length l.piece - l.at
