-- The unit address stays.
use Rattle.std.proofs.Common.{◌≡◌, arith, refl, List, [], ◌∷◌, ◌∙◌}
use Rattle.std.proofs.lemmas.Grind.{common_steps}
use Rattle.vdcp_frame.specs.Message.{Content}
use Rattle.vdcp_port.specs.Answers.{after_messages}
use Rattle.vdcp_port.specs.Clock.{ClockedPort, row_at, after_message, after_frame}
use Rattle.vdcp_port.specs.Port.{PortState}
use Rattle.vdcp_port.specs.Row.{Change, keeps, opens, closes, selects, cues, airs, stops, changed}

pub unit_of_changed : (change : Change) (p : PortState) → (changed change p).unit ≡ p.unit
unit_of_changed keeps p = refl
unit_of_changed other p = refl

pub unit_of_next : (p : ClockedPort) (m : Content) → (after_message p m).state.unit ≡ p.state.unit
unit_of_next p m = unit_of_changed (row_at p m).change p.state

pub unit_of_after : (p : ClockedPort) (ms : List Content) → (after_messages p ms).state.unit ≡ p.state.unit
unit_of_after p [] = refl
unit_of_after p (m ∷ ms) = unit_of_after (after_message p m) ms ∙ unit_of_next p m

pub unit_of_frame : (p : ClockedPort) → (after_frame p).state.unit ≡ p.state.unit
unit_of_frame p = grind (arith, common_steps)
