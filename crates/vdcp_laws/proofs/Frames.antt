-- A frame that passes at a server once its other turns are over.
use Rattle.std.proofs.Common.{◌≡◌, List, [], ◌∷◌, ◌++◌, ap, refl}
use Rattle.std.specs.Option.{option_to_list}
use Rattle.vdcp_value.specs.declared.part.Item.{Item}
use Rattle.vdcp_drive.specs.Serving.{Service, airs_at, hook_steps, items_in, left_by, serves}
use Rattle.vdcp_drive.specs.Turns.{Turn, frame}

-- what it leaves
pub left_with_frame : (s : Service) (turns : List Turn) → left_by s (turns ++ frame ∷ []) ≡ serves frame (left_by s turns)
left_with_frame s [] = refl
left_with_frame s (turn ∷ turns) = left_with_frame (serves turn s) turns

-- nothing goes to air in it
pub items_with_frame : (s : Service) (turns : List Turn)
    → items_in (hook_steps s (turns ++ frame ∷ [])) ≡ items_in (hook_steps s turns)
items_with_frame s [] = refl
items_with_frame s (turn ∷ turns) =
    ap (λ (l : List Item). option_to_list (airs_at turn s) ++ l) (items_with_frame (serves turn s) turns)
