use Rattle.std.proofs.Common.{List, ◌++◌, ap, ◌∙◌}
use Rattle.std.specs.List.{flat_map}
use Rattle.std.specs.Option.{option_to_list}
use Rattle.vdcp_frame.specs.Message.{Content}
use Rattle.vdcp_frame.specs.Walk.{coming}
use Rattle.vdcp_auto.specs.Captures.{captured_as}
use Rattle.vdcp_auto.specs.declared.capture.Captured.{Captured}
use Rattle.vdcp_auto.proofs.burst.captured_in.Goals as goal

pub messages-init : goal.messages-init
messages-init g c =
    let says : Content → List Captured = λ m. option_to_list (captured_as c.args.unit c.args.way m) in
    ap (λ (xs : List Captured). xs ++ flat_map says (coming c.of-messages.result)) c.new-captured.ensures.items
    ∙ ap (flat_map says) c.of-messages.ensures.all
