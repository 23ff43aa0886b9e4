-- What was captured so far, and what the messages say that are still to come, are what the burst says.
use Rattle.std.proofs.Common.{◌≡◌, ◌++◌, length}
use Rattle.std.specs.List.{flat_map}
use Rattle.std.specs.Option.{option_to_list}
use Rattle.vdcp_frame.specs.Walk.{coming}
use Rattle.vdcp_auto.specs.Captures.{captured_as, captured_in}
use Rattle.vdcp_auto.proofs.burst.captured_in.Given as goal

abbrev pub invariant-messages : goal.invariant-messages
invariant-messages g l =
    l.captured.items ++ flat_map (λ m. option_to_list (captured_as l.unit l.way m)) (coming l.messages)
    ≡ captured_in l.unit l.way l.burst

abbrev pub decreases-messages : goal.decreases-messages
decreases-messages g l = length (coming l.messages)
