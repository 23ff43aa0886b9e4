-- The loop over the characters of the name: what it has written.
use Rattle.std.specs.Fmt.{HasWritten, IsPlainFormatter}
use Rattle.std.specs.List.{flat_map}
use Rattle.vdcp_text.proofs.name.NameTextDisplay.fmt.Given as goal
use Rattle.vdcp_text.specs.Text.{shown_char}

-- what is written are the characters so far, as they are shown
abbrev pub invariant-loop-c : goal.invariant-loop-c
invariant-loop-c g l =
    IsPlainFormatter l.initial.f
    → HasWritten g.W.Write.write_str_gives l.initial.f (flat_map shown_char l.yielded) l.f
