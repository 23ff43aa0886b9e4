-- When a state is as awaited.
use Rattle.std.specs.Prelude.{ℕ, ◌==◌, Bool, not, bit_and}
use Rattle.vdcp_probe.specs.declared.row.Awaited.{Awaited}
use Rattle.vdcp_probe.specs.declared.row.Awaited.TheVariants.{CueDone, ClipEnded}

abbrev pub is_reached : Awaited → ℕ → Bool
is_reached CueDone state = not (bit_and state 0x80 == 0)
is_reached ClipEnded state = bit_and state 0x04 == 0
