-- How long frames last by the clock: a second has 24, 25, 30 or, with drop frame, 30000/1001 of them.
use Rattle.std.specs.Prelude.{ℕ, ◌*◌, ◌/◌}
use Rattle.vdcp_value.specs.declared.rate.Rate.{Rate}
use Rattle.vdcp_value.specs.declared.rate.Rate.TheVariants.{F24, F25, F30, D30}

-- how many frames are over after this many nanoseconds
abbrev pub frames_after : Rate → ℕ → ℕ
frames_after F24 n = n * 24 / 1000000000
frames_after F25 n = n * 25 / 1000000000
frames_after F30 n = n * 30 / 1000000000
frames_after D30 n = n * 30 / 1001000000

-- how long frames last, in milliseconds
abbrev pub millis_of : Rate → ℕ → ℕ
millis_of F24 n = n * 1000 / 24
millis_of F25 n = n * 1000 / 25
millis_of F30 n = n * 1000 / 30
millis_of D30 n = n * 1001 / 30
