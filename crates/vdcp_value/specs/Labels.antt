-- The labels that stand for a frame at a rate.
use Rattle.std.specs.Prelude.{ℕ, ◌%◌, Bool, false, not, ◌&&◌, nat_lt, nat_eq}
use Rattle.vdcp_value.specs.declared.label.Label.{Label}
use Rattle.vdcp_value.specs.declared.rate.Rate.{Rate}
use Rattle.vdcp_value.specs.declared.rate.Rate.TheVariants.{F24, F25, F30, D30}

-- a label's frames are below this
abbrev pub frames_per_second : Rate → ℕ
frames_per_second F24 = 24
frames_per_second F25 = 25
frames_per_second F30 = 30
frames_per_second D30 = 30

-- drop frame leaves out the first two labels of each minute that isn't divisible by ten
abbrev pub is_dropped : Rate → Label → Bool
is_dropped F24 label = false
is_dropped F25 label = false
is_dropped F30 label = false
is_dropped D30 label = not (nat_eq (label.minutes % 10) 0) && nat_eq label.seconds 0 && nat_lt label.frames 2

-- each field is below its bound
abbrev pub is_in_range : Rate → Label → Bool
is_in_range rate label =
    nat_lt label.hours 24 && nat_lt label.minutes 60 && nat_lt label.seconds 60
    && nat_lt label.frames (frames_per_second rate)

-- the labels that stand for a frame
abbrev pub is_lawful : Rate → Label → Bool
is_lawful rate label = is_in_range rate label && not (is_dropped rate label)
