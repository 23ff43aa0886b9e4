-- Which number bytes write.
use Rattle.std.specs.Prelude.{ℕ, ◌^◌, ◌&&◌, Option, None, Some, List, bytes_eq, decimal, nat_lt, if◌then◌else◌}
use Rattle.std.specs.Str.Parse.{digits_value}

-- the number that these bytes write in decimal digits, if it is a usize
abbrev pub number_in : List ℕ → Option ℕ
number_in digits =
    let number = digits_value 10 digits in
    if nat_lt number (2 ^ 64) && bytes_eq digits (decimal number) then Some number else None
