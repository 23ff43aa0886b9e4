-- What a clock in UTC shows, as text: 2026-11-24T09:30:00.000Z.
use Rattle.std.specs.Prelude.{ℕ, ◌+◌, ◌/◌, ◌%◌, List, [], ◌∷◌, ◌++◌, codes, unsigned_abs}
use Rattle.jiff.specs.Types.{DateTime}

-- the last millisecond after 1970 began that a clock here shows: 9999-12-30T22:00:00Z
abbrev pub last_millis : ℕ
last_millis = 253402207200000

-- the last decimal digit of a number
abbrev pub digit : ℕ → ℕ
digit number = 48 + number % 10

abbrev pub two_digits : ℕ → List ℕ
two_digits number = digit (number / 10) ∷ digit number ∷ []

abbrev pub three_digits : ℕ → List ℕ
three_digits number = digit (number / 100) ∷ two_digits number

abbrev pub four_digits : ℕ → List ℕ
four_digits number = digit (number / 1000) ∷ three_digits number

abbrev pub clock_text : DateTime → List ℕ
clock_text shown =
    four_digits (unsigned_abs shown.date.year) ++ codes "-" ++ two_digits shown.date.month
    ++ codes "-" ++ two_digits shown.date.day ++ codes "T" ++ two_digits shown.time.hour
    ++ codes ":" ++ two_digits shown.time.minute ++ codes ":" ++ two_digits shown.time.second
    ++ codes "." ++ three_digits (shown.time.subsec_nanosecond / 1_000_000) ++ codes "Z"
