-- The form of a time: 2026-11-24T09:30:00.000Z.
use Rattle.std.specs.Prelude.{ℕ, Bool, true, false, ◌&&◌, ◌==◌, nat_le, List, [], ◌∷◌, codes, if◌then◌else◌}

abbrev pub is_digit : ℕ → Bool
is_digit byte = nat_le 48 byte && nat_le byte 57

-- a digit if the form has 0, and elsewhere what the form has
abbrev pub fits_place : ℕ → ℕ → Bool
fits_place place byte = if place == 48 then is_digit byte else place == byte

abbrev pub has_form : List ℕ → List ℕ → Bool
has_form [] [] = true
has_form [] (byte ∷ text) = false
has_form (place ∷ form) [] = false
has_form (place ∷ form) (byte ∷ text) = fits_place place byte && has_form form text

abbrev pub is_moment : List ℕ → Bool
is_moment text = has_form (codes "0000-00-00T00:00:00.000Z") text
