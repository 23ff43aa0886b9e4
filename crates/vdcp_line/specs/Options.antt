-- What an option says: a number, or a rate.
use Rattle.std.specs.Prelude.{ℕ, List, ◌≡◌, ◌≤◌, Some, codes}
use Rattle.std.specs.Str.Parse.{IsNumeral, digits_value, without_leading_plus}
use Rattle.clap.specs.Matches.{first_value}
use Rattle.clap.specs.declared.parser.matches.Found.{Found}
use Rattle.vdcp_value.specs.declared.rate.Rate.{Rate}
use Rattle.vdcp_value.specs.declared.rate.Rate.TheVariants.{F24, F25, F30, D30}

-- the text writes the number in decimal digits, with a plus before them or without
abbrev pub WritesNumber : List ℕ → ℕ → Type 0
WritesNumber text number =
    IsNumeral 10 (without_leading_plus text) × (digits_value 10 (without_leading_plus text) ≡ number)

-- the option of this name has a text, and that writes a number from `least` to `most`
abbrev pub GivesNumber : Found → List ℕ → ℕ → ℕ → ℕ → Type 0
GivesNumber found name least most number =
    (text : List ℕ) × (first_value found name ≡ Some text) × WritesNumber text number
    × (least ≤ number) × (number ≤ most)

-- the text that names each rate
abbrev pub NamesRate : List ℕ → Rate → Type 0
NamesRate text F24 = text ≡ codes "24"
NamesRate text F25 = text ≡ codes "25"
NamesRate text F30 = text ≡ codes "30"
NamesRate text D30 = text ≡ codes "30df"

-- the option of this name has a text, and that names the rate
abbrev pub GivesRate : Found → List ℕ → Rate → Type 0
GivesRate found name rate = (text : List ℕ) × (first_value found name ≡ Some text) × NamesRate text rate
