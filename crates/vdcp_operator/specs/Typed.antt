-- What the lines say that are typed.
use Rattle.std.specs.Prelude.{ℕ, ◌≡◌, ◌-◌, ⊤, Option, None, Some, List, [], ◌∷◌, ◌++◌, bytes_eq, codes, drop, length, nat_eq, take, if◌then◌else◌}
use Rattle.vdcp_operator.specs.declared.typed.Got.{Got}
use Rattle.vdcp_operator.specs.declared.typed.Got.TheVariants as got
use Rattle.vdcp_operator.specs.declared.typed.Said.{Said}
use Rattle.vdcp_operator.specs.declared.typed.Said.TheVariants as said
use Rattle.vdcp_panel.specs.Numbers.{number_in}

-- a line without the CR at its end, if it has one
abbrev pub without_return : List ℕ → List ℕ
without_return line =
    let front = length line - 1 in
    if bytes_eq (drop front line) (codes "\r") then take front line else line

-- what is said of this event
abbrev pub said_of : (ℕ → Said) → Option ℕ → Said
said_of saying None = said.Other
said_of saying (Some event) = saying event

-- a word, or one with the number of an event
abbrev pub said_by_words : List ℕ → Said
said_by_words words =
    if bytes_eq words (codes "take") then said.Take
    else if bytes_eq words (codes "stop") then said.Stop
    else if bytes_eq words (codes "hold") then said.Hold
    else if bytes_eq words (codes "go") then said.Go
    else if bytes_eq (take 5 words) (codes "skip ") then said_of said.Skip (number_in (drop 5 words))
    else if bytes_eq (take 5 words) (codes "jump ") then said_of said.Jump (number_in (drop 5 words))
    else said.Other

-- the same, and CR may follow
abbrev pub said_in : List ℕ → Said
said_in line = said_by_words (without_return line)

-- what these bytes say, line by line, behind a line that has begun so; the end ends the last one
abbrev pub said_from : List ℕ → List ℕ → List Said
said_from [] [] = []
said_from (first ∷ line) [] = said_in (first ∷ line) ∷ []
said_from line (byte ∷ bytes) =
    if nat_eq byte 10 then said_in line ∷ said_from [] bytes else said_from (line ++ byte ∷ []) bytes

-- the bytes that are left of a reader, if they are known; once it has ended there is none
abbrev pub left : {I : Type 0} → (I → Option (List ℕ)) → Option I → Option (List ℕ)
left remaining None = Some []
left remaining (Some reader) = remaining reader

-- what a line and the bytes behind it say is this, and then what the other line and the bytes behind that one say
abbrev pub SaysOn : List ℕ → Option (List ℕ) → List Said → List ℕ → Option (List ℕ) → Type 0
SaysOn line None now line' left' = ⊤
SaysOn line (Some bytes) now line' None = ⊥
SaysOn line (Some bytes) now line' (Some bytes') = said_from line bytes ≡ now ++ said_from line' bytes'

abbrev pub said_by : Got → List Said
said_by (got.Line s) = s ∷ []
said_by got.Part = []
said_by got.Nothing = []
