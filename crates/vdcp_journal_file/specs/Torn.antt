-- A journal's last row that lacks only its line feed, and may have put a clip to air.
use Rattle.std.specs.Prelude.{ℕ, ◌&&◌, ◌||◌, ◌==◌, Bool, true, false, List, [], ◌∷◌, ◌++◌, Option, codes, if◌then◌else◌, length, nat_le, nat_lt, option_map}
use Rattle.vdcp_journal_file.specs.declared.torn.Closing.{Closing}

abbrev pub is_digit : ℕ → Bool
is_digit byte = nat_le 48 byte && nat_le byte 57

abbrev pub is_hex : ℕ → Bool
is_hex byte = is_digit byte || (nat_le 97 byte && nat_le byte 102)

-- of a state's two digits, the first one says that the cue is done
abbrev pub says_done : ℕ → Bool
says_done byte = nat_le 56 byte && is_hex byte

-- and the second one that a clip plays
abbrev pub says_playing : ℕ → Bool
says_playing byte = (nat_le 52 byte && nat_le byte 55) || (nat_le 99 byte && nat_le byte 102)

-- at a place of a form 0 is any digit, x any hexadecimal one, D and P are those that say so, and anything else is itself
abbrev pub fits_place : ℕ → ℕ → Bool
fits_place place byte =
    if place == 48 then is_digit byte
    else if place == 120 then is_hex byte
    else if place == 68 then says_done byte
    else if place == 80 then says_playing byte
    else place == byte

abbrev pub fits : List ℕ → List ℕ → Bool
fits [] [] = true
fits [] (byte ∷ text) = false
fits (place ∷ form) [] = false
fits (place ∷ form) (byte ∷ text) = fits_place place byte && fits form text

-- the row is of a PLAY, or of a state with the cue done while a clip plays, which announces one
abbrev pub may_air : List ℕ → Bool
may_air row = fits (codes "0000-00-00T00:00:00.000Z,sent,play,xxxxxxxxxx") row
    || fits (codes "0000-00-00T00:00:00.000Z,heard,state DP,xxxxxxxxxxxxxx") row

-- what is held of a line after one byte more: of a longer one than these rows are, only the beginning
abbrev pub held_with : List ℕ → ℕ → List ℕ
held_with begun byte = if byte == 10 then [] else (if nat_lt (length begun) 55 then begun ++ byte ∷ [] else begun)

-- what is held of the line that a text ends in, if it begins with this line
abbrev pub torn_after : List ℕ → List ℕ → List ℕ
torn_after begun [] = begun
torn_after begun (byte ∷ text) = torn_after (held_with begun byte) text

-- the line feed that is lacking behind a text that begins with this line
abbrev pub feed_after : List ℕ → List ℕ → List ℕ
feed_after begun text = if may_air (torn_after begun text) then 10 ∷ [] else []

-- a text, with the line feed that its last row lacks if it may have put a clip to air
abbrev pub closed : List ℕ → List ℕ
closed text = text ++ feed_after [] text

-- what is left of that, if the bytes that its reader has are known
abbrev pub closing_left : {R : Type 0} → (R → Option (List ℕ)) → Closing R → Option (List ℕ)
closing_left remaining c =
    option_map (λ text. if c.is_over then [] else text ++ feed_after c.torn.items text) (remaining c.reader)
