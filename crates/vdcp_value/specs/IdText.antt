-- The two forms of an ID's text, when a text is refused, and the bytes that a text stands for.
use Rattle.std.specs.List.{flat_map, list_all}
use Rattle.std.specs.Prelude.{ℕ, ◌+◌, ◌*◌, ◌-◌, ◌/◌, ◌%◌, ◌<◌, ◌≤◌, ◌≡◌, ◌⊎◌, Bool, ◌&&◌, ◌||◌, not, nat_le, nat_lt, nat_eq, IsTrue, IsFalse, List, [], ◌∷◌, ◌++◌, length, take, drop, replicate, slice_index, if◌then◌else◌}
use Rattle.vdcp_value.specs.Bytes.{AreBytes}
use Rattle.vdcp_value.specs.declared.faults.IdFault.TheVariants.{Empty, TooLong, BadByte, EdgeSpace, BadHex, HasPlainForm}
use Rattle.vdcp_value.specs.declared.faults.IdFault.{IdFault}

-- 20h to 7Eh
abbrev pub is_plain_byte : ℕ → Bool
is_plain_byte byte = nat_le 32 byte && nat_le byte 126

-- a space at either end
abbrev pub has_edge_space : List ℕ → Bool
has_edge_space text = nat_eq (slice_index text 0) 32 || nat_eq (slice_index text (length text - 1)) 32

-- one to eight printable characters of ASCII, with no space at either end
abbrev pub is_plain : List ℕ → Bool
is_plain text =
    nat_le 1 (length text) && nat_le (length text) 8 && list_all is_plain_byte text && not (has_edge_space text)

-- padded right with spaces to eight bytes
abbrev pub padded : List ℕ → List ℕ
padded text = text ++ replicate (8 - length text) 32

-- the text is the plain form of these bytes
abbrev pub IsPlainForm : List ℕ → List ℕ → Type 0
IsPlainForm text bytes = IsTrue (is_plain text) × (padded text ≡ bytes)

-- these bytes have a plain form
abbrev pub HasPlain : List ℕ → Type 0
HasPlain bytes = (text : List ℕ) × IsPlainForm text bytes

-- 0 to 9, then a to f
abbrev pub hex_digit : ℕ → ℕ
hex_digit n = if nat_lt n 10 then 48 + n else 87 + n

abbrev pub hex_pair : ℕ → List ℕ
hex_pair byte = hex_digit (byte / 16) ∷ hex_digit (byte % 16) ∷ []

-- 0x and two lower-case digits for each byte
abbrev pub hex_form : List ℕ → List ℕ
hex_form bytes = 48 ∷ 120 ∷ flat_map hex_pair bytes

-- the text of an ID of these bytes: its plain form, or the other one if it has none
abbrev pub IsTextOf : List ℕ → List ℕ → Type 0
IsTextOf text bytes = IsPlainForm text bytes ⊎ (¬ (HasPlain bytes) × (text ≡ hex_form bytes))

abbrev pub is_hex_digit : ℕ → Bool
is_hex_digit byte = nat_le 48 byte && nat_le byte 57 || nat_le 97 byte && nat_le byte 102

-- eighteen bytes that begin 0x
abbrev pub is_hex_long : List ℕ → Bool
is_hex_long text = nat_eq (length text) 18 && nat_eq (slice_index text 0) 48 && nat_eq (slice_index text 1) 120

-- when a text is refused with this fault: places count from 1
abbrev pub IsIdFault : List ℕ → IdFault → Type 0
IsIdFault text Empty = text ≡ []
IsIdFault text TooLong = IsFalse (is_hex_long text) × (8 < length text)
IsIdFault text (BadByte place) =
    (length text ≤ 8) × (1 ≤ place) × (place ≤ length text) × IsTrue (list_all is_plain_byte (take (place - 1) text))
    × IsFalse (is_plain_byte (slice_index text (place - 1)))
IsIdFault text EdgeSpace =
    (1 ≤ length text) × (length text ≤ 8) × IsTrue (list_all is_plain_byte text) × IsTrue (has_edge_space text)
IsIdFault text BadHex = IsTrue (is_hex_long text) × IsFalse (list_all is_hex_digit (drop 2 text))
IsIdFault text HasPlainForm = (bytes : List ℕ) × AreBytes 8 bytes × (text ≡ hex_form bytes) × HasPlain bytes

-- a byte before what is kept of the rest, but no space before nothing
abbrev pub kept_before : ℕ → List ℕ → List ℕ
kept_before byte [] = if nat_eq byte 32 then [] else byte ∷ []
kept_before byte (next ∷ more) = byte ∷ next ∷ more

-- the bytes without the spaces at their end
abbrev pub without_end_spaces : List ℕ → List ℕ
without_end_spaces [] = []
without_end_spaces (byte ∷ more) = kept_before byte (without_end_spaces more)

-- the one text of these bytes
abbrev pub text_of_bytes : List ℕ → List ℕ
text_of_bytes bytes = if is_plain (without_end_spaces bytes) then without_end_spaces bytes else hex_form bytes

-- the number of a lower-case hexadecimal digit
abbrev pub digit_number : ℕ → ℕ
digit_number digit = if nat_lt digit 58 then digit - 48 else digit - 87

-- the bytes of hexadecimal digits, two a byte
abbrev pub bytes_of_digits : List ℕ → List ℕ
bytes_of_digits [] = []
bytes_of_digits (upper ∷ []) = []
bytes_of_digits (upper ∷ lower ∷ more) = (16 * digit_number upper + digit_number lower) ∷ bytes_of_digits more

-- the bytes that the text of an ID stands for
abbrev pub bytes_of_text : List ℕ → List ℕ
bytes_of_text text = if is_hex_long text then bytes_of_digits (drop 2 text) else padded text
