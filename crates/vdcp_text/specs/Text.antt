-- Messages, ends and whole readings as text.
use Rattle.std.specs.Char.{encode_utf8, is_control}
use Rattle.std.specs.Prelude.{ℕ, Bool, true, false, cond, List, [], ◌∷◌, ◌++◌, codes, decimal}
use Rattle.std.specs.List.{flat_map}
use Rattle.std.specs.Str.{chars}
use Rattle.hex.specs.Hex.{encode_lower}
use Rattle.vdcp_auto.specs.declared.burst.Way.TheVariants.{Down, Up}
use Rattle.vdcp_auto.specs.declared.burst.Way.{Way}
use Rattle.vdcp_frame.specs.declared.message.Fault.TheVariants.{BadStart, BadCount, BadSum, Long}
use Rattle.vdcp_frame.specs.Message.{Content, ack, nak, framed}
use Rattle.vdcp_frame.specs.Reading.{End, clean, cut, fault}
use Rattle.vdcp_text.specs.Meaning.{meaning_text}

-- a byte as two lower-case hexadecimal digits
abbrev pub byte_text : ℕ → List ℕ
byte_text byte = encode_lower (byte ∷ [])

-- a character of a name as it is shown: a control character by its number, so that none reaches a terminal
abbrev pub shown_char : ℕ → List ℕ
shown_char c = cond (is_control c) (codes "\\x" ++ byte_text c) (encode_utf8 c)

-- a file's name as it is shown: as it was given, but for its control characters
abbrev pub shown_name : List ℕ → List ℕ
shown_name name = flat_map shown_char (chars name)

-- the way of a burst
abbrev pub way_text : Way → List ℕ
way_text Down = codes "down"
way_text Up = codes "up"

-- data as lower-case hexadecimal digits, or a dash if there is none
abbrev pub data_text : List ℕ → List ℕ
data_text [] = codes "-"
data_text (byte ∷ bytes) = encode_lower (byte ∷ bytes)

-- a message as it is shown
abbrev pub message_text : Content → List ℕ
message_text ack = codes "ack"
message_text (nak byte) = codes "nak " ++ byte_text byte
message_text (framed kind unit code rest) =
    codes "unit " ++ decimal unit ++ codes " type " ++ decimal kind
    ++ codes " code " ++ byte_text code ++ codes " data " ++ data_text rest

-- the end of a reading as it is shown
abbrev pub end_text : End → List ℕ
end_text clean = codes "clean"
end_text (cut count) = codes "cut " ++ decimal count
end_text (fault BadStart place) = codes "fault bad-start " ++ decimal place
end_text (fault (BadCount count) place) = codes "fault bad-count " ++ decimal place ++ codes " count " ++ decimal count
end_text (fault BadSum place) = codes "fault bad-sum " ++ decimal place
end_text (fault Long place) = codes "fault long " ++ decimal place

-- a line of text: it ends with a line feed
abbrev pub line : List ℕ → List ℕ
line text = text ++ 10 ∷ []

-- a message as it is shown with its meaning, or without
abbrev pub shown_text : Bool → Content → List ℕ
shown_text true m = message_text m ++ meaning_text m
shown_text false m = message_text m

-- the lines of messages, in order
abbrev pub messages_text : Bool → List Content → List ℕ
messages_text meanings ms = flat_map (λ m. line (shown_text meanings m)) ms

-- a reading as text: a line for each message, and then a line for the end
abbrev pub reading_text : Bool → List Content → End → List ℕ
reading_text meanings ms end = messages_text meanings ms ++ line (end_text end)
