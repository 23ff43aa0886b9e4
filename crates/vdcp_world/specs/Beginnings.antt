-- Messages that are a beginning of others.
use Rattle.std.specs.Cmp.Lexicographic.{pointwise}
use Rattle.std.specs.Prelude.{Bool, true, false, ◌&&◌, nat_eq, List, [], ◌∷◌}
use Rattle.vdcp_frame.specs.Message.{Content, ack, nak, framed}

abbrev pub is_same_message : Content → Content → Bool
is_same_message ack ack = true
is_same_message (nak a) (nak b) = nat_eq a b
is_same_message (framed kind unit code rest) (framed other_kind other_unit other_code other_rest) =
    nat_eq kind other_kind && nat_eq unit other_unit && nat_eq code other_code && pointwise nat_eq rest other_rest
is_same_message _ _ = false

-- the messages are the first ones of the others
abbrev pub is_beginning : List Content → List Content → Bool
is_beginning [] others = true
is_beginning (m ∷ ms) [] = false
is_beginning (m ∷ ms) (n ∷ others) = is_same_message m n && is_beginning ms others
