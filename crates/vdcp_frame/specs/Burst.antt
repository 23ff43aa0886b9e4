-- The reading of a burst as a computation; Reading.antt says what it is.
use Rattle.std.specs.Prelude.{ℕ, zero, suc, ◌+◌, ◌-◌, List, [], ◌∷◌, length, take, drop, nat_lt, if◌then◌else◌}
use Rattle.vdcp_frame.specs.Message.{Content}
use Rattle.vdcp_frame.specs.Reading.{End, clean, cut, fault, long_end, burst_limit}
use Rattle.vdcp_frame.specs.Head.{Head, part, wrong, found, head_of}

abbrev pub messages_at : Head → (ℕ → List Content) → List Content
messages_at (part needs) after = []
messages_at (wrong which size) after = []
messages_at (found m size) after = m ∷ after size

abbrev pub left_at : Head → List ℕ → (ℕ → List ℕ) → List ℕ
left_at (part needs) bytes after = bytes
left_at (wrong which size) bytes after = bytes
left_at (found m size) bytes after = after size

-- the messages at the front of some bytes, at most n of them
abbrev pub messages_within : ℕ → List ℕ → List Content
messages_within zero bytes = []
messages_within (suc n) bytes = messages_at (head_of bytes) (λ size. messages_within n (drop size bytes))

-- what is left after them
abbrev pub left_within : ℕ → List ℕ → List ℕ
left_within zero bytes = bytes
left_within (suc n) bytes = left_at (head_of bytes) bytes (λ size. left_within n (drop size bytes))

-- how a burst ends that has these bytes of an unfinished message
abbrev pub unfinished_end : List ℕ → End
unfinished_end [] = clean
unfinished_end (byte ∷ bytes) = cut (length (byte ∷ bytes))

-- how a burst ends that has this remainder, with this head, after the bytes of its messages
abbrev pub end_at : ℕ → List ℕ → Head → End
end_at before remainder (part needs) = unfinished_end remainder
end_at before remainder (wrong which size) = fault which (before + size)
end_at before remainder (found m size) = clean  -- which no remainder is

abbrev pub short_end : List ℕ → End
short_end bytes =
    let remainder : List ℕ = left_within (length bytes) bytes in
    end_at (length bytes - length remainder) remainder (head_of remainder)

-- the messages of a burst
abbrev pub messages_of : List ℕ → List Content
messages_of burst = messages_within (length (take burst_limit burst)) (take burst_limit burst)

-- the end of a burst
abbrev pub end_of : List ℕ → End
end_of burst =
    let short : End = short_end (take burst_limit burst) in
    if nat_lt burst_limit (length burst) then long_end burst_limit short else short
