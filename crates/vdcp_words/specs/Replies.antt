-- The table of replies: the message of each, what it is read from, and what a message is read as.
use Rattle.std.specs.Prelude.{ℕ, ◌≡◌, ◌≢◌, ◌<◌, ◌≤◌, Bool, true, false, not, nat_eq, bit_and, List, [], ◌∷◌, length, take, slice_index, Some, None, is_some, Result, Ok, Err, if◌then◌else◌}
use Rattle.vdcp_value.specs.Bytes.{AreBytes}
use Rattle.vdcp_value.specs.Ids.{id_bytes}
use Rattle.vdcp_frame.specs.Message.{Content, ack, nak, framed}
use Rattle.vdcp_words.specs.declared.reply.Reply.{Reply}
use Rattle.vdcp_words.specs.declared.reply.Reply.TheVariants.{Ack, Nak, Opened, State, Active, Present, Size}
use Rattle.vdcp_words.specs.declared.fault.WordFault.{WordFault}
use Rattle.vdcp_words.specs.declared.fault.WordFault.TheVariants.{NotCommand, Unknown, Length}
use Rattle.vdcp_words.specs.Messages.{rest_of, IsFramed, SameCode}

-- the byte that is written for yes or no
abbrev pub flag : Bool → ℕ
flag true = 0x01
flag false = 0x00

-- the message of each reply from a unit, as it is written
abbrev pub reply_message : ℕ → Reply → Content
reply_message unit Ack = ack
reply_message unit (Nak byte) = nak byte
reply_message unit (Opened granted) = framed 3 unit 0x81 (flag granted ∷ [])
reply_message unit (State bitmap None) = framed 3 unit 0x85 (bitmap ∷ [])
reply_message unit (State bitmap (Some state)) = framed 3 unit 0x85 (bitmap ∷ state ∷ [])
reply_message unit (Active None) = framed 3 unit 0x87 (0x00 ∷ [])
reply_message unit (Active (Some id)) = framed 3 unit 0x87 (0x01 ∷ id_bytes id)
reply_message unit (Size time) = framed 3 unit 0x94 time
reply_message unit (Present there) = framed 3 unit 0x96 (flag there ∷ [])

-- whether bit 0 of a byte is set: in a bitmap it stands for the state byte
abbrev pub has_bit_0 : ℕ → Bool
has_bit_0 byte = nat_eq (bit_and byte 1) 1

-- the data that each reply is read from; what follows the named bytes is ignored
abbrev pub IsReadFrom : Reply → List ℕ → Type 0
IsReadFrom (Opened granted) (first ∷ more) = granted ≡ not (nat_eq first 0x00)
IsReadFrom (State bits None) (bitmap ∷ more) = (bits ≡ bitmap) × (has_bit_0 bitmap ≡ false)
IsReadFrom (State bits (Some state)) (bitmap ∷ byte ∷ more) =
    (bits ≡ bitmap) × (has_bit_0 bitmap ≡ true) × (state ≡ byte)
IsReadFrom (Active None) (first ∷ more) = first ≡ 0x00
IsReadFrom (Active (Some id)) (first ∷ more) = (first ≢ 0x00) × (id_bytes id ≡ take 8 more)
IsReadFrom (Size time) bytes = (4 ≤ length bytes) × (time ≡ take 4 bytes)
IsReadFrom (Present there) (first ∷ more) = there ≡ has_bit_0 first
IsReadFrom _ _ = ⊥

-- the message is read as this reply, from whatever unit
abbrev pub IsReply : Content → Reply → Type 0
IsReply ack reply = reply ≡ Ack
IsReply (nak byte) reply = reply ≡ Nak byte
IsReply (framed kind unit code rest) reply =
    SameCode (framed kind unit code rest) (reply_message 0 reply) × IsReadFrom reply rest

-- the reply's numbers are bytes, its time code four of them, and it has a state byte exactly if
-- bit 0 of the bitmap is set
abbrev pub IsWritableReply : Reply → Type 0
IsWritableReply Ack = Unit {0}
IsWritableReply (Nak byte) = byte < 256
IsWritableReply (Opened granted) = Unit {0}
IsWritableReply (State bitmap None) = (bitmap < 256) × (has_bit_0 bitmap ≡ false)
IsWritableReply (State bitmap (Some state)) = (bitmap < 256) × (has_bit_0 bitmap ≡ true) × (state < 256)
IsWritableReply (Active playing) = Unit {0}
IsWritableReply (Size time) = AreBytes 4 time
IsWritableReply (Present there) = Unit {0}

-- a state has a state byte if bit 0 of its bitmap asks for one, and none if not
abbrev pub MatchesBitmap : Reply → Type 0
MatchesBitmap (State bitmap state) = is_some state ≡ has_bit_0 bitmap
MatchesBitmap _ = Unit {0}

-- no reply has the message's type and code
pub record IsUnknownReply (message : Content) : Type 0 where
  pub is_framed : IsFramed message
  pub no_code : (reply : Reply) → SameCode message (reply_message 0 reply) → ⊥

-- how many bytes of its data each reply names: those that it is read from
abbrev pub bytes_named : Reply → List ℕ → ℕ
bytes_named Ack bytes = 0
bytes_named (Nak byte) bytes = 0
bytes_named (Opened granted) bytes = 1
bytes_named (State bitmap state) bytes = if has_bit_0 (slice_index bytes 0) then 2 else 1
bytes_named (Active playing) bytes = if nat_eq (slice_index bytes 0) 0x00 then 1 else 9
bytes_named (Size time) bytes = 4
bytes_named (Present there) bytes = 1

-- a reply has the message's type and code, but the data has fewer bytes than the reply names
pub record IsShortReply (message : Content) : Type 0 where
  pub reply : Reply
  pub code : SameCode message (reply_message 0 reply)
  pub short : length (rest_of message) < bytes_named reply (rest_of message)

-- what a message is read as: a reply, or why it is none
abbrev pub ReadsReply : Content → Result Reply WordFault → Type 0
ReadsReply message (Ok reply) = IsReply message reply
ReadsReply message (Err NotCommand) = ⊥
ReadsReply message (Err Unknown) = IsUnknownReply message
ReadsReply message (Err Length) = IsShortReply message
