-- Example words, a row each, computed from the tables.
use Rattle.std.proofs.Common.{◌≡◌, ℕ, true, false, List, [], ◌∷◌, ◌++◌, map, refl, Ok, Err, Some, None}
use Rattle.std.specs.Prelude.{codes, Result}
use Rattle.vdcp_value.specs.Ids.{id_of}
use Rattle.vdcp_value.specs.declared.clip_id.ClipId.{ClipId}
use Rattle.vdcp_frame.specs.Message.{spelling}
use Rattle.vdcp_words.specs.declared.command.Command.{Command}
use Rattle.vdcp_words.specs.declared.command.Command.TheVariants.{Open, Close, Select, PlayCue, CueData, Play, Stop, Status, ActiveId, IdRequest, IdSize}
use Rattle.vdcp_words.specs.declared.reply.Reply.{Reply}
use Rattle.vdcp_words.specs.declared.reply.Reply.TheVariants.{Ack, Nak, Opened, State, Active, Present, Size}
use Rattle.vdcp_words.specs.declared.fault.WordFault.{WordFault}
use Rattle.vdcp_words.specs.declared.fault.WordFault.TheVariants.{Length}
use Rattle.vdcp_words.specs.Commands.{command_message}
use Rattle.vdcp_words.specs.Replies.{reply_message}
use Rattle.vdcp_words.specs.Computed.{command_of, reply_of, sense_reply_of}
use Rattle.vdcp_words.specs.Texts.{command_text, reply_text}

abbrev first : ClipId
first = id_of (codes "CLIP0001")

abbrev second : ClipId
second = id_of (codes "CLIP0002")

abbrev spaces : ClipId
spaces = id_of (codes "        ")

-- ---- commands

-- a command, its bytes to unit 0, and its text
abbrev commands : List (Command × List ℕ × List ℕ)
commands =
    (Stop, 0x02 ∷ 0x02 ∷ 0x10 ∷ 0x00 ∷ 0xF0 ∷ [], codes "stop") ∷
    (Play, 0x02 ∷ 0x02 ∷ 0x10 ∷ 0x01 ∷ 0xEF ∷ [], codes "play") ∷
    (Close 0x01, 0x02 ∷ 0x03 ∷ 0x20 ∷ 0x21 ∷ 0x01 ∷ 0xBE ∷ [], codes "close 01") ∷
    (Select 0x01, 0x02 ∷ 0x03 ∷ 0x20 ∷ 0x22 ∷ 0x01 ∷ 0xBD ∷ [], codes "select 01") ∷
    (PlayCue first, 0x02 ∷ 0x0A ∷ 0x20 ∷ 0x24 ∷ (codes "CLIP0001" ++ 0xD3 ∷ []), codes "cue CLIP0001") ∷
    (PlayCue second, 0x02 ∷ 0x0A ∷ 0x20 ∷ 0x24 ∷ (codes "CLIP0002" ++ 0xD2 ∷ []), codes "cue CLIP0002") ∷ (
      CueData first (0x00 ∷ 0x02 ∷ 0x00 ∷ 0x00 ∷ []) (0x00 ∷ 0x03 ∷ 0x00 ∷ 0x00 ∷ []),
      0x02 ∷ 0x12 ∷ 0x20 ∷ 0x25 ∷
          (codes "CLIP0001" ++ 0x00 ∷ 0x02 ∷ 0x00 ∷ 0x00 ∷ 0x00 ∷ 0x03 ∷ 0x00 ∷ 0x00 ∷ 0xCD ∷ []),
      codes "cue-data CLIP0001 00020000 00030000",
    ) ∷
    (Open 0x01 0x01, 0x02 ∷ 0x04 ∷ 0x30 ∷ 0x01 ∷ 0x01 ∷ 0x01 ∷ 0xCD ∷ [], codes "open 01 01") ∷
    (Status 0x01, 0x02 ∷ 0x03 ∷ 0x30 ∷ 0x05 ∷ 0x01 ∷ 0xCA ∷ [], codes "status 01") ∷
    (ActiveId, 0x02 ∷ 0x02 ∷ 0x30 ∷ 0x07 ∷ 0xC9 ∷ [], codes "active") ∷
    (IdRequest first, 0x02 ∷ 0x0A ∷ 0x30 ∷ 0x16 ∷ (codes "CLIP0001" ++ 0xD1 ∷ []), codes "exists CLIP0001") ∷
    (IdSize first, 0x02 ∷ 0x0A ∷ 0x30 ∷ 0x14 ∷ (codes "CLIP0001" ++ 0xD3 ∷ []), codes "size CLIP0001") ∷ []

commands_are_written : map (λ row. spelling (command_message 0 row.0)) commands ≡ map (λ row. row.1) commands
commands_are_written = refl

commands_are_read_back : map (λ row. command_of (command_message 0 row.0)) commands ≡ map (λ row. Ok row.0) commands
commands_are_read_back = refl

commands_are_shown : map (λ row. command_text row.0) commands ≡ map (λ row. row.2) commands
commands_are_shown = refl

id_of_spaces_is_shown_in_hex : command_text (PlayCue spaces) ≡ codes "cue 0x2020202020202020"
id_of_spaces_is_shown_in_hex = refl

-- ---- replies

-- a reply, its bytes from unit 0, and its text
abbrev replies : List (Reply × List ℕ × List ℕ)
replies =
    (Ack, 0x04 ∷ [], codes "ack") ∷
    (Nak 0x01, 0x05 ∷ 0x01 ∷ [], codes "nak 01") ∷
    (Opened true, 0x02 ∷ 0x03 ∷ 0x30 ∷ 0x81 ∷ 0x01 ∷ 0x4E ∷ [], codes "granted") ∷
    (Opened false, 0x02 ∷ 0x03 ∷ 0x30 ∷ 0x81 ∷ 0x00 ∷ 0x4F ∷ [], codes "denied") ∷
    (State 0x01 (Some 0x01), 0x02 ∷ 0x04 ∷ 0x30 ∷ 0x85 ∷ 0x01 ∷ 0x01 ∷ 0x49 ∷ [], codes "state 01") ∷
    (State 0x01 (Some 0x02), 0x02 ∷ 0x04 ∷ 0x30 ∷ 0x85 ∷ 0x01 ∷ 0x02 ∷ 0x48 ∷ [], codes "state 02") ∷
    (State 0x01 (Some 0x04), 0x02 ∷ 0x04 ∷ 0x30 ∷ 0x85 ∷ 0x01 ∷ 0x04 ∷ 0x46 ∷ [], codes "state 04") ∷
    (State 0x01 (Some 0x06), 0x02 ∷ 0x04 ∷ 0x30 ∷ 0x85 ∷ 0x01 ∷ 0x06 ∷ 0x44 ∷ [], codes "state 06") ∷
    (State 0x01 (Some 0x80), 0x02 ∷ 0x04 ∷ 0x30 ∷ 0x85 ∷ 0x01 ∷ 0x80 ∷ 0xCA ∷ [], codes "state 80") ∷
    (State 0x01 (Some 0x84), 0x02 ∷ 0x04 ∷ 0x30 ∷ 0x85 ∷ 0x01 ∷ 0x84 ∷ 0xC6 ∷ [], codes "state 84") ∷
    (State 0x01 (Some 0xFF), 0x02 ∷ 0x04 ∷ 0x30 ∷ 0x85 ∷ 0x01 ∷ 0xFF ∷ 0x4B ∷ [], codes "state ff") ∷
    (State 0x00 None, 0x02 ∷ 0x03 ∷ 0x30 ∷ 0x85 ∷ 0x00 ∷ 0x4B ∷ [], codes "state none") ∷
    (Active None, 0x02 ∷ 0x03 ∷ 0x30 ∷ 0x87 ∷ 0x00 ∷ 0x49 ∷ [], codes "active none") ∷
    (Active (Some first), 0x02 ∷ 0x0B ∷ 0x30 ∷ 0x87 ∷ 0x01 ∷ (codes "CLIP0001" ++ 0x5F ∷ []), codes "active CLIP0001") ∷
    (Present true, 0x02 ∷ 0x03 ∷ 0x30 ∷ 0x96 ∷ 0x01 ∷ 0x39 ∷ [], codes "present") ∷
    (Present false, 0x02 ∷ 0x03 ∷ 0x30 ∷ 0x96 ∷ 0x00 ∷ 0x3A ∷ [], codes "absent") ∷ (
      Size (0x00 ∷ 0x10 ∷ 0x00 ∷ 0x00 ∷ []),
      0x02 ∷ 0x06 ∷ 0x30 ∷ 0x94 ∷ 0x00 ∷ 0x10 ∷ 0x00 ∷ 0x00 ∷ 0x2C ∷ [],
      codes "size 00100000",
    ) ∷ []

replies_are_written : map (λ row. spelling (reply_message 0 row.0)) replies ≡ map (λ row. row.1) replies
replies_are_written = refl

replies_are_read_back : map (λ row. reply_of (reply_message 0 row.0)) replies ≡ map (λ row. Ok row.0) replies
replies_are_read_back = refl

replies_are_shown : map (λ row. reply_text row.0) replies ≡ map (λ row. row.2) replies
replies_are_shown = refl

-- a code of type 3, data other than what is written here, and what it is read as
abbrev heard : List (ℕ × List ℕ × Result Reply WordFault)
heard =
    -- granted by any byte but 00
    (0x81, 0xFF ∷ 0x00 ∷ [], Ok (Opened true)) ∷
    -- denied by the first byte, whatever follows
    (0x81, 0x00 ∷ 0x01 ∷ [], Ok (Opened false)) ∷
    -- a state after any bitmap with bit 0, and after none without it
    (0x85, 0xFF ∷ 0x04 ∷ 0x02 ∷ [], Ok (State 0xFF (Some 0x04))) ∷
    (0x85, 0x02 ∷ 0x84 ∷ [], Ok (State 0x02 None)) ∷
    -- a state byte that is missing
    (0x85, 0x01 ∷ [], Err Length) ∷
    -- nothing is active after 00, whatever follows; after any other byte the ID that follows is
    (0x87, 0x00 ∷ codes "CLIP0001", Ok (Active None)) ∷
    (0x87, 0x02 ∷ codes "CLIP0001", Ok (Active (Some first))) ∷
    -- an active ID that is cut short
    (0x87, 0x01 ∷ codes "CLIP000", Err Length) ∷
    -- a size with a byte more
    (0x94, 0x00 ∷ 0x10 ∷ 0x00 ∷ 0x00 ∷ 0x01 ∷ [], Ok (Size (0x00 ∷ 0x10 ∷ 0x00 ∷ 0x00 ∷ []))) ∷
    -- present by bit 0, and absent without it
    (0x96, 0x03 ∷ [], Ok (Present true)) ∷
    (0x96, 0xFE ∷ [], Ok (Present false)) ∷ []

data_of_replies_is_read : map (λ row. sense_reply_of row.0 row.1) heard ≡ map (λ row. row.2) heard
data_of_replies_is_read = refl
