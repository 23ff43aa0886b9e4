-- The reading of a word as a computation; Commands.antt and Replies.antt say what it is.
use Rattle.std.specs.Prelude.{ℕ, not, nat_eq, nat_lt, if◌then◌else◌, List, [], ◌∷◌, length, take, drop, Option, Some, None, Result, Ok, Err}
use Rattle.vdcp_value.specs.Bytes.{are_bytes}
use Rattle.vdcp_value.specs.Ids.{id_of}
use Rattle.vdcp_value.specs.declared.clip_id.ClipId.{ClipId}
use Rattle.vdcp_frame.specs.Message.{Content, ack, nak, framed}
use Rattle.vdcp_words.specs.declared.command.Command.{Command}
use Rattle.vdcp_words.specs.declared.command.Command.TheVariants.{Open, Close, Select, PlayCue, CueData, Play, Stop, Status, ActiveId, IdRequest, IdSize}
use Rattle.vdcp_words.specs.declared.reply.Reply.{Reply}
use Rattle.vdcp_words.specs.declared.reply.Reply.TheVariants.{Ack, Nak, Opened, State, Active, Present, Size}
use Rattle.vdcp_words.specs.declared.fault.WordFault.{WordFault}
use Rattle.vdcp_words.specs.declared.fault.WordFault.TheVariants.{NotCommand, Unknown, Length}
use Rattle.vdcp_words.specs.Replies.{has_bit_0}

-- ---- data

-- the ID of eight bytes
abbrev pub id_in : List ℕ → Option ClipId
id_in bytes = if are_bytes 8 bytes then Some (id_of bytes) else None

abbrev pub no_data : Command → List ℕ → Result Command WordFault
no_data command [] = Ok command
no_data command (first ∷ more) = Err Length

abbrev pub one_byte : (ℕ → Command) → List ℕ → Result Command WordFault
one_byte command [] = Err Length
one_byte command (byte ∷ []) = Ok (command byte)
one_byte command (byte ∷ second ∷ more) = Err Length

abbrev pub two_bytes : (ℕ → ℕ → Command) → List ℕ → Result Command WordFault
two_bytes command [] = Err Length
two_bytes command (first ∷ []) = Err Length
two_bytes command (first ∷ second ∷ []) = Ok (command first second)
two_bytes command (first ∷ second ∷ third ∷ more) = Err Length

abbrev pub with_id : {W : Type 0} → (ClipId → W) → Option ClipId → Result W WordFault
with_id word None = Err Length
with_id word (Some id) = Ok (word id)

-- ---- commands

abbrev pub cue_data_of : List ℕ → Result Command WordFault
cue_data_of rest =
    if nat_eq (length rest) 16
    then with_id (λ id. CueData id (take 4 (drop 8 rest)) (drop 12 rest)) (id_in (take 8 rest))
    else Err Length

-- type 1
abbrev pub immediate_of : ℕ → List ℕ → Result Command WordFault
immediate_of code rest =
    if nat_eq code 0x00 then no_data Stop rest else
    if nat_eq code 0x01 then no_data Play rest else
    Err Unknown

-- type 2
abbrev pub preset_of : ℕ → List ℕ → Result Command WordFault
preset_of code rest =
    if nat_eq code 0x21 then one_byte Close rest else
    if nat_eq code 0x22 then one_byte Select rest else
    if nat_eq code 0x24 then with_id PlayCue (id_in rest) else
    if nat_eq code 0x25 then cue_data_of rest else
    Err Unknown

-- type 3
abbrev pub sense_request_of : ℕ → List ℕ → Result Command WordFault
sense_request_of code rest =
    if nat_eq code 0x01 then two_bytes Open rest else
    if nat_eq code 0x05 then one_byte Status rest else
    if nat_eq code 0x07 then no_data ActiveId rest else
    if nat_eq code 0x14 then with_id IdSize (id_in rest) else
    if nat_eq code 0x16 then with_id IdRequest (id_in rest) else
    Err Unknown

-- what a message is read as, a command or a fault
abbrev pub command_of : Content → Result Command WordFault
command_of ack = Err NotCommand
command_of (nak byte) = Err NotCommand
command_of (framed kind unit code rest) =
    if nat_eq kind 1 then immediate_of code rest else
    if nat_eq kind 2 then preset_of code rest else
    if nat_eq kind 3 then sense_request_of code rest else
    Err Unknown

-- ---- replies

abbrev pub opened_of : List ℕ → Result Reply WordFault
opened_of [] = Err Length
opened_of (first ∷ more) = Ok (Opened (not (nat_eq first 0x00)))

abbrev pub state_byte_of : ℕ → List ℕ → Result Reply WordFault
state_byte_of bitmap [] = Err Length
state_byte_of bitmap (byte ∷ more) = Ok (State bitmap (Some byte))

abbrev pub state_of : List ℕ → Result Reply WordFault
state_of [] = Err Length
state_of (bitmap ∷ more) = if has_bit_0 bitmap then state_byte_of bitmap more else Ok (State bitmap None)

abbrev pub active_of : List ℕ → Result Reply WordFault
active_of [] = Err Length
active_of (first ∷ more) =
    if nat_eq first 0x00 then Ok (Active None) else with_id (λ id. Active (Some id)) (id_in (take 8 more))

abbrev pub size_of : List ℕ → Result Reply WordFault
size_of rest = if nat_lt (length rest) 4 then Err Length else Ok (Size (take 4 rest))

abbrev pub present_of : List ℕ → Result Reply WordFault
present_of [] = Err Length
present_of (first ∷ more) = Ok (Present (has_bit_0 first))

abbrev pub sense_reply_of : ℕ → List ℕ → Result Reply WordFault
sense_reply_of code rest =
    if nat_eq code 0x81 then opened_of rest else
    if nat_eq code 0x85 then state_of rest else
    if nat_eq code 0x87 then active_of rest else
    if nat_eq code 0x94 then size_of rest else
    if nat_eq code 0x96 then present_of rest else
    Err Unknown

-- what a message is read as, a reply or a fault
abbrev pub reply_of : Content → Result Reply WordFault
reply_of ack = Ok Ack
reply_of (nak byte) = Ok (Nak byte)
reply_of (framed kind unit code rest) = if nat_eq kind 3 then sense_reply_of code rest else Err Unknown
