-- Words on the line: their messages fit, and their bytes read as them first.
use Rattle.std.proofs.Common.{◌≡◌, ℕ, ◌+◌, ◌*◌, ◌<◌, ◌≤◌, Bool, true, false, List, [], ◌∷◌, ◌++◌, length, refl, sym, ap, subst, arith, length-append, Ok}
use Rattle.std.specs.Prelude.{All, Some, None, sum}
use Rattle.std.proofs.lemmas.List.{append-nil}
use Rattle.std.proofs.lemmas.List.Elements.{All-nil, All-cons, All-append}
use Rattle.vdcp_value.specs.Ids.{id_bytes}
use Rattle.vdcp_frame.specs.Message.{Content, ack, nak, framed, FitsFrame, Fits, Spells, spelling, check_byte}
use Rattle.vdcp_frame.specs.Reading.{Reads, SpellsAll, End, clean}
use Rattle.vdcp_words.specs.declared.command.Command.{Command}
use Rattle.vdcp_words.specs.declared.command.Command.TheVariants as commands
use Rattle.vdcp_words.specs.declared.reply.Reply.{Reply}
use Rattle.vdcp_words.specs.declared.reply.Reply.TheVariants as replies
use Rattle.vdcp_words.proofs.Values.{bytes_below, id_below, length_of_bytes, length_of_id}
use Rattle.vdcp_words.specs.LawsBelow.{FrameLaws, ValueLaws}
use Rattle.vdcp_words.specs.Commands.{command_message, IsWritableCommand}
use Rattle.vdcp_words.specs.Messages.{rest_of}
use Rattle.vdcp_words.specs.Computed.{command_of, reply_of}
use Rattle.vdcp_words.proofs.CommandLaws.{command_written, one_command_reading}
use Rattle.vdcp_words.proofs.CommandReading.{command_computed}
use Rattle.vdcp_words.proofs.ReplyLaws.{reply_written, one_reply_reading}
use Rattle.vdcp_words.proofs.ReplyReading.{reply_computed}
use Rattle.vdcp_words.specs.Replies.{flag, reply_message, IsWritableReply}

none : All (λ b. b < 256) []
none = All-nil (λ b. b < 256)

one_more : (byte : ℕ) (bytes : List ℕ) → byte < 256 → All (λ b. b < 256) bytes →
    All (λ b. b < 256) (byte ∷ bytes)
one_more byte bytes fits all = All-cons (λ b. b < 256) byte bytes fits all

one : (byte : ℕ) → byte < 256 → All (λ b. b < 256) (byte ∷ [])
one byte fits = one_more byte [] fits none

frame : (kind unit code : ℕ) (rest : List ℕ) → kind < 16 → unit < 16 → code < 256 →
    All (λ b. b < 256) rest → length rest ≤ 253 → FitsFrame kind unit code rest
frame kind unit code rest kind_fits unit_fits code_fits rest_fits rest_size =
    record {
      kind_fits = kind_fits;
      unit_fits = unit_fits;
      code_fits = code_fits;
      rest_fits = rest_fits;
      rest_size =
          rest_size;
    }

-- a command's message fits
pub command_fits : ValueLaws → (unit : ℕ) (command : Command) → unit < 16 → IsWritableCommand command →
    Fits (command_message unit command)
command_fits v unit commands.Stop u w = frame 1 unit 0x00 [] (omega arith) u (omega arith) none (omega arith)
command_fits v unit commands.Play u w = frame 1 unit 0x01 [] (omega arith) u (omega arith) none (omega arith)
command_fits v unit (commands.Close port) u w =
    frame 2 unit 0x21 (port ∷ []) (omega arith) u (omega arith) (one port w) (omega arith)
command_fits v unit (commands.Select port) u w =
    frame 2 unit 0x22 (port ∷ []) (omega arith) u (omega arith) (one port w) (omega arith)
command_fits v unit (commands.PlayCue id) u w =
    frame 2 unit 0x24 (id_bytes id) (omega arith) u (omega arith) (id_below v id) (omega (arith, length_of_id v id))
command_fits v unit (commands.CueData id start duration) u w =
    frame 2 unit 0x25 (id_bytes id ++ start ++ duration) (omega arith) u (omega arith)
    (All-append (λ b. b < 256) (id_bytes id ++ start) duration
    (All-append (λ b. b < 256) (id_bytes id) start (id_below v id) (bytes_below v 4 start w.0))
    (bytes_below v 4 duration w.1))
    (omega (
      arith,
      length-append (id_bytes id ++ start) duration,
      length-append (id_bytes id) start,
      length_of_id v id,
      length_of_bytes v 4 start w.0,
      length_of_bytes v 4 duration w.1,
    ))
command_fits v unit (commands.Open port lock) u w =
    frame 3 unit 0x01 (port ∷ lock ∷ []) (omega arith) u (omega arith) (one_more port (lock ∷ []) w.0 (one lock w.1))
    (omega arith)
command_fits v unit (commands.Status bitmap) u w =
    frame 3 unit 0x05 (bitmap ∷ []) (omega arith) u (omega arith) (one bitmap w) (omega arith)
command_fits v unit commands.ActiveId u w = frame 3 unit 0x07 [] (omega arith) u (omega arith) none (omega arith)
command_fits v unit (commands.IdSize id) u w =
    frame 3 unit 0x14 (id_bytes id) (omega arith) u (omega arith) (id_below v id) (omega (arith, length_of_id v id))
command_fits v unit (commands.IdRequest id) u w =
    frame 3 unit 0x16 (id_bytes id) (omega arith) u (omega arith) (id_below v id) (omega (arith, length_of_id v id))

flag_fits : (b : Bool) → flag b < 256
flag_fits true = omega arith
flag_fits false = omega arith

-- so does a reply's
pub reply_fits : ValueLaws → (unit : ℕ) (reply : Reply) → unit < 16 → IsWritableReply reply →
    Fits (reply_message unit reply)
reply_fits v unit replies.Ack u w = tt
reply_fits v unit (replies.Nak byte) u w = w
reply_fits v unit (replies.Opened granted) u w =
    frame 3 unit 0x81 (flag granted ∷ []) (omega arith) u (omega arith) (one (flag granted) (flag_fits granted))
    (omega arith)
reply_fits v unit (replies.State bitmap None) u w =
    frame 3 unit 0x85 (bitmap ∷ []) (omega arith) u (omega arith) (one bitmap w.0) (omega arith)
reply_fits v unit (replies.State bitmap (Some state)) u w =
    frame 3 unit 0x85 (bitmap ∷ state ∷ []) (omega arith) u (omega arith)
    (one_more bitmap (state ∷ []) w.0 (one state w.2)) (omega arith)
reply_fits v unit (replies.Active None) u w =
    frame 3 unit 0x87 (0 ∷ []) (omega arith) u (omega arith) (one 0 (omega arith)) (omega arith)
reply_fits v unit (replies.Active (Some id)) u w =
    frame 3 unit 0x87 (1 ∷ id_bytes id) (omega arith) u (omega arith)
    (one_more 1 (id_bytes id) (omega arith) (id_below v id))
    (omega (arith, length_of_id v id))
reply_fits v unit (replies.Size time) u w =
    frame 3 unit 0x94 time (omega arith) u (omega arith) (bytes_below v 4 time w)
    (omega (arith, length_of_bytes v 4 time w))
reply_fits v unit (replies.Present there) u w =
    frame 3 unit 0x96 (flag there ∷ []) (omega arith) u (omega arith) (one (flag there) (flag_fits there)) (omega arith)

-- what has at most 16 bytes of data is spelt in at most 21
pub short_spelling : (m : Content) → length (rest_of m) ≤ 16 → length (spelling m) ≤ 21
short_spelling ack short = omega arith
short_spelling (nak byte) short = omega arith
short_spelling (framed kind unit code rest) short =
    omega (arith, short, length-append rest (check_byte (16 * kind + unit + code + sum rest) ∷ []))

-- ---- what was written is computed

-- the data of a message that fits is of bytes
pub rest_fits : (m : Content) → Fits m → All (λ b. b < 256) (rest_of m)
rest_fits ack fits = none
rest_fits (nak byte) fits = none
rest_fits (framed kind unit code rest) fits = fits.rest_fits

pub command_of-written : ValueLaws → (unit : ℕ) (command : Command) → IsWritableCommand command →
    command_of (command_message unit command) ≡ Ok command
command_of-written v unit command writable =
    let fits : All (λ b. b < 256) (rest_of (command_message unit command)) =
    rest_fits (command_message 0 command) (command_fits v 0 command (omega arith) writable) in
    one_command_reading v (command_message unit command) (command_of (command_message unit command)) (Ok command)
    (command_computed v (command_message unit command) fits) (command_written unit command writable)

rest_of-reply : (unit : ℕ) (reply : Reply) →
    rest_of (reply_message 0 reply) ≡ rest_of (reply_message unit reply)
rest_of-reply unit (replies.State bitmap None) = refl
rest_of-reply unit (replies.Active None) = refl
rest_of-reply unit other = refl

pub reply_of-written : ValueLaws → (unit : ℕ) (reply : Reply) → IsWritableReply reply →
    reply_of (reply_message unit reply) ≡ Ok reply
reply_of-written v unit reply writable =
    let fits = subst (All (λ b. b < 256)) (rest_of-reply unit reply)
    (rest_fits (reply_message 0 reply) (reply_fits v 0 reply (omega arith) writable)) in
    one_reply_reading v (reply_message unit reply) (reply_of (reply_message unit reply)) (Ok reply)
    (reply_computed v (reply_message unit reply) fits) (reply_written v unit reply writable)

-- ---- what is read first

spelling_size : (m : Content) (bytes : List ℕ) → Spells m bytes → length bytes ≤ 258
spelling_size ack bytes s = omega (arith, ap length s)
spelling_size (nak byte) bytes s = omega (arith, ap length s.1)
spelling_size (framed kind unit code rest) bytes s =
    omega (arith, ap length s.spelt, length-append rest (s.check ∷ []), s.fits.rest_size)

one_spelt : (m : Content) (bytes : List ℕ) → Spells m bytes → SpellsAll (m ∷ []) bytes
one_spelt m bytes spelt = (bytes, [], spelt, refl, sym (append-nil bytes))

-- a message that fits is read first, whatever follows its bytes
pub first_read : FrameLaws → (m : Content) (more : List ℕ) (ms : List Content) (end : End) → Fits m →
    Reads (spelling m ++ more) ms end → (others : List Content) × (ms ≡ m ∷ others)
first_read f m more ms end fits reads =
    let spelt = f.spelt m fits in
    f.first (m ∷ []) ms (spelling m) more end (one_spelt m (spelling m) spelt)
    (omega (arith, spelling_size m (spelling m) spelt)) reads

-- and alone, if nothing does
read_only : FrameLaws → (m : Content) (ms : List Content) (end : End) → Fits m → Reads (spelling m) ms end →
    (ms ≡ m ∷ []) × (end ≡ clean)
read_only f m ms end fits reads =
    let spelt = f.spelt m fits in
    f.only (spelling m) ms (m ∷ []) end clean reads
    (f.alone (m ∷ []) (spelling m) (one_spelt m (spelling m) spelt) (omega (arith, spelling_size m (spelling m) spelt)))

-- no bytes are no message
pub nothing_read : FrameLaws → (ms : List Content) (end : End) → Reads [] ms end → (ms ≡ []) × (end ≡ clean)
nothing_read f ms end reads = f.only [] ms [] end clean reads (f.alone [] [] refl (omega arith))

pub nak_read : FrameLaws → (byte : ℕ) → byte < 256 → (ms : List Content) (end : End) → Reads (5 ∷ byte ∷ []) ms end →
    (ms ≡ nak byte ∷ []) × (end ≡ clean)
nak_read f byte fits ms end reads = read_only f (nak byte) ms end fits reads
